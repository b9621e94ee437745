-- Stated: what the plans of a transaction's begin and end stand on, on every way through.
use Rattle.std.specs.Prelude.{◌≡◌, ℕ, Option, Some, None}
use Rattle.page_image.specs.Image.{Image}
use Rattle.commit_stamps.specs.Fields.{slot_of}
use Rattle.commit_stamps.specs.Stamping.{stamp_page}
use Rattle.question_tree.specs.Questions.{tells, asks, stops}
use Rattle.transaction_edits.specs.declared.numbering.Number.TheVariants as number
use Rattle.transaction_edits.specs.Wishes.{Handed, ReadsMeta, ReadsSlots, ReadsStamps, Runs, Begins, Commits, Frees}
use Rattle.transaction_edits.specs.Works.{Work, begin_work, commit_work, free_work, number_of}

-- the pages that were given, each the last of its kind
pub record Given : Type 0 where
  pub meta : Option Image
  pub slots : Option Image
  pub stamps : Option Image

abbrev pub nothing : Given
nothing = record { meta = None; slots = None; stamps = None }

abbrev pub with_meta : Given → Image → Given
with_meta given im = record { meta = Some im; slots = given.slots; stamps = given.stamps }

abbrev pub with_slots : Given → Image → Given
with_slots given im = record { meta = given.meta; slots = Some im; stamps = given.stamps }

abbrev pub with_stamps : Given → Image → Given
with_stamps given im = record { meta = given.meta; slots = given.slots; stamps = Some im }

-- Each plan is for this session, and stands on the pages that were given. A begin has a next number
-- that a transaction can have. The page of stamps is that of the session's transaction.
abbrev pub StandsOnGiven : ℕ → Given → Work → Type 0
StandsOnGiven s given (tells a) = Unit {0}
StandsOnGiven s given (asks ReadsMeta n) = (im : Image) → StandsOnGiven s (with_meta given im) (n (Handed im))
StandsOnGiven s given (asks ReadsSlots n) = (im : Image) → StandsOnGiven s (with_slots given im) (n (Handed im))
StandsOnGiven s given (asks (ReadsStamps page) n) =
    (slots : Image) × (given.slots ≡ Some slots) × (page ≡ stamp_page (slot_of slots s).trx)
    × ((im : Image) → StandsOnGiven s (with_stamps given im) (n (Handed im)))
StandsOnGiven s given (asks (Runs (Begins session meta slots)) n) =
    (session ≡ s) × (given.meta ≡ Some meta) × (given.slots ≡ Some slots)
    × (number_of meta ≡ number.Next)
StandsOnGiven s given (asks (Runs (Commits session meta slots stamps)) n) =
    (session ≡ s) × (given.meta ≡ Some meta) × (given.slots ≡ Some slots)
    × (given.stamps ≡ Some stamps)
StandsOnGiven s given (asks (Runs (Frees session slots)) n) =
    (session ≡ s) × (given.slots ≡ Some slots)
StandsOnGiven s given stops = Unit {0}

abbrev pub BeginStands : Type 0
BeginStands = (s : ℕ) → StandsOnGiven s nothing (begin_work s)

abbrev pub CommitStands : Type 0
CommitStands = (s : ℕ) → StandsOnGiven s nothing (commit_work s)

abbrev pub FreeStands : Type 0
FreeStands = (s : ℕ) → StandsOnGiven s nothing (free_work s)
