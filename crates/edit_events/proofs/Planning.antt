-- For the proofs: the plans of a transaction's begin and end stand on the pages that were given.
use Rattle.std.proofs.Common.{◌≡◌, ℕ, Bool, true, false, refl}
use Rattle.page_image.specs.Image.{Image}
use Rattle.commit_stamps.specs.Fields.{slot_of}
use Rattle.commit_stamps.specs.Stamping.{stamp_page}
use Rattle.question_tree.specs.Questions.{asks, stops}
use Rattle.transaction_edits.specs.declared.numbering.Number.{Number}
use Rattle.transaction_edits.specs.declared.numbering.Number.TheVariants as number
use Rattle.transaction_edits.specs.Wishes.{ReadsStamps, page_in}
use Rattle.transaction_edits.specs.Works.{by, by_number, can_commit, committing, number_of}
use Rattle.edit_events.specs.Planning.{BeginStands, CommitStands, FreeStands, StandsOnGiven, nothing, with_meta, with_slots}

begin_by : (s : ℕ) (meta slots : Image) (n : Number) → number_of meta ≡ n
    → StandsOnGiven s (with_slots (with_meta nothing meta) slots) (by_number n s meta slots)
begin_by s meta slots number.Next e = (refl, refl, refl, e)
begin_by s meta slots number.AllGiven e = tt
begin_by s meta slots number.Wrong e = tt

pub begin_stands : BeginStands
begin_stands s meta slots = begin_by s meta slots (number_of meta) refl

commit_by : (s : ℕ) (meta slots : Image) (b : Bool)
    → StandsOnGiven s (with_slots (with_meta nothing meta) slots)
    (by b (asks (ReadsStamps (stamp_page (slot_of slots s).trx)) (λ x. committing s meta slots (page_in x))) stops)
commit_by s meta slots true = (slots, refl, refl, λ stamps. (refl, refl, refl, refl))
commit_by s meta slots false = tt

pub commit_stands : CommitStands
commit_stands s meta slots = commit_by s meta slots (can_commit s meta slots)

pub free_stands : FreeStands
free_stands s slots = (refl, refl)
