-- Stated: what a begin, a commit and the freeing of a slot ask for, one thing after the other.
use Rattle.std.specs.Prelude.{◌≡◌, ◌+◌, ◌^◌, ◌&&◌, ℕ, Bool, true, false, nat_eq, nat_le, nat_lt}
use Rattle.rm_base.specs.declared.limits.TheConstants.{MAX_PAGE_ID, MAX_TRX_ID}
use Rattle.page_image.specs.Image.{Image}
use Rattle.page_image.specs.Meta.{counters_of}
use Rattle.commit_stamps.specs.Fields.{slot_of}
use Rattle.commit_stamps.specs.Stamping.{stamp_page}
use Rattle.question_tree.specs.Questions.{Ask, tells, asks, stops}
use Rattle.transaction_edits.specs.declared.numbering.Number.{Number}
use Rattle.transaction_edits.specs.declared.numbering.Number.TheVariants as number
use Rattle.transaction_edits.specs.declared.wishes.Told.{Told}
use Rattle.transaction_edits.specs.declared.wishes.Told.TheVariants as told
use Rattle.transaction_edits.specs.Wishes.{Wish, Input, ReadsMeta, ReadsSlots, ReadsStamps, Runs, Begins, Commits, Frees, page_in}

abbrev pub Work : Type 0
Work = Ask Wish Input Told

-- the first where the test holds, else the second
abbrev pub by : {A : Type 0} → Bool → A → A → A
by true a b = a
by false a b = b

-- ---- a transaction begins

-- the next number is one that a transaction can have; or each is given; or it is none that can be
abbrev pub number_of : Image → Number
number_of meta =
    by (nat_lt 0 (counters_of meta).next && nat_le (counters_of meta).next MAX_TRX_ID) number.Next
    (by (nat_eq (counters_of meta).next (MAX_TRX_ID + 1)) number.AllGiven number.Wrong)

abbrev pub by_number : Number → ℕ → Image → Image → Work
by_number number.Next s meta slots =
    asks (Runs (Begins s meta slots)) (λ y. tells (told.Begun (counters_of meta).next))
by_number number.AllGiven s meta slots = tells told.TrxFull
by_number number.Wrong s meta slots = stops

abbrev pub numbering : ℕ → Image → Image → Work
numbering s meta slots = by_number (number_of meta) s meta slots

abbrev pub begin_slots : ℕ → Image → Work
begin_slots s meta = asks ReadsSlots (λ x. numbering s meta (page_in x))

abbrev pub begin_work : ℕ → Work
begin_work s = asks ReadsMeta (λ x. begin_slots s (page_in x))

-- ---- it commits

-- the session has a transaction, whose stamp has a page, and there is a stamp left
abbrev pub can_commit : ℕ → Image → Image → Bool
can_commit s meta slots =
    nat_lt 0 (slot_of slots s).trx && nat_le (stamp_page (slot_of slots s).trx) MAX_PAGE_ID
    && nat_lt ((counters_of meta).last + 1) (2 ^ 64)

abbrev pub committing : ℕ → Image → Image → Image → Work
committing s meta slots stamps =
    asks (Runs (Commits s meta slots stamps)) (λ y. tells (told.Committed ((counters_of meta).last + 1)))

abbrev pub commit_stamps : ℕ → Image → Image → Work
commit_stamps s meta slots =
    by (can_commit s meta slots)
    (asks (ReadsStamps (stamp_page (slot_of slots s).trx)) (λ x. committing s meta slots (page_in x))) stops

abbrev pub commit_slots : ℕ → Image → Work
commit_slots s meta = asks ReadsSlots (λ x. commit_stamps s meta (page_in x))

abbrev pub commit_work : ℕ → Work
commit_work s = asks ReadsMeta (λ x. commit_slots s (page_in x))

-- ---- its slot becomes free

abbrev pub freeing : ℕ → Image → Work
freeing s slots = asks (Runs (Frees s slots)) (λ y. tells told.Freed)

abbrev pub free_work : ℕ → Work
free_work s = asks ReadsSlots (λ x. freeing s (page_in x))
