-- For the proofs: what is left, and what is known, at each stage.
use Rattle.std.specs.Prelude.{◌≡◌, ℕ, true}
use Rattle.page_image.specs.Image.{Image}
use Rattle.page_image.specs.Meta.{IsMeta, IsSlots}
use Rattle.commit_stamps.specs.Fields.{slot_of}
use Rattle.commit_stamps.specs.Stamping.{IsStampPage, stamp_page}
use Rattle.question_tree.specs.Questions.{tells, asks, stops}
use Rattle.transaction_edits.specs.declared.numbering.Number.TheVariants as number
use Rattle.transaction_edits.specs.declared.stages.Stage.{Stage}
use Rattle.transaction_edits.specs.declared.stages.Stage.TheVariants as stage
use Rattle.transaction_edits.specs.Wishes.{ReadsStamps, Runs, Begins, page_in}
use Rattle.transaction_edits.specs.Works.{Work, begin_work, begin_slots, by_number, can_commit, commit_work, commit_slots, committing, free_work, freeing, number_of}

-- the page of the stamp of a session's transaction
abbrev pub stamp_wanted : ℕ → Image → Image → Work
stamp_wanted s meta slots =
    asks (ReadsStamps (stamp_page (slot_of slots s).trx)) (λ x. committing s meta slots (page_in x))

abbrev pub work_of : Stage → Work
work_of (stage.BeginMeta s) = begin_work s
work_of (stage.BeginSlots s meta) = begin_slots s meta
work_of (stage.Beginning s meta slots) = by_number number.Next s meta slots
work_of (stage.CommitMeta s) = commit_work s
work_of (stage.CommitSlots s meta) = commit_slots s meta
work_of (stage.CommitStamps s meta slots) = stamp_wanted s meta slots
work_of (stage.Committing s meta slots stamps) = committing s meta slots stamps
work_of (stage.FreeSlots s) = free_work s
work_of (stage.Freeing s slots) = freeing s slots
work_of (stage.Ended told) = tells told
work_of stage.Stopped = stops

abbrev pub Stands : Stage → Type 0
Stands (stage.BeginMeta s) = Unit {0}
Stands (stage.BeginSlots s meta) = IsMeta meta
Stands (stage.Beginning s meta slots) = IsMeta meta × IsSlots slots × (number_of meta ≡ number.Next)
Stands (stage.CommitMeta s) = Unit {0}
Stands (stage.CommitSlots s meta) = IsMeta meta
Stands (stage.CommitStamps s meta slots) = IsMeta meta × IsSlots slots × (can_commit s meta slots ≡ true)
Stands (stage.Committing s meta slots stamps) =
    IsMeta meta × IsSlots slots × (can_commit s meta slots ≡ true)
    × IsStampPage stamps (slot_of slots s).trx
Stands (stage.FreeSlots s) = Unit {0}
Stands (stage.Freeing s slots) = IsSlots slots
Stands (stage.Ended told) = Unit {0}
Stands stage.Stopped = Unit {0}
