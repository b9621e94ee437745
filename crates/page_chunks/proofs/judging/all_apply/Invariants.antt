use Rattle.std.proofs.Common.{ℕ, ◌+◌, ◌<◌}
use Rattle.redo_record.specs.Effect.{RecordsApply}
use Rattle.page_chunks.specs.Entries.{image_of, entry_at}
use Rattle.page_chunks.proofs.judging.all_apply.Given as goal

-- the records apply to the pages that were looked at
abbrev pub invariant-loop-place : goal.invariant-loop-place
invariant-loop-place l = (i : ℕ) → i < l.place → RecordsApply l.g.lsn l.g.records (image_of (l.first + i) (entry_at l.entries i))
