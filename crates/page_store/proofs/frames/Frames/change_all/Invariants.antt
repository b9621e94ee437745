use Rattle.std.proofs.Common.{drop}
use Rattle.page_store.proofs.ChangeLaws.{Left}
use Rattle.page_store.proofs.frames.Frames.change_all.Given as goal

-- the records that are left do to each page what all of them do to the first one
abbrev pub invariant-loop-r : goal.invariant-loop-r
invariant-loop-r l = Left l.group.lsn l.r-items l.initial.self (drop l.r-index l.r-items) l.self
