use Rattle.std.proofs.Common.{drop}
use Rattle.page_chunks.proofs.EntryLaws.{Left}
use Rattle.page_chunks.proofs.entries.replay_all.Given as goal

-- the groups that are left do to the page what all do to the first one
abbrev pub invariant-loop-group : goal.invariant-loop-group
invariant-loop-group l = Left l.groups l.initial.page (drop l.group-index l.groups) l.page
