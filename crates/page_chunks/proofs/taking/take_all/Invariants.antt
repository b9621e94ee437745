use Rattle.std.proofs.Common.{◌≡◌, take}
use Rattle.page_chunks.specs.Entries.{taken_all}
use Rattle.page_chunks.proofs.taking.take_all.Given as goal

-- the records before this place are taken
abbrev pub invariant-loop-i : goal.invariant-loop-i
invariant-loop-i l = l.entries ≡ taken_all l.first l.g.lsn (take l.i l.records) l.initial.entries
