use Rattle.std.proofs.Common.{take}
use Rattle.std.specs.List.{AllByRecursion}
use Rattle.redo_record.specs.Effect.{page_of}
use Rattle.page_store.specs.Frames.{HasCopy, SameKept, SamePages}
use Rattle.page_store.proofs.frames.Frames.prepare_all.Given as goal

-- the pages of the records before this one have a working copy
abbrev pub invariant-loop-r : goal.invariant-loop-r
invariant-loop-r l = record {
  kept : SameKept l.initial.self l.self;
  pages : SamePages l.initial.self l.self;
  copies : AllByRecursion (λ r. HasCopy l.self (page_of r)) (take l.r-index l.records);
}
