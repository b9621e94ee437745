use Rattle.std.proofs.Common.{take}
use Rattle.page_store.specs.Frames.{settled}
use Rattle.page_store.proofs.FrameLaws.{Ended}
use Rattle.page_store.proofs.frames.keep_all.Given as goal

-- the changes of the pages before this one are ended
abbrev pub invariant-loop-p : goal.invariant-loop-p
invariant-loop-p l = Ended settled (take l.p-index l.pages) l.initial.frames l.frames
