use Rattle.std.proofs.Common.{◌≡◌, true, length}
use Rattle.range_reader.specs.Machine.{finding_of, is_kept}
use Rattle.range_reader.proofs.reader.RangeReader.settle_down.Given as goal

abbrev pub invariant-loop-self : goal.invariant-loop-self
invariant-loop-self l = record { same : finding_of l.self ≡ finding_of l.initial.self; kept : is_kept l.self.look ≡ true }

abbrev pub decreases-loop-self : goal.decreases-loop-self
decreases-loop-self l = length l.self.todo.items
