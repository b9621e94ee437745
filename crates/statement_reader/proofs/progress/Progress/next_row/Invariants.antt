use Rattle.std.proofs.Common.{◌≡◌, ◌-◌, length}
use Rattle.statement_reader.specs.Decoding.{Decoder}
use Rattle.statement_reader.specs.Machine.{rows_left}
use Rattle.statement_reader.proofs.progress.Progress.next_row.Given as goal

abbrev pub invariant-loop-self : goal.invariant-loop-self
invariant-loop-self l = (d : Decoder) → rows_left d l.statement l.self ≡ rows_left d l.statement l.initial.self

abbrev pub decreases-loop-self : goal.decreases-loop-self
decreases-loop-self l = length l.self.lefts - l.self.next
