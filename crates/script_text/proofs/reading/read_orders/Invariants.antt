use Rattle.std.proofs.Common.{◌≡◌, ◌≤◌, ◌+◌, length}
use Rattle.script_text.specs.Lines.{lines}
use Rattle.script_text.specs.Reading as spec
use Rattle.script_text.proofs.reading.read_orders.Given as goal

-- the lines that are left go on with the draft so far
abbrev pub invariant-lines : goal.invariant-lines
invariant-lines l = record {
  read : spec.orders_read l.shape l.draft l.number (lines l.rest) ≡ spec.orders_read l.shape spec.empty l.first (lines l.bytes);
  sessions : length l.draft.names ≤ 64;
  few : l.number + length l.rest ≤ 4194305;
}

abbrev pub decreases-lines : goal.decreases-lines
decreases-lines l = length l.rest
