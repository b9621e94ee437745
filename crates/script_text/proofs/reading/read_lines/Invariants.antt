use Rattle.std.proofs.Common.{◌≡◌, ◌≤◌, ◌+◌, length}
use Rattle.script_text.specs.Lines.{lines}
use Rattle.script_text.specs.Reading as spec
use Rattle.script_text.proofs.reading.read_lines.Given as goal

-- no first line came so far
abbrev pub invariant-lines : goal.invariant-lines
invariant-lines l = record {
  read : spec.head_read l.number (lines l.rest) ≡ spec.script_of l.bytes;
  few : l.number + length l.rest ≤ 4194305;
}

abbrev pub decreases-lines : goal.decreases-lines
decreases-lines l = length l.rest
