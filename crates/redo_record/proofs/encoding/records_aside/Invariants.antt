use Rattle.std.proofs.Common.{◌≡◌, take}
use Rattle.std.specs.List.{AllByRecursion}
use Rattle.redo_record.specs.Spelling.{records_bytes, IsTyped}
use Rattle.redo_record.proofs.encoding.records_aside.Given as goal

-- the records so far are spelled, and of their types
abbrev pub invariant-loop-r : goal.invariant-loop-r
invariant-loop-r l = record {
  spelled : l.out ≡ records_bytes (take l.r-index l.records);
  typed : AllByRecursion IsTyped (take l.r-index l.records);
}
