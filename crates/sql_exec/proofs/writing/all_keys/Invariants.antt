use Rattle.std.proofs.Common.{◌≡◌, take}
use Rattle.sql_exec.specs.Changes.{keys_of}
use Rattle.sql_exec.proofs.writing.all_keys.Given as goal

abbrev pub invariant-loop-row : goal.invariant-loop-row
invariant-loop-row l = l.keys ≡ keys_of l.key (take l.row-index l.row-items)
