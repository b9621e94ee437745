use Rattle.std.proofs.Common.{◌≡◌, drop}
use Rattle.sql_exec.specs.Kept.{values_in}
use Rattle.sql_exec.proofs.KeptLaws.{front}
use Rattle.sql_exec.proofs.keeping.values_of.Given as goal

abbrev pub invariant-loop-expr : goal.invariant-loop-expr
invariant-loop-expr l = front l.values (values_in l.row (drop l.expr-index l.expr-items)) ≡ values_in l.row l.expr-items
