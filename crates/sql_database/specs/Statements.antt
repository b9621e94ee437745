-- Stated: what sort of statement it is.
use Rattle.std.specs.Prelude.{Bool, true, false, ◌||◌}
use Rattle.sql_statements.specs.declared.statements.Stmt.{Stmt}
use Rattle.sql_statements.specs.declared.statements.Stmt.TheVariants as stmt

abbrev pub is_write : Stmt → Bool
is_write (stmt.Create s) = true
is_write (stmt.Insert t names rows) = true
is_write (stmt.Update t sets test) = true
is_write (stmt.Delete t test) = true
is_write (stmt.Select q) = false
is_write stmt.Begin = false
is_write stmt.Commit = false
is_write stmt.Rollback = false

abbrev pub is_select : Stmt → Bool
is_select (stmt.Select q) = true
is_select (stmt.Create s) = false
is_select (stmt.Insert t names rows) = false
is_select (stmt.Update t sets test) = false
is_select (stmt.Delete t test) = false
is_select stmt.Begin = false
is_select stmt.Commit = false
is_select stmt.Rollback = false

abbrev pub is_begin : Stmt → Bool
is_begin stmt.Begin = true
is_begin (stmt.Create s) = false
is_begin (stmt.Insert t names rows) = false
is_begin (stmt.Update t sets test) = false
is_begin (stmt.Delete t test) = false
is_begin (stmt.Select q) = false
is_begin stmt.Commit = false
is_begin stmt.Rollback = false

abbrev pub is_commit : Stmt → Bool
is_commit stmt.Commit = true
is_commit (stmt.Create s) = false
is_commit (stmt.Insert t names rows) = false
is_commit (stmt.Update t sets test) = false
is_commit (stmt.Delete t test) = false
is_commit (stmt.Select q) = false
is_commit stmt.Begin = false
is_commit stmt.Rollback = false

abbrev pub is_rollback : Stmt → Bool
is_rollback stmt.Rollback = true
is_rollback (stmt.Create s) = false
is_rollback (stmt.Insert t names rows) = false
is_rollback (stmt.Update t sets test) = false
is_rollback (stmt.Delete t test) = false
is_rollback (stmt.Select q) = false
is_rollback stmt.Begin = false
is_rollback stmt.Commit = false

-- COMMIT and ROLLBACK end a transaction
abbrev pub is_ending : Stmt → Bool
is_ending s = is_commit s || is_rollback s

-- what is evaluated over a database: BEGIN, COMMIT and ROLLBACK are not
abbrev pub IsEvaluated : Stmt → Type 0
IsEvaluated (stmt.Create s) = Unit {0}
IsEvaluated (stmt.Insert t names tuples) = Unit {0}
IsEvaluated (stmt.Update t sets test) = Unit {0}
IsEvaluated (stmt.Delete t test) = Unit {0}
IsEvaluated (stmt.Select q) = Unit {0}
IsEvaluated stmt.Begin = ⊥
IsEvaluated stmt.Commit = ⊥
IsEvaluated stmt.Rollback = ⊥
