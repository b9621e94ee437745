-- Stated: what a node that only reads does with a statement.
use Rattle.sql_statements.specs.declared.statements.Stmt.{Stmt}
use Rattle.sql_statements.specs.declared.statements.Stmt.TheVariants as stmt
use Rattle.ro_worker.specs.declared.kinds.StatementKind.{StatementKind}
use Rattle.ro_worker.specs.declared.kinds.StatementKind.TheVariants as kind

abbrev pub kind_of : Stmt → StatementKind
kind_of (stmt.Create s) = kind.Write
kind_of (stmt.Insert t names tuples) = kind.Write
kind_of (stmt.Update t sets test) = kind.Write
kind_of (stmt.Delete t test) = kind.Write
kind_of (stmt.Select q) = kind.Select
kind_of stmt.Begin = kind.Begin
kind_of stmt.Commit = kind.End
kind_of stmt.Rollback = kind.End
