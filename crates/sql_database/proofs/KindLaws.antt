-- What sort of statement is evaluated, and what its answers are told as.
use Rattle.std.proofs.Common.{◌≡◌, false, Some, None, refl}
use Rattle.sql_statements.specs.declared.statements.Stmt.{Stmt}
use Rattle.sql_statements.specs.declared.statements.Stmt.TheVariants as stmt
use Rattle.sql_database.specs.Answers.{Answer, reply_to, rows, refused, wants}
use Rattle.sql_database.specs.Replies.{is_giving_up}
use Rattle.sql_database.specs.Rules.{IsFair}
use Rattle.sql_database.specs.Statements.{IsEvaluated, is_begin, is_commit, is_ending}

-- what is evaluated neither begins nor ends a transaction
pub record IsPlainKind (st : Stmt) : Type 0 where
  pub commit : is_commit st ≡ false
  pub ending : is_ending st ≡ false
  pub begin : is_begin st ≡ false

pub plain_kind : (st : Stmt) → IsEvaluated st → IsPlainKind st
plain_kind (stmt.Create s) k = record { commit = refl; ending = refl; begin = refl }
plain_kind (stmt.Insert t names tuples) k = record { commit = refl; ending = refl; begin = refl }
plain_kind (stmt.Update t sets test) k = record { commit = refl; ending = refl; begin = refl }
plain_kind (stmt.Delete t test) k = record { commit = refl; ending = refl; begin = refl }
plain_kind (stmt.Select q) k = record { commit = refl; ending = refl; begin = refl }
plain_kind stmt.Begin k = absurd k
plain_kind stmt.Commit k = absurd k
plain_kind stmt.Rollback k = absurd k

pub goes_on : (st : Stmt) (a : Answer) → IsFair st a → is_giving_up (reply_to a) ≡ false
goes_on st (rows rs) f = refl
goes_on st (refused r) f = f.1
goes_on st (wants cs n None) f = refl
goes_on st (wants cs n (Some v)) f = refl
