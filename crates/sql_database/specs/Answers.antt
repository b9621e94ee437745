-- Stated: what a statement may answer, and what comes of the answer.
use Rattle.std.specs.Prelude.{ℕ, List, [], Option, Some, None}
use Rattle.sql_values.specs.declared.values.Value.{Value}
use Rattle.sql_statements.specs.declared.statements.Stmt.{Stmt}
use Rattle.sql_database.specs.declared.changes.Change.{Change}
use Rattle.sql_database.specs.declared.replies.SqlReply.{SqlReply}
use Rattle.sql_database.specs.declared.replies.SqlReply.TheVariants as reply
use Rattle.sql_database.specs.Database.{Database}

-- Rows; a refusal; or the changes that are wanted, how many rows they are, and the first key that is there
-- already.
pub data Answer : Type 0 where
  rows : List (List Value) → Answer
  refused : SqlReply → Answer
  wants : List Change → ℕ → Option Value → Answer

-- which answers a statement has over a database
abbrev pub Answering : Type 1
Answering = Database → Stmt → Answer → Type 0

-- what a session is told where nothing hinders the answer
abbrev pub reply_to : Answer → SqlReply
reply_to (rows rs) = reply.Rows rs
reply_to (refused r) = r
reply_to (wants cs n None) = reply.Ok n
reply_to (wants cs n (Some k)) = reply.Duplicate k

-- the changes that an answer makes: those that it wants, where no key is there already
abbrev pub changes_of : Answer → List Change
changes_of (rows rs) = []
changes_of (refused r) = []
changes_of (wants cs n None) = cs
changes_of (wants cs n (Some k)) = []
