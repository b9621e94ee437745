-- Stated: a language of a few statements, for a run by computation. INSERT writes one row, the names of its columns.
use Rattle.std.specs.Prelude.{◌≡◌, ℕ, List, [], ◌∷◌, Option, Some, None, Result, Ok, Err, bytes_eq, codes, if◌then◌else◌, is_some, map}
use Rattle.std.specs.Option.{option_map_or}
use Rattle.sql_values.specs.Tables.{table_named}
use Rattle.sql_values.specs.declared.schemas.Schema.{Schema}
use Rattle.sql_values.specs.declared.values.Sort.TheVariants as sort
use Rattle.sql_values.specs.declared.values.Value.TheVariants.{Text}
use Rattle.row_codec.specs.Keys.{key_bytes}
use Rattle.row_codec.specs.Records.{key_cell}
use Rattle.sql_statements.specs.declared.statements.Selected.TheVariants as selected
use Rattle.sql_statements.specs.declared.statements.Stmt.{Stmt}
use Rattle.sql_statements.specs.declared.statements.Stmt.TheVariants as stmt
use Rattle.sql_database.specs.Answers.{Answer, refused, rows, wants}
use Rattle.sql_database.specs.Catalog.{creation}
use Rattle.sql_database.specs.Database.{Database}
use Rattle.sql_database.specs.declared.changes.Change.{Change}
use Rattle.sql_database.specs.declared.replies.SqlReply.TheVariants as reply
use Rattle.table_machine.specs.Language.{Language}
use Rattle.version_store.specs.Versions.{Row}

abbrev pub schema : Schema
schema = record { table = codes "t"; columns = record { name = codes "k"; sort = sort.Text } ∷ []; key = 0 }

abbrev pub create : Stmt
create = stmt.Create schema

abbrev pub insert : List ℕ → Stmt
insert name = stmt.Insert (codes "t") (Some (name ∷ [])) []

abbrev pub select : Stmt
select = stmt.Select (record {
  items = selected.Star;
  left = codes "t";
  join = None;
  test = None;
  order = [];
  limit = None;
})

abbrev pub row_of : Option (List (List ℕ)) → Row
row_of names = option_map_or (λ ns. map Text ns) names []

-- the change that puts a row into a table
abbrev pub placing : List ℕ → Schema → Row → Change
placing t s row = record { table = t; key = key_bytes (key_cell s.key row); row = Some row }

abbrev pub answer : Database → Stmt → Answer
answer d (stmt.Create s) =
    if is_some (table_named d.schemas s.table) then refused (reply.TableExists s.table) else wants
    (creation s ∷ []) 0 None
answer d (stmt.Insert t names tuples) =
    option_map_or (λ s. wants (placing t s (row_of names) ∷ []) 1 None) (table_named d.schemas t)
    (refused (reply.NoTable t))
answer d (stmt.Update t sets test) = refused (reply.NoTable t)
answer d (stmt.Delete t test) = refused (reply.NoTable t)
answer d (stmt.Select q) = rows (d.tables q.left)
answer d stmt.Begin = refused reply.NoTransaction
answer d stmt.Commit = refused reply.NoTransaction
answer d stmt.Rollback = refused reply.NoTransaction

abbrev pub statement_of : List ℕ → Result Stmt ℕ
statement_of text =
    if bytes_eq text (codes "create") then Ok create
    else (if bytes_eq text (codes "insert a") then Ok (insert (codes "a"))
    else (if bytes_eq text (codes "insert b") then Ok (insert (codes "b"))
    else (if bytes_eq text (codes "select") then Ok select else Err 0)))

abbrev pub small : Language
small = record {
  parses = λ text read. read ≡ statement_of text;
  answers = λ d st a. a ≡ answer d st;
  full = λ d. ⊥;
}
