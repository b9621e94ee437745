-- A statement's outcome, and what its changes make, as what the statement does to the database.
use Rattle.std.proofs.Common.{◌≡◌, ◌≢◌, ℕ, Bool, true, false, if◌then◌else◌, List, [], ◌∷◌, length, Result, Ok, Err, IsOk, IsErr, OnErr, codes, flat_map, fold, Some, None, refl, sym, ap, subst, ◌∙◌, inl, inr}
use Rattle.std.specs.List.{AllByRecursion}
use Rattle.std.specs.Str.{bytes_eq}
use Rattle.sql_values.specs.declared.values.Sort.{Sort}
use Rattle.sql_values.specs.declared.values.Sort.TheVariants as sort
use Rattle.sql_values.specs.declared.schemas.Column.{Column}
use Rattle.sql_values.specs.declared.schemas.Schema.{Schema}
use Rattle.sql_statements.specs.declared.statements.Stmt.{Stmt}
use Rattle.sql_statements.specs.declared.statements.Stmt.TheVariants as stmt
use Rattle.sql_values.specs.Tables.{table_named}
use Rattle.sql_database.specs.declared.changes.Change.{Change}
use Rattle.sql_exec.specs.declared.outcomes.Outcome.TheVariants as outcome
use Rattle.sql_database.specs.declared.replies.SqlReply.{SqlReply}
use Rattle.sql_database.specs.declared.replies.SqlReply.TheVariants as reply
use Rattle.sql_database.specs.Answers.{Answer, refused, rows, wants}
use Rattle.sql_exec.specs.Answer.{ComesFrom, outcome_of}
use Rattle.sql_exec.specs.Whole.{AnswersOver}
use Rattle.sql_database.specs.Database.{Database}
use Rattle.sql_database.specs.Applied.{applied, changed, with_catalog, with_row, with_table}
use Rattle.sql_database.specs.Catalog.{columns_of, is_of_catalog, schema_of, sort_of, column_cells, creation, schema_row, sort_number}
use Rattle.sql_engine.specs.Executed.{Executes}
use Rattle.sql_engine.specs.Made.{Suits}
use Rattle.sql_engine.specs.Sound.{IsSound}
use Rattle.sql_engine.proofs.NamedLemmas.{same_text}
use Rattle.sql_engine.proofs.WantedLemmas.{ChangesRows, rows_wanted, table_wanted}

-- the row of a catalog says its schema
sort_back : (q : Sort) → sort_of (sort_number q) ≡ q
sort_back sort.Int = refl
sort_back sort.Text = refl

columns_back : (cs : List Column) → columns_of (flat_map column_cells cs) ≡ cs
columns_back [] = refl
columns_back (c ∷ cs) =
    ap (λ (q : Sort). column c.name q ∷ columns_of (flat_map column_cells cs)) (sort_back c.sort) ∙ ap (λ ds. c ∷ ds) (columns_back cs)
  where
    column : List ℕ → Sort → Column
    column name q = record { name = name; sort = q }

schema_back : (s : Schema) → schema_of (schema_row s) ≡ s
schema_back s = ap (schema s.table s.key) (columns_back s.columns)
  where
    schema : List ℕ → ℕ → List Column → Schema
    schema table key columns = record { table = table; columns = columns; key = key }

creation_is : (d : Database) (s : Schema) → changed d (creation s) ≡ with_table d s
creation_is d s = ap (with_table d) (schema_back s)

-- no change of a row is one of the catalog
not_catalog : (schemas : List Schema) (t : List ℕ) (v : Schema) (b : Bool) → table_named schemas t ≡ Some v → table_named schemas (codes "table") ≡ None → bytes_eq t (codes "table") ≡ b → b ≡ false
not_catalog schemas t v true e none is =
    let found : None ≡ Some v = sym none ∙ ap (table_named schemas) (sym (same_text t (codes "table") is)) ∙ e in absurd cc
not_catalog schemas t v false e none is = refl

row_is : (d : Database) (c : Change) → Suits d.schemas c → table_named d.schemas (codes "table") ≡ None → changed d c ≡ with_row d c
row_is d c suits none =
    ap (λ b. if b then with_catalog d c.row else with_row d c) (not_catalog d.schemas c.table suits.schema (is_of_catalog c) suits.named none refl)

-- changes of rows, one after the other
rows_applied : (d : Database) (cs : List Change) → AllByRecursion (Suits d.schemas) cs → table_named d.schemas (codes "table") ≡ None → applied d cs ≡ fold with_row d cs
rows_applied d [] all none = refl
rows_applied d (c ∷ cs) all none = ap (λ e. applied e cs) (row_is d c all.0 none) ∙ rows_applied (with_row d c) cs all.1 none

pub schemas_stay : (d : Database) (cs : List Change) → (fold with_row d cs).schemas ≡ d.schemas
schemas_stay d [] = refl
schemas_stay d (c ∷ cs) = schemas_stay (with_row d c) cs

-- changes come from an answer that wants them
record AnswersChanges (d : Database) (s : Stmt) (cs : List Change) : Type 0 where
  many : ℕ
  is : AnswersOver d s (wants cs many None)

changes_from : (d : Database) (s : Stmt) (cs : List Change) (a : Answer) → AnswersOver d s a → outcome.Changes cs ≡ outcome_of a → AnswersChanges d s cs
changes_from d s cs (rows xs) is h = absurd cc
changes_from d s cs (refused r) is h = absurd cc
changes_from d s cs (wants bs n None) is h =
    let same : bs ≡ cs = cc in record { many = n; is = subst (λ (xs : List Change). AnswersOver d s (wants xs n None)) same is }
changes_from d s cs (wants bs n (Some k)) is h = absurd cc

-- What is known where a statement wants changes of rows: they can be made, and what comes of it.
pub record WantsRows (d : Database) (s : Stmt) (cs : List Change) (IsAfter : Database → Type 0) (IsFull : Type 0) : Type 0 where
  pub suit : AllByRecursion (Suits d.schemas) cs
  pub done : IsAfter (fold with_row d cs) → Executes d s IsAfter IsFull (reply.Ok (length cs))
  pub full : cs ≢ [] → IsFull → Executes d s IsAfter IsFull reply.SpaceFull

pub wants_rows : (d : Database) (s : Stmt) (cs : List Change) (IsAfter : Database → Type 0) (IsFull : Type 0) → IsSound d → ChangesRows s → ComesFrom (AnswersOver d s) (outcome.Changes cs) → WantsRows d s cs IsAfter IsFull
wants_rows d s cs IsAfter IsFull sound changes from =
    let given = changes_from d s cs from.answer from.is from.gives in
    let wanted = rows_wanted d sound s changes cs given.many given.is in record {
      suit = wanted.suit;
      done = λ after. record {
        answer = wants cs given.many None;
        is = given.is;
        ends = inl (ap reply.Ok (sym wanted.many), subst IsAfter (sym (rows_applied d cs wanted.suit sound.word)) after);
      };
      full = λ some room. record { answer = wants cs given.many None; is = given.is; ends = inr (refl, some, room) };
    }

-- The same where it wants a table.
pub record WantsTable (d : Database) (s : Schema) (IsAfter : Database → Type 0) (IsFull : Type 0) : Type 0 where
  pub absent : table_named d.schemas s.table ≡ None
  pub done : IsAfter (with_table d s) → Executes d (stmt.Create s) IsAfter IsFull (reply.Ok 0)
  pub full : IsFull → Executes d (stmt.Create s) IsAfter IsFull reply.SpaceFull

pub wants_table : (d : Database) (s : Schema) (cs : List Change) (IsAfter : Database → Type 0) (IsFull : Type 0) → ComesFrom (AnswersOver d (stmt.Create s)) (outcome.Changes cs) → WantsTable d s IsAfter IsFull
wants_table d s cs IsAfter IsFull from =
    let given = changes_from d (stmt.Create s) cs from.answer from.is from.gives in
    let wanted = table_wanted d s cs given.many given.is in record {
      absent = wanted.absent;
      done = λ after. record {
        answer = wants cs given.many None;
        is = given.is;
        ends = inl (ap reply.Ok (sym wanted.many), subst IsAfter (sym (ap (applied d) wanted.changes ∙ creation_is d s)) after);
      };
      full = λ room. record {
        answer = wants cs given.many None;
        is = given.is;
        ends = inr (refl, (λ e. let none : creation s ∷ [] ≡ [] = sym wanted.changes ∙ e in cc), room);
      };
    }

-- what holds on an error holds where there is one
pub on_error : {A E : Type 0} (made : Result A E) (P : Type 0) → OnErr made P → IsErr made → P
on_error (Ok u) P h e = absurd cc
on_error (Err x) P h e = h

-- what is told of changes that were made, or that found no room
pub by_made : {A E : Type 0} (made : Result A E) (r ok : SqlReply) (Is : SqlReply → Type 0) → (IsOk made → r ≡ ok) → (IsErr made → r ≡ reply.SpaceFull) → (IsOk made → Is ok) → (IsErr made → Is reply.SpaceFull) → Is r
by_made (Ok u) r ok Is f g p q = subst Is (sym (f refl)) (p refl)
by_made (Err e) r ok Is f g p q = subst Is (sym (g refl)) (q refl)

-- a statement that is no CREATE makes no table
pub changes_rows : (s : Stmt) → ((x : Schema) → s ≡ stmt.Create x → ⊥) → ChangesRows s
changes_rows (stmt.Create x) h = h x refl
changes_rows (stmt.Insert t names tuples) h = tt
changes_rows (stmt.Update t sets test) h = tt
changes_rows (stmt.Delete t test) h = tt
changes_rows (stmt.Select q) h = tt
changes_rows stmt.Begin h = tt
changes_rows stmt.Commit h = tt
changes_rows stmt.Rollback h = tt
