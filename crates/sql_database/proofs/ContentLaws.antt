-- Databases with the same content stay so under changes.
use Rattle.std.proofs.Common.{◌≡◌, ℕ, Bool, true, false, if◌then◌else◌, List, [], ◌∷◌, ◌++◌, Option, Some, None, bytes_eq, refl, sym, ap, ◌∙◌}
use Rattle.sql_values.specs.declared.values.Value.{Value}
use Rattle.sql_values.specs.declared.schemas.Schema.{Schema}
use Rattle.sql_database.specs.declared.changes.Change.{Change}
use Rattle.sql_database.specs.Applied.{changed, placed, with_catalog, with_row, with_rows, with_table}
use Rattle.sql_database.specs.Catalog.{is_of_catalog, schema_of}
use Rattle.sql_database.specs.Database.{Database, SameContent, Tables, row_key}
use Rattle.sql_database.specs.Laws.{AppliedRespects, SameContentIsSame}
use Rattle.row_codec.specs.Keys.{key_bytes}
use Rattle.row_codec.specs.Records.{key_cell}
use Rattle.std.specs.Option.{option_map_or}
use Rattle.sql_values.specs.Tables.{table_named}

pub itself : (d : Database) → SameContent d d
itself d = record { schemas = λ t. refl; rows = λ t. refl }

pub turned : (d e : Database) → SameContent d e → SameContent e d
turned d e h = record { schemas = λ t. sym (h.schemas t); rows = λ t. sym (h.rows t) }

pub onward : (d e f : Database) → SameContent d e → SameContent e f → SameContent d f
onward d e f h i = record { schemas = λ t. h.schemas t ∙ i.schemas t; rows = λ t. h.rows t ∙ i.rows t }

pub alike : SameContentIsSame
alike = (itself, turned, onward)

abbrev first_of_both : Option Schema → Option Schema → Option Schema
first_of_both (Some s) o = Some s
first_of_both None o = o

-- a name is looked up among the first schemas, then among the others
pub named_behind : (ss more : List Schema) (t : List ℕ) → table_named (ss ++ more) t ≡ first_of_both (table_named ss t) (table_named more t)
named_behind [] more t = refl
named_behind (s ∷ ss) more t = by_test (named_behind ss more t) (bytes_eq s.table t)
  where
    by_test : table_named (ss ++ more) t ≡ first_of_both (table_named ss t) (table_named more t) → (b : Bool)
        → (if b then Some s else table_named (ss ++ more) t) ≡ first_of_both (if b then Some s else table_named ss t) (table_named more t)
    by_test h true = refl
    by_test h false = h

rows_again : (tables others : Tables) (t : List ℕ) (given rest : List (List Value)) → ((u : List ℕ) → tables u ≡ others u) → given ≡ rest
    → (u : List ℕ) → with_rows tables t given u ≡ with_rows others t rest u
rows_again tables others t given rest h e u = by_test (bytes_eq u t)
  where
    by_test : (b : Bool) → (if b then given else tables u) ≡ (if b then rest else others u)
    by_test true = e
    by_test false = h u

table_again : (d e : Database) (s : Schema) → SameContent d e → SameContent (with_table d s) (with_table e s)
table_again d e s h = record {
  schemas = λ t. named_behind d.schemas (s ∷ []) t ∙ (ap (λ o. first_of_both o (table_named (s ∷ []) t)) (h.schemas t) ∙ sym (named_behind e.schemas (s ∷ []) t));
  rows = rows_again d.tables e.tables s.table [] [] h.rows refl;
}

catalog_again : (d e : Database) (row : Option (List Value)) → SameContent d e → SameContent (with_catalog d row) (with_catalog e row)
catalog_again d e None h = h
catalog_again d e (Some r) h = table_again d e (schema_of r) h

row_again : (d e : Database) (c : Change) → SameContent d e → SameContent (with_row d c) (with_row e c)
row_again d e c h = record {
  schemas = h.schemas;
  rows = rows_again d.tables e.tables c.table _ _ h.rows
      (ap (λ o. placed (λ r. key_bytes (key_cell (option_map_or (λ s. s.key) o 0) r)) c.key c.row (d.tables c.table)) (h.schemas c.table)
      ∙ ap (λ rs. placed (row_key e c.table) c.key c.row rs) (h.rows c.table));
}

change_again : (d e : Database) (c : Change) → SameContent d e → SameContent (changed d c) (changed e c)
change_again d e c h = by_test (is_of_catalog c)
  where
    by_test : (b : Bool) → SameContent (if b then with_catalog d c.row else with_row d c) (if b then with_catalog e c.row else with_row e c)
    by_test true = catalog_again d e c.row h
    by_test false = row_again d e c h

pub respects : AppliedRespects
respects d e [] h = h
respects d e (c ∷ cs) h = respects (changed d c) (changed e c) cs (change_again d e c h)
