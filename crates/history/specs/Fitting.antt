-- For the proofs: changes that fit a content, as those of an answer fit its database.
use Rattle.std.specs.Prelude.{◌≡◌, ℕ, suc, ◌≤◌, ◌<◌, true, false, Option, Some, None, List, [], ◌∷◌, if◌then◌else◌, bytes_eq}
use Rattle.sql_values.specs.declared.values.Value.{Value}
use Rattle.sql_statements.specs.declared.statements.Stmt.{Stmt}
use Rattle.row_codec.specs.Keys.{key_bytes}
use Rattle.row_codec.specs.Records.{key_cell}
use Rattle.sql_database.specs.Answers.{Answering, wants}
use Rattle.sql_database.specs.Catalog.{schema_of}
use Rattle.sql_database.specs.Database.{Database}
use Rattle.sql_database.specs.Fitting.{IsProper}
use Rattle.sql_database.specs.Statements.{is_write}
use Rattle.sql_database.specs.declared.changes.Change.{Change}
use Rattle.version_store.specs.Contents.{Content, catalog_name}
use Rattle.version_store.specs.Versions.{Row}
use Rattle.history.specs.Databases.{StandsFor}
use Rattle.history.specs.Places.{is_at}
use Rattle.history.specs.Timelines.{Timeline, content_at}

abbrev pub after : Content → Change → Content
after f c a k = if is_at c a k then c.row else f a k

-- A change of the catalog makes a table that is not there. Any other is of a table that is there, and its row
-- has the key.
pub record Fits (f : Content) (c : Change) : Type 0 where
  pub makes : bytes_eq c.table catalog_name ≡ true
      → (row : Row) × (c.row ≡ Some row) × ((schema_of row).table ≡ c.key) × (f catalog_name c.key ≡ None)
      × (bytes_eq c.key catalog_name ≡ false)
  pub places : bytes_eq c.table catalog_name ≡ false
      → (def : Row) × (f catalog_name c.table ≡ Some def)
      × ((r : Row) → c.row ≡ Some r → key_bytes (key_cell (schema_of def).key r) ≡ c.key)

abbrev pub FitsAll : Content → List Change → Type 0
FitsAll f [] = Unit {0}
FitsAll f (c ∷ cs) = Fits f c × FitsAll (after f c) cs

-- the tables whose rows are changed are there
abbrev pub AreKnown : Content → List Change → Type 0
AreKnown f [] = Unit {0}
AreKnown f (c ∷ cs) = (bytes_eq c.table catalog_name ≡ false → f catalog_name c.table ≡ None → ⊥)
    × AreKnown f cs

-- the changes that an answer wants are a write's, and fit a content that stands for the database
abbrev pub ContentWantsFit : Answering → Type 0
ContentWantsFit answers =
    (f : Content) (d : Database) (st : Stmt) (cs : List Change) (n : ℕ) (dup : Option Value)
    → StandsFor f d → IsProper st → answers d st (wants cs n dup)
    → (is_write st ≡ true) × FitsAll f cs × AreKnown f cs

-- each commit fits what stood before it
abbrev pub FitsTimeline : Timeline → ℕ → Type 0
FitsTimeline line upto =
    (n : ℕ) → line.first ≤ n → n < upto → FitsAll (content_at line n) (line.changes (suc n))
