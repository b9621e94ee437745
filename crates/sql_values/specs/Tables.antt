-- Stated: tables by their names, and what a table may be.
use Rattle.std.specs.Prelude.{◌≢◌, ◌≤◌, ◌<◌, ℕ, List, [], ◌∷◌, length, Option, bytes_eq, find}
use Rattle.std.specs.List.{AllByRecursion}
use Rattle.rm_base.specs.declared.limits.TheConstants.{MAX_COLUMNS, MAX_NAME_BYTES}
use Rattle.sql_values.specs.declared.schemas.Column.{Column}
use Rattle.sql_values.specs.declared.schemas.Schema.{Schema}

-- the schema of the table with that name
abbrev pub table_named : List Schema → List ℕ → Option Schema
table_named schemas name = find (λ s. bytes_eq s.table name) schemas

-- a name has 1 to 32 bytes
abbrev pub IsName : List ℕ → Type 0
IsName name = (0 < length name) × (length name ≤ MAX_NAME_BYTES)

abbrev pub IsNamed : Column → Type 0
IsNamed c = IsName c.name

-- no two columns have one name
abbrev pub Differ : List Column → Type 0
Differ [] = Unit {0}
Differ (c ∷ cs) = AllByRecursion (λ d. d.name ≢ c.name) cs × Differ cs

-- a schema that a table can have: 1 to 16 columns of different names, one of which is the key
pub record IsTable (s : Schema) : Type 0 where
  pub some : 1 ≤ length s.columns
  pub few : length s.columns ≤ MAX_COLUMNS
  pub differ : Differ s.columns
  pub key : s.key < length s.columns
