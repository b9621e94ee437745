-- Stated: A table as a row of the catalog.
use Rattle.std.specs.Prelude.{◌≡◌, ◌≢◌, ◌≤◌, ◌<◌, ℕ, List, [], ◌∷◌, ◌++◌, length, drop, Option, MatchOption}
use Rattle.rm_base.specs.declared.limits.TheConstants.{MAX_PAGE_ID}
use Rattle.std.specs.List.{AllByRecursion, flat_map}
use Rattle.rm_base.specs.Fields.{field}
use Rattle.sql_values.specs.declared.values.Value.{Value}
use Rattle.sql_values.specs.declared.values.Value.TheVariants.{Text}
use Rattle.sql_values.specs.declared.values.Sort.{Sort}
use Rattle.sql_values.specs.declared.values.Sort.TheVariants as sort
use Rattle.sql_values.specs.declared.schemas.Column.{Column}
use Rattle.sql_values.specs.declared.schemas.Schema.{Schema}
use Rattle.sql_values.specs.Tables.{IsName, IsNamed, IsTable}

abbrev pub sort_number : Sort → ℕ
sort_number sort.Int = 1
sort_number sort.Text = 2

-- a column: the length of its name, its name, 1 for INT or 2 for TEXT
abbrev pub column_bytes : Column → List ℕ
column_bytes c = length c.name ∷ (c.name ++ (sort_number c.sort ∷ []))

abbrev pub columns_bytes : List Column → List ℕ
columns_bytes columns = flat_map column_bytes columns

-- the root's page, the key column's number, the number of columns, and the columns
abbrev pub schema_bytes : Schema → ℕ → List ℕ
schema_bytes s root = field 4 root ++ (s.key ∷ (length s.columns ∷ columns_bytes s.columns))

-- the name of the table is the key of its row
abbrev pub catalog_row : Schema → ℕ → List Value
catalog_row s root = Text s.table ∷ (Text (schema_bytes s root) ∷ [])

-- names within their bounds, and a page that there can be
pub record AreBounded (s : Schema) (root : ℕ) : Type 0 where
  pub table : IsName s.table
  pub columns : AllByRecursion IsNamed s.columns
  pub page : root ≤ MAX_PAGE_ID

-- the column at the start of the bytes, with its length, or that there is none
abbrev pub IsColumnOrNone : List ℕ → Option (Column × ℕ) → Type 0
IsColumnOrNone bytes found =
    MatchOption found ((c : Column) (rest : List ℕ) → IsNamed c → ¬ (bytes ≡ column_bytes c ++ rest))
    (λ f. IsNamed f.0 × (f.1 ≤ length bytes) × (bytes ≡ column_bytes f.0 ++ drop f.1 bytes))

-- so many columns that the bytes spell, or that they spell none
abbrev pub AreColumnsOrNone : List ℕ → ℕ → Option (List Column) → Type 0
AreColumnsOrNone bytes count found =
    MatchOption found ((cs : List Column) → AllByRecursion IsNamed cs → length cs ≡ count → ¬ (bytes ≡ columns_bytes cs))
    (λ cs. AllByRecursion IsNamed cs × (length cs ≡ count) × (bytes ≡ columns_bytes cs))

-- the table and the root of a row, or that it is no row of the catalog
abbrev pub IsTableOrNone : List Value → Option (Schema × ℕ) → Type 0
IsTableOrNone row found =
    MatchOption found ((s : Schema) (root : ℕ) → IsTable s → AreBounded s root → ¬ (row ≡ catalog_row s root))
    (λ f. IsTable f.0 × AreBounded f.0 f.1 × (row ≡ catalog_row f.0 f.1))

-- a row is that of one table and root alone
abbrev pub OneTable : Type 0
OneTable =
    (s t : Schema) (p q : ℕ) → AreBounded s p → AreBounded t q → catalog_row s p ≡ catalog_row t q → (s ≡ t) × (p ≡ q)
