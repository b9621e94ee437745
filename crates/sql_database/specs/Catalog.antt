-- Stated: the row of the catalog that a CREATE writes, and the schema that it says.
use Rattle.std.specs.Prelude.{ℕ, Bool, if◌then◌else◌, nat_abs, nat_eq, List, [], ◌∷◌, codes, pos, Some, bytes_eq, flat_map}
use Rattle.sql_values.specs.declared.values.Sort.{Sort}
use Rattle.sql_values.specs.declared.values.Sort.TheVariants as sort
use Rattle.sql_values.specs.declared.values.Value.{Value}
use Rattle.sql_values.specs.declared.values.Value.TheVariants.{Null, Int, Text}
use Rattle.sql_values.specs.declared.schemas.Column.{Column}
use Rattle.sql_values.specs.declared.schemas.Schema.{Schema}
use Rattle.sql_database.specs.declared.changes.Change.{Change}

abbrev pub sort_number : Sort → Value
sort_number sort.Int = Int (pos 1)
sort_number sort.Text = Int (pos 2)

abbrev pub column_cells : Column → List Value
column_cells c = Text c.name ∷ (sort_number c.sort ∷ [])

-- A table's schema as a row of the catalog: its name, its key's place, and the name and sort of each column.
abbrev pub schema_row : Schema → List Value
schema_row s = Text s.table ∷ (Int (pos s.key) ∷ flat_map column_cells s.columns)

-- the change that makes a table stands under a word that no table has for its name
abbrev pub creation : Schema → Change
creation s = record { table = codes "table"; key = s.table; row = Some (schema_row s) }

abbrev pub is_of_catalog : Change → Bool
is_of_catalog c = bytes_eq c.table (codes "table")

abbrev pub text_of : Value → List ℕ
text_of Null = []
text_of (Int n) = []
text_of (Text t) = t

abbrev pub count_of : Value → ℕ
count_of Null = 0
count_of (Int n) = nat_abs n
count_of (Text t) = 0

abbrev pub sort_of : Value → Sort
sort_of v = if nat_eq (count_of v) 2 then sort.Text else sort.Int

-- the columns that a row of the catalog names: for each a name and a sort
abbrev pub columns_of : List Value → List Column
columns_of [] = []
columns_of (name ∷ []) = []
columns_of (name ∷ (s ∷ cells)) = record { name = text_of name; sort = sort_of s } ∷ columns_of cells

-- the schema that a row of the catalog says: a name, the key's place, and the columns
abbrev pub schema_of : List Value → Schema
schema_of [] = record { table = []; columns = []; key = 0 }
schema_of (name ∷ []) = record { table = text_of name; columns = []; key = 0 }
schema_of (name ∷ (key ∷ cells)) = record { table = text_of name; columns = columns_of cells; key = count_of key }
