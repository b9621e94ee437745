-- For the proofs: the catalog as a table: a column for a table's name, and one for the text of its schema and its root.
use Rattle.std.specs.Prelude.{ℕ, List, [], ◌∷◌, codes}
use Rattle.sql_values.specs.declared.values.Sort.TheVariants as sort
use Rattle.sql_values.specs.declared.schemas.Column.{Column}
use Rattle.sql_values.specs.declared.schemas.Schema.{Schema}
use Rattle.row_codec.specs.Records.{value_bytes}
use Rattle.sql_catalog.specs.Catalog.{catalog_row}

abbrev pub text_column : Column
text_column = record { name = codes "table"; sort = sort.Text }

-- its own name is the word that no table has
abbrev pub catalog_schema : Schema
catalog_schema = record { table = codes "table"; columns = text_column ∷ (text_column ∷ []); key = 0 }

-- the value of a table's item
abbrev pub catalog_value : Schema → ℕ → List ℕ
catalog_value s root = value_bytes 0 (catalog_row s root)
