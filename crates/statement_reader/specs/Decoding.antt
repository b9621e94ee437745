-- Stated: what items spell, as functions: tables of the catalog, and rows of a schema.
use Rattle.std.specs.Prelude.{◌≡◌, Bool, true, false, List, [], ◌∷◌, ◌++◌, codes, Option, Some, None, option_and_then}
use Rattle.rm_base.specs.Fields.{AreBytes}
use Rattle.page_view.specs.declared.leaf.LeafItem.{LeafItem}
use Rattle.sql_values.specs.declared.values.Value.{Value}
use Rattle.sql_values.specs.declared.values.Sort.TheVariants as sort
use Rattle.sql_values.specs.declared.schemas.Column.{Column}
use Rattle.sql_values.specs.declared.schemas.Schema.{Schema}
use Rattle.row_codec.specs.Reading.{IsRowOrNone}
use Rattle.sql_catalog.specs.Catalog.{IsTableOrNone}
use Rattle.statement_reader.specs.declared.tables.Table.{Table}

abbrev pub Row : Type 0
Row = List Value

pub record Decoder : Type 0 where
  pub table : LeafItem → Option Table
  pub row : Schema → LeafItem → Option Row

-- the catalog as a table: a column for a table's name, and one for its columns and its root
abbrev pub text_column : Column
text_column = record { name = codes "table"; sort = sort.Text }

abbrev pub catalog_schema : Schema
catalog_schema = record
    { table = codes "table"; columns = text_column ∷ (text_column ∷ []); key = 0 }

-- the table that an item of the catalog spells, or that it spells none
abbrev pub IsEntryIn : Option Row → Option Table → Type 0
IsEntryIn None found = found ≡ None
IsEntryIn (Some row) None = IsTableOrNone row None
IsEntryIn (Some row) (Some t) = IsTableOrNone row (Some (t.schema, t.root))

abbrev pub IsEntryOrNone : LeafItem → Option Table → Type 0
IsEntryOrNone item found = (o : Option Row) × IsRowOrNone catalog_schema item.key item.value o
    × IsEntryIn o found

-- a decoder that gives what the bytes of items spell
pub record Decodes (d : Decoder) : Type 0 where
  pub rows : (s : Schema) (item : LeafItem) (o : Option Row) → AreBytes item.key
      → AreBytes item.value
      → IsRowOrNone s item.key item.value o → d.row s item ≡ o
  pub tables : (item : LeafItem) (o : Option Table) → AreBytes item.key → AreBytes item.value
      → IsEntryOrNone item o → d.table item ≡ o

-- the rows of items, behind those that are there
abbrev pub decode : Decoder → Schema → List Row → List LeafItem → Option (List Row)
decode d s rows [] = Some rows
decode d s rows (item ∷ rest) = option_and_then (λ r. decode d s (rows ++ r ∷ []) rest)
    (d.row s item)

-- the rows, where all were decoded
abbrev pub rows_if : Bool → List Row → Option (List Row)
rows_if true rows = Some rows
rows_if false rows = None
