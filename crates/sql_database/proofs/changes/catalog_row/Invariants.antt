use Rattle.std.proofs.Common.{◌≡◌, ◌∷◌, take, pos}
use Rattle.std.specs.Prelude.{flat_map}
use Rattle.sql_values.specs.declared.values.Value.TheVariants.{Int, Text}
use Rattle.sql_database.specs.Catalog.{column_cells}
use Rattle.sql_database.proofs.changes.catalog_row.Given as goal

abbrev pub invariant-loop-column : goal.invariant-loop-column
invariant-loop-column l = l.row ≡ Text l.schema.table ∷ (Int (pos l.schema.key) ∷ flat_map column_cells (take l.column-index l.column-items))
