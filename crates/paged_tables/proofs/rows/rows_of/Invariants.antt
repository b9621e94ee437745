use Rattle.std.proofs.Common.{◌≡◌, List, map, take}
use Rattle.std.specs.List.{AllByRecursion}
use Rattle.sql_values.specs.declared.values.Value.{Value}
use Rattle.page_view.specs.Leaf.{leaf_bytes}
use Rattle.paged_tables.specs.Items.{row_items}
use Rattle.paged_tables.specs.Content.{IsStored}
use Rattle.paged_tables.proofs.rows.rows_of.Given as goal

-- the rows of the items before this one
abbrev pub invariant-loop-item : goal.invariant-loop-item
invariant-loop-item l =
    (rows : List (List Value)) → AllByRecursion (IsStored l.schema) rows → map leaf_bytes l.items ≡ row_items l.schema.key rows → l.rows ≡ take l.item-index rows
