-- For the proofs: what a change of a row makes of the items of its table's tree.
use Rattle.std.specs.Prelude.{ℕ, List}
use Rattle.std.specs.Option.{option_map_or}
use Rattle.tree_change.specs.Effects.{with_item, without_item}
use Rattle.sql_database.specs.declared.changes.Change.{Change}
use Rattle.paged_tables.specs.Items.{row_item}

-- the item of the row joins them or takes the place of the one with its key, or the one with the key leaves
abbrev pub changed_items : ℕ → Change → List (List ℕ) → List (List ℕ)
changed_items k c items = option_map_or (λ row. with_item c.key (row_item k row) items) c.row (without_item c.key items)
