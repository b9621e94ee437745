-- Stated: an example, a log that makes a root over two leaves and then splits the second leaf.
use Rattle.std.specs.Prelude.{[], ◌∷◌, List}
use Rattle.page_image.specs.declared.kind.Kind.TheVariants.{Leaf, Inner}
use Rattle.page_view.specs.Inner.{inner_bytes}
use Rattle.redo_record.specs.declared.redo.Group.{Group}
use Rattle.redo_record.specs.declared.redo.Record.{Record}
use Rattle.redo_record.specs.declared.redo.Record.TheVariants.{Make, InsertSlot, Cut, Link}
use Rattle.tree_timeline.specs.Example.{item, first_entry, second_entry, third_entry}

-- pages 1, 2 and 3: the root, and its leaves with the items 1, and 2 and 3
abbrev pub making : List Record
making =
    Make 1 Inner 1
    ∷ InsertSlot 1 0 (inner_bytes first_entry)
    ∷ InsertSlot 1 1 (inner_bytes second_entry)
    ∷ Make 2 Leaf 0
    ∷ InsertSlot 2 0 (item 1)
    ∷ Link 2 3
    ∷ Make 3 Leaf 0
    ∷ InsertSlot 3 0 (item 2)
    ∷ InsertSlot 3 1 (item 3)
    ∷ []

-- the item 3 moves to page 4
abbrev pub splitting : List Record
splitting =
    Make 4 Leaf 0
    ∷ InsertSlot 4 0 (item 3)
    ∷ Link 3 4
    ∷ Cut 3 1
    ∷ InsertSlot 1 2 (inner_bytes third_entry)
    ∷ []

abbrev pub split_group : Group
split_group = record { lsn = 2; records = splitting }

abbrev pub split_log : List Group
split_log = record { lsn = 1; records = making } ∷ split_group ∷ []
