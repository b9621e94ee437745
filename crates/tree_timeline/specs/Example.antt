-- Stated: an example, a root over two leaves whose second leaf is split.
use Rattle.std.specs.Prelude.{ℕ, zero, suc, List, [], ◌∷◌, map, nat_eq, if◌then◌else◌}
use Rattle.page_image.specs.declared.kind.Kind.TheVariants.{Leaf, Inner}
use Rattle.page_image.specs.Image.{Image, unmade}
use Rattle.page_view.specs.Inner.{InnerItem, inner_bytes}
use Rattle.tree_timeline.specs.Types.{Items}
use Rattle.tree_timeline.specs.Walks.{Visit}

-- a leaf item whose key is this byte, without a value
abbrev pub item : ℕ → List ℕ
item byte = 1 ∷ byte ∷ 0 ∷ 0 ∷ 0 ∷ 0 ∷ 0 ∷ 0 ∷ 0 ∷ 0 ∷ 0 ∷ 0 ∷ 0 ∷ 0 ∷ 0 ∷ 0 ∷ 0 ∷ []

-- the root's entries: pages 2, 3 and 4 from the keys "", 2 and 3 on
abbrev pub first_entry : InnerItem
first_entry = record { key = []; child = 2 }

abbrev pub second_entry : InnerItem
second_entry = record { key = 2 ∷ []; child = 3 }

abbrev pub third_entry : InnerItem
third_entry = record { key = 3 ∷ []; child = 4 }

abbrev pub root_page : List InnerItem → ℕ → Image
root_page entries structure =
    record {
      kind = Inner;
      page = 1;
      lsn = 1;
      structure = structure;
      next = 0;
      level = 1;
      items = map inner_bytes entries;
      body = [];
    }

abbrev pub leaf_page : ℕ → Items → ℕ → ℕ → Image
leaf_page page items next structure =
    record {
      kind = Leaf;
      page = page;
      lsn = 1;
      structure = structure;
      next = next;
      level = 0;
      items = items;
      body = [];
    }

-- before the split: 1 stands on page 2, 2 and 3 on page 3
abbrev pub whole : ℕ → Image
whole q =
    if nat_eq q 1 then root_page (first_entry ∷ second_entry ∷ []) 0
    else (if nat_eq q 2 then leaf_page 2 (item 1 ∷ []) 3 0
    else (if nat_eq q 3 then leaf_page 3 (item 2 ∷ item 3 ∷ []) 0 0
    else unmade q))

-- after it: 3 stands on page 4
abbrev pub halved : ℕ → Image
halved q =
    if nat_eq q 1 then root_page (first_entry ∷ second_entry ∷ third_entry ∷ []) 1
    else (if nat_eq q 2 then leaf_page 2 (item 1 ∷ []) 3 0
    else (if nat_eq q 3 then leaf_page 3 (item 2 ∷ []) 4 1
    else (if nat_eq q 4 then leaf_page 4 (item 3 ∷ []) 0 1
    else unmade q)))

-- a split that keeps the page's old `next`
abbrev pub unlinked : ℕ → Image
unlinked q =
    if nat_eq q 1 then root_page (first_entry ∷ second_entry ∷ third_entry ∷ []) 1
    else (if nat_eq q 2 then leaf_page 2 (item 1 ∷ []) 3 0
    else (if nat_eq q 3 then leaf_page 3 (item 2 ∷ []) 0 1
    else (if nat_eq q 4 then leaf_page 4 (item 3 ∷ []) 0 1
    else unmade q)))

-- the split comes at time 1, and nothing after it
abbrev pub splitting : ℕ → ℕ → Image
splitting zero = whole
splitting (suc t) = halved

-- the halves become one page again at time 1
abbrev pub merging : ℕ → ℕ → Image
merging zero = halved
merging (suc t) = whole

-- the items stay
abbrev pub three_items : ℕ → Items
three_items t = item 1 ∷ item 2 ∷ item 3 ∷ []

abbrev pub visit : ℕ → ℕ → Visit
visit time page = record { time = time; page = page }

-- page 2 before the split, and pages 3 and 4 after it
abbrev pub across : List Visit
across = visit 0 2 ∷ visit 1 3 ∷ visit 1 4 ∷ []
