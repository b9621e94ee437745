-- Stated: where a key stands among a page's keys, and the pages of a path.
use Rattle.std.specs.Prelude.{◌≡◌, ℕ, ◌-◌, List, Some, length, filter, slice_get, slice_index_or}
use Rattle.std.specs.Ordering.{is_lt, is_eq, is_le, is_gt}
use Rattle.page_image.specs.Image.{Image, unmade}
use Rattle.page_view.specs.Keys.{key_in, keys_of, key_cmp}

-- the items with a lesser key, and those with a greater one
abbrev pub before : List ℕ → List (List ℕ) → List (List ℕ)
before key items = filter (λ item. is_lt (key_cmp (key_in item) key)) items

abbrev pub behind : List ℕ → List (List ℕ) → List (List ℕ)
behind key items = filter (λ item. is_gt (key_cmp (key_in item) key)) items

-- how many of the items have a lesser key
abbrev pub lesser : List ℕ → List (List ℕ) → ℕ
lesser key items = length (before key items)

-- how many of the items have a key that is not greater
abbrev pub not_greater : List ℕ → List (List ℕ) → ℕ
not_greater key items = length (filter (λ item. is_le (key_cmp (key_in item) key)) items)

-- the items with the key
abbrev pub with_key : List ℕ → List (List ℕ) → List (List ℕ)
with_key key items = filter (λ item. is_eq (key_cmp (key_in item) key)) items

-- an item of the page has the key
abbrev pub HasKey : List ℕ → Image → Type 0
HasKey key page = (i : ℕ) × (slice_get (keys_of page.items) i ≡ Some key)

-- the page at a place of a path
abbrev pub page_on : List Image → ℕ → Image
page_on path i = slice_index_or path i (unmade 0)

-- the last page of a path
abbrev pub leaf_on : List Image → Image
leaf_on path = page_on path (length path - 1)
