-- Stated: the plans that split a page.
use Rattle.std.specs.Prelude.{◌≡◌, ◌≤◌, ◌<◌, ◌+◌, ◌==◌, ℕ, Bool, true, false, List, [], ◌∷◌, ◌++◌, length, take, drop, slice_index, slice_index_or, Option, MatchOption, if◌then◌else◌}
use Rattle.rm_base.specs.declared.limits.TheConstants.{MAX_PAGE_ID, MAX_RECORD_BYTES}
use Rattle.std.specs.List.{AllByRecursion}
use Rattle.rm_base.specs.Fields.{field, number}
use Rattle.page_image.specs.declared.kind.Kind.TheVariants.{Meta, Inner}
use Rattle.page_image.specs.Image.{Image, is_inner, used}
use Rattle.page_image.specs.Meta.{page_count}
use Rattle.page_view.specs.declared.leaf.LeafItem.{LeafItem}
use Rattle.page_view.specs.Inner.{inner_bytes}
use Rattle.page_view.specs.Keys.{key_in}
use Rattle.redo_record.specs.declared.redo.Record.{Record}
use Rattle.redo_record.specs.declared.redo.Record.TheVariants.{Make, Patch, InsertSlot, Cut, Link}
use Rattle.redo_record.specs.declared.plans.Plan.{Plan}
use Rattle.redo_record.specs.declared.plans.PlanKind.TheVariants.{Split}
use Rattle.tree_change.specs.declared.halves.TheConstants.{HALF_BYTES}
use Rattle.page_image.specs.declared.meta.TheConstants.{PAGE_COUNT_AT}
use Rattle.tree_change.specs.Places.{not_greater, page_on}
use Rattle.tree_change.specs.Room.{lacks_room}

-- the first page of a path with too little room
pub record IsFirstFull (item : LeafItem) (path : List Image) (i : ℕ) : Type 0 where
  pub within : i < length path
  pub full : lacks_room item (page_on path i) ≡ true
  pub others : (j : ℕ) → j < i → lacks_room item (page_on path j) ≡ false

-- each page of a path has room
abbrev pub HaveRoom : LeafItem → List Image → Type 0
HaveRoom item path = (i : ℕ) → i < length path → lacks_room item (page_on path i) ≡ false

-- the first such page, or none where each page has room
abbrev pub IsFirstFullOrNone : LeafItem → List Image → Option ℕ → Type 0
IsFirstFullOrNone item path found =
    MatchOption found (HaveRoom item path) (λ i. IsFirstFull item path i)

-- there are pages for a split: two and a level for one of the root, where it is the root that lacks room, else one
abbrev pub SpaceFor : Bool → Image → ℕ → Type 0
SpaceFor true root count = (root.level < 8) × (count + 1 ≤ MAX_PAGE_ID)
SpaceFor false root count = count ≤ MAX_PAGE_ID

-- the least number of items that take half a page or more with their slots; each half has an item
pub record IsSplitPlace (items : List (List ℕ)) (at : ℕ) : Type 0 where
  pub some : 1 ≤ at
  pub within : at < length items
  pub enough : HALF_BYTES ≤ used (take at items)
  pub least : (i : ℕ) → i < at → used (take i items) < HALF_BYTES

-- an item with a key of at most 255 bytes, no larger than a leaf's largest
pub record IsSmall (item : List ℕ) : Type 0 where
  pub key : 1 + slice_index item 0 ≤ length item
  pub short_key : slice_index item 0 ≤ 255
  pub short : length item ≤ MAX_RECORD_BYTES

-- small items that take so many bytes that each half has one
pub record IsHeavy (items : List (List ℕ)) : Type 0 where
  pub small : AllByRecursion IsSmall items
  pub enough : HALF_BYTES + MAX_RECORD_BYTES + 2 ≤ used items

-- an inner item with the empty key in place of its own
abbrev pub without_key : List ℕ → List ℕ
without_key item = 0 ∷ drop (1 + slice_index item 0) item

abbrev pub first_without_key : List (List ℕ) → List (List ℕ)
first_without_key [] = []
first_without_key (item ∷ items) = without_key item ∷ items

-- the items that move to the new page: those from the place on, the first without its key where the page is an inner one
abbrev pub right_half : Image → ℕ → List (List ℕ)
right_half page at = if is_inner page.kind then first_without_key (drop at page.items) else drop at page.items

-- the first key of the right half, whole
abbrev pub separator : Image → ℕ → List ℕ
separator page at = key_in (slice_index_or page.items at [])

-- the items join the page one by one, from a place on
abbrev pub inserts : ℕ → ℕ → List (List ℕ) → List Record
inserts page at [] = []
inserts page at (item ∷ items) = InsertSlot page at item ∷ inserts page (at + 1) items

-- a new page is linked on where the old one was
abbrev pub linked_on : ℕ → ℕ → List Record
linked_on page next = if next == 0 then [] else Link page next ∷ []

-- a leaf is linked to its new right neighbour
abbrev pub linked_to : Image → ℕ → ℕ → List Record
linked_to split page right = if is_inner split.kind then [] else Link page right ∷ []

-- the meta page counts so many pages
abbrev pub counts : Image → ℕ → Record
counts meta n = Patch meta.page PAGE_COUNT_AT (field 4 n)

-- an entry of an inner page
abbrev pub entry_of : List ℕ → ℕ → List ℕ
entry_of key child = inner_bytes (record { key = key; child = child })

-- a plan of a split
abbrev pub split_of : List ℕ → List ℕ → List Record → Plan
split_of pages made records = record { kind = Split; pages = pages; made = made; records = records }

-- the new page of a split is made, with the right half, and is linked on
abbrev pub made_right : Image → ℕ → ℕ → List Record
made_right page at new =
    Make new page.kind page.level ∷ (inserts new 0 (right_half page at) ++ linked_on new page.next)

-- the right half moves to the page that the meta page counts next, and the parent gets an entry for it behind the one of the page
abbrev pub split_records : List ℕ → Image → Image → ℕ → Image → List Record
split_records key parent page at meta =
    let new = page_count meta in
    made_right page at new
    ++ (linked_to page page.page new
    ++ (Cut page.page at
    ∷ InsertSlot parent.page (not_greater key parent.items) (entry_of (separator page at) new)
    ∷ counts meta (new + 1)
    ∷ []))

abbrev pub split_plan : List ℕ → Image → Image → ℕ → Image → Plan
split_plan key parent page at meta =
    let new = page_count meta in
    split_of (parent.page ∷ page.page ∷ new ∷ meta.page ∷ []) (new ∷ []) (split_records key parent page at meta)

-- the two pages of a root split are made, with the halves
abbrev pub made_halves : Image → ℕ → ℕ → ℕ → List Record
made_halves root at left right =
    Make left root.kind root.level
    ∷ Make right root.kind root.level
    ∷ (inserts left 0 (take at root.items) ++ inserts right 0 (right_half root at))

-- the root becomes an inner page over the halves
abbrev pub made_root : Image → ℕ → ℕ → ℕ → List Record
made_root root at left right =
    Cut root.page 0
    ∷ Make root.page Inner (root.level + 1)
    ∷ InsertSlot root.page 0 (entry_of [] left)
    ∷ InsertSlot root.page 1 (entry_of (separator root at) right)
    ∷ []

-- both halves move to the two pages that the meta page counts next, and the root becomes an inner page over them
abbrev pub root_split_records : Image → ℕ → Image → List Record
root_split_records root at meta =
    let left = page_count meta in
    let right = page_count meta + 1 in
    made_halves root at left right ++ (linked_to root left right ++ (made_root root at left right ++ counts meta (right + 1) ∷ []))

abbrev pub root_split_plan : Image → ℕ → Image → Plan
root_split_plan root at meta =
    let left = page_count meta in
    let right = page_count meta + 1 in
    split_of (root.page ∷ left ∷ right ∷ meta.page ∷ []) (left ∷ right ∷ []) (root_split_records root at meta)

-- the plan splits the first page below the root with too little room, at the split place
pub record IsSplit (item : LeafItem) (path : List Image) (meta : Image) (plan : Plan) : Type 0 where
  pub above : ℕ
  pub first : IsFirstFull item path (above + 1)
  pub at : ℕ
  pub place : IsSplitPlace (page_on path (above + 1)).items at
  pub plan_is : plan ≡ split_plan item.key (page_on path above) (page_on path (above + 1)) at meta

-- the plan splits the root at the split place
pub record IsRootSplit (path : List Image) (meta : Image) (plan : Plan) : Type 0 where
  pub at : ℕ
  pub place : IsSplitPlace (page_on path 0).items at
  pub plan_is : plan ≡ root_split_plan (page_on path 0) at meta

-- the plan splits the first page with too little room: the root, where that is the one, or one below it
abbrev pub IsSplitOf : Bool → LeafItem → List Image → Image → Plan → Type 0
IsSplitOf true item path meta plan = IsRootSplit path meta plan
IsSplitOf false item path meta plan = IsSplit item path meta plan
