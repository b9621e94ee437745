-- Stated: how the pages of a tree change from one time to the next.
use Rattle.std.specs.Prelude.{◌≡◌, ◌≢◌, ◌+◌, ◌⊎◌, ℕ, false, true, List, [], ◌∷◌, ◌++◌, Contains}
use Rattle.page_view.specs.Inner.{InnerItem}
use Rattle.bplus_tree.specs.Tree.{is_leaf}
use Rattle.tree_timeline.specs.Types.{Key, Pages}
use Rattle.tree_timeline.specs.Fences.{entries_in}
use Rattle.tree_timeline.specs.Ranges.{height}

-- the tree's inner pages are as before, and its leaves are leaves with the same structure number
pub record KeepsShape (pages others : Pages) (nodes : List ℕ) : Type 0 where
  pub inner : (page : ℕ) → Contains nodes page → is_leaf (pages page).kind ≡ false
      → others page ≡ pages page
  pub leaf : (page : ℕ) → Contains nodes page → is_leaf (pages page).kind ≡ true
      → (is_leaf (others page).kind ≡ true) × ((others page).structure ≡ (pages page).structure)

-- an inner page's entries stand on two pages now, and the key between them is the separator
pub record Halved (whole left right : List InnerItem) (separator : Key) : Type 0 where
  pub first : InnerItem
  pub front : List InnerItem
  pub middle : InnerItem
  pub back : List InnerItem
  pub whole_is : whole ≡ (first ∷ front) ++ (middle ∷ back)
  pub left_is : left ≡ first ∷ front
  pub right_is : right ≡ record { key = []; child = middle.child } ∷ back
  pub separator_is : separator ≡ middle.key

-- A page below the root is split: a new page stands behind it in their parent. Both old pages have
-- the step's LSN for their structure number.
pub record Splits (pages others : Pages) (nodes : List ℕ) (lsn : ℕ) : Type 0 where
  pub parent : ℕ
  pub page : ℕ
  pub new : ℕ
  pub separator : Key
  pub before : List InnerItem
  pub entry : InnerItem
  pub behind : List InnerItem
  pub here : Contains nodes parent
  pub over : is_leaf (pages parent).kind ≡ false
  pub child : entry.child ≡ page
  pub was : entries_in (pages parent) ≡ before ++ (entry ∷ behind)
  pub is : entries_in (others parent)
      ≡ before ++ (entry ∷ (record { key = separator; child = new } ∷ behind))
  pub parent_kind : (others parent).kind ≡ (pages parent).kind
  pub parent_level : (others parent).level ≡ (pages parent).level
  pub page_kind : (others page).kind ≡ (pages page).kind
  pub halves : is_leaf (pages page).kind ≡ false
      → Halved (entries_in (pages page)) (entries_in (others page)) (entries_in (others new))
      separator
  pub parent_marked : (others parent).structure ≡ lsn
  pub page_marked : (others page).structure ≡ lsn
  pub same : (q : ℕ) → Contains nodes q → q ≢ parent → q ≢ page → others q ≡ pages q

-- The root is split: it becomes an inner page over two new ones, with the step's LSN for its
-- structure number.
pub record RootSplits (pages others : Pages) (root : ℕ) (nodes : List ℕ) (lsn : ℕ) : Type 0 where
  pub left : ℕ
  pub right : ℕ
  pub separator : Key
  pub is : entries_in (others root)
      ≡ record { key = []; child = left } ∷ (record { key = separator; child = right } ∷ [])
  pub kind : is_leaf (others root).kind ≡ false
  pub level : (others root).level ≡ height (pages root) + 1
  pub halves : is_leaf (pages root).kind ≡ false
      → Halved (entries_in (pages root)) (entries_in (others left)) (entries_in (others right))
      separator
  pub marked : (others root).structure ≡ lsn
  pub same : (q : ℕ) → Contains nodes q → q ≢ root → others q ≡ pages q

-- one of the three
abbrev pub Step : Pages → Pages → ℕ → List ℕ → ℕ → Type 0
Step pages others root nodes lsn =
    KeepsShape pages others nodes
    ⊎ (Splits pages others nodes lsn ⊎ RootSplits pages others root nodes lsn)
