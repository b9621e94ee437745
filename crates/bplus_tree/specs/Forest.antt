-- Stated: trees that stand side by side on the pages of one store.
use Rattle.std.specs.Prelude.{◌≡◌, ◌≤◌, ◌+◌, ◌⊎◌, ℕ, List, Contains, nat_eq, if◌then◌else◌}
use Rattle.rm_base.specs.declared.limits.TheConstants.{FIRST_FREE_PAGE_ID, MAX_PAGES, MAX_TREE_LEVEL}
use Rattle.page_image.specs.Image.{Image, unmade}
use Rattle.bplus_tree.specs.Tree.{Tree}
use Rattle.page_image.specs.Meta.{IsMeta, page_count}

-- a tree that stands for the items, each page of which belongs to it
pub record Owns (pages : ℕ → Image) (owner : ℕ → ℕ) (root : ℕ) (items : List (List ℕ)) : Type 0 where
  pub tree : Tree pages root items
  pub owned : (page : ℕ) → Contains tree.nodes page → owner page ≡ root

-- Page 0 counts the pages, from that number on none is made, and at each root a tree stands for its items. No page
-- belongs to two trees: each has one root that owns it.
pub record Forest (pages : ℕ → Image) (roots : List ℕ) (items : ℕ → List (List ℕ)) : Type 0 where
  pub meta : IsMeta (pages 0)
  pub low : FIRST_FREE_PAGE_ID ≤ page_count (pages 0)
  pub high : page_count (pages 0) ≤ MAX_PAGES
  pub free : (page : ℕ) → page_count (pages 0) ≤ page → pages page ≡ unmade page
  pub numbered : (page : ℕ) → (pages page).page ≡ page
  pub owner : ℕ → ℕ
  pub trees : (root : ℕ) → Contains roots root → Owns pages owner root (items root)

-- one of the trees stands at the root
abbrev pub IsRoot : (ℕ → Image) → ℕ → Type 0
IsRoot pages root = (roots : List ℕ) × (items : ℕ → List (List ℕ)) × Forest pages roots items × Contains roots root

-- at most one page is left, or the root is as high as there are levels
abbrev pub IsFull : (ℕ → Image) → ℕ → Type 0
IsFull pages root = (MAX_PAGES ≤ page_count (pages 0) + 1) ⊎ (MAX_TREE_LEVEL ≤ (pages root).level)

-- the items of the trees, where the one at the root has new ones
abbrev pub with_tree : (ℕ → List (List ℕ)) → ℕ → List (List ℕ) → ℕ → List (List ℕ)
with_tree items root new r = if nat_eq r root then new else items r
