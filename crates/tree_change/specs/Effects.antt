-- Stated: what a plan's records do to a tree's pages.
use Rattle.std.specs.Prelude.{◌≡◌, ◌≢◌, ◌≤◌, ◌<◌, ◌+◌, ◌⊎◌, ◌↔◌, ℕ, List, [], ◌∷◌, ◌++◌, length, Contains}
use Rattle.rm_base.specs.declared.limits.TheConstants.{MAX_PAGES}
use Rattle.std.specs.List.{AllByRecursion}
use Rattle.page_image.specs.Image.{Image, unmade}
use Rattle.redo_record.specs.declared.redo.Record.{Record}
use Rattle.redo_record.specs.declared.plans.Plan.{Plan}
use Rattle.redo_record.specs.Effect.{after_records, RecordsApply}
use Rattle.redo_record.specs.Spelling.{IsAdmitted}
use Rattle.bplus_tree.specs.Tree.{Tree}
use Rattle.tree_change.specs.Places.{before, behind}
use Rattle.page_image.specs.Meta.{IsMeta, page_count}
use Rattle.tree_change.specs.Way.{IsWayTo}

-- the pages after the records of a group with this LSN
abbrev pub pages_after : ℕ → List Record → (ℕ → Image) → ℕ → Image
pages_after lsn records pages page = after_records lsn records (pages page)

-- a page that is none of these stays as it is
abbrev pub TouchesOnly : List ℕ → List Record → Type 0
TouchesOnly named records =
    (lsn : ℕ) (im : Image) → AllByRecursion (λ page. page ≢ im.page) named → after_records lsn records im ≡ im

-- the items with this one for its key: it joins them, or takes the place of the one with its key
abbrev pub with_item : List ℕ → List ℕ → List (List ℕ) → List (List ℕ)
with_item key item items = before key items ++ item ∷ behind key items

-- the items without the one with the key
abbrev pub without_item : List ℕ → List (List ℕ) → List (List ℕ)
without_item key items = before key items ++ behind key items

-- the records can be those of one group of a log
pub record MakeGroup (records : List Record) : Type 0 where
  pub some : 1 ≤ length records
  pub most : length records ≤ 65535
  pub each : AllByRecursion IsAdmitted records

-- a tree stands for the items, on these pages, and is so high
pub record StandsOn (pages : ℕ → Image) (root : ℕ) (items : List (List ℕ)) (nodes : List ℕ) (height : ℕ) : Type 0 where
  pub tree : Tree pages root items
  pub nodes_are : tree.nodes ≡ nodes
  pub level_is : tree.level ≡ height

-- a tree stands for the items, on exactly the old pages and the new ones
pub record GrowsOn (pages : ℕ → Image) (root : ℕ) (items : List (List ℕ)) (old new : List ℕ) : Type 0 where
  pub tree : Tree pages root items
  pub nodes_are : (page : ℕ) → Contains tree.nodes page ↔ (Contains old page ⊎ Contains new page)

-- In each tree with the path, the plan's records apply in order to each page, and change only the plan's pages, which are pages of the tree.
-- After them the tree stands for the changed items, on the same pages.
pub record Carries (key : List ℕ) (path : List Image) (plan : Plan) (change : List (List ℕ) → List (List ℕ)) : Type 0 where
  pub group : MakeGroup plan.records
  pub only : TouchesOnly plan.pages plan.records
  pub within : (w : IsWayTo key path) (page : ℕ) → Contains plan.pages page → Contains w.tree.nodes page
  pub applies : (w : IsWayTo key path) (lsn page : ℕ) → (w.pages page).page ≡ page → RecordsApply lsn plan.records (w.pages page)
  pub stands : (w : IsWayTo key path) (lsn : ℕ) → StandsOn (pages_after lsn plan.records w.pages) w.root (change w.items) w.tree.nodes w.tree.level

-- in the tree's pages, the meta page is this one, and the pages that the plan makes are not made yet
pub record IsFresh (pages : ℕ → Image) (meta : Image) (plan : Plan) : Type 0 where
  pub meta_is : pages meta.page ≡ meta
  pub unmade : AllByRecursion (λ page. pages page ≡ unmade page) plan.made

-- it is a meta page that counts so many pages
pub record Counts (meta : Image) (pages : ℕ) : Type 0 where
  pub is_meta : IsMeta meta
  pub count_is : page_count meta ≡ pages

-- the pages that the plan makes, at least one, are the next ones that the meta page counts
pub record MakesNext (meta : Image) (plan : Plan) : Type 0 where
  pub some : 1 ≤ length plan.made
  pub next : AllByRecursion (λ page. (page_count meta ≤ page) × (page < page_count meta + length plan.made)) plan.made
  pub bound : page_count meta + length plan.made ≤ MAX_PAGES

-- In each tree with the path, the plan's records apply in order to each page, and change only the plan's pages, which are pages of the tree,
-- pages that the plan makes, and the meta page. After them the tree stands for the same items, on its pages and those that were made, and the meta page counts these too.
pub record Keeps (key : List ℕ) (path : List Image) (meta : Image) (plan : Plan) : Type 0 where
  pub group : MakeGroup plan.records
  pub only : TouchesOnly plan.pages plan.records
  pub within : (w : IsWayTo key path) (page : ℕ) → Contains plan.pages page → Contains w.tree.nodes page ⊎ (Contains plan.made page ⊎ (page ≡ meta.page))
  pub made : MakesNext meta plan
  pub applies : (w : IsWayTo key path) → IsFresh w.pages meta plan → (lsn page : ℕ) → (w.pages page).page ≡ page → RecordsApply lsn plan.records (w.pages page)
  pub stands : (w : IsWayTo key path) → IsFresh w.pages meta plan → (lsn : ℕ) → GrowsOn (pages_after lsn plan.records w.pages) w.root w.items w.tree.nodes plan.made
  pub counts : (w : IsWayTo key path) → IsFresh w.pages meta plan → (lsn : ℕ) → Counts (pages_after lsn plan.records w.pages meta.page) (page_count meta + length plan.made)

-- As `Carries`, and besides the page that the meta page counts next becomes an empty tree, and is counted.
pub record Begins (key : List ℕ) (path : List Image) (meta : Image) (plan : Plan) (change : List (List ℕ) → List (List ℕ)) : Type 0 where
  pub group : MakeGroup plan.records
  pub only : TouchesOnly plan.pages plan.records
  pub within : (w : IsWayTo key path) (page : ℕ) → Contains plan.pages page → Contains w.tree.nodes page ⊎ (Contains plan.made page ⊎ (page ≡ meta.page))
  pub made : MakesNext meta plan
  pub applies : (w : IsWayTo key path) → IsFresh w.pages meta plan → (lsn page : ℕ) → (w.pages page).page ≡ page → RecordsApply lsn plan.records (w.pages page)
  pub stands : (w : IsWayTo key path) → IsFresh w.pages meta plan → (lsn : ℕ) → StandsOn (pages_after lsn plan.records w.pages) w.root (change w.items) w.tree.nodes w.tree.level
  pub begins : (w : IsWayTo key path) → IsFresh w.pages meta plan → (lsn : ℕ) → StandsOn (pages_after lsn plan.records w.pages) (page_count meta) [] (page_count meta ∷ []) 0
  pub counts : (w : IsWayTo key path) → IsFresh w.pages meta plan → (lsn : ℕ) → Counts (pages_after lsn plan.records w.pages meta.page) (page_count meta + length plan.made)
