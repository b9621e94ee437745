-- Stated: pages that hold a store, and that they hold the one that is read off them.
use Rattle.std.specs.Prelude.{◌≡◌, ◌≢◌, ◌≤◌, ◌<◌, ℕ, false, List, [], ◌∷◌, Some, length}
use Rattle.rm_base.specs.declared.limits.TheConstants.{MAX_TRX_ID}
use Rattle.std.specs.List.{AllByRecursion}
use Rattle.rm_base.specs.Fields.{AreBytes}
use Rattle.page_image.specs.Image.{Image}
use Rattle.page_view.specs.declared.leaf.LeafItem.{LeafItem}
use Rattle.page_view.specs.Leaf.{leaf_of}
use Rattle.sql_values.specs.declared.schemas.Schema.{Schema}
use Rattle.commit_stamps.specs.Fields.{slot_of}
use Rattle.undo_versions.specs.Chains.{IsChain}
use Rattle.version_store.specs.Stores.{UndoEntry, catalog}
use Rattle.held_versions.specs.Counting.{HasCounters, HasSlots, HasStamps, sessions}
use Rattle.held_versions.specs.Holds.{Holds}
use Rattle.held_versions.specs.Storing.{longest, root_in, schema_at, schema_in, store_of}
use Rattle.held_versions.specs.Tables.{RowSpelled, SpellsTable}
use Rattle.held_versions.specs.Trees.{HasTrees}
use Rattle.held_versions.specs.Undoing.{UndoList, current}
use Rattle.held_versions.specs.Versions.{IsPointer, of_key}

-- an item is spelled well, its transaction has a number that there can be, and it points to an undo
-- item or none
pub record IsGood (Spelled : LeafItem → Type 0) (pages : ℕ → Image) (item : LeafItem) : Type 0 where
  pub spelled : Spelled item
  pub some : 1 ≤ item.trx
  pub most : item.trx ≤ MAX_TRX_ID
  pub pointer : IsPointer pages item.older

-- an item's chain ends, and each item of it is good
pub record IsGoodChain (Spelled : LeafItem → Type 0) (pages : ℕ → Image) (item : LeafItem)
    : Type 0 where
  pub items : List LeafItem
  pub chain : IsChain pages item items
  pub short : length items ≤ longest item.older
  pub each : AllByRecursion (IsGood Spelled pages) items

-- so it is with the one item of a key, where there is one
abbrev pub IsGoodAt : (LeafItem → Type 0) → (ℕ → Image) → List (List ℕ) → Type 0
IsGoodAt Spelled pages [] = Unit {0}
IsGoodAt Spelled pages (x ∷ []) = IsGoodChain Spelled pages (leaf_of x)
IsGoodAt Spelled pages (x ∷ (y ∷ rest)) = ⊥

-- an item of the catalog spells some table
pub record TableSpelled (item : LeafItem) : Type 0 where
  pub lives : item.deleted ≡ false
  pub schema : Schema
  pub root : ℕ
  pub spells : SpellsTable item schema root

-- an item of a table is bytes, and is marked as deleted or spells a row
pub record BytesSpelled (s : Schema) (item : LeafItem) : Type 0 where
  pub key : AreBytes item.key
  pub value : AreBytes item.value
  pub row : RowSpelled s item

-- a table of the catalog: no other one has its root, and its rows are good
pub record IsGoodTable (items : ℕ → List (List ℕ)) (pages : ℕ → Image) (item : LeafItem)
    : Type 0 where
  pub root : root_in item ≢ catalog
  pub only : schema_at (root_in item) (items catalog) ≡ Some (schema_in item)
  pub rows : (k : List ℕ)
      → IsGoodAt (BytesSpelled (schema_in item)) pages (of_key k (items (root_in item)))

-- an undo list that ends
pub record HasUndoList (items : ℕ → List (List ℕ)) (pages : ℕ → Image) (s t : ℕ) : Type 0 where
  pub entries : List UndoEntry
  pub short : length entries < longest (slot_of (pages 1) s).last
  pub list : UndoList pages t (current items) (slot_of (pages 1) s).last entries

-- Counters, stamps, slots and trees are as a store wants them; undo lists and chains end, and their
-- items are good.
pub record IsMeaningful (items : ℕ → List (List ℕ)) (pages : ℕ → Image) : Type 0 where
  pub counters : HasCounters pages (store_of items pages)
  pub stamps : HasStamps pages (store_of items pages)
  pub slots : HasSlots pages (store_of items pages)
  pub undo : (s t : ℕ) → s < sessions → (store_of items pages).slot s ≡ Some t
      → HasUndoList items pages s t
  pub trees : HasTrees items pages (store_of items pages)
  pub tables : (k : List ℕ) → IsGoodAt TableSpelled pages (of_key k (items catalog))
  pub rows : (a x : List ℕ) → of_key a (items catalog) ≡ x ∷ []
      → IsGoodTable items pages (leaf_of x)

-- such pages hold the store that is read off them
abbrev pub MeaningfulHolds : Type 0
MeaningfulHolds =
    (items : ℕ → List (List ℕ)) (pages : ℕ → Image) → IsMeaningful items pages
    → Holds items pages (store_of items pages)
