-- For the proofs: pages hold a store where they keep its undo items and its trees.
use Rattle.std.proofs.Common.{◌≡◌, ◌<◌, ℕ, Bool, true, List, Option, Some, None, inl, inr, refl, sym, ap, subst, ◌∙◌}
use Rattle.std.specs.Prelude.{if◌then◌else◌, ◌&&◌, nat_eq}
use Rattle.rm_base.specs.declared.places.UndoPtr.{UndoPtr}
use Rattle.page_image.specs.declared.kind.Kind.{Kind}
use Rattle.page_image.specs.declared.kind.Kind.TheVariants.{Unmade, Meta, Slots, Stamps, Leaf, Inner, Undo}
use Rattle.page_image.specs.Image.{Image, is_slotted}
use Rattle.page_view.specs.Undo.{Undone}
use Rattle.commit_stamps.specs.Fields.{slot_of}
use Rattle.sql_database.specs.Catalog.{schema_of}
use Rattle.undo_versions.specs.declared.items.UndoItem.{UndoItem}
use Rattle.undo_versions.specs.Reading.{is_undo, item_or_none, older}
use Rattle.version_store.specs.Contents.{newest_root}
use Rattle.version_store.specs.Stores.{Store, catalog}
use Rattle.version_store.specs.Versions.{Version}
use Rattle.held_versions.specs.Counting.{HasCounters, HasStamps, HasSlots, sessions}
use Rattle.held_versions.specs.Holds.{Holds}
use Rattle.held_versions.specs.Keeping.{KeepsItems, KeepsTrees, KeepsUndo, is_of_tree}
use Rattle.held_versions.specs.Tables.{SaysRow, SaysTable}
use Rattle.held_versions.specs.Trees.{HasTrees, IsRoot}
use Rattle.held_versions.specs.Undoing.{UndoList, current}
use Rattle.held_versions.specs.Versions.{VersionsAt, of_key}
use Rattle.held_versions.proofs.Chains.{versions_at_kept}
use Rattle.held_versions.proofs.Standing.{kept_tree, same_at}

-- ---- pages with items

slotted_tree : (k : Kind) → is_of_tree k ≡ true → is_slotted k ≡ true
slotted_tree Unmade e = absurd cc
slotted_tree Meta e = absurd cc
slotted_tree Slots e = absurd cc
slotted_tree Stamps e = absurd cc
slotted_tree Leaf e = refl
slotted_tree Inner e = refl
slotted_tree Undo e = absurd cc

abbrev item_by : Kind → Bool → Option Undone → Option UndoItem
item_by kind same found = item_or_none (if is_undo kind && same then found else None)

slotted_undo : (k : Kind) (same : Bool) (found : Option Undone) (undo : UndoItem)
    → item_by k same found ≡ Some undo → is_slotted k ≡ true
slotted_undo Unmade same found undo e = absurd cc
slotted_undo Meta same found undo e = absurd cc
slotted_undo Slots same found undo e = absurd cc
slotted_undo Stamps same found undo e = absurd cc
slotted_undo Leaf same found undo e = refl
slotted_undo Inner same found undo e = refl
slotted_undo Undo same found undo e = refl

-- a page with an undo item has items
pub undo_slotted : (page : Image) (at : UndoPtr) (undo : UndoItem)
    → older page at ≡ Some undo → is_slotted page.kind ≡ true
undo_slotted page at undo e =
    slotted_undo page.kind (nat_eq page.page at.page) _ undo e

pub keeps_undo : (old new : ℕ → Image) → KeepsItems old new → KeepsUndo old new
keeps_undo old new keeps at undo here =
    ap (λ (page : Image). older page at)
    (keeps at.page (undo_slotted (old at.page) at undo here)) ∙ here

pub keeps_trees : (old new : ℕ → Image) → KeepsItems old new → KeepsTrees old new
keeps_trees old new keeps q of_tree = keeps q (slotted_tree (old q).kind of_tree)

-- ---- the trees

root_same : (S T : Store) → T.rows ≡ S.rows → (r : ℕ) → IsRoot T r → IsRoot S r
root_same S T same r (inl is) = inl is
root_same S T same r (inr named) =
    inr (
      named.0,
      ap (λ (rows : ℕ → List ℕ → List Version). newest_root (rows catalog named.0)) (sym same)
          ∙ named.1,
    )

pub trees_kept : (items : ℕ → List (List ℕ)) (old new : ℕ → Image) (S T : Store)
    → KeepsTrees old new → T.rows ≡ S.rows → HasTrees items old S → HasTrees items new T
trees_kept items old new S T keeps same has =
    record {
      trees = λ r a. kept_tree old new r (items r) (has.trees r (root_same S T same r a))
          (same_at old new keeps r (items r) (has.trees r (root_same S T same r a)));
      apart = λ p q r a b c d.
          has.apart p q r (root_same S T same q a) (root_same S T same r b) c d;
    }

-- ---- the store

-- The undo lists of the open transactions, by themselves.
abbrev pub HasUndo : (ℕ → List (List ℕ)) → (ℕ → Image) → Store → Type 0
HasUndo items pages S =
    (s t : ℕ) → s < sessions → S.slot s ≡ Some t
    → UndoList pages t (current items) (slot_of (pages 1) s).last (S.undo s)

-- a group that changes no version and no item of a tree: what is to show is all but the versions
pub holds_same : (items : ℕ → List (List ℕ)) (old new : ℕ → Image) (S T : Store)
    → Holds items old S → KeepsUndo old new → T.rows ≡ S.rows → HasCounters new T
    → HasStamps new T → HasSlots new T → HasUndo items new T → HasTrees items new T
    → Holds items new T
holds_same items old new S T h undo same counters stamps slots lists trees = record {
  counters = counters;
  stamps = stamps;
  slots = slots;
  undo = lists;
  trees = trees;
  tables = λ k.
      subst (VersionsAt SaysTable new (of_key k (items catalog)))
      (ap (λ (rows : ℕ → List ℕ → List Version). rows catalog k) (sym same))
      (versions_at_kept SaysTable old new undo (of_key k (items catalog)) (S.rows catalog k)
      (h.tables k));
  rows = λ a k v row one is.
      subst (VersionsAt (SaysRow (schema_of row)) new (of_key k (items v.root)))
      (ap (λ (rows : ℕ → List ℕ → List Version). rows v.root k) (sym same))
      (versions_at_kept (SaysRow (schema_of row)) old new undo (of_key k (items v.root))
      (S.rows v.root k)
      (h.rows a k v row
      (ap (λ (rows : ℕ → List ℕ → List Version). rows catalog a) (sym same) ∙ one) is));
}

-- where the pages of trees are as they were, so are the trees
pub holds_kept : (items : ℕ → List (List ℕ)) (old new : ℕ → Image) (S T : Store)
    → Holds items old S → KeepsUndo old new → KeepsTrees old new → T.rows ≡ S.rows
    → HasCounters new T → HasStamps new T → HasSlots new T → HasUndo items new T
    → Holds items new T
holds_kept items old new S T h undo trees same counters stamps slots lists =
    holds_same items old new S T h undo same counters stamps slots lists
    (trees_kept items old new S T trees same h.trees)
