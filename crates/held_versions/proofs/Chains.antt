-- For the proofs: where undo items stay, chains of versions and undo lists do.
use Rattle.std.proofs.Common.{◌≡◌, ℕ, Bool, true, false, List, [], ◌∷◌, Option, Some, None, inl, inr, refl, sym, ap, subst, ◌∙◌}
use Rattle.std.specs.Prelude.{if◌then◌else◌, option_and_then, nat_eq, bytes_eq, ◌&&◌}
use Rattle.rm_base.specs.declared.places.UndoPtr.{UndoPtr}
use Rattle.page_image.specs.Image.{Image}
use Rattle.page_view.specs.declared.leaf.LeafItem.{LeafItem}
use Rattle.page_view.specs.Leaf.{leaf_of}
use Rattle.undo_versions.specs.declared.items.UndoItem.{UndoItem}
use Rattle.undo_versions.specs.Chains.{GoesOn, version_before}
use Rattle.undo_versions.specs.Walking.{is_page, old_of, replaced}
use Rattle.version_store.specs.Stores.{UndoEntry}
use Rattle.version_store.specs.Versions.{Version}
use Rattle.held_versions.specs.Keeping.{KeepsUndo}
use Rattle.held_versions.specs.Undoing.{Current, Undoes, UndoList, with_item}
use Rattle.held_versions.specs.Versions.{Has, IsPointer, StandsAt, Versions, VersionsAt}

-- ---- chains

pub stands_kept : (old new : ℕ → Image) → KeepsUndo old new → (at : UndoPtr) (undo : UndoItem)
    → StandsAt old at undo → StandsAt new at undo
stands_kept old new keeps at undo stands =
    record { page = stands.page; item = keeps at undo stands.item }

pub pointer_kept : (old new : ℕ → Image) → KeepsUndo old new → (at : UndoPtr)
    → IsPointer old at → IsPointer new at
pointer_kept old new keeps at (inl none) = inl none
pointer_kept old new keeps at (inr found) =
    inr (found.0, stands_kept old new keeps at found.0 found.1)

-- where no page is named, what a page would give is not asked
none_by : (b : Bool) (x y : Option LeafItem) → b ≡ false
    → (if b then x else None) ≡ (if b then y else None)
none_by false x y e = refl
none_by true x y e = absurd cc

pub before_kept : (old new : ℕ → Image) → KeepsUndo old new → (item : LeafItem)
    → IsPointer old item.older → version_before new item ≡ version_before old item
before_kept old new keeps item (inl none) =
    none_by (is_page item.older.page) (replaced (new item.older.page) item.older)
    (replaced (old item.older.page) item.older) (ap is_page none)
before_kept old new keeps item (inr found) =
    ap (λ (o : Option UndoItem). if is_page item.older.page then option_and_then old_of o else None)
    (keeps item.older found.0 found.1.item ∙ sym found.1.item)

-- what the rest of a chain is to be, made another
goes_on : (P Q : LeafItem → Type 0) (N : Type 0) (o : Option LeafItem)
    → ((x : LeafItem) → P x → Q x) → GoesOn P N o → GoesOn Q N o
goes_on P Q N None f h = h
goes_on P Q N (Some x) f h = f x h

pub has_kept : (Says : LeafItem → Version → Type 0) (old new : ℕ → Image) → KeepsUndo old new
    → (item : LeafItem) (v : Version) → Has Says old item v → Has Says new item v
has_kept Says old new keeps item v has = record {
  says = has.says;
  trx = has.trx;
  some = has.some;
  most = has.most;
  pointer = pointer_kept old new keeps item.older has.pointer;
}

pub versions_kept : (Says : LeafItem → Version → Type 0) (old new : ℕ → Image) → KeepsUndo old new
    → (item : LeafItem) (vs : List Version) → Versions Says old item vs → Versions Says new item vs
versions_kept Says old new keeps item [] h = absurd h
versions_kept Says old new keeps item (v ∷ vs) h = (
  has_kept Says old new keeps item v h.0,
  subst (GoesOn (λ x. Versions Says new x vs) (vs ≡ []))
      (sym (before_kept old new keeps item h.0.pointer))
      (goes_on (λ x. Versions Says old x vs) (λ x. Versions Says new x vs) (vs ≡ [])
      (version_before old item) (λ x more. versions_kept Says old new keeps x vs more) h.1),
)

pub versions_at_kept : (Says : LeafItem → Version → Type 0) (old new : ℕ → Image)
    → KeepsUndo old new → (items : List (List ℕ)) (vs : List Version)
    → VersionsAt Says old items vs → VersionsAt Says new items vs
versions_at_kept Says old new keeps [] vs h = h
versions_at_kept Says old new keeps (x ∷ []) vs h =
    versions_kept Says old new keeps (leaf_of x) vs h
versions_at_kept Says old new keeps (x ∷ (y ∷ rest)) vs h = absurd h

-- ---- undo lists

abbrev pub undoes_kept : (old new : ℕ → Image) → KeepsUndo old new → (t : ℕ) (items : Current)
    (at : UndoPtr) (entry : UndoEntry) → Undoes old t items at entry → Undoes new t items at entry
undoes_kept old new keeps t items at entry h = record {
  undo = h.undo;
  stands = stands_kept old new keeps at h.undo h.stands;
  trx = h.trx;
  root = h.root;
  key = h.key;
  item = h.item;
  present = h.present;
  wrote = h.wrote;
  points = h.points;
}

pub undo_list_kept : (old new : ℕ → Image) → KeepsUndo old new → (t : ℕ) (items : Current)
    (at : UndoPtr) (entries : List UndoEntry)
    → UndoList old t items at entries → UndoList new t items at entries
undo_list_kept old new keeps t items at [] h = h
undo_list_kept old new keeps t items at (e ∷ es) h = (
  undoes_kept old new keeps t items at e h.0,
  undo_list_kept old new keeps t (with_item items e.root e.key h.0.undo.old) h.0.undo.before es
      h.1,
)

-- it is the same over the same present items
pub undo_list_over : (pages : ℕ → Image) (t : ℕ) (items others : Current)
    → ((r : ℕ) (k : List ℕ) → others r k ≡ items r k) → (at : UndoPtr) (entries : List UndoEntry)
    → UndoList pages t items at entries → UndoList pages t others at entries
undo_list_over pages t items others same at [] h = h
undo_list_over pages t items others same at (e ∷ es) h = (
  record {
    undo = h.0.undo;
    stands = h.0.stands;
    trx = h.0.trx;
    root = h.0.root;
    key = h.0.key;
    item = h.0.item;
    present = same h.0.undo.root h.0.undo.key ∙ h.0.present;
    wrote = h.0.wrote;
    points = h.0.points;
  },
  undo_list_over pages t (with_item items e.root e.key h.0.undo.old)
      (with_item others e.root e.key h.0.undo.old)
      (λ r k. ap (λ (o : Option LeafItem). if nat_eq r e.root && bytes_eq k e.key then h.0.undo.old else o)
      (same r k)) h.0.undo.before es h.1,
)
