-- For the proofs: undo lists over present items of which one is another.
use Rattle.std.proofs.Common.{◌≡◌, ℕ, suc, Bool, true, false, List, [], ◌∷◌, Option, Some, refl, sym, ap, subst, ◌∙◌, eqb-true, arith}
use Rattle.std.specs.Prelude.{if◌then◌else◌, nat_eq, ◌&&◌}
use Rattle.std.specs.Str.{bytes_eq}
use Rattle.rm_base.specs.declared.places.UndoPtr.{UndoPtr}
use Rattle.page_image.specs.Image.{Image}
use Rattle.page_view.specs.declared.leaf.LeafItem.{LeafItem}
use Rattle.undo_versions.specs.declared.items.UndoItem.{UndoItem}
use Rattle.version_store.specs.Held.{count}
use Rattle.version_store.specs.Stores.{UndoEntry}
use Rattle.version_store.proofs.Places.{bytes_differ, bytes_same, bytes_self}
use Rattle.held_versions.specs.Keeping.{KeepsOthers}
use Rattle.held_versions.specs.Undoing.{Current, UndoList, current, first_of, with_item}
use Rattle.held_versions.specs.Versions.{StandsAt}
use Rattle.held_versions.proofs.Chains.{undo_list_over}

-- ---- one item is another

pub with_item_here : (items : Current) (r : ℕ) (k : List ℕ) (x : Option LeafItem)
    → with_item items r k x r k ≡ x
with_item_here items r k x = let b = bytes_self k in grind arith

pub with_item_all : (Q : ℕ → List ℕ → Option LeafItem → Type 0) (items : Current) (r : ℕ)
    (k : List ℕ) (x : Option LeafItem) → Q r k x
    → ((q : ℕ) (j : List ℕ) → (q ≡ r → j ≡ k → ⊥) → Q q j (items q j))
    → (q : ℕ) (j : List ℕ) → Q q j (with_item items r k x q j)
with_item_all Q items r k x here there q j = by_test (nat_eq q r) (bytes_eq j k) refl refl
  where
    by_test : (b c : Bool) → nat_eq q r ≡ b → bytes_eq j k ≡ c
        → Q q j (if b && c then x else items q j)
    by_test true true e f =
        subst (λ z. Q z j x) (sym (eqb-true q r e)) (subst (λ z. Q r z x) (sym (bytes_same j k f)) here)
    by_test true false e f = there q j (λ a b. bytes_differ j k f b)
    by_test false c e f = there q j (λ a b. grind arith)

pub with_item_apart : (items : Current) (r : ℕ) (k : List ℕ) (x : Option LeafItem) (q : ℕ)
    (j : List ℕ) → (q ≡ r → j ≡ k → ⊥) → with_item items r k x q j ≡ items q j
with_item_apart items r k x q j ne = by_test (nat_eq q r) (bytes_eq j k) refl refl
  where
    by_test : (b c : Bool) → nat_eq q r ≡ b → bytes_eq j k ≡ c
        → (if b && c then x else items q j) ≡ items q j
    by_test true true e f = absurd (ne (eqb-true q r e) (bytes_same j k f))
    by_test true false e f = refl
    by_test false c e f = refl

-- twice at one place: the later item counts
pub with_item_twice : (items : Current) (r : ℕ) (k : List ℕ) (x y : Option LeafItem) (q : ℕ)
    (j : List ℕ) → with_item (with_item items r k x) r k y q j ≡ with_item items r k y q j
with_item_twice items r k x y q j = by_test (nat_eq q r && bytes_eq j k)
  where
    by_test : (b : Bool) → (if b then y else (if b then x else items q j)) ≡ (if b then y else items q j)
    by_test true = refl
    by_test false = refl

-- the item that is there changes nothing
pub with_item_same : (items : Current) (r : ℕ) (k : List ℕ) (q : ℕ) (j : List ℕ)
    → with_item items r k (items r k) q j ≡ items q j
with_item_same items r k =
    with_item_all (λ q j x. x ≡ items q j) items r k (items r k) refl (λ q j ne. refl)

-- at two places: either order
pub with_item_turned : (items : Current) (r : ℕ) (k : List ℕ) (x : Option LeafItem) (p : ℕ)
    (i : List ℕ) (y : Option LeafItem) → (p ≡ r → i ≡ k → ⊥) → (q : ℕ) (j : List ℕ)
    → with_item (with_item items r k x) p i y q j ≡ with_item (with_item items p i y) r k x q j
with_item_turned items r k x p i y ne q j =
    by_test (nat_eq q p) (bytes_eq j i) (nat_eq q r) (bytes_eq j k) refl refl refl refl
  where
    both : q ≡ p → j ≡ i → q ≡ r → j ≡ k → ⊥
    both a b c d = ne (sym a ∙ c) (sym b ∙ d)

    by_test : (a b c d : Bool) → nat_eq q p ≡ a → bytes_eq j i ≡ b → nat_eq q r ≡ c → bytes_eq j k ≡ d
        → (if a && b then y else (if c && d then x else items q j))
        ≡ (if c && d then x else (if a && b then y else items q j))
    by_test true true true true e f g h =
        absurd (both (eqb-true q p e) (bytes_same j i f) (eqb-true q r g) (bytes_same j k h))
    by_test true true true false e f g h = refl
    by_test true true false d e f g h = refl
    by_test true false c d e f g h = refl
    by_test false b c d e f g h = refl

-- the present items after a change of one
pub current_put : (r : ℕ) (k : List ℕ) (items others : ℕ → List (List ℕ))
    → KeepsOthers r k items others → (q : ℕ) (j : List ℕ)
    → current others q j ≡ with_item (current items) r k (current others r k) q j
current_put r k items others keeps q j =
    with_item_all (λ p i x. current others p i ≡ x) (current items) r k (current others r k) refl
    (λ p i ne. ap first_of (keeps p i ne)) q j

-- ---- undo lists

-- an entry more: the item that is put is undone by what it replaced
pub undo_list_more : (pages : ℕ → Image) (t : ℕ) (items : Current) (at : UndoPtr)
    (entry : UndoEntry) (entries : List UndoEntry) (undo : UndoItem) (item : LeafItem)
    → StandsAt pages at undo → undo.trx ≡ t → entry.root ≡ undo.root → entry.key ≡ undo.key
    → undo.old ≡ items undo.root undo.key → item.trx ≡ t → item.older ≡ at
    → UndoList pages t items undo.before entries
    → UndoList pages t (with_item items undo.root undo.key (Some item)) at (entry ∷ entries)
undo_list_more pages t items at entry entries undo item stands trx root key old wrote points rest = (
  record {
    undo = undo;
    stands = stands;
    trx = trx;
    root = root;
    key = key;
    item = item;
    present = with_item_here items undo.root undo.key (Some item);
    wrote = wrote;
    points = points;
  },
  undo_list_over pages t items
      (with_item (with_item items undo.root undo.key (Some item)) entry.root entry.key undo.old)
      (λ q j.
      ap (λ (r : ℕ). with_item (with_item items undo.root undo.key (Some item)) r entry.key undo.old q j) root
      ∙ ap (λ (k : List ℕ). with_item (with_item items undo.root undo.key (Some item)) undo.root k undo.old q j) key
      ∙ with_item_twice items undo.root undo.key (Some item) undo.old q j
      ∙ ap (λ (x : Option LeafItem). with_item items undo.root undo.key x q j) old
      ∙ with_item_same items undo.root undo.key q j)
      undo.before entries rest,
)

counted_none : (r : ℕ) (k : List ℕ) (e : UndoEntry) (es : List UndoEntry) → count r k (e ∷ es) ≡ 0
    → (e.root ≡ r → e.key ≡ k → ⊥) × (count r k es ≡ 0)
counted_none r k e es none = by_test (nat_eq e.root r) (bytes_eq e.key k) refl refl none
  where
    by_test : (b c : Bool) → nat_eq e.root r ≡ b → bytes_eq e.key k ≡ c
        → (if b && c then suc (count r k es) else count r k es) ≡ 0
        → (e.root ≡ r → e.key ≡ k → ⊥) × (count r k es ≡ 0)
    by_test true true f g zero = absurd (omega (arith, zero))
    by_test true false f g zero = ((λ a b. bytes_differ e.key k g b), zero)
    by_test false c f g zero = ((λ a b. grind arith), zero)

-- a list without an entry of a place, where the item there is another
pub undo_list_apart : (pages : ℕ → Image) (t : ℕ) (items : Current) (r : ℕ) (k : List ℕ)
    (x : Option LeafItem) (at : UndoPtr) (entries : List UndoEntry) → count r k entries ≡ 0
    → UndoList pages t items at entries → UndoList pages t (with_item items r k x) at entries
undo_list_apart pages t items r k x at [] none h = h
undo_list_apart pages t items r k x at (e ∷ es) none h =
    let apart = counted_none r k e es none in
    let away : h.0.undo.root ≡ r → h.0.undo.key ≡ k → ⊥ = λ a b. apart.0 (h.0.root ∙ a) (h.0.key ∙ b) in (
      record {
        undo = h.0.undo;
        stands = h.0.stands;
        trx = h.0.trx;
        root = h.0.root;
        key = h.0.key;
        item = h.0.item;
        present = with_item_apart items r k x h.0.undo.root h.0.undo.key away ∙ h.0.present;
        wrote = h.0.wrote;
        points = h.0.points;
      },
      undo_list_over pages t (with_item (with_item items e.root e.key h.0.undo.old) r k x)
          (with_item (with_item items r k x) e.root e.key h.0.undo.old)
          (with_item_turned items r k x e.root e.key h.0.undo.old apart.0) h.0.undo.before es
          (undo_list_apart pages t (with_item items e.root e.key h.0.undo.old) r k x h.0.undo.before es
          apart.1 h.1),
    )
