-- For the proofs: pages hold the same store, with more pages, after a split.
use Rattle.std.proofs.Common.{◌≡◌, ◌≢◌, ◌≤◌, ◌<◌, ℕ, true, false, List, ◌⊎◌, inl, inr, refl, sym, ap, subst, ◌∙◌, arith}
use Rattle.std.specs.Prelude.{Contains}
use Rattle.std.proofs.lemmas.Bool.{cases_eq}
use Rattle.page_image.specs.Meta.{IsSlots, counters_of}
use Rattle.page_image.specs.declared.kind.Kind.TheVariants.{Undo}
use Rattle.page_image.specs.Image.{Image, is_slotted}
use Rattle.redo_record.specs.declared.redo.Record.{Record}
use Rattle.redo_record.proofs.Fold.{after_records-page}
use Rattle.bplus_tree.specs.Tree.{Tree}
use Rattle.commit_stamps.specs.Fields.{slot_of}
use Rattle.sql_database.specs.Catalog.{schema_of}
use Rattle.version_store.specs.Stores.{Store, catalog, split}
use Rattle.held_versions.specs.Counting.{HasCounters, HasSlots, HasStamps, holder}
use Rattle.held_versions.specs.Holds.{Holds}
use Rattle.held_versions.specs.Keeping.{KeepsUndo, grown, is_of_tree}
use Rattle.held_versions.specs.Tables.{SaysRow, SaysTable}
use Rattle.held_versions.specs.Trees.{IsRoot}
use Rattle.held_versions.specs.Undoing.{UndoList, current}
use Rattle.held_versions.specs.Versions.{of_key}
use Rattle.held_versions.proofs.Chains.{undo_list_kept, versions_at_kept}
use Rattle.held_versions.proofs.Parts.{stamps_kept}
use Rattle.held_versions.proofs.Standing.{SameAt, kept_tree, node_of_tree}
use Rattle.tree_timeline.specs.Types.{Items, Pages}
use Rattle.plan_steps.specs.Growth.{IsGrown, UndoGrows}
use Rattle.plan_steps.specs.Splitting.{IsSplit, SplitIsSplit}
use Rattle.plan_steps.proofs.Growing.{grown_keeps, grown_self}
use Rattle.plan_steps.proofs.Sites.{made_below, slotted_tree, stamp_slotted, true_or_false, unslotted_tree}
use Rattle.plan_steps.proofs.Trees.{Again, by_members, trees_by}
use Rattle.plan_steps.proofs.Placing.{counted_alone, counters_after}

module _ (items : ℕ → Items) (pages : Pages) (S : Store) (lsn root count : ℕ)
    (named made : List ℕ) (records : List Record) (h : Holds items pages S) (root_is : IsRoot S root)
    (is : IsSplit items pages lsn root count named made records) where
  abbrev now : Pages
  now = grown lsn records pages

  abbrev T : Store
  T = split S count

  abbrev tree : Tree pages root (items root)
  tree = h.trees.trees root root_is

  more : S.pages ≤ count
  more = let e = h.counters.pages_are in let m = is.more in omega (arith, e, m)

  made_past : (q : ℕ) → Contains made q → S.pages ≤ q
  made_past q c = let e = h.counters.pages_are in let n = is.new q c in omega (arith, e, n.0)

  -- a page that is none of the tree, not made, and not the meta page
  spared : (q : ℕ) → (Contains tree.nodes q → ⊥) → (Contains made q → ⊥) → q ≢ 0
      → now q ≡ pages q
  spared q no_node no_made ne =
      is.only lsn (pages q)
      (by_members (λ p. p ≢ (pages q).page) named
      (λ p c e. by_case p (e ∙ h.counters.numbered q) (is.within tree p c)))
    where
      by_case : (p : ℕ) → p ≡ q → Contains tree.nodes p ⊎ (Contains made p ⊎ (p ≡ 0)) → ⊥
      by_case p e (inl c) = no_node (subst (λ (x : ℕ). Contains tree.nodes x) e c)
      by_case p e (inr (inl c)) = no_made (subst (λ (x : ℕ). Contains made x) e c)
      by_case p e (inr (inr z)) = ne (sym e ∙ z)

  -- an old page that is of no tree
  flat_kept : (q : ℕ) → is_of_tree (pages q).kind ≡ false → q < S.pages → q ≢ 0
      → now q ≡ pages q
  flat_kept q f below ne =
      spared q
      (λ c.
      true_or_false (is_of_tree (pages q).kind) (node_of_tree pages root (items root) tree q c) f)
      (λ c. (let past = made_past q c in omega (arith, past, below))) ne

  not_meta : (q : ℕ) → is_slotted (pages q).kind ≡ true → q ≢ 0
  not_meta q k e =
      true_or_false (is_slotted (pages q).kind) k
      (ap (λ (x : ℕ). is_slotted (pages x).kind) e ∙ ap is_slotted h.counters.meta.kind)

  undo_kept : (q : ℕ) → (pages q).kind ≡ Undo → now q ≡ pages q
  undo_kept q k =
      flat_kept q (ap is_of_tree k) (made_below items pages S h q (ap is_slotted k))
      (not_meta q (ap is_slotted k))

  grows : UndoGrows pages now
  grows q k = subst (IsGrown (pages q)) (sym (undo_kept q k)) (grown_self (pages q) k)

  keeps : KeepsUndo pages now
  keeps = grown_keeps pages now grows

  slots_kept : now 1 ≡ pages 1
  slots_kept =
      flat_kept 1 (ap is_of_tree h.slots.page.kind) (let low = h.counters.low in omega (arith, low))
      (λ e. omega (arith, e))

  counters : HasCounters now T
  counters =
      counters_after pages now S T (counters_of (pages 0)).undo_page h.counters
      (counted_alone (pages 0) (now 0) count is.counts) refl refl more is.most
      (λ q. after_records-page lsn records (pages q) ∙ h.counters.numbered q)
      (ap (λ (im : Image). im.kind)
      (undo_kept (counters_of (pages 0)).undo_page h.counters.undo_made) ∙ h.counters.undo_made)
      (λ q past.
      spared q
      (λ c.
      (let below = made_below items pages S h q
      (slotted_tree (pages q).kind (node_of_tree pages root (items root) tree q c)) in
      let m = more in omega (arith, past, below, m)))
      (λ c. (let n = is.new q c in omega (arith, past, n.1)))
      (λ e. (let m = more in let low = h.counters.low in omega (arith, past, e, m, low))))

  stamps : HasStamps now T
  stamps =
      stamps_kept pages now S T refl refl
      (λ q low high.
      flat_kept q (unslotted_tree (pages q).kind (stamp_slotted items pages S h q low high))
      (let few = h.counters.low in omega (arith, high, few)) (λ e. omega (arith, e, low)))
      h.stamps

  slots : HasSlots now T
  slots = record {
    page = subst IsSlots (sym slots_kept) h.slots.page;
    slots = λ s low. h.slots.slots s low ∙ ap (λ (im : Image). holder (slot_of im s)) (sym slots_kept);
    others = h.slots.others;
  }

  abbrev Stands : ℕ → Type 0
  Stands = Again items items pages now S T h root

  own : Stands root
  own =
      let s = is.stands tree in
      (s.0, λ q c. by_case q (s.1 q c))
    where
      by_case : (q : ℕ) → Contains tree.nodes q ⊎ Contains made q
          → ((a : IsRoot S root) × Contains (h.trees.trees root a).nodes q)
          ⊎ ((root ≡ root) × (S.pages ≤ q))
      by_case q (inl c) = inl (root_is, c)
      by_case q (inr c) = inr (refl, made_past q c)

  other : (r : ℕ) → r ≢ root → IsRoot S r → Stands r
  other r ne a =
      let mine = h.trees.trees r a in
      let same : SameAt pages now mine.nodes =
      by_members (λ q. now q ≡ pages q) mine.nodes
      (λ q c.
      (let k = slotted_tree (pages q).kind (node_of_tree pages r (items r) mine q c) in
      spared q (λ d. ne (h.trees.apart q r root a root_is c d))
      (λ d.
      (let below = made_below items pages S h q k in
      let past = made_past q d in omega (arith, below, past)))
      (not_meta q k))) in
      (kept_tree pages now r (items r) mine same, λ q c. inl (a, c))

  again : (r : ℕ) → IsRoot T r → Stands r
  again r a = by_root (cases_eq r root)
    where
      by_root : (r ≡ root) ⊎ (r ≢ root) → Stands r
      by_root (inl e) = subst Stands (sym e) own
      by_root (inr ne) = other r ne a

  split_holds : Holds items now T
  split_holds = record {
    counters = counters;
    stamps = stamps;
    slots = slots;
    undo = λ s t low e.
        subst (λ (im : Image). UndoList now t (current items) (slot_of im s).last (S.undo s))
        (sym slots_kept)
        (undo_list_kept pages now keeps t (current items) (slot_of (pages 1) s).last (S.undo s)
        (h.undo s t low e));
    trees = trees_by items items pages now S T h root again;
    tables = λ k.
        versions_at_kept SaysTable pages now keeps (of_key k (items catalog)) (S.rows catalog k)
        (h.tables k);
    rows = λ a k v row one e.
        versions_at_kept (SaysRow (schema_of row)) pages now keeps (of_key k (items v.root))
        (S.rows v.root k) (h.rows a k v row one e);
  }

pub split_is_split : SplitIsSplit
split_is_split items pages S lsn root count named made records h root_is is = (
  split_holds items pages S lsn root count named made records h root_is is,
  grows items pages S lsn root count named made records h root_is is,
)
