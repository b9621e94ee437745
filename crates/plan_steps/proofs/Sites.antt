-- For the proofs: what a group of five parts leaves of the pages that hold a store.
use Rattle.std.proofs.Common.{◌≡◌, ◌≢◌, ◌≤◌, ◌<◌, ◌+◌, ◌-◌, ◌*◌, ℕ, Bool, true, false, ◌⊎◌, inl, inr, refl, sym, ap, subst, ◌∙◌, arith}
use Rattle.std.proofs.lemmas.Bool.{cases_eq, cases_lt}
use Rattle.page_image.specs.declared.kind.Kind.{Kind}
use Rattle.page_image.specs.declared.kind.Kind.TheVariants.{Unmade, Meta, Slots, Stamps, Leaf, Inner, Undo}
use Rattle.page_image.specs.Image.{Image, is_slotted}
use Rattle.redo_record.specs.Effect.{after_records}
use Rattle.commit_stamps.specs.Stamping.{stamp_page, stamp_place}
use Rattle.version_store.specs.Stores.{Store}
use Rattle.held_versions.specs.Holds.{Holds}
use Rattle.held_versions.specs.Keeping.{grown, is_of_tree}
use Rattle.tree_timeline.specs.Types.{Items, Pages}
use Rattle.plan_steps.specs.Growth.{IsGrown, UndoGrows}
use Rattle.plan_steps.proofs.Records.{Group, records_of, early, group_early, group_other, group_undo, group_slots, group_meta}
use Rattle.plan_steps.proofs.Growing.{grown_self}

-- ---- kinds

pub slotted_tree : (k : Kind) → is_of_tree k ≡ true → is_slotted k ≡ true
slotted_tree Unmade e = absurd cc
slotted_tree Meta e = absurd cc
slotted_tree Slots e = absurd cc
slotted_tree Stamps e = absurd cc
slotted_tree Leaf e = refl
slotted_tree Inner e = refl
slotted_tree Undo e = absurd cc

pub unslotted_tree : (k : Kind) → is_slotted k ≡ false → is_of_tree k ≡ false
unslotted_tree Unmade e = refl
unslotted_tree Meta e = refl
unslotted_tree Slots e = refl
unslotted_tree Stamps e = refl
unslotted_tree Leaf e = absurd cc
unslotted_tree Inner e = absurd cc
unslotted_tree Undo e = refl

pub true_or_false : (b : Bool) → b ≡ true → b ≡ false → ⊥
true_or_false b e f = let g : true ≡ false = sym e ∙ f in cc

-- pages of kinds that a test tells apart
pub apart : (pages : Pages) (test : Kind → Bool) (p q : ℕ) → test (pages p).kind ≡ true
    → test (pages q).kind ≡ false → p ≢ q
apart pages test p q a b e =
    true_or_false (test (pages q).kind) (ap (λ (x : ℕ). test (pages x).kind) (sym e) ∙ a) b

module _ (items : ℕ → Items) (pages : Pages) (S : Store) (h : Holds items pages S) where
  -- a page of the tree or of undo items is made, and is none of the first ones
  pub made_below : (q : ℕ) → is_slotted (pages q).kind ≡ true → q < S.pages
  made_below q k =
      elim (cases_lt q S.pages) [
        | inl below ↦ below
        | inr past ↦ absurd (true_or_false (is_slotted (pages q).kind) k
            (ap (λ (im : Image). is_slotted im.kind) (h.counters.free q past)))
      ]

  pub stamp_slotted : (q : ℕ) → 2 ≤ q → q ≤ 1025 → is_slotted (pages q).kind ≡ false
  stamp_slotted q low high = by_number (508 * (q - 2) + 1) (omega arith) (omega arith) (omega arith)
      (omega arith)
    where
      by_number : (t : ℕ) → 1 ≤ t → t ≤ 520192 → stamp_page t ≡ q → stamp_place t ≡ 0
          → is_slotted (pages q).kind ≡ false
      by_number t some most page place =
          elim (cases_lt t S.next) [
            | inl given ↦ ap (λ (p : ℕ). is_slotted (pages p).kind) (sym page)
                ∙ ap is_slotted (h.stamps.made t some given).kind
            | inr free ↦ ap (λ (p : ℕ). is_slotted (pages p).kind) (sym page)
                ∙ ap (λ (im : Image). is_slotted im.kind) (h.stamps.free t free most place)
          ]

  -- where the parts of a group stand
  pub record Sites (g : Group) : Type 0 where
    pub of_tree : is_of_tree (pages g.leaf).kind ≡ true
    pub other_is : (g.other ≡ g.leaf) ⊎ (S.pages ≤ g.other)
    pub undo_is : ((pages g.undo).kind ≡ Undo) ⊎ (S.pages ≤ g.undo)
    pub undo_other : g.undo ≢ g.other

  -- the place is that of a page with items, or behind all pages
  abbrev Later : ℕ → Type 0
  Later p = (is_slotted (pages p).kind ≡ true) ⊎ (S.pages ≤ p)

  -- such a page is none of the first ones
  late : (p q : ℕ) → Later p → q ≤ 1025 → is_slotted (pages q).kind ≡ false → q ≢ p
  late p q (inl k) low f e =
      true_or_false (is_slotted (pages p).kind) k
      (ap (λ (x : ℕ). is_slotted (pages x).kind) (sym e) ∙ f)
  late p q (inr past) low f e = let few = h.counters.low in omega (arith, e, past, low, few)

  meta_flat : is_slotted (pages 0).kind ≡ false
  meta_flat = ap is_slotted h.counters.meta.kind

  slots_flat : is_slotted (pages 1).kind ≡ false
  slots_flat = ap is_slotted h.slots.page.kind

  module _ (lsn : ℕ) (g : Group) (w : Sites g) where
    abbrev now : Pages
    now = grown lsn (records_of g) pages

    leaf_late : Later g.leaf
    leaf_late = inl (slotted_tree (pages g.leaf).kind w.of_tree)

    other_late : Later g.other
    other_late = by_case w.other_is
      where
        by_case : (g.other ≡ g.leaf) ⊎ (S.pages ≤ g.other) → Later g.other
        by_case (inl e) = subst Later (sym e) leaf_late
        by_case (inr past) = inr past

    undo_late : Later g.undo
    undo_late = by_case w.undo_is
      where
        by_case : ((pages g.undo).kind ≡ Undo) ⊎ (S.pages ≤ g.undo) → Later g.undo
        by_case (inl k) = inl (ap is_slotted k)
        by_case (inr past) = inr past

    -- a page of undo items or past the last page is of no tree
    undo_no_tree : is_of_tree (pages g.undo).kind ≡ false
    undo_no_tree = by_case w.undo_is
      where
        by_case : ((pages g.undo).kind ≡ Undo) ⊎ (S.pages ≤ g.undo)
            → is_of_tree (pages g.undo).kind ≡ false
        by_case (inl k) = ap is_of_tree k
        by_case (inr past) =
            ap (λ (im : Image). is_of_tree im.kind) (h.counters.free g.undo past)

    pub leaf_apart : g.undo ≢ g.leaf
    leaf_apart e = apart pages is_of_tree g.leaf g.undo w.of_tree undo_no_tree (sym e)

    -- a page without items before the first free one is as it was, but for slots and meta
    pub flat_kept : (q : ℕ) → q ≤ 1025 → is_slotted (pages q).kind ≡ false → q ≢ 1 → q ≢ 0
        → now q ≡ pages q
    flat_kept q low f y z =
        group_other pages h.counters.numbered lsn g q (late g.leaf q leaf_late low f)
        (late g.other q other_late low f) (late g.undo q undo_late low f) y z

    pub stamp_pages_kept : (q : ℕ) → 2 ≤ q → q ≤ 1025 → now q ≡ pages q
    stamp_pages_kept q low high =
        flat_kept q high (stamp_slotted q low high) (λ e. omega (arith, e, low))
        (λ e. omega (arith, e, low))

    pub slots_after : now 1 ≡ after_records lsn g.on_slots (pages 1)
    slots_after =
        group_slots pages h.counters.numbered lsn g
        (late g.leaf 1 leaf_late (omega arith) slots_flat)
        (late g.other 1 other_late (omega arith) slots_flat)
        (late g.undo 1 undo_late (omega arith) slots_flat)

    pub meta_after : now 0 ≡ after_records lsn g.on_meta (pages 0)
    meta_after =
        group_meta pages h.counters.numbered lsn g
        (late g.leaf 0 leaf_late (omega arith) meta_flat)
        (late g.other 0 other_late (omega arith) meta_flat)
        (late g.undo 0 undo_late (omega arith) meta_flat)

    turned : (p q : ℕ) → p ≢ q → q ≢ p
    turned p q ne e = ne (sym e)

    pub undo_after : now g.undo ≡ after_records lsn g.on_undo (pages g.undo)
    undo_after =
        group_undo pages h.counters.numbered lsn g leaf_apart w.undo_other
        (turned 1 g.undo (late g.undo 1 undo_late (omega arith) slots_flat))
        (turned 0 g.undo (late g.undo 0 undo_late (omega arith) meta_flat))

    slotted_apart : (q : ℕ) → is_slotted (pages q).kind ≡ true → (q ≢ 1) × (q ≢ 0)
    slotted_apart q k =
        (apart pages is_slotted q 1 k slots_flat, apart pages is_slotted q 0 k meta_flat)

    -- a page of a tree is as it is after the first two parts
    pub tree_early : (q : ℕ) → is_of_tree (pages q).kind ≡ true → now q ≡ early lsn g pages q
    tree_early q k =
        let s = slotted_apart q (slotted_tree (pages q).kind k) in
        group_early pages h.counters.numbered lsn g q
        (apart pages is_of_tree q g.undo k undo_no_tree) s.0 s.1

    other_apart : (q : ℕ) → is_slotted (pages q).kind ≡ true → q ≢ g.leaf → q ≢ g.other
    other_apart q k ne = by_case w.other_is
      where
        by_case : (g.other ≡ g.leaf) ⊎ (S.pages ≤ g.other) → q ≢ g.other
        by_case (inl e) f = ne (f ∙ e)
        by_case (inr past) f = let below = made_below q k in omega (arith, f, past, below)

    -- and as it was, where it is not the leaf
    pub tree_kept : (q : ℕ) → is_of_tree (pages q).kind ≡ true → q ≢ g.leaf → now q ≡ pages q
    tree_kept q k ne =
        let sk = slotted_tree (pages q).kind k in
        let s = slotted_apart q sk in
        group_other pages h.counters.numbered lsn g q ne (other_apart q sk ne)
        (apart pages is_of_tree q g.undo k undo_no_tree) s.0 s.1

    -- a page past the last one, and past those of the group
    pub free_kept : (q : ℕ) → S.pages ≤ q → q ≢ g.other → q ≢ g.undo → now q ≡ pages q
    free_kept q past x y =
        let few = h.counters.low in
        let below = made_below g.leaf (slotted_tree (pages g.leaf).kind w.of_tree) in
        group_other pages h.counters.numbered lsn g q (λ e. omega (arith, e, past, below)) x y
        (λ e. omega (arith, e, past, few)) (λ e. omega (arith, e, past, few))

    -- undo items stay, where those of the undo page do
    pub undo_grows : ((pages g.undo).kind ≡ Undo
        → IsGrown (pages g.undo) (after_records lsn g.on_undo (pages g.undo)))
        → UndoGrows pages now
    undo_grows own q k = by_case (cases_eq q g.undo)
      where
        by_case : (q ≡ g.undo) ⊎ (q ≢ g.undo) → IsGrown (pages q) (now q)
        by_case (inl same) =
            subst (λ (x : ℕ). IsGrown (pages x) (now x)) (sym same)
            (subst (IsGrown (pages g.undo)) (sym undo_after)
            (own (ap (λ (x : ℕ). (pages x).kind) (sym same) ∙ k)))
        by_case (inr ne) =
            let sk : is_slotted (pages q).kind ≡ true = ap is_slotted k in
            let s = slotted_apart q sk in
            let no_leaf : q ≢ g.leaf =
            turned g.leaf q (apart pages is_of_tree g.leaf q w.of_tree (ap is_of_tree k)) in
            subst (IsGrown (pages q))
            (sym (group_other pages h.counters.numbered lsn g q no_leaf (other_apart q sk no_leaf) ne
            s.0 s.1)) (grown_self (pages q) k)
