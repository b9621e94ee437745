-- For the proofs: records that are for a page, and records for others.
use Rattle.std.proofs.Common.{◌≡◌, ◌≢◌, ℕ, true, false, eqb, List, [], ◌∷◌, ◌++◌, refl, sym, ap, ◌∙◌, arith}
use Rattle.std.proofs.lemmas.Bool.{eq-eqb, ne_eqb}
use Rattle.page_image.specs.Image.{Image}
use Rattle.redo_record.specs.declared.redo.Record.{Record}
use Rattle.redo_record.specs.Effect.{page_of, effect, step, after_records}
use Rattle.redo_record.proofs.Fold.{after_records-append, after_records-page}
use Rattle.tree_timeline.specs.Types.{Pages}
use Rattle.held_versions.specs.Keeping.{grown}
use Rattle.plan_steps.specs.Parts.{TouchOnly}

pub step_own : (r : Record) (lsn : ℕ) (im : Image) → page_of r ≡ im.page
    → step lsn im r ≡ effect r lsn im
step_own r lsn im e =
    let same : eqb (page_of r) im.page ≡ true = eq-eqb (page_of r) im.page e in rw same refl

pub step_other : (r : Record) (lsn : ℕ) (im : Image) → page_of r ≢ im.page → step lsn im r ≡ im
step_other r lsn im e =
    let other : eqb (page_of r) im.page ≡ false = ne_eqb (page_of r) im.page e in rw other refl

pub one_touches : (r : Record) → TouchOnly (page_of r) (r ∷ [])
one_touches r lsn im ne = step_other r lsn im ne

pub none_touch : (p : ℕ) → TouchOnly p []
none_touch p lsn im ne = refl

pub touch_as : (p q : ℕ) (rs : List Record) → p ≡ q → TouchOnly p rs → TouchOnly q rs
touch_as p q rs e only lsn im ne = only lsn im (λ f. ne (sym e ∙ f))

-- a page of another number is passed over
pub passes : (p q lsn : ℕ) (rs : List Record) (im : Image) → TouchOnly p rs → im.page ≡ q → q ≢ p
    → after_records lsn rs im ≡ im
passes p q lsn rs im only number ne = only lsn im (λ e. ne (sym number ∙ sym e))

-- ---- a group of five parts, each of one page: a leaf, another page, an undo page, slots, meta

pub record Group : Type 0 where
  pub leaf : ℕ
  pub other : ℕ
  pub undo : ℕ
  pub on_leaf : List Record
  pub on_other : List Record
  pub on_undo : List Record
  pub on_slots : List Record
  pub on_meta : List Record
  pub leaf_only : TouchOnly leaf on_leaf
  pub other_only : TouchOnly other on_other
  pub undo_only : TouchOnly undo on_undo
  pub slots_only : TouchOnly 1 on_slots
  pub meta_only : TouchOnly 0 on_meta

abbrev pub records_of : Group → List Record
records_of g = g.on_leaf ++ (g.on_other ++ (g.on_undo ++ (g.on_slots ++ g.on_meta)))

-- a page after the first two parts
abbrev pub early : ℕ → Group → Pages → Pages
early lsn g pages q = after_records lsn g.on_other (after_records lsn g.on_leaf (pages q))

pub one_is_not_zero : ◌≡◌ {A = ℕ} 1 0 → ⊥
one_is_not_zero e = omega (arith, e)

pub zero_is_not_one : ◌≡◌ {A = ℕ} 0 1 → ⊥
zero_is_not_one e = omega (arith, e)

module _ (pages : Pages) (numbered : (q : ℕ) → (pages q).page ≡ q) (lsn : ℕ) (g : Group) where
  parted : (q : ℕ) → grown lsn (records_of g) pages q
      ≡ after_records lsn g.on_meta (after_records lsn g.on_slots
      (after_records lsn g.on_undo (early lsn g pages q)))
  parted q =
      after_records-append lsn g.on_leaf (g.on_other ++ (g.on_undo ++ (g.on_slots ++ g.on_meta)))
      (pages q)
      ∙ (after_records-append lsn g.on_other (g.on_undo ++ (g.on_slots ++ g.on_meta))
      (after_records lsn g.on_leaf (pages q))
      ∙ (after_records-append lsn g.on_undo (g.on_slots ++ g.on_meta) (early lsn g pages q)
      ∙ after_records-append lsn g.on_slots g.on_meta
      (after_records lsn g.on_undo (early lsn g pages q))))

  pub group_numbered : (q : ℕ) → (grown lsn (records_of g) pages q).page ≡ q
  group_numbered q = after_records-page lsn (records_of g) (pages q) ∙ numbered q

  early_number : (q : ℕ) → (early lsn g pages q).page ≡ q
  early_number q =
      after_records-page lsn g.on_other (after_records lsn g.on_leaf (pages q))
      ∙ (after_records-page lsn g.on_leaf (pages q) ∙ numbered q)

  -- a page of the first two parts, or of none
  pub group_early : (q : ℕ) → q ≢ g.undo → q ≢ 1 → q ≢ 0
      → grown lsn (records_of g) pages q ≡ early lsn g pages q
  group_early q x y z =
      let n = early_number q in
      parted q
      ∙ (ap (λ (i : Image). after_records lsn g.on_meta (after_records lsn g.on_slots i))
      (passes g.undo q lsn g.on_undo (early lsn g pages q) g.undo_only n x)
      ∙ (ap (λ (i : Image). after_records lsn g.on_meta i)
      (passes 1 q lsn g.on_slots (early lsn g pages q) g.slots_only n y)
      ∙ passes 0 q lsn g.on_meta (early lsn g pages q) g.meta_only n z))

  pub early_other : (q : ℕ) → q ≢ g.leaf → q ≢ g.other → early lsn g pages q ≡ pages q
  early_other q x y =
      ap (λ (i : Image). after_records lsn g.on_other i)
      (passes g.leaf q lsn g.on_leaf (pages q) g.leaf_only (numbered q) x)
      ∙ passes g.other q lsn g.on_other (pages q) g.other_only (numbered q) y

  pub group_other : (q : ℕ) → q ≢ g.leaf → q ≢ g.other → q ≢ g.undo → q ≢ 1 → q ≢ 0
      → grown lsn (records_of g) pages q ≡ pages q
  group_other q v w x y z = group_early q x y z ∙ early_other q v w

  pub group_undo : g.undo ≢ g.leaf → g.undo ≢ g.other → g.undo ≢ 1 → g.undo ≢ 0
      → grown lsn (records_of g) pages g.undo ≡ after_records lsn g.on_undo (pages g.undo)
  group_undo v w y z =
      let im : Image = after_records lsn g.on_undo (pages g.undo) in
      let n : im.page ≡ g.undo =
      after_records-page lsn g.on_undo (pages g.undo) ∙ numbered g.undo in
      parted g.undo
      ∙ (ap (λ (i : Image). after_records lsn g.on_meta (after_records lsn g.on_slots
      (after_records lsn g.on_undo i))) (early_other g.undo v w)
      ∙ (ap (λ (i : Image). after_records lsn g.on_meta i)
      (passes 1 g.undo lsn g.on_slots im g.slots_only n y)
      ∙ passes 0 g.undo lsn g.on_meta im g.meta_only n z))

  pub group_slots : 1 ≢ g.leaf → 1 ≢ g.other → 1 ≢ g.undo
      → grown lsn (records_of g) pages 1 ≡ after_records lsn g.on_slots (pages 1)
  group_slots v w x =
      let im : Image = after_records lsn g.on_slots (pages 1) in
      let n : im.page ≡ 1 = after_records-page lsn g.on_slots (pages 1) ∙ numbered 1 in
      parted 1
      ∙ (ap (λ (i : Image). after_records lsn g.on_meta (after_records lsn g.on_slots
      (after_records lsn g.on_undo i))) (early_other 1 v w)
      ∙ (ap (λ (i : Image). after_records lsn g.on_meta (after_records lsn g.on_slots i))
      (passes g.undo 1 lsn g.on_undo (pages 1) g.undo_only (numbered 1) x)
      ∙ passes 0 1 lsn g.on_meta im g.meta_only n one_is_not_zero))

  pub group_meta : 0 ≢ g.leaf → 0 ≢ g.other → 0 ≢ g.undo
      → grown lsn (records_of g) pages 0 ≡ after_records lsn g.on_meta (pages 0)
  group_meta v w x =
      parted 0
      ∙ (ap (λ (i : Image). after_records lsn g.on_meta (after_records lsn g.on_slots
      (after_records lsn g.on_undo i))) (early_other 0 v w)
      ∙ (ap (λ (i : Image). after_records lsn g.on_meta (after_records lsn g.on_slots i))
      (passes g.undo 0 lsn g.on_undo (pages 0) g.undo_only (numbered 0) x)
      ∙ ap (λ (i : Image). after_records lsn g.on_meta i)
      (passes 1 0 lsn g.on_slots (pages 0) g.slots_only (numbered 0) zero_is_not_one)))
