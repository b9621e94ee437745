-- For the proofs: the records of a group apply where those of each part do.
use Rattle.std.proofs.Common.{◌≡◌, ◌≢◌, ◌≤◌, ℕ, Bool, true, false, List, [], ◌∷◌, ◌++◌, Option, Some, None, ◌⊎◌, inl, inr, refl, sym, ap, subst, ◌∙◌, arith}
use Rattle.std.specs.List.{AllByRecursion}
use Rattle.std.proofs.lemmas.Bool.{cases_eq}
use Rattle.rm_base.specs.declared.places.UndoPtr.{UndoPtr}
use Rattle.page_image.specs.declared.kind.Kind.TheVariants.{Undo}
use Rattle.page_image.specs.Image.{Image, is_slotted}
use Rattle.redo_record.specs.declared.redo.Record.{Record}
use Rattle.redo_record.specs.Effect.{RecordsApply, after_records, page_of}
use Rattle.redo_record.proofs.Fold.{RecordsApply-append, after_records-page}
use Rattle.commit_stamps.specs.Plans.{points}
use Rattle.undo_versions.specs.declared.appending.UndoStep.{UndoStep}
use Rattle.undo_versions.specs.declared.items.UndoItem.{UndoItem}
use Rattle.undo_versions.specs.Appending.{bytes_of, fits_bytes, step_by}
use Rattle.version_store.specs.Stores.{Store}
use Rattle.held_versions.specs.Holds.{Holds}
use Rattle.held_versions.specs.Keeping.{is_of_tree}
use Rattle.held_versions.specs.Trees.{IsRoot}
use Rattle.held_versions.proofs.Standing.{node_of_tree}
use Rattle.tree_timeline.specs.Types.{Items, Pages}
use Rattle.plan_steps.specs.Applying.{ChangeApplies, UndoApplies}
use Rattle.plan_steps.specs.Parts.{ChangesLeaf, CountsMade, counts_made, undo_in_use}
use Rattle.plan_steps.proofs.Placing.{placed, undo_is}
use Rattle.plan_steps.proofs.Records.{passes, step_other, zero_is_not_one}
use Rattle.plan_steps.proofs.Sites.{true_or_false}

-- the records are for this page
abbrev AreFor : ℕ → List Record → Type 0
AreFor page records = AllByRecursion (λ r. page_of r ≡ page) records

none_apply : (lsn page q : ℕ) (rs : List Record) (im : Image) → AreFor page rs → im.page ≡ q
    → q ≢ page → RecordsApply lsn rs im
none_apply lsn page q [] im own n ne = tt
none_apply lsn page q (r ∷ rs) im own n ne =
    let other : page_of r ≢ im.page = λ e. ne (sym n ∙ (sym e ∙ own.0)) in (
      (λ e. absurd (other e)),
      subst (λ (i : Image). RecordsApply lsn rs i) (sym (step_other r lsn im other))
          (none_apply lsn page q rs im own.1 n ne),
    )

none_after : (lsn page q : ℕ) (rs : List Record) (im : Image) → AreFor page rs → im.page ≡ q
    → q ≢ page → after_records lsn rs im ≡ im
none_after lsn page q [] im own n ne = refl
none_after lsn page q (r ∷ rs) im own n ne =
    let other : page_of r ≢ im.page = λ e. ne (sym n ∙ (sym e ∙ own.0)) in
    ap (λ (i : Image). after_records lsn rs i) (step_other r lsn im other)
    ∙ none_after lsn page q rs im own.1 n ne

-- one part, and then the rest: for the page of the part, and for others
part_applies : (lsn page q : ℕ) (rs ss : List Record) (im : Image) → AreFor page rs → im.page ≡ q
    → (q ≡ page → RecordsApply lsn rs im)
    → ((om : Image) → om.page ≡ q → (q ≢ page → om ≡ im) → RecordsApply lsn ss om)
    → RecordsApply lsn (rs ++ ss) im
part_applies lsn page q rs ss im own n here rest = by_case (cases_eq q page)
  where
    number : (after_records lsn rs im).page ≡ q
    number = after_records-page lsn rs im ∙ n

    by_case : (q ≡ page) ⊎ (q ≢ page) → RecordsApply lsn (rs ++ ss) im
    by_case (inl e) =
        RecordsApply-append lsn rs ss im (here e)
        (rest (after_records lsn rs im) number (λ ne. absurd (ne e)))
    by_case (inr ne) =
        RecordsApply-append lsn rs ss im (none_apply lsn page q rs im own n ne)
        (rest (after_records lsn rs im) number (λ _. none_after lsn page q rs im own n ne))

last_applies : (lsn page q : ℕ) (rs : List Record) (im : Image) → AreFor page rs → im.page ≡ q
    → (q ≡ page → RecordsApply lsn rs im) → RecordsApply lsn rs im
last_applies lsn page q rs im own n here = by_case (cases_eq q page)
  where
    by_case : (q ≡ page) ⊎ (q ≢ page) → RecordsApply lsn rs im
    by_case (inl e) = here e
    by_case (inr ne) = none_apply lsn page q rs im own n ne

-- ---- the parts

module _ (items : ℕ → Items) (pages : Pages) (S : Store) (h : Holds items pages S) (root leaf : ℕ)
    (named : IsRoot S root) (now : Items) (lsn : ℕ) (on_leaf : List Record)
    (changes : ChangesLeaf items pages lsn root leaf now on_leaf) where
  of_tree : is_of_tree (pages leaf).kind ≡ true
  of_tree =
      node_of_tree pages root (items root) (h.trees.trees root named) leaf
      (changes.node (h.trees.trees root named))

  pub leaf_not : (q : ℕ) → is_of_tree (pages q).kind ≡ false → q ≢ leaf
  leaf_not q f e =
      true_or_false (is_of_tree (pages leaf).kind) of_tree
      (ap (λ (x : ℕ). is_of_tree (pages x).kind) (sym e) ∙ f)

  pub not_slots : 1 ≢ leaf
  not_slots = leaf_not 1 (ap is_of_tree h.slots.page.kind)

  pub not_meta : 0 ≢ leaf
  not_meta = leaf_not 0 (ap is_of_tree h.counters.meta.kind)

  -- a page that is not the leaf is as it was after the leaf's records
  pub leaf_after : (q : ℕ) → q ≢ leaf → after_records lsn on_leaf (pages q) ≡ pages q
  leaf_after q ne = passes leaf q lsn on_leaf (pages q) changes.only (h.counters.numbered q) ne

slot_for : (items : ℕ → Items) (pages : Pages) (S : Store) → Holds items pages S → (s : ℕ)
    (at : UndoPtr) → AreFor 1 (points (pages 1) s at ∷ [])
slot_for items pages S h s at = (h.slots.page.number, tt)

pub undo_applies : UndoApplies
undo_applies items pages S lsn s leaf on_leaf undo h named is leaf_applies q =
    RecordsApply-append lsn on_leaf (points (pages 1) s undo.before ∷ []) (pages q) (leaf_applies q)
    (last_applies lsn 1 q (points (pages 1) s undo.before ∷ [])
    (after_records lsn on_leaf (pages q)) (slot_for items pages S h s undo.before)
    (after_records-page lsn on_leaf (pages q) ∙ h.counters.numbered q)
    (λ e.
    subst (RecordsApply lsn (points (pages 1) s undo.before ∷ []))
    (sym (ap (λ (x : ℕ). after_records lsn on_leaf (pages x)) e
    ∙ leaf_after items pages S h undo.root leaf named _ lsn on_leaf is.changes 1
    (not_slots items pages S h undo.root leaf named _ lsn on_leaf is.changes)))
    (is.pointed.runs.applies lsn).0))

-- ---- a change

undo_for : (pages : Pages) (undo : UndoItem) (step : UndoStep) (b : Bool)
    → step ≡ step_by b (pages 0) (undo_in_use pages) (bytes_of undo)
    → AreFor step.at.page step.records
undo_for pages undo step true e =
    subst (λ (x : UndoStep). AreFor x.at.page x.records) (sym e) (refl, tt)
undo_for pages undo step false e =
    subst (λ (x : UndoStep). AreFor x.at.page x.records) (sym e) (refl, (refl, tt))

meta_for : (meta : Image) (o : Option ℕ) → meta.page ≡ 0 → AreFor 0 (counts_made meta o)
meta_for meta None e = tt
meta_for meta (Some page) e = (e, tt)

meta_applies : (meta : Image) (o : Option ℕ) (lsn : ℕ) → CountsMade meta o
    → RecordsApply lsn (counts_made meta o) meta
meta_applies meta None lsn c = tt
meta_applies meta (Some page) lsn c = c.1.runs.applies lsn

pub change_applies : ChangeApplies
change_applies items pages S lsn s t root leaf on_leaf item undo step h named is leaf_applies q =
    let a = is.appends in
    let p = placed items pages S h s undo step a in
    RecordsApply-append lsn on_leaf
    (step.records ++ (points (pages 1) s step.at ∷ counts_made (pages 0) step.made)) (pages q)
    (leaf_applies q)
    (part_applies lsn step.at.page q step.records
    (points (pages 1) s step.at ∷ counts_made (pages 0) step.made)
    (after_records lsn on_leaf (pages q))
    (undo_for pages undo step
    (fits_bytes (undo_in_use pages) (bytes_of undo)) a.step_is) number
    (λ e.
    subst (RecordsApply lsn step.records) (sym (early_is step.at.page e undo_not_leaf))
    (subst (RecordsApply lsn step.records) p.page_is (a.appends.runs.applies lsn)))
    (λ om n same.
    part_applies lsn 1 q (points (pages 1) s step.at ∷ []) (counts_made (pages 0) step.made) om
    (slot_for items pages S h s step.at) n
    (λ e.
    subst (RecordsApply lsn (points (pages 1) s step.at ∷ []))
    (sym (same (λ f. undo_not 1 (ap is_slotted h.slots.page.kind) one_low (sym e ∙ f))
    ∙ early_is 1 e slots_not)) (a.pointed.runs.applies lsn).0)
    (λ om' n' same'.
    last_applies lsn 0 q (counts_made (pages 0) step.made) om'
    (meta_for (pages 0) step.made h.counters.meta.number) n'
    (λ e.
    subst (RecordsApply lsn (counts_made (pages 0) step.made))
    (sym (same' (λ f. zero_is_not_one (sym e ∙ f))
    ∙ (same (λ f. undo_not 0 (ap is_slotted h.counters.meta.kind) zero_low (sym e ∙ f))
    ∙ early_is 0 e meta_not)))
    (meta_applies (pages 0) step.made lsn is.counts)))))
  where
    number : (after_records lsn on_leaf (pages q)).page ≡ q
    number = after_records-page lsn on_leaf (pages q) ∙ h.counters.numbered q

    slots_not : 1 ≢ leaf
    slots_not = not_slots items pages S h root leaf named _ lsn on_leaf is.changes

    meta_not : 0 ≢ leaf
    meta_not = not_meta items pages S h root leaf named _ lsn on_leaf is.changes

    one_low : 1 ≤ 1025
    one_low = omega arith

    zero_low : 0 ≤ 1025
    zero_low = omega arith

    undo_not_leaf : step.at.page ≢ leaf
    undo_not_leaf = by_case (undo_is items pages S h s undo step is.appends)
      where
        by_case : ((pages step.at.page).kind ≡ Undo) ⊎ (S.pages ≤ step.at.page)
            → step.at.page ≢ leaf
        by_case (inl k) =
            leaf_not items pages S h root leaf named _ lsn on_leaf is.changes step.at.page
            (ap is_of_tree k)
        by_case (inr past) =
            leaf_not items pages S h root leaf named _ lsn on_leaf is.changes step.at.page
            (ap (λ (im : Image). is_of_tree im.kind) (h.counters.free step.at.page past))

    undo_not : (x : ℕ) → is_slotted (pages x).kind ≡ false → x ≤ 1025 → x ≡ step.at.page → ⊥
    undo_not x flat few e = by_case (undo_is items pages S h s undo step is.appends)
      where
        by_case : ((pages step.at.page).kind ≡ Undo) ⊎ (S.pages ≤ step.at.page) → ⊥
        by_case (inl k) =
            true_or_false (is_slotted (pages x).kind)
            (ap (λ (y : ℕ). is_slotted (pages y).kind) e ∙ ap is_slotted k) flat
        by_case (inr past) = let low = h.counters.low in omega (arith, past, e, few, low)

    early_is : (x : ℕ) → q ≡ x → x ≢ leaf → after_records lsn on_leaf (pages q) ≡ pages x
    early_is x e ne =
        ap (λ (y : ℕ). after_records lsn on_leaf (pages y)) e
        ∙ leaf_after items pages S h root leaf named _ lsn on_leaf is.changes x ne
