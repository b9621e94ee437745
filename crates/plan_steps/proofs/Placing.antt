-- For the proofs: where an undo item goes, and what its group makes of the counters.
use Rattle.std.proofs.Common.{◌≡◌, ◌≢◌, ◌≤◌, ℕ, zero, suc, Bool, true, false, nat_eq, List, [], ◌∷◌, ◌++◌, drop, Some, None, ◌⊎◌, inl, inr, refl, sym, ap, subst, ◌∙◌, arith}
use Rattle.std.specs.Prelude.{slice_get}
use Rattle.std.proofs.lemmas.Bool.{le-leb, ne_eqb}
use Rattle.std.proofs.lemmas.List.{drop-drop}
use Rattle.rm_base.specs.Fields.{number}
use Rattle.page_image.specs.declared.kind.Kind.TheVariants.{Undo}
use Rattle.page_image.specs.Image.{Image}
use Rattle.redo_record.specs.Effect.{after_records}
use Rattle.commit_stamps.specs.Effects.{SetsCounters}
use Rattle.page_image.specs.Meta.{Counters, IsMeta, counters_of, page_count}
use Rattle.undo_versions.specs.declared.appending.UndoStep.{UndoStep}
use Rattle.undo_versions.specs.declared.items.UndoItem.{UndoItem}
use Rattle.undo_versions.specs.Appending.{bytes_of, fits_bytes, step_by}
use Rattle.undo_versions.specs.Effects.{CountsUndo, HasNext, page_before}
use Rattle.undo_versions.specs.Reading.{older}
use Rattle.undo_versions.specs.Walking.{is_page}
use Rattle.version_store.specs.Stores.{Store}
use Rattle.held_versions.specs.Counting.{HasCounters}
use Rattle.held_versions.specs.Holds.{Holds}
use Rattle.held_versions.specs.Versions.{StandsAt}
use Rattle.tree_timeline.specs.Types.{Items, Pages}
use Rattle.plan_steps.specs.Growth.{IsGrown}
use Rattle.plan_steps.specs.Parts.{AppendsUndo, TouchOnly, undo_in_use}
use Rattle.plan_steps.proofs.Records.{touch_as}

-- the undo page in use, or the next page
pub record Placed (pages : Pages) (S : Store) (step : UndoStep) : Type 0 where
  pub page_is : page_before (undo_in_use pages) step.made ≡ pages step.at.page
  pub case : ((step.made ≡ None) × (step.at.page ≡ (counters_of (pages 0)).undo_page))
      ⊎ ((step.made ≡ Some S.pages) × (step.at.page ≡ S.pages))

module _ (items : ℕ → Items) (pages : Pages) (S : Store) (h : Holds items pages S) (s : ℕ)
    (undo : UndoItem) (step : UndoStep) (a : AppendsUndo pages s undo step) where
  pub placed : Placed pages S step
  placed =
      by_fit (fits_bytes (undo_in_use pages) (bytes_of undo)) a.step_is
    where
      n : ℕ
      n = (counters_of (pages 0)).undo_page

      by_fit : (b : Bool) → step ≡ step_by b (pages 0) (undo_in_use pages) (bytes_of undo)
          → Placed pages S step
      by_fit true e =
          let made : step.made ≡ None = ap (λ (x : UndoStep). x.made) e in
          let at : step.at.page ≡ n = ap (λ (x : UndoStep). x.at.page) e ∙ h.counters.numbered n in
          record {
            page_is = ap (page_before (undo_in_use pages)) made ∙ ap pages (sym at);
            case = inl (made, at);
          }
      by_fit false e =
          let count : page_count (pages 0) ≡ S.pages = sym h.counters.pages_are in
          let made : step.made ≡ Some S.pages =
          ap (λ (x : UndoStep). x.made) e ∙ ap (λ (x : ℕ). Some x) count in
          let at : step.at.page ≡ S.pages = ap (λ (x : UndoStep). x.at.page) e ∙ count in
          record {
            page_is = ap (page_before (undo_in_use pages)) made
                ∙ (sym (h.counters.free S.pages (omega arith)) ∙ ap pages (sym at));
            case = inr (made, at);
          }

  pub undo_is : ((pages step.at.page).kind ≡ Undo) ⊎ (S.pages ≤ step.at.page)
  undo_is = by_case placed.case
    where
      by_case : ((step.made ≡ None) × (step.at.page ≡ (counters_of (pages 0)).undo_page))
          ⊎ ((step.made ≡ Some S.pages) × (step.at.page ≡ S.pages))
          → ((pages step.at.page).kind ≡ Undo) ⊎ (S.pages ≤ step.at.page)
      by_case (inl (m, e)) = inl (ap (λ (q : ℕ). (pages q).kind) e ∙ h.counters.undo_made)
      by_case (inr (m, e)) = inr (omega (arith, e))

  pub undo_touches : TouchOnly step.at.page step.records
  undo_touches =
      touch_as (page_before (undo_in_use pages) step.made).page step.at.page step.records
      (ap (λ (im : Image). im.page) placed.page_is ∙ h.counters.numbered step.at.page)
      a.appends.runs.only

  -- the undo page after the undo item's records
  pub next_there : (lsn : ℕ)
      → HasNext (pages step.at.page) (after_records lsn step.records (pages step.at.page)) undo step
  next_there lsn =
      subst (λ (im : Image). HasNext im (after_records lsn step.records im) undo step)
      placed.page_is (a.appends.next lsn)

  pub grown_there : (lsn : ℕ) → (pages step.at.page).kind ≡ Undo
      → IsGrown (pages step.at.page) (after_records lsn step.records (pages step.at.page))
  grown_there lsn k =
      let n = next_there lsn in
      record {
        kind = n.kind;
        number = n.number ∙ sym (h.counters.numbered step.at.page);
        items = λ i x e.
            ap (λ (xs : List (List ℕ)). slice_get xs i) n.items
            ∙ still (pages step.at.page).items i x (bytes_of undo ∷ []) e;
      }
    where
      still : (xs : List (List ℕ)) (i : ℕ) (x : List ℕ) (ys : List (List ℕ))
          → slice_get xs i ≡ Some x → slice_get (xs ++ ys) i ≡ Some x
      still [] i x ys e = absurd (let f : None ≡ Some x = e in cc)
      still (y ∷ xs) zero x ys e = e
      still (y ∷ xs) (suc i) x ys e = still xs i x ys e

  -- it stands there, on a page that there is
  pub stands_there : (lsn : ℕ) (new : Pages)
      → new step.at.page ≡ after_records lsn step.records (pages step.at.page)
      → step.at.page ≤ 32767 → step.at.page ≢ 0 → StandsAt new step.at undo
  stands_there lsn new e most some = record {
    page = is_page_by step.at.page most some;
    item = ap (λ (im : Image). older im step.at) e ∙ (next_there lsn).reads;
  }
    where
      is_page_by : (q : ℕ) → q ≤ 32767 → q ≢ 0 → is_page q ≡ true
      is_page_by q most some =
          let f : nat_eq q 0 ≡ false = ne_eqb q 0 some in rw f (le-leb q 32767 most)

-- ---- the counters

-- the meta page after the group: so many pages, this undo page in use, and the numbers as they were
pub record MetaAfter (old new : Image) (count page : ℕ) : Type 0 where
  pub meta : IsMeta new
  pub pages_are : (counters_of new).pages ≡ count
  pub page_is : (counters_of new).undo_page ≡ page
  pub next_is : (counters_of new).next ≡ (counters_of old).next
  pub last_is : (counters_of new).last ≡ (counters_of old).last

pub meta_same : (old : Image) → IsMeta old
    → MetaAfter old old (counters_of old).pages (counters_of old).undo_page
meta_same old is =
    record { meta = is; pages_are = refl; page_is = refl; next_is = refl; last_is = refl }

pub meta_counted : (old new : Image) (count page : ℕ) → IsMeta old → CountsUndo old new count page
    → MetaAfter old new count page
meta_counted old new count page is c = record {
  meta = record { kind = c.kind; number = c.number ∙ is.number };
  pages_are = c.count_is;
  page_is = c.page_is;
  next_is = ap (number 8) c.rest;
  last_is =
      ap (number 8) (sym (drop-drop 8 12 new.body) ∙ (ap (drop 8) c.rest ∙ drop-drop 8 12 old.body));
}

pub counted_alone : (old new : Image) (count : ℕ)
    → SetsCounters new (record (counters_of old) { pages = count })
    → MetaAfter old new count (counters_of old).undo_page
counted_alone old new count c = record {
  meta = c.kept;
  pages_are = ap (λ (x : Counters). x.pages) c.counters_are;
  page_is = ap (λ (x : Counters). x.undo_page) c.counters_are;
  next_is = ap (λ (x : Counters). x.next) c.counters_are;
  last_is = ap (λ (x : Counters). x.last) c.counters_are;
}

pub counters_after : (old new : Pages) (S T : Store) (page : ℕ) → HasCounters old S
    → MetaAfter (old 0) (new 0) T.pages page → T.next ≡ S.next → T.last ≡ S.last
    → S.pages ≤ T.pages → T.pages ≤ 32768 → ((q : ℕ) → (new q).page ≡ q)
    → (new page).kind ≡ Undo → ((q : ℕ) → T.pages ≤ q → new q ≡ old q) → HasCounters new T
counters_after old new S T page h m next last more most numbered kind free = record {
  meta = m.meta;
  pages_are = sym m.pages_are;
  next_is = next ∙ (h.next_is ∙ sym m.next_is);
  last_is = last ∙ (h.last_is ∙ sym m.last_is);
  numbered = numbered;
  low = (let low = h.low in omega (arith, low, more));
  high = most;
  free = λ q past. free q past ∙ h.free q (omega (arith, past, more));
  undo_made = ap (λ (q : ℕ). (new q).kind) m.page_is ∙ kind;
}
