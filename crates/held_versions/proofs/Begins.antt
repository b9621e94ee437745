-- For the proofs: a begin makes of the store what it is to.
use Rattle.std.proofs.Common.{◌≡◌, ◌≢◌, ◌≤◌, ◌<◌, ◌+◌, ◌-◌, ◌*◌, ℕ, suc, Bool, true, false, List, [], ◌∷◌, ◌⊎◌, Some, None, inl, inr, refl, sym, ap, subst, ◌∙◌, arith}
use Rattle.rm_base.specs.declared.limits.TheConstants.{MAX_TRX_ID}
use Rattle.std.specs.Prelude.{if◌then◌else◌, nat_eq}
use Rattle.std.specs.List.{AllByRecursion}
use Rattle.std.proofs.Math.Seq.{drop-nil}
use Rattle.std.proofs.lemmas.Bool.{cases_eq, eqb-true, ne_eqb}
use Rattle.rm_base.specs.Fields.{number}
use Rattle.page_image.specs.Meta.{Counters, counters_of}
use Rattle.page_image.specs.declared.kind.Kind.TheVariants.{Unmade}
use Rattle.page_image.specs.Image.{Image, unmade}
use Rattle.redo_record.specs.declared.redo.Record.{Record}
use Rattle.redo_record.specs.Effect.{after_records}
use Rattle.redo_record.proofs.Fold.{after_records-page}
use Rattle.commit_stamps.specs.declared.slots.Slot.{Slot}
use Rattle.commit_stamps.specs.Effects.{Begins, HasNoStamps}
use Rattle.commit_stamps.specs.Fields.{no_undo, slot_of}
use Rattle.commit_stamps.specs.Stamping.{IsStampPage, stamp_in, stamp_page, stamp_place}
use Rattle.version_store.specs.Stores.{Store, begun, put}
use Rattle.held_versions.specs.Counting.{HasCounters, HasSlots, HasStamps, holder, sessions}
use Rattle.held_versions.specs.Holds.{Holds}
use Rattle.held_versions.specs.Keeping.{KeepsItems, grown}
use Rattle.held_versions.specs.Undoing.{UndoList, current}
use Rattle.held_versions.proofs.Framing.{HasUndo, holds_kept, keeps_trees, keeps_undo}
use Rattle.held_versions.proofs.Parts.{apart_by, clash, counters_kept, put_elsewhere, put_there, slot_there, slots_set, undo_set}

-- ---- numbers of stamp pages

-- a number that begins no page is on the page of the number before it
same_page : (n : ℕ) → 1 ≤ n → stamp_place n ≢ 0
    → (1 ≤ n - 1) × (n - 1 < n) × (stamp_page (n - 1) ≡ stamp_page n)
same_page n some ne = (omega arith, omega arith, omega arith)

-- the first number of a page is on the page of no lesser one
pub later_page : (n u : ℕ) → 1 ≤ n → n < u → stamp_place u ≡ 0 → stamp_page u ≢ stamp_page n
later_page n u some less first same = omega arith

-- an unmade page has no stamps
pub unstamped : (p u : ℕ) → stamp_in (unmade p) u ≡ 0
unfolding number
unstamped p u = ap (number 8) (drop-nil {A = ℕ} (8 * stamp_place u))

-- ---- the pages that a begin changes

all_by : (P : Image → Type 0) (b : Bool) (page slots meta : Image) → (b ≡ true → P page) → P slots
    → P meta
    → AllByRecursion P (if b then page ∷ slots ∷ meta ∷ [] else slots ∷ meta ∷ [])
all_by P true page slots meta x y z = (x refl, (y, (z, tt)))
all_by P false page slots meta x y z = (y, (z, tt))

module _ (items : ℕ → List (List ℕ)) (pages : ℕ → Image) (S : Store) (s lsn : ℕ)
    (records : List Record) (h : Holds items pages S) (low : s < sessions)
    (room : S.next ≤ MAX_TRX_ID) (b : Begins (pages 0) (pages 1) s S.next records) where
  abbrev new : ℕ → Image
  new = grown lsn records pages

  other : (q : ℕ) → q ≢ 0 → q ≢ 1 → (stamp_place S.next ≡ 0 → q ≢ stamp_page S.next)
      → new q ≡ pages q
  other q not_meta not_slots not_page =
      let number = h.counters.numbered in
      b.runs.only lsn (pages q)
      (all_by (λ page. page.page ≢ (pages q).page) (nat_eq (stamp_place S.next) 0)
      (unmade (stamp_page S.next)) (pages 1) (pages 0)
      (λ is e. not_page (eqb-true (stamp_place S.next) 0 is) (sym (e ∙ number q)))
      (apart_by pages number 1 q (λ e. not_slots (sym e)))
      (apart_by pages number 0 q (λ e. not_meta (sym e))))

  was_unmade : stamp_place S.next ≡ 0 → pages (stamp_page S.next) ≡ unmade (stamp_page S.next)
  was_unmade first = h.stamps.free S.next (omega arith) room first

  empty : stamp_place S.next ≡ 0 → HasNoStamps (new (stamp_page S.next)) (stamp_page S.next)
  empty first =
      subst (λ (page : Image). HasNoStamps (after_records lsn records page) (stamp_page S.next))
      (sym (was_unmade first)) (b.page first lsn)

  keeps : KeepsItems pages new
  keeps q slotted =
      other q
      (λ e. clash (pages q).kind _ slotted
      (ap (λ (p : ℕ). (pages p).kind) e ∙ h.counters.meta.kind) refl)
      (λ e. clash (pages q).kind _ slotted
      (ap (λ (p : ℕ). (pages p).kind) e ∙ h.slots.page.kind) refl)
      (λ first e. clash (pages q).kind Unmade slotted
      (ap (λ (p : ℕ). (pages p).kind) e ∙ ap (λ (page : Image). page.kind) (was_unmade first)) refl)

  count : counters_of (new 0) ≡ record (counters_of (pages 0)) { next = S.next + 1 }
  count = (b.number lsn).counters_are

  counters : HasCounters new (begun S s)
  counters =
      let one_more : suc S.next ≡ S.next + 1 = omega arith in
      counters_kept pages new S (begun S s) h.counters (b.number lsn).kept refl
      (ap (λ (c : Counters). c.pages) count) (ap (λ (c : Counters). c.undo_page) count)
      (one_more ∙ sym (ap (λ (c : Counters). c.next) count))
      (h.counters.last_is ∙ sym (ap (λ (c : Counters). c.last) count))
      (λ q. after_records-page lsn records (pages q) ∙ h.counters.numbered q) keeps
      (λ q past.
      let far : 1028 ≤ q = omega (arith, h.counters.low, past) in
      other q (λ e. omega arith) (λ e. omega arith) (λ _ e. omega arith))

  -- the stamp of a number is on the new page or on another
  abbrev IsElsewhere : ℕ → Type 0
  IsElsewhere u = stamp_place S.next ≡ 0 → stamp_page u ≢ stamp_page S.next

  on_page : (u : ℕ)
      → ((stamp_place S.next ≡ 0) × (stamp_page u ≡ stamp_page S.next)) ⊎ IsElsewhere u
  on_page u =
      elim (cases_eq (stamp_place S.next) 0) [
        | inl first ↦ elim (cases_eq (stamp_page u) (stamp_page S.next)) [
          | inl same ↦ inl (first, same)
          | inr ne ↦ inr (λ _. ne)
        ]
        | inr ne ↦ inr (λ first. absurd (ne first))
      ]

  elsewhere : (u : ℕ) → IsElsewhere u → new (stamp_page u) ≡ pages (stamp_page u)
  elsewhere u ne = other (stamp_page u) (λ e. omega arith) (λ e. omega arith) ne

  on_new : (u : ℕ) → 1 ≤ u → stamp_place S.next ≡ 0 → stamp_page u ≡ stamp_page S.next
      → IsStampPage (new (stamp_page u)) u
  on_new u some first same = record {
    some = some;
    kind = ap (λ (p : ℕ). (new p).kind) same ∙ (empty first).kind;
    number = ap (λ (p : ℕ). (new p).page) same ∙ (empty first).number ∙ sym same;
  }

  old_stamp : (u : ℕ) → stamp_place S.next ≡ 0 → stamp_page u ≡ stamp_page S.next
      → stamp_in (pages (stamp_page u)) u ≡ 0
  old_stamp u first same =
      ap (λ (p : ℕ). stamp_in (pages p) u) same
      ∙ ap (λ (page : Image). stamp_in page u) (was_unmade first)
      ∙ unstamped (stamp_page S.next) u

  new_stamp : (u : ℕ) → 1 ≤ u → stamp_place S.next ≡ 0 → stamp_page u ≡ stamp_page S.next
      → stamp_in (new (stamp_page u)) u ≡ 0
  new_stamp u some first same =
      ap (λ (p : ℕ). stamp_in (new p) u) same
      ∙ (empty first).none u
      (subst (λ (p : ℕ). IsStampPage (new p) u) same (on_new u some first same))

  stamp_same : (u : ℕ) → 1 ≤ u → stamp_in (new (stamp_page u)) u ≡ stamp_in (pages (stamp_page u)) u
  stamp_same u some =
      elim (on_page u) [
        | inl e ↦ new_stamp u some e.0 e.1 ∙ sym (old_stamp u e.0 e.1)
        | inr ne ↦ ap (λ (page : Image). stamp_in page u) (elsewhere u ne)
      ]

  on_old : (u v : ℕ) → 1 ≤ u → stamp_page u ≡ stamp_page v → IsStampPage (pages (stamp_page u)) u
      → 1 ≤ v → IsStampPage (pages (stamp_page v)) v
  on_old u v some same is there = record {
    some = there;
    kind = ap (λ (p : ℕ). (pages p).kind) (sym same) ∙ is.kind;
    number = ap (λ (p : ℕ). (pages p).page) (sym same) ∙ is.number ∙ same;
  }

  was_made : (u : ℕ) → 1 ≤ u → u < S.next + 1 → IsElsewhere u
      → IsStampPage (pages (stamp_page u)) u
  was_made u some less ne =
      elim (cases_eq u S.next) [
        | inl e ↦ (let apart : stamp_place S.next ≢ 0 = λ first. ne first (ap stamp_page e) in
            let before = same_page S.next h.stamps.first apart in
            on_old (S.next - 1) u before.0 (before.2 ∙ ap stamp_page (sym e))
            (h.stamps.made (S.next - 1) before.0 before.1) some)
        | inr other_one ↦ h.stamps.made u some (omega arith)
      ]

  made : (u : ℕ) → 1 ≤ u → u < S.next + 1 → IsStampPage (new (stamp_page u)) u
  made u some less =
      elim (on_page u) [
        | inl e ↦ on_new u some e.0 e.1
        | inr ne ↦ subst (λ (page : Image). IsStampPage page u) (sym (elsewhere u ne))
            (was_made u some less ne)
      ]

  stamps : HasStamps new (begun S s)
  stamps = record {
    first = omega arith;
    within = omega arith;
    stamps = λ u some most. h.stamps.stamps u some most ∙ sym (stamp_same u some);
    made = λ u some less. made u some (omega (arith, less));
    free = λ u past most first.
        other (stamp_page u) (λ e. omega arith) (λ e. omega arith)
        (λ _. later_page S.next u h.stamps.first (omega (arith, past)) first)
        ∙ h.stamps.free u (omega (arith, past)) most first;
  }

  slot_is : holder (record { trx = S.next; last = no_undo }) ≡ Some S.next
  slot_is =
      let some = h.stamps.first in
      let ne : S.next ≢ 0 = λ e. omega arith in
      ap (λ (b : Bool). if b then None else Some S.next) (ne_eqb S.next 0 ne)

  slots : HasSlots new (begun S s)
  slots =
      slots_set pages new S (begun S s) s (record { trx = S.next; last = no_undo }) low h.slots
      (b.slot lsn) (ap (put S.slot s) (sym slot_is))

  lists : HasUndo items new (begun S s)
  lists =
      undo_set items pages new S (begun S s) s (record { trx = S.next; last = no_undo })
      (keeps_undo pages new keeps) h.undo (b.slot lsn)
      (λ r ne. put_elsewhere S.slot s (Some S.next) r ne)
      (λ r ne. put_elsewhere S.undo s [] r ne)
      (λ t _. subst (UndoList new t (current items) (slot_of (new 1) s).last)
      (sym (put_there S.undo s []))
      (ap (λ (x : Slot). x.last.page)
      (slot_there (pages 1) (new 1) s (record { trx = S.next; last = no_undo }) low (b.slot lsn))))

  pub begin_is_begun : Holds items (grown lsn records pages) (begun S s)
  begin_is_begun =
      holds_kept items pages new S (begun S s) h (keeps_undo pages new keeps)
      (keeps_trees pages new keeps) refl counters stamps slots lists
