-- For the proofs: a commit makes of the store what it is to.
use Rattle.std.proofs.Common.{◌≡◌, ◌≢◌, ◌≤◌, ◌<◌, ◌+◌, ℕ, suc, Bool, true, false, List, Some, None, inl, inr, refl, sym, ap, subst, ◌∙◌, arith}
use Rattle.rm_base.specs.declared.limits.TheConstants.{MAX_TRX_ID}
use Rattle.std.specs.Prelude.{if◌then◌else◌, nat_eq}
use Rattle.std.proofs.lemmas.Bool.{cases_eq}
use Rattle.page_image.specs.Meta.{Counters, counters_of}
use Rattle.page_image.specs.Image.{Image}
use Rattle.redo_record.specs.declared.redo.Record.{Record}
use Rattle.redo_record.proofs.Fold.{after_records-page}
use Rattle.commit_stamps.specs.Effects.{Commits}
use Rattle.commit_stamps.specs.Fields.{free_slot, slot_of}
use Rattle.commit_stamps.specs.Stamping.{IsStampPage, stamp_in, stamp_page}
use Rattle.version_store.specs.Stores.{Store, put, stamped}
use Rattle.held_versions.specs.Counting.{HasCounters, HasSlots, HasStamps, sessions}
use Rattle.held_versions.specs.Holds.{Holds}
use Rattle.held_versions.specs.Keeping.{KeepsItems, grown}
use Rattle.held_versions.proofs.Begins.{later_page}
use Rattle.held_versions.proofs.Framing.{HasUndo, holds_kept, keeps_trees, keeps_undo}
use Rattle.held_versions.proofs.Parts.{apart_by, clash, counters_kept, held_trx, put_elsewhere, put_there, slots_set, undo_set}

picked : (b : Bool) (v w x y : ℕ) → v ≡ w → x ≡ y → (if b then v else x) ≡ (if b then w else y)
picked true v w x y e f = e
picked false v w x y e f = f

module _ (items : ℕ → List (List ℕ)) (pages : ℕ → Image) (S : Store) (s t lsn : ℕ)
    (records : List Record) (h : Holds items pages S) (low : s < sessions)
    (open_is : S.slot s ≡ Some t) (below : t < S.next)
    (c : Commits (pages 0) (pages 1) (pages (stamp_page t)) s records) where
  abbrev new : ℕ → Image
  new = grown lsn records pages

  abbrev trx : ℕ
  trx = (slot_of (pages 1) s).trx

  trx_is : trx ≡ t
  trx_is = (held_trx (slot_of (pages 1) s) t (sym (h.slots.slots s low) ∙ open_is)).0

  some : 1 ≤ t
  some = (held_trx (slot_of (pages 1) s) t (sym (h.slots.slots s low) ∙ open_is)).1

  page_is : IsStampPage (pages (stamp_page t)) t
  page_is = h.stamps.made t some below

  other : (q : ℕ) → q ≢ 0 → q ≢ 1 → q ≢ stamp_page t → new q ≡ pages q
  other q not_meta not_slots not_page =
      let number = h.counters.numbered in
      c.runs.only lsn (pages q) (
        apart_by pages number (stamp_page t) q (λ e. not_page (sym e)),
        (
          apart_by pages number 1 q (λ e. not_slots (sym e)),
          (apart_by pages number 0 q (λ e. not_meta (sym e)), tt),
        ),
      )

  keeps : KeepsItems pages new
  keeps q slotted =
      other q
      (λ e. clash (pages q).kind _ slotted
      (ap (λ (p : ℕ). (pages p).kind) e ∙ h.counters.meta.kind) refl)
      (λ e. clash (pages q).kind _ slotted
      (ap (λ (p : ℕ). (pages p).kind) e ∙ h.slots.page.kind) refl)
      (λ e. clash (pages q).kind _ slotted (ap (λ (p : ℕ). (pages p).kind) e ∙ page_is.kind) refl)

  count : counters_of (new 0) ≡ record (counters_of (pages 0)) { last = (counters_of (pages 0)).last + 1 }
  count = (c.last lsn).counters_are

  counters : HasCounters new (stamped S s t)
  counters =
      let was = h.counters.last_is in
      let next_one : suc S.last ≡ (counters_of (pages 0)).last + 1 = omega arith in
      counters_kept pages new S (stamped S s t) h.counters (c.last lsn).kept refl
      (ap (λ (c : Counters). c.pages) count) (ap (λ (c : Counters). c.undo_page) count)
      (h.counters.next_is ∙ sym (ap (λ (c : Counters). c.next) count))
      (next_one ∙ sym (ap (λ (c : Counters). c.last) count))
      (λ q. after_records-page lsn records (pages q) ∙ h.counters.numbered q) keeps
      (λ q past.
      let far : 1028 ≤ q = omega (arith, h.counters.low, past) in
      let within = h.stamps.within in
      other q (λ e. omega arith) (λ e. omega arith) (λ e. omega arith))

  -- a number whose stamp is on the page of this one
  on_old : (u : ℕ) → 1 ≤ u → stamp_page u ≡ stamp_page t → IsStampPage (pages (stamp_page t)) u
  on_old u there same = record {
    some = there;
    kind = page_is.kind;
    number = page_is.number ∙ sym same;
  }

  on_new : (u : ℕ) → 1 ≤ u → stamp_page u ≡ stamp_page t → IsStampPage (new (stamp_page u)) u
  on_new u there same = record {
    some = there;
    kind = ap (λ (p : ℕ). (new p).kind) same ∙ (c.stamp lsn).kept.kind;
    number = ap (λ (p : ℕ). (new p).page) same
        ∙ (c.stamp lsn).kept.number ∙ ap stamp_page trx_is ∙ sym same;
  }

  elsewhere : (u : ℕ) → stamp_page u ≢ stamp_page t → new (stamp_page u) ≡ pages (stamp_page u)
  elsewhere u ne = other (stamp_page u) (λ e. omega arith) (λ e. omega arith) ne

  stamp_here : (u : ℕ) → 1 ≤ u → u ≤ MAX_TRX_ID → stamp_page u ≡ stamp_page t
      → put S.stamp t (suc S.last) u ≡ stamp_in (new (stamp_page u)) u
  stamp_here u there most same =
      let was = h.counters.last_is in
      let next_one : suc S.last ≡ (counters_of (pages 0)).last + 1 = omega arith in
      picked (nat_eq u t) (suc S.last) ((counters_of (pages 0)).last + 1) (S.stamp u)
      (stamp_in (pages (stamp_page t)) u) next_one
      (h.stamps.stamps u there most ∙ ap (λ (p : ℕ). stamp_in (pages p) u) same)
      ∙ ap (λ (k : ℕ). if nat_eq u k then (counters_of (pages 0)).last + 1
      else stamp_in (pages (stamp_page t)) u) (sym trx_is)
      ∙ sym ((c.stamp lsn).stamps u (on_old u there same))
      ∙ ap (λ (p : ℕ). stamp_in (new p) u) (sym same)

  stamp_elsewhere : (u : ℕ) → 1 ≤ u → u ≤ MAX_TRX_ID → stamp_page u ≢ stamp_page t
      → put S.stamp t (suc S.last) u ≡ stamp_in (new (stamp_page u)) u
  stamp_elsewhere u there most ne =
      put_elsewhere S.stamp t (suc S.last) u (λ e. ne (ap stamp_page e))
      ∙ h.stamps.stamps u there most
      ∙ ap (λ (page : Image). stamp_in page u) (sym (elsewhere u ne))

  stamps : HasStamps new (stamped S s t)
  stamps = record {
    first = h.stamps.first;
    within = h.stamps.within;
    stamps = λ u there most.
        elim (cases_eq (stamp_page u) (stamp_page t)) [
          | inl same ↦ stamp_here u there most same
          | inr ne ↦ stamp_elsewhere u there most ne
        ];
    made = λ u there less.
        elim (cases_eq (stamp_page u) (stamp_page t)) [
          | inl same ↦ on_new u there same
          | inr ne ↦ subst (λ (page : Image). IsStampPage page u) (sym (elsewhere u ne))
              (h.stamps.made u there less)
        ];
    free = λ u past most first.
        elsewhere u (later_page t u some (omega (arith, below, past)) first)
        ∙ h.stamps.free u past most first;
  }

  slots : HasSlots new (stamped S s t)
  slots = slots_set pages new S (stamped S s t) s free_slot low h.slots (c.slot lsn) refl

  lists : HasUndo items new (stamped S s t)
  lists =
      undo_set items pages new S (stamped S s t) s free_slot (keeps_undo pages new keeps) h.undo
      (c.slot lsn) (λ r ne. put_elsewhere S.slot s None r ne) (λ r ne. refl)
      (λ u is. let none : None ≡ Some u = sym (put_there S.slot s None) ∙ is in absurd cc)

  pub commit_is_stamped : Holds items (grown lsn records pages) (stamped S s t)
  commit_is_stamped =
      holds_kept items pages new S (stamped S s t) h (keeps_undo pages new keeps)
      (keeps_trees pages new keeps) refl counters stamps slots lists
