-- For the proofs: the free of a slot makes of the store what it is to.
use Rattle.std.proofs.Common.{◌≡◌, ◌≢◌, ◌<◌, ℕ, List, Some, None, refl, sym, ap, ◌∙◌, arith}
use Rattle.page_image.specs.Image.{Image}
use Rattle.redo_record.specs.declared.redo.Record.{Record}
use Rattle.redo_record.proofs.Fold.{after_records-page}
use Rattle.commit_stamps.specs.Effects.{Frees}
use Rattle.commit_stamps.specs.Fields.{free_slot}
use Rattle.version_store.specs.Stores.{Store, freed}
use Rattle.held_versions.specs.Counting.{HasCounters, HasSlots, HasStamps, sessions}
use Rattle.held_versions.specs.Holds.{Holds}
use Rattle.held_versions.specs.Keeping.{KeepsItems, grown}
use Rattle.held_versions.proofs.Framing.{HasUndo, holds_kept, keeps_trees, keeps_undo}
use Rattle.held_versions.proofs.Parts.{apart_by, clash, counters_same, put_elsewhere, put_there, slots_set, stamps_kept, undo_set}

module _ (items : ℕ → List (List ℕ)) (pages : ℕ → Image) (S : Store) (s lsn : ℕ)
    (records : List Record) (h : Holds items pages S) (low : s < sessions)
    (f : Frees (pages 1) s records) where
  abbrev new : ℕ → Image
  new = grown lsn records pages

  other : (q : ℕ) → q ≢ 1 → new q ≡ pages q
  other q ne =
      f.runs.only lsn (pages q) (apart_by pages h.counters.numbered 1 q (λ e. ne (sym e)), tt)

  keeps : KeepsItems pages new
  keeps q slotted =
      other q (λ e. clash (pages q).kind _ slotted
      (ap (λ (p : ℕ). (pages p).kind) e ∙ h.slots.page.kind) refl)

  counters : HasCounters new (freed S s)
  counters =
      counters_same pages new S (freed S s) h.counters (other 0 (λ e. omega arith)) refl refl refl
      (λ q. after_records-page lsn records (pages q) ∙ h.counters.numbered q) keeps
      (λ q past. other q (λ e. omega (arith, h.counters.low, past, e)))

  stamps : HasStamps new (freed S s)
  stamps =
      stamps_kept pages new S (freed S s) refl refl (λ q from to. other q (λ e. omega arith)) h.stamps

  slots : HasSlots new (freed S s)
  slots = slots_set pages new S (freed S s) s free_slot low h.slots (f.slot lsn) refl

  lists : HasUndo items new (freed S s)
  lists =
      undo_set items pages new S (freed S s) s free_slot (keeps_undo pages new keeps) h.undo
      (f.slot lsn) (λ r ne. put_elsewhere S.slot s None r ne) (λ r ne. refl)
      (λ u is. let none : None ≡ Some u = sym (put_there S.slot s None) ∙ is in absurd cc)

  pub free_is_freed : Holds items (grown lsn records pages) (freed S s)
  free_is_freed =
      holds_kept items pages new S (freed S s) h (keeps_undo pages new keeps)
      (keeps_trees pages new keeps) refl counters stamps slots lists
