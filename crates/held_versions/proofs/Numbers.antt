-- For the proofs: counters, stamps and slots are those of the pages, whatever store the pages hold.
use Rattle.std.proofs.Common.{◌≡◌, ◌≤◌, ◌<◌, ℕ, Bool, true, false, List, None, refl, ap, arith}
use Rattle.std.specs.Prelude.{if◌then◌else◌, nat_lt}
use Rattle.std.proofs.lemmas.Bool.{lt-ltb, ltb-true}
use Rattle.page_image.specs.Image.{Image}
use Rattle.commit_stamps.specs.Fields.{slot_of}
use Rattle.version_store.specs.Stores.{Store}
use Rattle.held_versions.specs.Counting.{HasCounters, HasSlots, HasStamps, holder, sessions}
use Rattle.held_versions.specs.Storing.{store_of}

pub counters_read : (items : ℕ → List (List ℕ)) (pages : ℕ → Image) (S : Store) → HasCounters pages S
    → HasCounters pages (store_of items pages)
counters_read items pages S h = record {
  meta = h.meta;
  pages_are = refl;
  next_is = refl;
  last_is = refl;
  numbered = h.numbered;
  low = omega (arith, h.low, h.pages_are);
  high = omega (arith, h.high, h.pages_are);
  free = λ q past. (let from : S.pages ≤ q = omega (arith, h.pages_are, past) in h.free q from);
  undo_made = h.undo_made;
}

pub stamps_read : (items : ℕ → List (List ℕ)) (pages : ℕ → Image) (S : Store) → HasCounters pages S
    → HasStamps pages S → HasStamps pages (store_of items pages)
stamps_read items pages S c h =
    let next = c.next_is in
    record {
      first = omega (arith, h.first, next);
      within = omega (arith, h.within, next);
      stamps = λ t some most. refl;
      made = λ t some less. (let below : t < S.next = omega (arith, next, less) in h.made t some below);
      free = λ t past most first.
          (let from : S.next ≤ t = omega (arith, next, past) in h.free t from most first);
    }

past_sessions : (s : ℕ) → sessions ≤ s → nat_lt s sessions ≡ false
past_sessions s past = by_test (nat_lt s sessions) refl
  where
    by_test : (b : Bool) → nat_lt s sessions ≡ b → b ≡ false
    by_test true e = (let less : s < sessions = ltb-true s sessions e in absurd (omega (arith, less, past)))
    by_test false e = refl

pub slots_read : (items : ℕ → List (List ℕ)) (pages : ℕ → Image) (S : Store) → HasSlots pages S
    → HasSlots pages (store_of items pages)
slots_read items pages S h = record {
  page = h.page;
  slots = λ s low.
      ap (λ (b : Bool). if b then holder (slot_of (pages 1) s) else None) (lt-ltb s sessions low);
  others = λ s past.
      ap (λ (b : Bool). if b then holder (slot_of (pages 1) s) else None) (past_sessions s past);
}
