-- Stated: the counters, the stamps and the slots that pages hold for a store.
use Rattle.std.specs.Prelude.{◌≡◌, ◌≤◌, ◌<◌, ◌+◌, ℕ, Option, Some, None, nat_eq, if◌then◌else◌}
use Rattle.rm_base.specs.declared.limits.TheConstants.{FIRST_FREE_PAGE_ID, MAX_TRX_ID}
use Rattle.page_image.specs.Meta.{IsMeta, IsSlots, counters_of}
use Rattle.page_image.specs.declared.kind.Kind.TheVariants.{Undo}
use Rattle.page_image.specs.Image.{Image, unmade}
use Rattle.commit_stamps.specs.declared.slots.Slot.{Slot}
use Rattle.commit_stamps.specs.Fields.{slot_of}
use Rattle.commit_stamps.specs.Stamping.{IsStampPage, stamp_in, stamp_page, stamp_place}
use Rattle.version_store.specs.Stores.{Store}

-- how many pages there can be
abbrev pub most_pages : ℕ
most_pages = 32768

-- The meta page has the store's counters; no page from its count on is made; the undo page that it
-- names is one.
pub record HasCounters (pages : ℕ → Image) (S : Store) : Type 0 where
  pub meta : IsMeta (pages 0)
  pub pages_are : S.pages ≡ (counters_of (pages 0)).pages
  pub next_is : S.next ≡ (counters_of (pages 0)).next
  pub last_is : S.last ≡ (counters_of (pages 0)).last
  pub numbered : (q : ℕ) → (pages q).page ≡ q
  pub low : FIRST_FREE_PAGE_ID ≤ S.pages
  pub high : S.pages ≤ most_pages
  pub free : (q : ℕ) → S.pages ≤ q → pages q ≡ unmade q
  pub undo_made : (pages (counters_of (pages 0)).undo_page).kind ≡ Undo

-- A transaction's stamp is the one on its page. Pages are made for the numbers that are given out,
-- and no others.
pub record HasStamps (pages : ℕ → Image) (S : Store) : Type 0 where
  pub first : 1 ≤ S.next
  pub within : S.next ≤ MAX_TRX_ID + 1
  pub stamps : (t : ℕ) → 1 ≤ t → t ≤ MAX_TRX_ID
      → S.stamp t ≡ stamp_in (pages (stamp_page t)) t
  pub made : (t : ℕ) → 1 ≤ t → t < S.next → IsStampPage (pages (stamp_page t)) t
  pub free : (t : ℕ) → S.next ≤ t → t ≤ MAX_TRX_ID → stamp_place t ≡ 0
      → pages (stamp_page t) ≡ unmade (stamp_page t)

-- how many sessions have a slot
abbrev pub sessions : ℕ
sessions = 64

-- the transaction of a slot; 0 is none
abbrev pub holder : Slot → Option ℕ
holder slot = if nat_eq slot.trx 0 then None else Some slot.trx

-- the slots page has the transaction of each session, and no other session has one
pub record HasSlots (pages : ℕ → Image) (S : Store) : Type 0 where
  pub page : IsSlots (pages 1)
  pub slots : (s : ℕ) → s < sessions → S.slot s ≡ holder (slot_of (pages 1) s)
  pub others : (s : ℕ) → sessions ≤ s → S.slot s ≡ None
