-- For the proofs: counters, slots and undo lists after a group that sets one session's slot.
use Rattle.std.proofs.Common.{◌≡◌, ◌≢◌, ◌≤◌, ◌<◌, ℕ, Bool, true, false, List, Option, Some, None, inl, inr, refl, sym, ap, subst, ◌∙◌, arith}
use Rattle.rm_base.specs.declared.limits.TheConstants.{MAX_TRX_ID}
use Rattle.std.specs.Prelude.{if◌then◌else◌, nat_eq}
use Rattle.std.proofs.lemmas.Bool.{cases_eq, eq-eqb, ne_eqb}
use Rattle.std.proofs.lemmas.Bool.Decides.{eqb_tells}
use Rattle.page_image.specs.Meta.{Counters, IsMeta, IsSlots, counters_of}
use Rattle.page_image.specs.declared.kind.Kind.{Kind}
use Rattle.page_image.specs.Image.{Image, is_slotted}
use Rattle.commit_stamps.specs.declared.slots.Slot.{Slot}
use Rattle.commit_stamps.specs.Effects.{SetsSlot}
use Rattle.commit_stamps.specs.Fields.{slot_of}
use Rattle.commit_stamps.specs.Stamping.{IsStampPage, stamp_in, stamp_page}
use Rattle.version_store.specs.Stores.{Store, UndoEntry, put}
use Rattle.held_versions.specs.Counting.{HasCounters, HasSlots, HasStamps, holder, sessions}
use Rattle.held_versions.specs.Keeping.{KeepsItems, KeepsUndo}
use Rattle.held_versions.specs.Undoing.{UndoList, current}
use Rattle.held_versions.proofs.Chains.{undo_list_kept}
use Rattle.held_versions.proofs.Framing.{HasUndo}

-- a page with items is of no kind without
pub clash : (a b : Kind) → is_slotted a ≡ true → a ≡ b → is_slotted b ≡ false → ⊥
clash a b slotted same none = let both : true ≡ false = sym slotted ∙ ap is_slotted same ∙ none in cc

-- pages with other numbers are others
pub apart_by : (pages : ℕ → Image) → ((q : ℕ) → (pages q).page ≡ q) → (p q : ℕ) → p ≢ q
    → (pages p).page ≢ (pages q).page
apart_by pages numbered p q ne same = ne (sym (numbered p) ∙ same ∙ numbered q)

-- ---- counters

pub counters_kept : (old new : ℕ → Image) (S T : Store) → HasCounters old S → IsMeta (new 0)
    → T.pages ≡ S.pages
    → (counters_of (new 0)).pages ≡ (counters_of (old 0)).pages
    → (counters_of (new 0)).undo_page ≡ (counters_of (old 0)).undo_page
    → T.next ≡ (counters_of (new 0)).next → T.last ≡ (counters_of (new 0)).last
    → ((q : ℕ) → (new q).page ≡ q) → KeepsItems old new
    → ((q : ℕ) → S.pages ≤ q → new q ≡ old q) → HasCounters new T
counters_kept old new S T h meta same pages undo next last numbered items free = record {
  meta = meta;
  pages_are = same ∙ h.pages_are ∙ sym pages;
  next_is = next;
  last_is = last;
  numbered = numbered;
  low = omega (arith, same, h.low);
  high = omega (arith, same, h.high);
  free = λ q past. (let from : S.pages ≤ q = omega (arith, same, past) in free q from ∙ h.free q from);
  undo_made = ap (λ (q : ℕ). (new q).kind) undo
      ∙ ap (λ (page : Image). page.kind)
      (items (counters_of (old 0)).undo_page (ap is_slotted h.undo_made))
      ∙ h.undo_made;
}

-- the meta page is as it was
pub counters_same : (old new : ℕ → Image) (S T : Store) → HasCounters old S → new 0 ≡ old 0
    → T.pages ≡ S.pages → T.next ≡ S.next → T.last ≡ S.last → ((q : ℕ) → (new q).page ≡ q)
    → KeepsItems old new → ((q : ℕ) → S.pages ≤ q → new q ≡ old q) → HasCounters new T
counters_same old new S T h meta pages next last numbered items free =
    let counts : counters_of (new 0) ≡ counters_of (old 0) = ap counters_of meta in
    counters_kept old new S T h (subst IsMeta (sym meta) h.meta) pages
    (ap (λ (c : Counters). c.pages) counts) (ap (λ (c : Counters). c.undo_page) counts)
    (next ∙ h.next_is ∙ sym (ap (λ (c : Counters). c.next) counts))
    (last ∙ h.last_is ∙ sym (ap (λ (c : Counters). c.last) counts)) numbered items free

-- ---- stamps

-- the pages of stamps are those from 2 to 1025
pub stamps_kept : (old new : ℕ → Image) (S T : Store) → T.stamp ≡ S.stamp → T.next ≡ S.next
    → ((q : ℕ) → 2 ≤ q → q ≤ 1025 → new q ≡ old q) → HasStamps old S → HasStamps new T
stamps_kept old new S T stamp next keeps h = record {
  first = omega (arith, next, h.first);
  within = omega (arith, next, h.within);
  stamps = λ t some most.
      ap (λ (f : ℕ → ℕ). f t) stamp ∙ h.stamps t some most
      ∙ ap (λ (page : Image). stamp_in page t) (sym (there t most));
  made = λ t some less.
      (let below : t < S.next = omega (arith, next, less) in
      let most : t ≤ MAX_TRX_ID = omega (arith, below, h.within) in
      subst (λ (page : Image). IsStampPage page t) (sym (there t most)) (h.made t some below));
  free = λ t past most first.
      (let from : S.next ≤ t = omega (arith, next, past) in
      there t most ∙ h.free t from most first);
}
  where
    there : (t : ℕ) → t ≤ MAX_TRX_ID → new (stamp_page t) ≡ old (stamp_page t)
    there t most = keeps (stamp_page t) (omega arith) (omega (arith, most))

-- ---- slots

-- the transaction of a slot that has one
pub held_trx : (x : Slot) (t : ℕ) → holder x ≡ Some t → (x.trx ≡ t) × (1 ≤ t)
held_trx x t e =
    elim (eqb_tells x.trx 0) [
      | inl zero ↦ (let none : None ≡ Some t =
          ap (λ (b : Bool). if b then None else Some x.trx) (sym zero.0) ∙ e in absurd cc)
      | inr ne ↦ (let some : Some x.trx ≡ Some t =
          ap (λ (b : Bool). if b then None else Some x.trx) (sym ne.0) ∙ e in
          let is : x.trx ≡ t = cc in
          (is, omega (arith, is, ne.1)))
    ]

held_by : (b : Bool) (x y : Slot) (v w : Option ℕ) → v ≡ holder x → w ≡ holder y
    → (if b then v else w) ≡ holder (if b then x else y)
held_by true x y v w e f = e
held_by false x y v w e f = f

pub slots_set : (old new : ℕ → Image) (S T : Store) (s : ℕ) (slot : Slot) → s < sessions
    → HasSlots old S → SetsSlot (old 1) (new 1) s slot → T.slot ≡ put S.slot s (holder slot)
    → HasSlots new T
slots_set old new S T s slot low h sets is = record {
  page = sets.kept;
  slots = λ r below. ap (λ (f : ℕ → Option ℕ). f r) is
      ∙ held_by (nat_eq r s) slot (slot_of (old 1) r) (holder slot) (S.slot r) refl
      (h.slots r below)
      ∙ ap holder (sym (sets.slots r below));
  others = λ r past.
      (let ne : r ≢ s = λ e. omega (arith, e, past, low) in
      let other : nat_eq r s ≡ false = ne_eqb r s ne in
      ap (λ (f : ℕ → Option ℕ). f r) is
      ∙ ap (λ (b : Bool). if b then holder slot else S.slot r) other
      ∙ h.others r past);
}

-- the slot itself, and every other one
pub slot_there : (old new : Image) (s : ℕ) (slot : Slot) → s < sessions → SetsSlot old new s slot
    → slot_of new s ≡ slot
slot_there old new s slot low sets =
    let same : nat_eq s s ≡ true = eq-eqb s s refl in
    sets.slots s low ∙ ap (λ (b : Bool). if b then slot else slot_of old s) same

pub slot_elsewhere : (old new : Image) (s : ℕ) (slot : Slot) (r : ℕ) → r < sessions → r ≢ s
    → SetsSlot old new s slot → slot_of new r ≡ slot_of old r
slot_elsewhere old new s slot r low ne sets =
    let other : nat_eq r s ≡ false = ne_eqb r s ne in
    sets.slots r low ∙ ap (λ (b : Bool). if b then slot else slot_of old r) other

pub put_there : {A : Type 0} → (f : ℕ → A) (s : ℕ) (v : A) → put f s v s ≡ v
put_there f s v =
    let same : nat_eq s s ≡ true = eq-eqb s s refl in ap (λ (b : Bool). if b then v else f s) same

pub put_elsewhere : {A : Type 0} → (f : ℕ → A) (s : ℕ) (v : A) (r : ℕ) → r ≢ s → put f s v r ≡ f r
put_elsewhere f s v r ne =
    let other : nat_eq r s ≡ false = ne_eqb r s ne in
    ap (λ (b : Bool). if b then v else f r) other

-- ---- undo lists

-- those of the other sessions stay, where the slot's own is there
pub undo_set : (items : ℕ → List (List ℕ)) (old new : ℕ → Image) (S T : Store) (s : ℕ)
    (slot : Slot) → KeepsUndo old new → HasUndo items old S → SetsSlot (old 1) (new 1) s slot
    → ((r : ℕ) → r ≢ s → T.slot r ≡ S.slot r) → ((r : ℕ) → r ≢ s → T.undo r ≡ S.undo r)
    → ((t : ℕ) → T.slot s ≡ Some t
    → UndoList new t (current items) (slot_of (new 1) s).last (T.undo s))
    → HasUndo items new T
undo_set items old new S T s slot keeps h sets slots undo own r t low is =
    elim (cases_eq r s) [
      | inl e ↦ subst (λ (q : ℕ). UndoList new t (current items) (slot_of (new 1) q).last (T.undo q)) (sym e)
          (own t (ap T.slot (sym e) ∙ is))
      | inr ne ↦ subst (λ (x : Slot). UndoList new t (current items) x.last (T.undo r))
          (sym (slot_elsewhere (old 1) (new 1) s slot r low ne sets))
          (subst (UndoList new t (current items) (slot_of (old 1) r).last) (sym (undo r ne))
          (undo_list_kept old new keeps t (current items) (slot_of (old 1) r).last (S.undo r)
          (h r t low (sym (slots r ne) ∙ is))))
    ]

-- ---- the slots page is as it was

pub slots_kept : (old new : ℕ → Image) (S T : Store) → new 1 ≡ old 1 → T.slot ≡ S.slot
    → HasSlots old S → HasSlots new T
slots_kept old new S T page same h = record {
  page = subst IsSlots (sym page) h.page;
  slots = λ s low.
      ap (λ (f : ℕ → Option ℕ). f s) same ∙ h.slots s low
      ∙ ap (λ (im : Image). holder (slot_of im s)) (sym page);
  others = λ s past. ap (λ (f : ℕ → Option ℕ). f s) same ∙ h.others s past;
}

pub undo_kept : (items : ℕ → List (List ℕ)) (old new : ℕ → Image) (S T : Store)
    → KeepsUndo old new → new 1 ≡ old 1 → T.slot ≡ S.slot → T.undo ≡ S.undo
    → HasUndo items old S → HasUndo items new T
undo_kept items old new S T keeps page slots undo h s t low is =
    subst (λ (im : Image). UndoList new t (current items) (slot_of im s).last (T.undo s)) (sym page)
    (subst (λ (f : ℕ → List UndoEntry). UndoList new t (current items) (slot_of (old 1) s).last (f s))
    (sym undo)
    (undo_list_kept old new keeps t (current items) (slot_of (old 1) s).last (S.undo s)
    (h s t low (ap (λ (f : ℕ → Option ℕ). f s) (sym slots) ∙ is))))
