-- For the proofs: slots and counters after a patch.
use Rattle.std.proofs.Common.{◌≡◌, ◌≢◌, ◌≤◌, ◌<◌, ◌+◌, ◌-◌, ◌*◌, ◌^◌, ℕ, true, false, List, [], ◌++◌, length, drop, nat_eq, ◌⊎◌, inl, inr, sym, ◌∙◌, ap, arith, append_assoc, append-nil, length-append}
use Rattle.std.specs.Prelude.{if◌then◌else◌}
use Rattle.std.proofs.lemmas.Bool.{cases_eq, cases_order, eq-eqb, ne_eqb}
use Rattle.std.proofs.lemmas.List.{drop-drop, drop_at}
use Rattle.rm_base.specs.Fields.{field, number}
use Rattle.rm_base.proofs.FieldLaws.{length-field, number-field}
use Rattle.rm_base.specs.declared.places.UndoPtr.{UndoPtr}
use Rattle.page_image.specs.Meta.{Counters, IsMeta, IsSlots, counters_of}
use Rattle.page_image.specs.Image.{Image, patched}
use Rattle.commit_stamps.specs.declared.slots.Slot.{Slot}
use Rattle.commit_stamps.specs.Fields.{slot_of, pointer_bytes, slot_bytes}
use Rattle.commit_stamps.specs.Effects.{SetsSlot, SetsCounters}
use Rattle.commit_stamps.proofs.PatchLaws.{overwritten, number_within, number_below, number_above}

-- ---- slots

abbrev pub slot_with : ℕ → ℕ → ℕ → Slot
slot_with trx page slot = record { trx = trx; last = record { page = page; slot = slot } }

-- the slot in a body
abbrev pub slot_in : List ℕ → ℕ → Slot
slot_in body s = slot_with (number 8 (drop (16 * s) body)) (number 4 (drop (16 * s + 8) body)) (number 2 (drop (16 * s + 12) body))

same_slot : (a b c d e f : ℕ) → a ≡ d → b ≡ e → c ≡ f → slot_with a b c ≡ slot_with d e f
same_slot a b c d e f p q r = λ i. slot_with (p i) (q i) (r i)

pub length-pointer : (at : UndoPtr) → length (pointer_bytes at) ≡ 6
length-pointer at = simp (length-append, length-field)

pub length-slot : (slot : Slot) → length (slot_bytes slot) ≡ 16
length-slot slot = simp (length-append, length-field)

behind : (n x : ℕ) (rest : List ℕ) → drop n (field n x ++ rest) ≡ rest
behind n x rest = drop_at (field n x) rest n (length-field n x)

-- what a slot's bytes say
slot_said : (slot : Slot) → slot.trx < 2 ^ 64 → slot.last.page < 2 ^ 32 → slot.last.slot < 2 ^ 16
    → (number 8 (drop 0 (slot_bytes slot)) ≡ slot.trx) × (number 4 (drop 8 (slot_bytes slot)) ≡ slot.last.page) × (number 2 (drop 12 (slot_bytes slot)) ≡ slot.last.slot)
slot_said slot a b c =
    let end : List ℕ = field 2 0 in
    let place : List ℕ = field 2 slot.last.slot ++ end in
    let grouped : pointer_bytes slot.last ++ end ≡ field 4 slot.last.page ++ place = append_assoc (field 4 slot.last.page) (field 2 slot.last.slot) end in
    let eight : drop 8 (slot_bytes slot) ≡ field 4 slot.last.page ++ place = behind 8 slot.trx (pointer_bytes slot.last ++ end) ∙ grouped in
    let twelve : drop 12 (slot_bytes slot) ≡ place = sym (drop-drop 4 8 (slot_bytes slot)) ∙ ap (drop 4) eight ∙ behind 4 slot.last.page place in (
      number-field 8 slot.trx (pointer_bytes slot.last ++ end) a,
      ap (number 4) eight ∙ number-field 4 slot.last.page place b,
      ap (number 2) twelve ∙ number-field 2 slot.last.slot end c,
    )

-- another slot's numbers stay, whatever is written into this one
other_slot : (r s p : ℕ) (bytes body : List ℕ) → (r < s) ⊎ (s < r) → 16 * s ≤ p → p + length bytes ≤ 16 * s + 16 → p ≤ length body
    → slot_in (overwritten p bytes body) r ≡ slot_in body r
other_slot r s p bytes body (inl h) a b c =
    same_slot (number 8 (drop (16 * r) (overwritten p bytes body))) (number 4 (drop (16 * r + 8) (overwritten p bytes body))) (number 2 (drop (16 * r + 12) (overwritten p bytes body)))
    (number 8 (drop (16 * r) body)) (number 4 (drop (16 * r + 8) body)) (number 2 (drop (16 * r + 12) body))
    (number_below 8 p (16 * r) bytes body c (omega arith)) (number_below 4 p (16 * r + 8) bytes body c (omega arith)) (number_below 2 p (16 * r + 12) bytes body c (omega arith))
other_slot r s p bytes body (inr h) a b c =
    same_slot (number 8 (drop (16 * r) (overwritten p bytes body))) (number 4 (drop (16 * r + 8) (overwritten p bytes body))) (number 2 (drop (16 * r + 12) (overwritten p bytes body)))
    (number 8 (drop (16 * r) body)) (number 4 (drop (16 * r + 8) body)) (number 2 (drop (16 * r + 12) body))
    (number_above 8 p (16 * r) bytes body c (omega arith)) (number_above 4 p (16 * r + 8) bytes body c (omega arith)) (number_above 2 p (16 * r + 12) bytes body c (omega arith))

-- the slot itself, written anew
own_slot : (s : ℕ) (slot : Slot) (body : List ℕ) → slot.trx < 2 ^ 64 → slot.last.page < 2 ^ 32 → slot.last.slot < 2 ^ 16 → 16 * s ≤ length body
    → slot_in (overwritten (16 * s) (slot_bytes slot) body) s ≡ slot
own_slot s slot body a b c h =
    let new : List ℕ = overwritten (16 * s) (slot_bytes slot) body in
    let said = slot_said slot a b c in
    let long = length-slot slot in
    let here : 16 * s ≡ 16 * s + 0 = omega arith in
    same_slot (number 8 (drop (16 * s) new)) (number 4 (drop (16 * s + 8) new)) (number 2 (drop (16 * s + 12) new)) slot.trx slot.last.page slot.last.slot
    (ap (λ (q : ℕ). number 8 (drop q new)) here ∙ number_within 8 (16 * s) 0 (slot_bytes slot) body h (omega arith) ∙ said.0)
    (number_within 4 (16 * s) 8 (slot_bytes slot) body h (omega arith) ∙ said.1)
    (number_within 2 (16 * s) 12 (slot_bytes slot) body h (omega arith) ∙ said.2)

-- or its last undo item alone
own_pointer : (s : ℕ) (at : UndoPtr) (body : List ℕ) → at.page < 2 ^ 32 → at.slot < 2 ^ 16 → 16 * s + 8 ≤ length body
    → slot_in (overwritten (16 * s + 8) (pointer_bytes at) body) s ≡ slot_with (number 8 (drop (16 * s) body)) at.page at.slot
own_pointer s at body b c h =
    let bytes : List ℕ = pointer_bytes at in
    let new : List ℕ = overwritten (16 * s + 8) bytes body in
    let long = length-pointer at in
    let here : 16 * s + 8 ≡ (16 * s + 8) + 0 = omega arith in
    let there : 16 * s + 12 ≡ (16 * s + 8) + 4 = omega arith in
    let whole : drop 4 bytes ≡ field 2 at.slot = behind 4 at.page (field 2 at.slot) in
    same_slot (number 8 (drop (16 * s) new)) (number 4 (drop (16 * s + 8) new)) (number 2 (drop (16 * s + 12) new)) (number 8 (drop (16 * s) body)) at.page at.slot
    (number_below 8 (16 * s + 8) (16 * s) bytes body h (omega arith))
    (ap (λ (q : ℕ). number 4 (drop q new)) here ∙ number_within 4 (16 * s + 8) 0 bytes body h (omega arith) ∙ number-field 4 at.page (field 2 at.slot) b)
    (ap (λ (q : ℕ). number 2 (drop q new)) there ∙ number_within 2 (16 * s + 8) 4 bytes body h (omega arith) ∙ ap (number 2) (whole ∙ sym (append-nil (field 2 at.slot))) ∙ number-field 2 at.slot [] c)

-- one slot is this one, the others are as they were
chosen : (r s : ℕ) (new old slot : Slot) → (r ≡ s → new ≡ slot) → (r ≢ s → new ≡ old) → new ≡ (if nat_eq r s then slot else old)
chosen r s new old slot own other =
    elim (cases_eq r s) [
      | inl e ↦ (let same : nat_eq r s ≡ true = eq-eqb r s e in rw same (own e))
      | inr ne ↦ (let not : nat_eq r s ≡ false = ne_eqb r s ne in rw not (other ne))
    ]

apart : (r s : ℕ) → r ≢ s → (r < s) ⊎ (s < r)
apart r s ne = elim (cases_order r s) [ inl e ↦ absurd (ne e) | inr h ↦ h ]

pub fills_slot : (im : Image) (s : ℕ) (slot : Slot) (lsn : ℕ) → IsSlots im → length im.body ≡ 4064 → s < 64 → slot.trx < 2 ^ 64 → slot.last.page < 2 ^ 32 → slot.last.slot < 2 ^ 16
    → SetsSlot im (patched im (32 + 16 * s) (slot_bytes slot) lsn) s slot
fills_slot im s slot lsn is long below a b c =
    let size = length-slot slot in
    let place : (32 + 16 * s) - 32 ≡ 16 * s = omega arith in
    let body : overwritten ((32 + 16 * s) - 32) (slot_bytes slot) im.body ≡ overwritten (16 * s) (slot_bytes slot) im.body =
    ap (λ (p : ℕ). overwritten p (slot_bytes slot) im.body) place in
    record {
      kept = record { kind = is.kind; number = is.number };
      slots = λ r _. ap (λ (b : List ℕ). slot_in b r) body
          ∙ chosen r s (slot_in (overwritten (16 * s) (slot_bytes slot) im.body) r) (slot_of im r) slot
          (λ e. ap (slot_in (overwritten (16 * s) (slot_bytes slot) im.body)) e ∙ own_slot s slot im.body a b c (omega arith))
          (λ ne. other_slot r s (16 * s) (slot_bytes slot) im.body (apart r s ne) (omega arith) (omega arith) (omega arith));
    }

pub points_slot : (im : Image) (s : ℕ) (at : UndoPtr) (lsn : ℕ) → IsSlots im → length im.body ≡ 4064 → s < 64 → at.page < 2 ^ 32 → at.slot < 2 ^ 16
    → SetsSlot im (patched im (40 + 16 * s) (pointer_bytes at) lsn) s (record (slot_of im s) { last = at })
points_slot im s at lsn is long below b c =
    let size = length-pointer at in
    let place : (40 + 16 * s) - 32 ≡ 16 * s + 8 = omega arith in
    let body : overwritten ((40 + 16 * s) - 32) (pointer_bytes at) im.body ≡ overwritten (16 * s + 8) (pointer_bytes at) im.body =
    ap (λ (p : ℕ). overwritten p (pointer_bytes at) im.body) place in
    record {
      kept = record { kind = is.kind; number = is.number };
      slots = λ r _. ap (λ (b : List ℕ). slot_in b r) body
          ∙ chosen r s (slot_in (overwritten (16 * s + 8) (pointer_bytes at) im.body) r) (slot_of im r) (record (slot_of im s) { last = at })
          (λ e. ap (slot_in (overwritten (16 * s + 8) (pointer_bytes at) im.body)) e ∙ own_pointer s at im.body b c (omega arith))
          (λ ne. other_slot r s (16 * s + 8) (pointer_bytes at) im.body (apart r s ne) (omega arith) (omega arith) (omega arith));
    }

-- ---- counters

abbrev counters_with : ℕ → ℕ → ℕ → ℕ → Counters
counters_with pages undo_page next last = record { pages = pages; undo_page = undo_page; next = next; last = last }

own_number : (x : ℕ) → x < 2 ^ 64 → number 8 (drop 0 (field 8 x)) ≡ x
own_number x h = ap (number 8) (sym (append-nil (field 8 x))) ∙ number-field 8 x [] h

pub sets_next : (im : Image) (t lsn : ℕ) → IsMeta im → length im.body ≡ 4064 → t < 2 ^ 64
    → SetsCounters (patched im 44 (field 8 t) lsn) (record (counters_of im) { next = t })
sets_next im t lsn is long h =
    let size = length-field 8 t in
    let body : List ℕ = im.body in
    let new : List ℕ = overwritten 12 (field 8 t) body in
    let pages : number 4 (drop 4 new) ≡ number 4 (drop 4 body) = number_below 4 12 4 (field 8 t) body (omega arith) (omega arith) in
    let undo_page : number 4 (drop 8 new) ≡ number 4 (drop 8 body) = number_below 4 12 8 (field 8 t) body (omega arith) (omega arith) in
    let next : number 8 (drop 12 new) ≡ t = number_within 8 12 0 (field 8 t) body (omega arith) (omega arith) ∙ own_number t h in
    let last : number 8 (drop 20 new) ≡ number 8 (drop 20 body) = number_above 8 12 20 (field 8 t) body (omega arith) (omega arith) in
    record { kept = record { kind = is.kind; number = is.number }; counters_are = λ i. counters_with (pages i) (undo_page i) (next i) (last i) }

pub sets_last : (im : Image) (t lsn : ℕ) → IsMeta im → length im.body ≡ 4064 → t < 2 ^ 64
    → SetsCounters (patched im 52 (field 8 t) lsn) (record (counters_of im) { last = t })
sets_last im t lsn is long h =
    let size = length-field 8 t in
    let body : List ℕ = im.body in
    let new : List ℕ = overwritten 20 (field 8 t) body in
    let pages : number 4 (drop 4 new) ≡ number 4 (drop 4 body) = number_below 4 20 4 (field 8 t) body (omega arith) (omega arith) in
    let undo_page : number 4 (drop 8 new) ≡ number 4 (drop 8 body) = number_below 4 20 8 (field 8 t) body (omega arith) (omega arith) in
    let next : number 8 (drop 12 new) ≡ number 8 (drop 12 body) = number_below 8 20 12 (field 8 t) body (omega arith) (omega arith) in
    let last : number 8 (drop 20 new) ≡ t = number_within 8 20 0 (field 8 t) body (omega arith) (omega arith) ∙ own_number t h in
    record { kept = record { kind = is.kind; number = is.number }; counters_are = λ i. counters_with (pages i) (undo_page i) (next i) (last i) }
