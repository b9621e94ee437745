-- Bytes that keep the rules are the spelling of what is read in them.
use Rattle.std.proofs.Common.{◌≡◌, ◌≤◌, ◌<◌, ◌+◌, ◌-◌, ◌*◌, ℕ, zero, suc, List, [], ◌∷◌, ◌++◌, length, take, drop, get_or, slice_index, slice_range, All, refl, sym, ◌∙◌, ap, arith, length-drop}
use Rattle.std.proofs.lemmas.List.{drop-drop, get_or-drop, length-take-le}
use Rattle.std.proofs.lemmas.List.Elements.{All-nil, All-cons}
use Rattle.std.proofs.Math.Seq.{take-add}
use Rattle.rm_base.specs.Fields.{field, number, AreBytes}
use Rattle.rm_base.proofs.FieldLaws.{field-number}
use Rattle.page_image.specs.declared.header.Header.{Header}
use Rattle.page_image.specs.Image.{kind_number, kind_with, zeros}
use Rattle.page_image.specs.Layout.{header_bytes, header_at, packed, slot_bytes, items_at}

pub AreBytes-drop : (at : ℕ) (xs : List ℕ) → AreBytes xs → AreBytes (drop at xs)
AreBytes-drop at xs bytes = λ k. rw (get_or-drop at xs k 0) (bytes (at + k))

-- a kind's number is read and written back
kind_number-kind_with : (n : ℕ) → n ≤ 6 → kind_number (kind_with n) ≡ n
kind_number-kind_with zero h = refl
kind_number-kind_with (suc zero) h = refl
kind_number-kind_with (suc (suc zero)) h = refl
kind_number-kind_with (suc (suc (suc zero))) h = refl
kind_number-kind_with (suc (suc (suc (suc zero)))) h = refl
kind_number-kind_with (suc (suc (suc (suc (suc zero))))) h = refl
kind_number-kind_with (suc (suc (suc (suc (suc (suc zero)))))) h = refl
kind_number-kind_with (suc (suc (suc (suc (suc (suc (suc n))))))) h = absurd (omega arith)

-- two bytes
two_bytes : (xs : List ℕ) → 2 ≤ length xs → take 2 xs ≡ get_or xs 0 0 ∷ get_or xs 1 0 ∷ []
two_bytes [] long = absurd (omega arith)
two_bytes (x ∷ []) long = absurd (omega arith)
two_bytes (x ∷ (y ∷ ys)) long = refl

-- the next field, and the rest
split_field : (n at : ℕ) (bytes : List ℕ) (m : ℕ) → AreBytes bytes → at + n ≤ length bytes → take (n + m) (drop at bytes) ≡ field n (number n (drop at bytes)) ++ take m (drop (at + n) bytes)
split_field n at bytes m are long =
    take-add n m (drop at bytes)
    ∙ ap (λ (q : List ℕ). q ++ take m (drop n (drop at bytes))) (sym (field-number n (drop at bytes) (AreBytes-drop at bytes are) (omega (arith, length-drop at bytes))))
    ∙ ap (λ (q : List ℕ). field n (number n (drop at bytes)) ++ take m q) (drop-drop n at bytes)

-- the header that is read is the one that stands there
pub header_bytes-header_at : (bytes : List ℕ) → AreBytes bytes → 32 ≤ length bytes → slice_index bytes 0 ≤ 6 → slice_index bytes 1 ≡ 0 → slice_index bytes 31 ≡ 0 → header_bytes (header_at bytes) ≡ take 32 bytes
unfolding header_bytes
header_bytes-header_at bytes are long kind first last =
    let h : Header = header_at bytes in
    let b : ℕ = slice_index bytes 0 in
    let front : take 2 bytes ≡ kind_number h.kind ∷ 0 ∷ [] =
    two_bytes bytes (omega arith) ∙ ap (λ (q : ℕ). q ∷ get_or bytes 1 0 ∷ []) (sym (kind_number-kind_with b kind)) ∙ ap (λ (q : ℕ). kind_number (kind_with b) ∷ q ∷ []) first in
    let behind : take 2 (drop 30 bytes) ≡ h.level ∷ 0 ∷ [] =
    two_bytes (drop 30 bytes) (omega (arith, length-drop 30 bytes))
    ∙ ap (λ (q : ℕ). q ∷ get_or (drop 30 bytes) 1 0 ∷ []) (get_or-drop 30 bytes 0 0)
    ∙ ap (λ (q : ℕ). slice_index bytes 30 ∷ q ∷ []) (get_or-drop 30 bytes 1 0 ∙ last) in
    sym (take-add 2 30 bytes
    ∙ ap (λ (q : List ℕ). q ++ take 30 (drop 2 bytes)) front
    ∙ ap (λ (q : List ℕ). (kind_number h.kind ∷ 0 ∷ []) ++ q)
    (split_field 2 2 bytes 28 are (omega arith)
    ∙ ap (λ (q : List ℕ). field 2 h.slots ++ q)
    (split_field 4 4 bytes 24 are (omega arith)
    ∙ ap (λ (q : List ℕ). field 4 h.page ++ q)
    (split_field 8 8 bytes 16 are (omega arith)
    ∙ ap (λ (q : List ℕ). field 8 h.lsn ++ q)
    (split_field 8 16 bytes 8 are (omega arith)
    ∙ ap (λ (q : List ℕ). field 8 h.structure ++ q)
    (split_field 4 24 bytes 4 are (omega arith)
    ∙ ap (λ (q : List ℕ). field 4 h.next ++ q)
    (split_field 2 28 bytes 2 are (omega arith)
    ∙ ap (λ (q : List ℕ). field 2 h.low ++ q) behind)))))))

-- n slots of which each stands below the one before it
abbrev pub Descends : ℕ → ℕ → List ℕ → Type 0
Descends zero end slots = Unit {0}
Descends (suc n) end slots = (number 2 slots < end) × Descends n (number 2 slots) (drop 2 slots)

-- the last of them
abbrev pub last_place : ℕ → ℕ → List ℕ → ℕ
last_place zero end slots = end
last_place (suc n) end slots = last_place n (number 2 slots) (drop 2 slots)

pub last_place-le : (n end : ℕ) (slots : List ℕ) → Descends n end slots → last_place n end slots ≤ end
last_place-le zero end slots d = omega arith
last_place-le (suc n) end slots d = let rest : last_place n (number 2 slots) (drop 2 slots) ≤ number 2 slots = last_place-le n (number 2 slots) (drop 2 slots) (d.1) in omega (arith, d.0)

-- a part cut in two
cut_range : (bytes : List ℕ) (a b c : ℕ) → a ≤ b → b ≤ c → slice_range bytes a b ++ slice_range bytes b c ≡ slice_range bytes a c
cut_range bytes a b c low high =
    let whole : (b - a) + (c - b) ≡ c - a = omega arith in
    let there : a + (b - a) ≡ b = omega arith in
    ap (λ (q : ℕ). slice_range bytes a b ++ take (c - b) (drop q bytes)) (sym there)
    ∙ ap (λ (q : List ℕ). slice_range bytes a b ++ take (c - b) q) (sym (drop-drop (b - a) a bytes))
    ∙ sym (take-add (b - a) (c - b) (drop a bytes))
    ∙ ap (λ (q : ℕ). take q (drop a bytes)) whole

pub length-range : (bytes : List ℕ) (a b : ℕ) → a ≤ b → b ≤ length bytes → length (slice_range bytes a b) ≡ b - a
length-range bytes a b low high = length-take-le (b - a) (drop a bytes) (omega (arith, length-drop a bytes))

pub length-items_at : (n end : ℕ) (slots bytes : List ℕ) → length (items_at n end slots bytes) ≡ n
length-items_at zero end slots bytes = refl
length-items_at (suc n) end slots bytes = ap (λ (q : ℕ). suc q) (length-items_at n (number 2 slots) (drop 2 slots) bytes)

-- the slots of the items that are read are those that stand there
pub slot_bytes-items_at : (n end : ℕ) (slots bytes : List ℕ) → AreBytes slots → 2 * n ≤ length slots → end ≤ length bytes → Descends n end slots → slot_bytes end (items_at n end slots bytes) ≡ take (2 * n) slots
slot_bytes-items_at zero end slots bytes are long within d = refl
slot_bytes-items_at (suc n) end slots bytes are long within d =
    let place : ℕ = number 2 slots in
    let size : length (slice_range bytes place end) ≡ end - place = length-range bytes place end (omega (arith, d.0)) within in
    let back : end - length (slice_range bytes place end) ≡ place = omega (arith, d.0) in
    let two : 2 * suc n ≡ 2 + 2 * n = omega arith in
    ap (λ (q : ℕ). field 2 q ++ slot_bytes q (items_at n place (drop 2 slots) bytes)) back
    ∙ ap (λ (q : List ℕ). q ++ slot_bytes place (items_at n place (drop 2 slots) bytes)) (field-number 2 slots are (omega arith))
    ∙ ap (λ (q : List ℕ). take 2 slots ++ q) (slot_bytes-items_at n place (drop 2 slots) bytes (AreBytes-drop 2 slots are) (omega (arith, length-drop 2 slots)) (omega (arith, d.0)) (d.1))
    ∙ sym (take-add 2 (2 * n) slots)
    ∙ ap (λ (q : ℕ). take q slots) (sym two)

-- and the items lie from the last place on
pub packed-items_at : (n end : ℕ) (slots bytes : List ℕ) → end ≤ length bytes → Descends n end slots → packed (items_at n end slots bytes) ≡ slice_range bytes (last_place n end slots) end
packed-items_at zero end slots bytes within d = let none : end - end ≡ 0 = omega arith in ap (λ (q : ℕ). take q (drop end bytes)) (sym none)
packed-items_at (suc n) end slots bytes within d =
    let place : ℕ = number 2 slots in
    ap (λ (q : List ℕ). q ++ slice_range bytes place end) (packed-items_at n place (drop 2 slots) bytes (omega (arith, d.0)) (d.1))
    ∙ cut_range bytes (last_place n place (drop 2 slots)) place end (last_place-le n place (drop 2 slots) (d.1)) (omega (arith, d.0))

-- each of them has a byte
pub some-items_at : (n end : ℕ) (slots bytes : List ℕ) → end ≤ length bytes → Descends n end slots → All (λ (item : List ℕ). 1 ≤ length item) (items_at n end slots bytes)
some-items_at zero end slots bytes within d = All-nil (λ (item : List ℕ). 1 ≤ length item)
some-items_at (suc n) end slots bytes within d =
    All-cons (λ (item : List ℕ). 1 ≤ length item) (slice_range bytes (number 2 slots) end) (items_at n (number 2 slots) (drop 2 slots) bytes)
    (omega (arith, length-range bytes (number 2 slots) end (omega (arith, d.0)) within, d.0))
    (some-items_at n (number 2 slots) (drop 2 slots) bytes (omega (arith, d.0)) (d.1))

-- a list of zeros
pub zeros_from : (xs : List ℕ) → ((k : ℕ) → k < length xs → get_or xs k 0 ≡ 0) → xs ≡ zeros (length xs)
unfolding zeros
zeros_from [] each = refl
zeros_from (x ∷ xs) each = ap (λ (q : ℕ). q ∷ xs) (each 0 (omega arith)) ∙ ap (λ (q : List ℕ). 0 ∷ q) (zeros_from xs (λ k within. each (suc k) (omega arith)))

pub get_or-zeros : (n k : ℕ) → get_or (zeros n) k 0 ≡ 0
unfolding zeros
get_or-zeros zero k = refl
get_or-zeros (suc n) zero = refl
get_or-zeros (suc n) (suc k) = get_or-zeros n k
