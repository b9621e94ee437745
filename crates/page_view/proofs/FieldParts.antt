-- Fields in the midst of bytes.
use Rattle.std.proofs.Common.{◌≡◌, ◌≤◌, ◌<◌, ◌+◌, ◌^◌, ℕ, suc, List, ◌∷◌, ◌++◌, length, take, drop, slice_index, sym, ◌∙◌, ap, arith, length-drop}
use Rattle.std.proofs.lemmas.List.{take-append-drop, drop-drop, get_or-drop}
use Rattle.std.proofs.Math.Seq.{drop-append_seam, drop-cons}
use Rattle.rm_base.specs.Fields.{field, number, AreBytes}
use Rattle.rm_base.proofs.FieldLaws.{length-field, number-lt, field-number}

pub AreBytes-drop : (n : ℕ) (xs : List ℕ) → AreBytes xs → AreBytes (drop n xs)
AreBytes-drop n xs bs = λ k. rw (get_or-drop n xs k 0) (bs (n + k))

-- the bytes from a place on begin with the field there
pub split_field : (n at next : ℕ) (xs : List ℕ) → AreBytes xs → next ≡ at + n → next ≤ length xs
    → drop at xs ≡ field n (number n (drop at xs)) ++ drop next xs
split_field n at next xs bs e h =
    let inside : n ≤ length (drop at xs) = rw length-drop (omega arith) in
    sym (ap (λ (q : List ℕ). q ++ drop next xs) (field-number n (drop at xs) (AreBytes-drop at xs bs) inside)
    ∙ ap (λ (q : ℕ). take n (drop at xs) ++ drop q xs) e
    ∙ ap (λ (q : List ℕ). take n (drop at xs) ++ q) (sym (drop-drop n at xs))
    ∙ take-append-drop n (drop at xs))

-- a number of a field is below its bound
pub field-lt : (n at : ℕ) (xs : List ℕ) → AreBytes xs → number n (drop at xs) < 256 ^ n
field-lt n at xs bs = number-lt n (drop at xs) (AreBytes-drop at xs bs)

-- the bytes from a place on begin with the byte there
pub split_byte : (at next : ℕ) (xs : List ℕ) → next ≡ at + 1 → next ≤ length xs → drop at xs ≡ slice_index xs at ∷ drop next xs
split_byte at next xs e h =
    let one : suc at ≡ next = omega arith in
    drop-cons xs at 0 (omega arith) ∙ ap (λ (q : ℕ). slice_index xs at ∷ drop q xs) one

-- the bytes from a place on begin with a part of some length
pub split_part : (n at next : ℕ) (xs : List ℕ) → next ≡ at + n → drop at xs ≡ take n (drop at xs) ++ drop next xs
split_part n at next xs e =
    sym (ap (λ (q : ℕ). take n (drop at xs) ++ drop q xs) e
    ∙ ap (λ (q : List ℕ). take n (drop at xs) ++ q) (sym (drop-drop n at xs))
    ∙ take-append-drop n (drop at xs))

-- past a field stands what follows it
pub past_field : (n at next x : ℕ) (xs rest : List ℕ) → next ≡ at + n → drop at xs ≡ field n x ++ rest → drop next xs ≡ rest
past_field n at next x xs rest e h =
    ap (λ (q : ℕ). drop q xs) e ∙ sym (drop-drop n at xs) ∙ ap (drop n) h
    ∙ ap (λ (q : ℕ). drop q (field n x ++ rest)) (sym (length-field n x)) ∙ drop-append_seam (field n x) rest
