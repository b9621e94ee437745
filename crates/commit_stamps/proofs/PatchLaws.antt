-- For the proofs: numbers in a body of which some bytes were overwritten.
use Rattle.std.proofs.Common.{◌≡◌, ◌≤◌, ◌+◌, ◌-◌, ℕ, List, ◌++◌, length, take, drop, refl, sym, ◌∙◌, ap, arith, length-drop}
use Rattle.std.proofs.lemmas.List.{drop-drop, drop_at, drop-append-le, take-append-drop, length-take-le}
use Rattle.rm_base.specs.Fields.{number}
use Rattle.rm_base.proofs.FieldLaws.{number-append}

-- the body with the bytes at a place
abbrev pub overwritten : ℕ → List ℕ → List ℕ → List ℕ
overwritten p bytes body = take p body ++ (bytes ++ drop (p + length bytes) body)

from_place : (p : ℕ) (bytes body : List ℕ) → p ≤ length body → drop p (overwritten p bytes body) ≡ bytes ++ drop (p + length bytes) body
from_place p bytes body h = drop_at (take p body) (bytes ++ drop (p + length bytes) body) p (length-take-le p body h)

-- a number within the bytes is theirs
pub number_within : (n p i : ℕ) (bytes body : List ℕ) → p ≤ length body → i + n ≤ length bytes
    → number n (drop (p + i) (overwritten p bytes body)) ≡ number n (drop i bytes)
number_within n p i bytes body h k =
    let rest : List ℕ = drop (p + length bytes) body in
    let inside : n ≤ length (drop i bytes) = rw length-drop (omega arith) in
    ap (number n) (sym (drop-drop i p (overwritten p bytes body)) ∙ ap (drop i) (from_place p bytes body h) ∙ drop-append-le i bytes rest (omega arith))
    ∙ number-append n (drop i bytes) rest inside

-- a number before them is as it was
pub number_below : (n p at : ℕ) (bytes body : List ℕ) → p ≤ length body → at + n ≤ p
    → number n (drop at (overwritten p bytes body)) ≡ number n (drop at body)
number_below n p at bytes body h k =
    let long : length (take p body) ≡ p = length-take-le p body h in
    let inside : n ≤ length (drop at (take p body)) = rw length-drop (omega arith) in
    ap (number n) (drop-append-le at (take p body) (bytes ++ drop (p + length bytes) body) (omega arith))
    ∙ number-append n (drop at (take p body)) (bytes ++ drop (p + length bytes) body) inside
    ∙ sym (number-append n (drop at (take p body)) (drop p body) inside)
    ∙ ap (number n) (sym (drop-append-le at (take p body) (drop p body) (omega arith)) ∙ ap (drop at) (take-append-drop p body))

-- what stands behind them is as it was
pub number_above : (n p at : ℕ) (bytes body : List ℕ) → p ≤ length body → p + length bytes ≤ at
    → number n (drop at (overwritten p bytes body)) ≡ number n (drop at body)
number_above n p at bytes body h k =
    let j : ℕ = at - (p + length bytes) in
    let rest : List ℕ = drop (p + length bytes) body in
    let place : at ≡ p + (length bytes + j) = omega arith in
    let there : at ≡ (p + length bytes) + j = omega arith in
    ap (λ (q : ℕ). number n (drop q (overwritten p bytes body))) place
    ∙ ap (number n) (sym (drop-drop (length bytes + j) p (overwritten p bytes body)) ∙ ap (drop (length bytes + j)) (from_place p bytes body h)
    ∙ sym (drop-drop j (length bytes) (bytes ++ rest)) ∙ ap (drop j) (drop_at bytes rest (length bytes) refl)
    ∙ drop-drop j (p + length bytes) body)
    ∙ ap (λ (q : ℕ). number n (drop q body)) (sym there)
