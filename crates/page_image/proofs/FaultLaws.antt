-- A search for the first fault, step by step, and what it means that there is none.
use Rattle.std.proofs.Common.{◌≡◌, ◌≤◌, ◌<◌, ◌+◌, ◌-◌, ◌*◌, ℕ, zero, suc, Bool, true, false, cond, List, Some, None, nat_lt, nat_le, refl, sym, ◌∙◌, ap, ⊎_elim, arith}
use Rattle.std.proofs.lemmas.Bool.{cases_Bool, and_parts, ltb-true, leb-true, cases_eq}
use Rattle.page_image.specs.Layout.{end_of}
use Rattle.page_image.specs.Faults.{first_failing, slot_holds}

left_more : (i n : ℕ) → i < n → n - i ≡ suc (n - (i + 1))
left_more i n within = omega arith

-- a number that passes
pub first_failing-pass : (test : ℕ → Bool) (i n : ℕ) → i < n → test i ≡ true → first_failing test i (n - i) ≡ first_failing test (i + 1) (n - (i + 1))
first_failing-pass test i n within passes =
    let next : suc i ≡ i + 1 = omega arith in
    ap (first_failing test i) (left_more i n within)
    ∙ ap (λ (b : Bool). cond b (first_failing test (suc i) (n - (i + 1))) (Some i)) passes
    ∙ ap (λ (q : ℕ). first_failing test q (n - (i + 1))) next

-- a number that fails
pub first_failing-fail : (test : ℕ → Bool) (i n : ℕ) → i < n → test i ≡ false → first_failing test i (n - i) ≡ Some i
first_failing-fail test i n within fails =
    ap (first_failing test i) (left_more i n within) ∙ ap (λ (b : Bool). cond b (first_failing test (suc i) (n - (i + 1))) (Some i)) fails

-- where none fails, each passes
pub all_pass : (test : ℕ → Bool) (from n : ℕ) → first_failing test from n ≡ None → (k : ℕ) → from ≤ k → k < from + n → test k ≡ true
all_pass test from zero none k low high = absurd (omega arith)
all_pass test from (suc n) none k low high =
    ⊎_elim (λ passes.
    let rest : first_failing test (suc from) n ≡ None = ap (λ (b : Bool). cond b (first_failing test (suc from) n) (Some from)) (sym passes) ∙ none in
    ⊎_elim (λ here. ap test here ∙ passes) (λ past. all_pass test (suc from) n rest k (past_le past) (omega arith)) (cases_eq k from))
    (λ fails. let clash : Some from ≡ None = ap (λ (b : Bool). cond b (first_failing test (suc from) n) (Some from)) (sym fails) ∙ none in absurd cc)
    (cases_Bool (test from))
  where
    past_le : (k ≡ from → ⊥) → suc from ≤ k
    past_le past = omega arith

-- and where each passes, none fails
pub pass_all : (test : ℕ → Bool) (from n : ℕ) → ((k : ℕ) → from ≤ k → k < from + n → test k ≡ true) → first_failing test from n ≡ None
pass_all test from zero each = refl
pass_all test from (suc n) each =
    ap (λ (b : Bool). cond b (first_failing test (suc from) n) (Some from)) (each from (omega arith) (omega arith))
    ∙ pass_all test (suc from) n (λ k low high. each k (omega arith) (omega arith))

-- what the rules of a slot say
pub slot_says : (bytes : List ℕ) (count i : ℕ) → slot_holds bytes count i ≡ true → (end_of bytes (i + 1) < end_of bytes i) × (32 + 2 * count ≤ end_of bytes (i + 1))
slot_says bytes count i holds =
    let parts = and_parts (nat_lt (end_of bytes (i + 1)) (end_of bytes i)) (nat_le (32 + 2 * count) (end_of bytes (i + 1))) holds in
    (ltb-true (end_of bytes (i + 1)) (end_of bytes i) (parts.0), leb-true (32 + 2 * count) (end_of bytes (i + 1)) (parts.1))
