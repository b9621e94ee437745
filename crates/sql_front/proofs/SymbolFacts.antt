-- A symbol by its class, and names, numbers and texts that come next.
use Rattle.std.proofs.Common.{◌≡◌, ℕ, Bool, true, false, cond, List, [], ◌∷◌, Ok, Err, refl, ap, arith, ltb, lit<, ltb-true}
use Rattle.std.specs.Prelude.{pos, neg_ℤ, ℤ}
use Rattle.sql_words.specs.declared.reserved.Word.{Word}
use Rattle.sql_words.specs.declared.signs.Sign.{Sign}
use Rattle.sql_words.specs.declared.tokens.Class.TheVariants as c
use Rattle.sql_front.specs.Input.{Reader, and_then, named, any_name, name_if, numbered, small_number, negative_number, texted, text_value}
use Rattle.sql_front.specs.Rules.{Rule, a_name, a_name_if, a_small_number, a_negative_number, a_text}
use Rattle.sql_front.specs.Symbols.{Symbol, word, sign, name, number, text, Input, class_of, behind}
use Rattle.sql_front.proofs.Exact.{Good, at_end, refusing, taking}

pub word_is : (w : Word) (s : Symbol) → class_of s ≡ c.Reserved w → s ≡ word w
word_is w (word x) h = cc
word_is w (sign x) h = absurd cc
word_is w (name x) h = absurd cc
word_is w (number x) h = absurd cc
word_is w (text x) h = absurd cc

pub sign_is : (g : Sign) (s : Symbol) → class_of s ≡ c.Sign g → s ≡ sign g
sign_is g (sign x) h = cc
sign_is g (word x) h = absurd cc
sign_is g (name x) h = absurd cc
sign_is g (number x) h = absurd cc
sign_is g (text x) h = absurd cc

pub number_is : (s : Symbol) → class_of s ≡ c.Number → (n : ℕ) × (s ≡ number n)
number_is (number n) h = (n, refl)
number_is (word x) h = absurd cc
number_is (sign x) h = absurd cc
number_is (name x) h = absurd cc
number_is (text x) h = absurd cc

-- a name
pub good_named : (R : Rule (List ℕ)) (P : Reader (List ℕ)) → P [] ≡ Err []
    → ((s : Symbol) (q : Input) → (class_of s ≡ c.Name → ⊥) → P (s ∷ q) ≡ Err (s ∷ q))
    → (more : Input) (x : List ℕ) → R 0 more x
    → ((n : List ℕ) (i : Input) → Good R P (name n ∷ i)) → (i : Input) → Good R P i
good_named R P e f more x h g [] = at_end e more x h
good_named R P e f more x h g (name n ∷ i) = g n i
good_named R P e f more x h g (word s ∷ i) = refusing (word s) i (λ q. f (word s) q (λ d. cc)) more x h
good_named R P e f more x h g (sign s ∷ i) = refusing (sign s) i (λ q. f (sign s) q (λ d. cc)) more x h
good_named R P e f more x h g (number s ∷ i) = refusing (number s) i (λ q. f (number s) q (λ d. cc)) more x h
good_named R P e f more x h g (text s ∷ i) = refusing (text s) i (λ q. f (text s) q (λ d. cc)) more x h

not_named : (s : Symbol) (q : Input) → (class_of s ≡ c.Name → ⊥) → named (s ∷ q) ≡ Err (s ∷ q)
unfolding named
not_named (name n) q d = absurd (d refl)
not_named (word x) q d = refl
not_named (sign x) q d = refl
not_named (number x) q d = refl
not_named (text x) q d = refl

-- any name is allowed
pub good_any_name : (i : Input) → Good a_name any_name i
unfolding any_name named
good_any_name = good_named a_name any_name refl (λ s q d. ap (λ o. and_then o (λ n. λ j. Ok (n, behind j))) (not_named s q d)) (name [] ∷ []) [] refl
    (λ n i. taking (name n) i n (λ q. refl) (λ k. refl))

pub good_name_if : (allowed : List ℕ → Bool) (i : Input) → Good (a_name_if allowed) (name_if allowed) i
unfolding name_if named
good_name_if allowed = good_named (a_name_if allowed) (name_if allowed) refl
    (λ s q d. ap (λ o. and_then o (λ n. cond {A = Reader (List ℕ)} (allowed n) (λ j. Ok (n, behind j)) (λ j. Err j))) (not_named s q d))
    (name [] ∷ []) [] (refl, λ h. absurd (omega arith))
    (λ n i. by_test n i (allowed n) refl) where
      by_test : (n : List ℕ) (i : Input) (b : Bool) → allowed n ≡ b → Good (a_name_if allowed) (name_if allowed) (name n ∷ i)
      by_test n i true e = taking (name n) i n (λ q. ap (λ b. cond {A = Reader (List ℕ)} b (λ j. Ok (n, behind j)) (λ j. Err j) (name n ∷ q)) e) (λ k. (refl, λ h. e))
      by_test n i false e = refusing (name n) i (λ q. ap (λ b. cond {A = Reader (List ℕ)} b (λ j. Ok (n, behind j)) (λ j. Err j) (name n ∷ q)) e) (name n ∷ []) n (refl, λ h. absurd (omega arith))

not_numbered : (s : Symbol) (q : Input) → (class_of s ≡ c.Number → ⊥) → numbered (s ∷ q) ≡ Err (s ∷ q)
unfolding numbered
not_numbered (number n) q d = absurd (d refl)
not_numbered (word x) q d = refl
not_numbered (sign x) q d = refl
not_numbered (name x) q d = refl
not_numbered (text x) q d = refl

pub good_small_number : (i : Input) → Good a_small_number small_number i
unfolding small_number numbered
good_small_number [] = at_end refl (number 0 ∷ []) (pos 0) (0, refl, lit< tt, refl)
good_small_number (number n ∷ i) = by_test (ltb n 9223372036854775808) refl where
  by_test : (b : Bool) → ltb n 9223372036854775808 ≡ b → Good a_small_number small_number (number n ∷ i)
  by_test true e = taking (number n) i (pos n) (λ q. ap (λ b. cond {A = Reader ℤ} b (λ j. Ok (pos n, behind j)) (λ j. Err j) (number n ∷ q)) e)
      (λ k. (n, refl, ltb-true n 9223372036854775808 e, refl))
  by_test false e = refusing (number n) i (λ q. ap (λ b. cond {A = Reader ℤ} b (λ j. Ok (pos n, behind j)) (λ j. Err j) (number n ∷ q)) e)
      (number 0 ∷ []) (pos 0) (0, refl, lit< tt, refl)
good_small_number (word x ∷ i) = refusing (word x) i (λ q. refl) (number 0 ∷ []) (pos 0) (0, refl, lit< tt, refl)
good_small_number (sign x ∷ i) = refusing (sign x) i (λ q. refl) (number 0 ∷ []) (pos 0) (0, refl, lit< tt, refl)
good_small_number (name x ∷ i) = refusing (name x) i (λ q. refl) (number 0 ∷ []) (pos 0) (0, refl, lit< tt, refl)
good_small_number (text x ∷ i) = refusing (text x) i (λ q. refl) (number 0 ∷ []) (pos 0) (0, refl, lit< tt, refl)

pub good_negative_number : (i : Input) → Good a_negative_number negative_number i
unfolding negative_number numbered
good_negative_number [] = at_end refl (number 0 ∷ []) (neg_ℤ (pos 0)) (0, refl, refl)
good_negative_number (number n ∷ i) = taking (number n) i (neg_ℤ (pos n)) (λ q. refl) (λ k. (n, refl, refl))
good_negative_number (word x ∷ i) = refusing (word x) i (λ q. refl) (number 0 ∷ []) (neg_ℤ (pos 0)) (0, refl, refl)
good_negative_number (sign x ∷ i) = refusing (sign x) i (λ q. refl) (number 0 ∷ []) (neg_ℤ (pos 0)) (0, refl, refl)
good_negative_number (name x ∷ i) = refusing (name x) i (λ q. refl) (number 0 ∷ []) (neg_ℤ (pos 0)) (0, refl, refl)
good_negative_number (text x ∷ i) = refusing (text x) i (λ q. refl) (number 0 ∷ []) (neg_ℤ (pos 0)) (0, refl, refl)

pub good_text : (i : Input) → Good a_text text_value i
unfolding text_value texted
good_text [] = at_end refl (text [] ∷ []) [] refl
good_text (text t ∷ i) = taking (text t) i t (λ q. refl) (λ k. refl)
good_text (word x ∷ i) = refusing (word x) i (λ q. refl) (text [] ∷ []) [] refl
good_text (sign x ∷ i) = refusing (sign x) i (λ q. refl) (text [] ∷ []) [] refl
good_text (name x ∷ i) = refusing (name x) i (λ q. refl) (text [] ∷ []) [] refl
good_text (number x ∷ i) = refusing (number x) i (λ q. refl) (text [] ∷ []) [] refl
