-- Runs of bytes that pass a test, and numbers in digits.
use Rattle.std.proofs.Common.{◌≡◌, ℕ, zero, suc, ◌+◌, ◌-◌, ◌*◌, ◌<◌, ◌≤◌, ◌&&◌, Bool, true, false, cond, List, [], ◌∷◌, ◌++◌, length, take, drop, get_or, refl, arith}
use Rattle.std.specs.List.{list_all, prefix_len}
use Rattle.std.proofs.lemmas.Bool.Decides.{nat_tests}
use Rattle.sql_words.specs.Bytes.{is_digit, BeginsNot}
use Rattle.sql_words.specs.Front.{value_behind}

-- both sides of a test that holds
pub both : (a b : Bool) → (a && b) ≡ true → (a ≡ true) × (b ≡ true)
both true true h = (refl, refl)
both true false h = cc
both false b h = cc

-- each byte of a run passes
pub each_passes : (p : ℕ → Bool) (xs : List ℕ) (k : ℕ) → list_all p xs ≡ true → k < length xs → p (get_or xs k 0) ≡ true
each_passes p [] k h i = absurd (omega arith)
each_passes p (x ∷ xs) zero h i = (both (p x) (list_all p xs) h).0
each_passes p (x ∷ xs) (suc k) h i = each_passes p xs k (both (p x) (list_all p xs) h).1 (omega arith)

-- the bytes that a prefix counts all pass
pub prefix_passes : (p : ℕ → Bool) (xs : List ℕ) → list_all p (take (prefix_len p xs) xs) ≡ true
prefix_passes p [] = refl
prefix_passes p (x ∷ xs) = by_test (p x) refl (prefix_passes p xs) where
  by_test : (b : Bool) → p x ≡ b → list_all p (take (prefix_len p xs) xs) ≡ true → list_all p (take (cond b (1 + prefix_len p xs) 0) (x ∷ xs)) ≡ true
  by_test true e h = let s : 1 + prefix_len p xs ≡ suc (prefix_len p xs) = omega arith in rw (s, e) h
  by_test false e h = refl

-- and the byte behind them does not
pub prefix_ends : (p : ℕ → Bool) (xs : List ℕ) → BeginsNot p (drop (prefix_len p xs) xs)
prefix_ends p [] = tt
prefix_ends p (x ∷ xs) = by_test (p x) refl (prefix_ends p xs) where
  by_test : (b : Bool) → p x ≡ b → BeginsNot p (drop (prefix_len p xs) xs) → BeginsNot p (drop (cond b (1 + prefix_len p xs) 0) (x ∷ xs))
  by_test true e h = let s : 1 + prefix_len p xs ≡ suc (prefix_len p xs) = omega arith in rw s h
  by_test false e h = e

-- a run with nothing behind it that passes is what a prefix counts
pub prefix_len-run : (p : ℕ → Bool) (xs rest : List ℕ) → list_all p xs ≡ true → BeginsNot p rest → prefix_len p (xs ++ rest) ≡ length xs
prefix_len-run p [] [] h e = refl
prefix_len-run p [] (b ∷ rest) h e = rw e refl
prefix_len-run p (x ∷ xs) rest h e =
    let t = both (p x) (list_all p xs) h in
    let more : prefix_len p (xs ++ rest) ≡ length xs = prefix_len-run p xs rest t.1 e in
    let here : p x ≡ true = t.0 in
    rw here (omega arith)

-- a digit is at least the byte of 0
pub digit_from : (b : ℕ) → is_digit b ≡ true → 48 ≤ b
unfolding is_digit
digit_from b h = grind (arith, nat_tests)

-- more digits make no number smaller
pub value_behind-le : (n : ℕ) (ds : List ℕ) → n ≤ value_behind n ds
value_behind-le n [] = omega arith
value_behind-le n (d ∷ ds) = omega (arith, value_behind-le (n * 10 + (d - 48)) ds)

-- nor any behind them fewer than ten times as large
pub value_behind-more : (n : ℕ) (ds : List ℕ) → 0 < length ds → n * 10 ≤ value_behind n ds
value_behind-more n [] h = absurd (omega arith)
value_behind-more n (d ∷ ds) h = omega (arith, value_behind-le (n * 10 + (d - 48)) ds)
