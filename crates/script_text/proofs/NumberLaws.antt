-- For the proofs: how large a number of a few digits is.
use Rattle.std.proofs.Common.{◌≡◌, ℕ, ◌+◌, ◌-◌, ◌*◌, ◌^◌, ◌<◌, ◌≤◌, ◌&&◌, Bool, true, false, List, [], ◌∷◌, length, refl, arith, nat_le, lit<}
use Rattle.std.specs.List.{list_all}
use Rattle.std.proofs.Math.Nat.{mul-le-mul_right, pow-suc, pow-le-pow_right}
use Rattle.std.proofs.lemmas.Bool.Decides.{nat_tests}
use Rattle.sql_words.specs.Bytes.{is_digit}
use Rattle.sql_words.specs.Front.{value_behind, value_of}
use Rattle.script_text.specs.Numbers.{is_number}

-- both sides of a test that holds
pub both : (a b : Bool) → (a && b) ≡ true → (a ≡ true) × (b ≡ true)
both true true h = (refl, refl)
both true false h = cc
both false b h = cc

-- a digit counts at most 9
digit_most : (b : ℕ) → is_digit b ≡ true → b - 48 ≤ 9
unfolding is_digit
digit_most b h = grind (arith, nat_tests)

step : (n d p v : ℕ) → d ≤ 9 → v < (n * 10 + d + 1) * p → v < (n + 1) * (p * 10)
step n d p v most less =
    let more : (n * 10 + d + 1) * p ≤ (n * 10 + 10) * p = mul-le-mul_right p (omega arith) in
    omega (arith, more)

-- each digit makes a number at most ten times as large
pub value_behind-below : (n : ℕ) (ds : List ℕ) → list_all is_digit ds ≡ true → value_behind n ds < (n + 1) * 10 ^ length ds
value_behind-below n [] h = omega arith
value_behind-below n (d ∷ ds) h =
    let t = both (is_digit d) (list_all is_digit ds) h in
    rw (pow-suc 10 (length ds)) (step n (d - 48) (10 ^ length ds) _ (digit_most d t.0) (value_behind-below (n * 10 + (d - 48)) ds t.1))

-- a number of a script is digits alone
pub number-digits : (word : List ℕ) → is_number word ≡ true → list_all is_digit word ≡ true
unfolding is_number
number-digits word h = (both (list_all is_digit word) (nat_le 1 (length word) && nat_le (length word) 9) h).0

few : (n : ℕ) → (nat_le 1 n && nat_le n 9) ≡ true → n ≤ 9
few n h = let t = (both (nat_le 1 n) (nat_le n 9) h).1 in grind (arith, nat_tests)

-- a number of a script is below a thousand millions
pub number-below : (word : List ℕ) → is_number word ≡ true → value_of word < 1000000000
unfolding is_number
number-below word h =
    let t = both (list_all is_digit word) (nat_le 1 (length word) && nat_le (length word) 9) h in
    let power : 10 ^ length word ≤ 10 ^ 9 = pow-le-pow_right (lit< tt) (few (length word) t.1) in
    omega (arith, value_behind-below 0 word t.0, power)

pub ruleset number_facts = (number-digits, number-below)
