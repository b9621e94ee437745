-- Fields of one size are ordered, byte by byte, as their numbers are.
use Rattle.std.proofs.Common.{◌≡◌, ◌≤◌, ◌<◌, ◌+◌, ◌*◌, ◌%◌, ◌^◌, ℕ, zero, suc, List, [], ◌∷◌, ◌++◌, length, slice_index, refl, sym, ◌∙◌, ap, arith, append-nil}
use Rattle.std.specs.declared.cmp.Ordering.{Ordering}
use Rattle.std.specs.declared.cmp.Ordering.TheVariants.{Less, Equal, Greater}
use Rattle.std.specs.Ordering.{nat_cmp, ordering_then, MatchOrdering}
use Rattle.std.specs.Cmp.{nat_cmp_is}
use Rattle.std.specs.Cmp.Lexicographic.{slice_cmp}
use Rattle.std.proofs.lemmas.Cmp.{ranked}
use Rattle.std.proofs.Math.Nat.{mul-le-mul_right}
use Rattle.std.specs.Int.{bytes_high_first, byte_at}
use Rattle.byteorder.specs.Endian.{big_from}
use Rattle.byteorder.specs.Numbers.{big_from-cons, big_from-lt, length-bytes_high_first}
use Rattle.rm_base.specs.Fields.{field, number, AreBytes, OrderedAsNumbers}
use Rattle.rm_base.proofs.FieldLaws.{number-field}

-- two numbers of a high and a low digit: the high digits decide, then the low ones
digits : (o p : Ordering) (a b w r s : ℕ) → MatchOrdering o (a < b) (a ≡ b) (b < a) → MatchOrdering p (r < s) (r ≡ s) (s < r)
    → r < w → s < w → MatchOrdering (ordering_then o p) (a * w + r < b * w + s) (a * w + r ≡ b * w + s) (b * w + s < a * w + r)
digits Less p a b w r s h l hr hs = far a b w r s h hr
  where
    far : (a b w r s : ℕ) → a < b → r < w → a * w + r < b * w + s
    far a b w r s h hr = grind arith
digits Greater p a b w r s h l hr hs = far b a w s r h hs
  where
    far : (a b w r s : ℕ) → a < b → r < w → a * w + r < b * w + s
    far a b w r s h hr = grind arith
digits Equal Less a b w r s h l hr hs = let same = ap (λ (q : ℕ). q * w) h in omega (arith, same)
digits Equal Equal a b w r s h l hr hs = let same = ap (λ (q : ℕ). q * w) h in omega (arith, same)
digits Equal Greater a b w r s h l hr hs = let same = ap (λ (q : ℕ). q * w) h in omega (arith, same)

AreBytes-tail : (x : ℕ) (xs : List ℕ) → AreBytes (x ∷ xs) → AreBytes xs
AreBytes-tail x xs bs = λ k. bs (suc k)

-- bytes are ordered as the numbers that they spell
bytes_as_numbers : (xs ys : List ℕ) → length xs ≡ length ys → AreBytes xs → AreBytes ys
    → slice_cmp nat_cmp xs ys ≡ nat_cmp (big_from 0 (length xs) xs) (big_from 0 (length ys) ys)
bytes_as_numbers [] [] e bx by = refl
bytes_as_numbers [] (y ∷ ys) e bx by = absurd (omega arith)
bytes_as_numbers (x ∷ xs) [] e bx by = absurd (omega arith)
bytes_as_numbers (x ∷ xs) (y ∷ ys) e bx by =
    let n : ℕ = length xs in
    let same : length ys ≡ n = omega arith in
    let r : ℕ = big_from 0 n xs in
    let s : ℕ = big_from 0 n ys in
    let below_r : r < 256 ^ n = big_from-lt 0 n xs (AreBytes-tail x xs bx) in
    let below_s : s < 256 ^ n = big_from-lt 0 n ys (AreBytes-tail y ys by) in
    let rest : slice_cmp nat_cmp xs ys ≡ nat_cmp r s =
    bytes_as_numbers xs ys (sym same) (AreBytes-tail x xs bx) (AreBytes-tail y ys by) ∙ ap (λ (q : ℕ). nat_cmp r (big_from 0 q ys)) same in
    let both : ordering_then (nat_cmp x y) (nat_cmp r s) ≡ nat_cmp (x * 256 ^ n + r) (y * 256 ^ n + s) =
    nat_cmp_is (x * 256 ^ n + r) (y * 256 ^ n + s) (ordering_then (nat_cmp x y) (nat_cmp r s))
    (digits (nat_cmp x y) (nat_cmp r s) x y (256 ^ n) r s (ranked x y (nat_cmp x y) refl) (ranked r s (nat_cmp r s) refl) below_r below_s) in
    ap (ordering_then (nat_cmp x y)) rest ∙ both
    ∙ ap (λ (q : ℕ). nat_cmp (x * 256 ^ n + q) (y * 256 ^ n + s)) (sym (big_from-cons 0 n x xs))
    ∙ ap (λ (q : ℕ). nat_cmp (x * 256 ^ n + big_from 1 n (x ∷ xs)) (y * 256 ^ n + q)) (sym (big_from-cons 0 n y ys))
    ∙ ap (λ (q : ℕ). nat_cmp (big_from 0 (suc n) (x ∷ xs)) (big_from 0 (suc q) (y ∷ ys))) (sym same)

byte_at-lt : (k x : ℕ) → byte_at k x < 256
byte_at-lt zero x = omega arith
byte_at-lt (suc k) x = omega arith

AreBytes-high_first : (n x : ℕ) → AreBytes (bytes_high_first n x)
AreBytes-high_first zero x k = omega arith
AreBytes-high_first (suc n) x zero = byte_at-lt n x
AreBytes-high_first (suc n) x (suc k) = AreBytes-high_first n x k

-- a field is a list of bytes
pub AreBytes-field : (n x : ℕ) → AreBytes (field n x)
unfolding field
AreBytes-field n x = AreBytes-high_first n x

number-alone : (n z : ℕ) → z < 256 ^ n → big_from 0 (length (bytes_high_first n z)) (bytes_high_first n z) ≡ z
unfolding field number
number-alone n z h =
    ap (λ (q : ℕ). big_from 0 q (bytes_high_first n z)) (length-bytes_high_first n z)
    ∙ ap (big_from 0 n) (sym (append-nil (bytes_high_first n z))) ∙ number-field n z [] h

-- fields of one size are ordered as their numbers are
pub ordered_as_numbers : OrderedAsNumbers
unfolding field
ordered_as_numbers n x y hx hy =
    bytes_as_numbers (bytes_high_first n x) (bytes_high_first n y) (length-bytes_high_first n x ∙ sym (length-bytes_high_first n y)) (AreBytes-high_first n x) (AreBytes-high_first n y)
    ∙ ap (λ (q : ℕ). nat_cmp q (big_from 0 (length (bytes_high_first n y)) (bytes_high_first n y))) (number-alone n x hx)
    ∙ ap (nat_cmp x) (number-alone n y hy)
