-- Stated: numbers of fixed size in bytes, the highest byte first. A list of bytes is a list of numbers below 256.
use Rattle.std.specs.Prelude.{◌≡◌, ◌≤◌, ◌<◌, ◌+◌, ◌^◌, ℕ, List, ◌++◌, length, take, drop, slice_index}
use Rattle.std.specs.Ordering.{nat_cmp}
use Rattle.std.specs.Cmp.Lexicographic.{slice_cmp}
use Rattle.byteorder.specs.Endian.{big_bytes, big_number}

-- the n bytes of x
unfoldable pub field : ℕ → ℕ → List ℕ
field n x = big_bytes n x

-- the number in the first n bytes
unfoldable pub number : ℕ → List ℕ → ℕ
number n xs = big_number n xs

-- the bytes with the number x in the n bytes from `at` on
abbrev pub with_field : ℕ → List ℕ → ℕ → ℕ → List ℕ
with_field n old at x = take at old ++ (field n x ++ drop (at + n) old)

-- each is below 256
abbrev pub AreBytes : List ℕ → Type 0
AreBytes bytes = (k : ℕ) → slice_index bytes k < 256

-- a field read is the number that was put
abbrev pub ReadsBack : Type 0
ReadsBack =
    (n at x : ℕ) (bytes : List ℕ) → x < 256 ^ n → at + n ≤ length bytes
    → number n (drop at (with_field n bytes at x)) ≡ x

-- putting back the number that was read leaves the bytes as they were
abbrev pub PutsBack : Type 0
PutsBack =
    (n at : ℕ) (bytes : List ℕ) → AreBytes bytes → at + n ≤ length bytes
    → with_field n bytes at (number n (drop at bytes)) ≡ bytes

-- fields of one size are ordered, byte by byte, as their numbers are
abbrev pub OrderedAsNumbers : Type 0
OrderedAsNumbers =
    (n x y : ℕ) → x < 256 ^ n → y < 256 ^ n → slice_cmp nat_cmp (field n x) (field n y) ≡ nat_cmp x y
