-- Stated: pairs of page and node, by page and then node.
use Rattle.std.specs.Prelude.{◌≡◌, ◌<◌, ◌≤◌, ◌+◌, ◌*◌, ℕ, Bool, true, false, Option, Some, None, nat_le, if◌then◌else◌}

-- page p and node n as one number
abbrev pub pair_number : ℕ → ℕ → ℕ
pair_number p n = p * 16 + n

-- the first pair of page and node at which D holds, or none where it holds at none
abbrev pub IsFirst : (ℕ → ℕ → Bool) → Option (ℕ × ℕ) → Type 0
IsFirst D None = (p n : ℕ) → p < 32768 → n < 16 → D p n ≡ false
IsFirst D (Some pair) = (D pair.0 pair.1 ≡ true) × ((p n : ℕ) → p < 32768 → n < 16 → D p n ≡ true → pair_number pair.0 pair.1 ≤ pair_number p n)

-- the earlier of two pairs
abbrev pub earlier : Option (ℕ × ℕ) → Option (ℕ × ℕ) → Option (ℕ × ℕ)
earlier None other = other
earlier (Some one) None = Some one
earlier (Some one) (Some other) = if nat_le (pair_number one.0 one.1) (pair_number other.0 other.1) then Some one else Some other
