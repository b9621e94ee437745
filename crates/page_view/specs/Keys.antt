-- Stated: the keys of a page's items, and where a key stands among them.
use Rattle.std.specs.Prelude.{◌≡◌, ◌≢◌, ◌≤◌, ◌<◌, ◌+◌, ℕ, List, length, take, drop, map, slice_index, slice_index_or, slice_get, Some, [], Result, MatchResult}
use Rattle.std.specs.declared.cmp.Ordering.{Ordering}
use Rattle.std.specs.declared.cmp.Ordering.TheVariants.{Less, Greater}
use Rattle.std.specs.Ordering.{nat_cmp}
use Rattle.std.specs.Cmp.Lexicographic.{slice_cmp}

-- the key of an item: as many bytes as its first byte says, behind it
abbrev pub key_in : List ℕ → List ℕ
key_in item = take (slice_index item 0) (drop 1 item)

abbrev pub keys_of : List (List ℕ) → List (List ℕ)
keys_of items = map key_in items

-- keys are ordered as bytes
abbrev pub key_cmp : List ℕ → List ℕ → Ordering
key_cmp = slice_cmp nat_cmp

-- each key is less than those behind it
abbrev pub Ascend : List (List ℕ) → Type 0
Ascend keys =
    (i j : ℕ) → i < j → j < length keys → key_cmp (slice_index_or keys i []) (slice_index_or keys j []) ≡ Less

-- the key at each place below n is less than this one
abbrev pub LessBelow : List (List ℕ) → ℕ → List ℕ → Type 0
LessBelow keys n key = (i : ℕ) → i < n → key_cmp (slice_index_or keys i []) key ≡ Less

-- the key at each place from n on is greater than this one
abbrev pub GreaterFrom : List (List ℕ) → ℕ → List ℕ → Type 0
GreaterFrom keys n key = (i : ℕ) → n ≤ i → i < length keys → key_cmp (slice_index_or keys i []) key ≡ Greater

-- the place of the key, or the number of lesser keys where it is not there
abbrev pub IsFound : List (List ℕ) → List ℕ → Result ℕ ℕ → Type 0
IsFound keys key result =
    MatchResult result (λ i. slice_get keys i ≡ Some key)
    (λ n. (n ≤ length keys) × LessBelow keys n key × GreaterFrom keys n key)

-- the last place whose key is not greater
abbrev pub IsChildFor : List (List ℕ) → List ℕ → ℕ → Type 0
IsChildFor keys key i =
    (i < length keys) × (key_cmp (slice_index_or keys i []) key ≢ Greater) × GreaterFrom keys (i + 1) key
