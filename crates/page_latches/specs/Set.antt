-- Stated: a set of nodes as a list of them.
use Rattle.std.specs.Prelude.{◌≡◌, ◌≤◌, ℕ, Bool, true, List, [], ◌∷◌, ◌++◌, if◌then◌else◌, nat_eq, not}
use Rattle.std.specs.List.{IsDistinct, list_any, filter}

-- n is among the nodes
abbrev pub has : List ℕ → ℕ → Bool
has nodes n = list_any (λ m. nat_eq m n) nodes

-- the nodes with n, at the end where it was not among them
abbrev pub with_node : List ℕ → ℕ → List ℕ
with_node nodes n = if has nodes n then nodes else nodes ++ n ∷ []

-- the nodes without n, in their order
abbrev pub without_node : List ℕ → ℕ → List ℕ
without_node nodes n = filter (λ m. not (nat_eq m n)) nodes

-- each node stands there once, and is one of 16
pub record IsNodeSet (nodes : List ℕ) : Type 0 where
  pub distinct : IsDistinct nat_eq nodes
  pub bound : (n : ℕ) → has nodes n ≡ true → n ≤ 15
