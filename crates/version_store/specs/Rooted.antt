-- For the proofs: names and roots. A name has one root, a root has one name, and what goes under a name can come back.
use Rattle.std.specs.Prelude.{◌≡◌, ℕ, ◌<◌, ◌≤◌, true, Option, Some, List, [], ◌∷◌}
use Rattle.version_store.specs.Contents.{root_of}
use Rattle.version_store.specs.Held.{all_of, count}
use Rattle.version_store.specs.Stores.{Store, UndoEntry, catalog}
use Rattle.version_store.specs.Versions.{Row, Version}

-- one version at most, and it has a row
abbrev pub IsLone : List Version → Type 0
IsLone [] = Unit {0}
IsLone (v ∷ []) = (row : Row) × (v.row ≡ Some row)
IsLone (v ∷ (w ∷ vs)) = ⊥

-- the newest version is of the transaction, which has no stamp
abbrev pub IsOpenBy : (ℕ → ℕ) → ℕ → List Version → Type 0
IsOpenBy stamp t [] = ⊥
IsOpenBy stamp t (v ∷ vs) = (v.trx ≡ t) × (stamp t ≡ 0)

-- what was done before a table was made has no rows in the table's tree: entries are newest first
abbrev pub IsInOrder : (List ℕ → Option ℕ) → List UndoEntry → Type 0
IsInOrder root [] = Unit {0}
IsInOrder root (u ∷ us) =
    (u.root ≡ catalog → (r : ℕ) → root u.key ≡ Some r → (k : List ℕ) → count r k us ≡ 0) × IsInOrder root us

pub record Rooted (S : Store) : Type 0 where
  pub lone : (a : List ℕ) → IsLone (S.rows catalog a)
  pub differ : (a b : List ℕ) (r : ℕ) → root_of S a ≡ Some r → root_of S b ≡ Some r → a ≡ b
  pub low : catalog < S.pages
  pub made : (a : List ℕ) (r : ℕ) → root_of S a ≡ Some r → (catalog < r) × (r < S.pages)
  -- a page that is not made has no rows
  pub empty : (r : ℕ) (k : List ℕ) → S.pages ≤ r → S.rows r k ≡ []
  -- where a table is open, its rows are its transaction's alone
  pub closed : (a k : List ℕ) (r t : ℕ) → root_of S a ≡ Some r → IsOpenBy S.stamp t (S.rows catalog a)
      → all_of t (S.rows r k) ≡ true
  pub order : (s t : ℕ) → S.slot s ≡ Some t → IsInOrder (root_of S) (S.undo s)
