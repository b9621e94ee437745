-- For the proofs: slots, stamps and undo lists fit the versions of each tree.
use Rattle.std.specs.Prelude.{◌≡◌, ℕ, zero, suc, ◌<◌, ◌≤◌, Bool, true, false, Option, Some, List, [], ◌∷◌, if◌then◌else◌, nat_eq, not, ◌&&◌, bytes_eq}
use Rattle.version_store.specs.Stores.{Store, UndoEntry}
use Rattle.version_store.specs.Versions.{Row, Version}

-- no version is of the transaction
abbrev pub none_of : ℕ → List Version → Bool
none_of t [] = true
none_of t (v ∷ vs) = not (nat_eq v.trx t) && none_of t vs

-- no version is of another
abbrev pub all_of : ℕ → List Version → Bool
all_of t [] = true
all_of t (v ∷ vs) = nat_eq v.trx t && all_of t vs

-- the newest n versions are of the transaction, and no other
abbrev pub newest_of : ℕ → ℕ → List Version → Bool
newest_of t zero vs = none_of t vs
newest_of t (suc n) [] = false
newest_of t (suc n) (v ∷ vs) = nat_eq v.trx t && newest_of t n vs

-- the newest version is of the transaction
abbrev pub IsLedBy : ℕ → List Version → Type 0
IsLedBy t [] = ⊥
IsLedBy t (v ∷ vs) = v.trx ≡ t

-- and has this row
abbrev pub IsToppedBy : ℕ → Option Row → List Version → Type 0
IsToppedBy t r [] = ⊥
IsToppedBy t r (v ∷ vs) = (v.trx ≡ t) × (v.row ≡ r)

-- every version without a stamp is of a transaction that holds a slot
abbrev pub IsOwned : (ℕ → Option ℕ) → (ℕ → ℕ) → List Version → Type 0
IsOwned slot stamp [] = Unit {0}
IsOwned slot stamp (v ∷ vs) = (stamp v.trx ≡ 0 → (s : ℕ) × (slot s ≡ Some v.trx)) × IsOwned slot stamp vs

-- how many entries are of the place
abbrev pub count : ℕ → List ℕ → List UndoEntry → ℕ
count r k [] = 0
count r k (u ∷ us) = if nat_eq u.root r && bytes_eq u.key k then suc (count r k us) else count r k us

pub record Held (S : Store) : Type 0 where
  pub bound : (t : ℕ) → S.stamp t ≤ S.last
  pub fresh : (t : ℕ) → S.next ≤ t → S.stamp t ≡ 0
  pub unused : (t r : ℕ) (k : List ℕ) → S.next ≤ t → none_of t (S.rows r k) ≡ true
  -- who holds a slot has no stamp, and holds no other
  pub open_stamp : (s t : ℕ) → S.slot s ≡ Some t → S.stamp t ≡ 0
  pub open_below : (s t : ℕ) → S.slot s ≡ Some t → t < S.next
  pub unique : (s u t : ℕ) → S.slot s ≡ Some t → S.slot u ≡ Some t → s ≡ u
  pub owned : (r : ℕ) (k : List ℕ) → IsOwned S.slot S.stamp (S.rows r k)
  -- its undo list has an entry for each of its versions, which are the newest of their places
  pub undoes : (s t r : ℕ) (k : List ℕ) → S.slot s ≡ Some t
      → newest_of t (count r k (S.undo s)) (S.rows r k) ≡ true
