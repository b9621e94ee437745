-- What is seen of a row's versions, and whose they are.
use Rattle.std.proofs.Common.{◌≡◌, ℕ, zero, suc, ◌≢◌, ◌≤◌, ◌<◌, true, Option, Some, None, List, [], ◌∷◌, arith, ◌⊎◌, refl}
use Rattle.version_store.specs.Versions.{Row, Version, seen, newest_stamp, older}
use Rattle.version_store.specs.Stores.{put}
use Rattle.version_store.specs.Held.{none_of, all_of, newest_of, IsLedBy, IsToppedBy, IsOwned}

-- a stamp that is given past n is not seen at n
pub seen_stamped : (vs : List Version) (stamp : ℕ → ℕ) (n t i : ℕ) → stamp t ≡ 0 → n < i
    → seen vs (put stamp t i) n None ≡ seen vs stamp n None
seen_stamped [] stamp n t i z l = refl
seen_stamped (v ∷ vs) stamp n t i z l = grind (arith, seen_stamped vs stamp n t i z l)

-- and at its own stamp exactly what its transaction saw
pub seen_commit : (vs : List Version) (stamp : ℕ → ℕ) (t l : ℕ) → stamp t ≡ 0 → ((u : ℕ) → stamp u ≤ l)
    → seen vs (put stamp t (suc l)) (suc l) None ≡ seen vs stamp l (Some t)
seen_commit [] stamp t l z b = refl
seen_commit (v ∷ vs) stamp t l z b = let bv = b v.trx in grind (arith, seen_commit vs stamp t l z b)

pub seen_none_of : (vs : List Version) (stamp : ℕ → ℕ) (n t : ℕ) → none_of t vs ≡ true
    → seen vs stamp n (Some t) ≡ seen vs stamp n None
seen_none_of [] stamp n t a = refl
seen_none_of (v ∷ vs) stamp n t a = grind (arith, seen_none_of vs stamp n t)

pub seen_topped : (vs : List Version) (stamp : ℕ → ℕ) (n t : ℕ) (r : Option Row) → IsToppedBy t r vs
    → seen vs stamp n (Some t) ≡ r
seen_topped [] stamp n t r h = absurd h
seen_topped (v ∷ vs) stamp n t r h = let h0 = h.0 in let h1 = h.1 in grind arith

pub stamp_none_of : (vs : List Version) (stamp : ℕ → ℕ) (t i : ℕ) → none_of t vs ≡ true
    → newest_stamp vs (put stamp t i) ≡ newest_stamp vs stamp
stamp_none_of [] stamp t i a = refl
stamp_none_of (v ∷ vs) stamp t i a = grind (arith, stamp_none_of vs stamp t i)

pub stamp_topped : (vs : List Version) (stamp : ℕ → ℕ) (t i : ℕ) (r : Option Row) → IsToppedBy t r vs
    → newest_stamp vs (put stamp t (suc i)) ≡ suc i
stamp_topped [] stamp t i r h = absurd h
stamp_topped (v ∷ vs) stamp t i r h = let h0 = h.0 in grind arith

-- a version without a stamp may come and go
pub seen_push : (vs : List Version) (v : Version) (stamp : ℕ → ℕ) (n : ℕ) → stamp v.trx ≡ 0
    → seen (v ∷ vs) stamp n None ≡ seen vs stamp n None
seen_push vs v stamp n z = grind arith

pub stamp_push : (vs : List Version) (v : Version) (stamp : ℕ → ℕ) → stamp v.trx ≡ 0
    → newest_stamp (v ∷ vs) stamp ≡ newest_stamp vs stamp
stamp_push vs v stamp z = grind arith

pub seen_pop : (vs : List Version) (stamp : ℕ → ℕ) (n t : ℕ) → IsLedBy t vs → stamp t ≡ 0
    → seen (older vs) stamp n None ≡ seen vs stamp n None
seen_pop [] stamp n t h z = refl
seen_pop (v ∷ vs) stamp n t h z = grind arith

pub stamp_pop : (vs : List Version) (stamp : ℕ → ℕ) (t : ℕ) → IsLedBy t vs → stamp t ≡ 0
    → newest_stamp (older vs) stamp ≡ newest_stamp vs stamp
stamp_pop [] stamp t h z = refl
stamp_pop (v ∷ vs) stamp t h z = grind arith

pub none_of_pop : (vs : List Version) (t : ℕ) → none_of t vs ≡ true → none_of t (older vs) ≡ true
none_of_pop [] t a = refl
none_of_pop (v ∷ vs) t a = grind arith

pub all_of_pop : (vs : List Version) (t : ℕ) → all_of t vs ≡ true → all_of t (older vs) ≡ true
all_of_pop [] t a = refl
all_of_pop (v ∷ vs) t a = grind arith

-- versions of one transaction alone, and none of it
pub all_of_none : (vs : List Version) (t : ℕ) → all_of t vs ≡ true → none_of t vs ≡ true → vs ≡ []
all_of_none [] t o a = refl
all_of_none (v ∷ vs) t o a = absurd (grind arith)

-- who owns what
pub owned_slot : (vs : List Version) (slot new : ℕ → Option ℕ) (stamp : ℕ → ℕ)
    → ((s t : ℕ) → slot s ≡ Some t → new s ≡ Some t) → IsOwned slot stamp vs → IsOwned new stamp vs
owned_slot [] slot new stamp f o = tt
owned_slot (v ∷ vs) slot new stamp f o =
    ((λ z. let h = o.0 z in (h.0, f h.0 v.trx h.1)), owned_slot vs slot new stamp f o.1)

pub owned_freed : (vs : List Version) (slot : ℕ → Option ℕ) (stamp : ℕ → ℕ) (s t : ℕ) → slot s ≡ Some t
    → none_of t vs ≡ true → IsOwned slot stamp vs → IsOwned (put slot s None) stamp vs
owned_freed [] slot stamp s t e a o = tt
owned_freed (v ∷ vs) slot stamp s t e a o =
    ((λ z. let h = o.0 z in (h.0, grind arith)), owned_freed vs slot stamp s t e (grind arith) o.1)

pub owned_stamped : (vs : List Version) (slot : ℕ → Option ℕ) (stamp : ℕ → ℕ) (s t i : ℕ) → slot s ≡ Some t
    → IsOwned slot stamp vs → IsOwned (put slot s None) (put stamp t (suc i)) vs
owned_stamped [] slot stamp s t i e o = tt
owned_stamped (v ∷ vs) slot stamp s t i e o = (
  (λ z. let y : stamp v.trx ≡ 0 = grind arith in let h = o.0 y in (h.0, grind arith)),
  owned_stamped vs slot stamp s t i e o.1,
)

pub owned_pop : (vs : List Version) (slot : ℕ → Option ℕ) (stamp : ℕ → ℕ) → IsOwned slot stamp vs
    → IsOwned slot stamp (older vs)
owned_pop [] slot stamp o = tt
owned_pop (v ∷ vs) slot stamp o = o.1

-- undo lists
pub newest_of_led : (vs : List Version) (t n : ℕ) → newest_of t (suc n) vs ≡ true → IsLedBy t vs
newest_of_led [] t n h = grind arith
newest_of_led (v ∷ vs) t n h = grind arith

pub newest_of_pop : (vs : List Version) (t n : ℕ) → newest_of t (suc n) vs ≡ true → newest_of t n (older vs) ≡ true
newest_of_pop [] t n h = absurd (grind arith)
newest_of_pop (v ∷ vs) t n h = grind arith

pub newest_of_beside : (vs : List Version) (v : Version) (t u n : ℕ) → v.trx ≡ t → t ≢ u → none_of u vs ≡ true
    → newest_of u n vs ≡ true → newest_of u n (v ∷ vs) ≡ true
newest_of_beside vs v t u zero e ne a h = grind arith
newest_of_beside [] v t u (suc n) e ne a h = absurd (grind arith)
newest_of_beside (w ∷ vs) v t u (suc n) e ne a h = absurd (grind arith)

pub newest_of_other : (vs : List Version) (t u n : ℕ) → t ≢ u → IsLedBy t vs → newest_of u n vs ≡ true
    → newest_of u n (older vs) ≡ true
newest_of_other vs t u zero ne hd h = none_of_pop vs u h
newest_of_other [] t u (suc n) ne hd h = absurd (grind arith)
newest_of_other (v ∷ vs) t u (suc n) ne hd h = absurd (grind arith)

pub newest_of_none : (t n : ℕ) → newest_of t n [] ≡ true → n ≡ 0
newest_of_none t zero h = refl
newest_of_none t (suc n) h = absurd (grind arith)

pub newest_of_zero : (vs : List Version) (t : ℕ) → newest_of t 0 vs ≡ true → none_of t vs ≡ true
newest_of_zero vs t h = h

-- a reader that looks up each stamp later
pub seen_later : (vs : List Version) (stamp given : ℕ → ℕ) (n l : ℕ) → n ≤ l
    → ((t : ℕ) → (given t ≡ stamp t) ⊎ ((stamp t ≡ 0) × (l < given t))) → seen vs given n None ≡ seen vs stamp n None
seen_later [] stamp given n l le h = refl
seen_later (v ∷ vs) stamp given n l le h = let hv = h v.trx in let more = seen_later vs stamp given n l le h in
    grind arith
