-- The addresses of the entries that a sweep removes, over the list of entries.
use Rattle.std.proofs.Common.{◌≡◌, ◌⊎◌, inl, inr, ℕ, zero, suc, List, [], ◌∷◌, ◌++◌, Option, Some, None, nat_eq, refl, sym, subst}
use Rattle.std.specs.List.{slice_get, IsDistinct}
use Rattle.std.specs.Map.{keys_of}
use Rattle.std.proofs.lemmas.Cmp.{nat_eq_equiv}
use Rattle.std.proofs.lemmas.Map.Entries.{lookup_from_place, place_from_lookup}
use Rattle.slab_node.specs.Slab.{SlabState}
use Rattle.home_tables.specs.Table.{entry_of}
use Rattle.home_tables.specs.Home.{HomeState, kept, kept_in}
use Rattle.home_tables.specs.declared.entry.Entry.{Entry}
use Rattle.cluster_manager.specs.Freeing.{Frees, Goes, GoesAt}
use Rattle.cluster_manager.proofs.FreeingLemmas.{none_freed, both_freed, freed_same}

-- one of the entries is removed and has the address x
abbrev pub GoesAmong : List (ℕ × Entry) → ℕ → ℕ → Type 0
GoesAmong [] tail x = ⊥
GoesAmong (e ∷ es) tail x = Goes (entry_of (Some e.1)) tail x ⊎ GoesAmong es tail x

to_both : (es : List (ℕ × Entry)) (e : ℕ × Entry) (tail x : ℕ) → GoesAmong (es ++ e ∷ []) tail x → GoesAmong es tail x ⊎ Goes (entry_of (Some e.1)) tail x
to_both [] e tail x (inl h) = inr h
to_both [] e tail x (inr h) = absurd h
to_both (f ∷ es) e tail x (inl h) = inl (inl h)
to_both (f ∷ es) e tail x (inr h) =
    elim (to_both es e tail x h) [
      | inl g ↦ inl (inr g)
      | inr g ↦ inr g
    ]

from_both : (es : List (ℕ × Entry)) (e : ℕ × Entry) (tail x : ℕ) → GoesAmong es tail x ⊎ Goes (entry_of (Some e.1)) tail x → GoesAmong (es ++ e ∷ []) tail x
from_both [] e tail x (inl h) = absurd h
from_both [] e tail x (inr h) = inl h
from_both (f ∷ es) e tail x (inl (inl h)) = inl h
from_both (f ∷ es) e tail x (inl (inr h)) = inr (from_both es e tail x (inl h))
from_both (f ∷ es) e tail x (inr h) = inr (from_both es e tail x (inr h))

pub freed_none : (tail : ℕ) (S : List SlabState) → Frees (GoesAmong [] tail) S S
freed_none tail S = none_freed (GoesAmong [] tail) S (λ x t live. t)

pub freed_more : (es : List (ℕ × Entry)) (e : ℕ × Entry) (tail : ℕ) (A B C : List SlabState) → Frees (GoesAmong es tail) A B → Frees (Goes (entry_of (Some e.1)) tail) B C → Frees (GoesAmong (es ++ e ∷ []) tail) A C
freed_more es e tail A B C first second =
    freed_same (λ x. GoesAmong es tail x ⊎ Goes (entry_of (Some e.1)) tail x) (GoesAmong (es ++ e ∷ []) tail) A C (λ x h. from_both es e tail x h) (λ x h. to_both es e tail x h)
    (both_freed (GoesAmong es tail) (Goes (entry_of (Some e.1)) tail) A B C first second)

place : (es : List (ℕ × Entry)) (tail x : ℕ) → GoesAmong es tail x → (i : ℕ) × (p : ℕ) × (e : Entry) × (slice_get es i ≡ Some (p, e)) × Goes (entry_of (Some e)) tail x
place [] tail x h = absurd h
place (e ∷ es) tail x (inl h) = (0, e.0, e.1, refl, h)
place (e ∷ es) tail x (inr h) = let there = place es tail x h in (suc there.0, there.1, there.2, there.3, there.4)

placed : (es : List (ℕ × Entry)) (i p : ℕ) (e : Entry) (tail x : ℕ) → slice_get es i ≡ Some (p, e) → Goes (entry_of (Some e)) tail x → GoesAmong es tail x
placed [] i p e tail x at h = absurd cc
placed (f ∷ es) zero p e tail x at h = inl (let same : f.1 ≡ e = cc in subst (λ (g : Entry). Goes (entry_of (Some g)) tail x) (sym same) h)
placed (f ∷ es) (suc i) p e tail x at h = inr (placed es i p e tail x at h)

-- an entry with an address is kept
found : (o : Option Entry) (tail x : ℕ) → Goes (entry_of o) tail x → (e : Entry) × (o ≡ Some e)
found None tail x h = absurd (let none = h.0 in cc)
found (Some e) tail x h = (e, refl)

pub freed_all : (H : HomeState) (tail : ℕ) (A B : List SlabState) → IsDistinct nat_eq (keys_of H.entries) → Frees (GoesAmong H.entries tail) A B → Frees (GoesAt H tail) A B
freed_all H tail A B apart old = freed_same (GoesAmong H.entries tail) (GoesAt H tail) A B to from old
  where
    to : (x : ℕ) → GoesAmong H.entries tail x → GoesAt H tail x
    to x h =
        let there = place H.entries tail x h in
        let kept_there : kept_in H.entries there.1 ≡ Some there.2 = lookup_from_place nat_eq_equiv H.entries there.0 there.1 there.2 apart there.3 in
        (there.1, subst (λ (o : Option Entry). Goes (entry_of o) tail x) (sym kept_there) there.4)

    from : (x : ℕ) → GoesAt H tail x → GoesAmong H.entries tail x
    from x h =
        let some = found (kept H h.0) tail x h.1 in
        let at = place_from_lookup (nat_eq h.0) H.entries some.0 some.1 in
        placed H.entries at.0 at.1 some.0 tail x at.2 (subst (λ (o : Option Entry). Goes (entry_of o) tail x) some.1 h.1)
