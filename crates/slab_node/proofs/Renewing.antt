-- The slabs of a list renewed one after the other.
use Rattle.std.proofs.Common.{◌≡◌, ◌≢◌, ◌≤◌, ◌<◌, ◌+◌, ℕ, zero, suc, Bool, true, false, ◌&&◌, List, [], ◌∷◌, length, set, map, nat_eq, if◌then◌else◌, eqb-true, refl, sym, ◌∙◌, ap, subst, arith, length-set}
use Rattle.std.proofs.lemmas.List.{get_or-set_same, get_or-set_other, length-map, length-replicate}
use Rattle.std.specs.List.{list_all}
use Rattle.std.proofs.Math.ListN.{get_or-map}
use Rattle.page_image.specs.Image.{Image, unmade}
use Rattle.slab_node.specs.Slab.{SlabState, IsSlab, restarted, may_renew, renewed}
use Rattle.slab_node.specs.Slabs.{no_slab, slab_at, AreSlabs}

-- the first i slabs were renewed, and the others stay
pub record RenewedTo (old new : List SlabState) (i : ℕ) : Type 0 where
  pub count : length new ≡ length old
  pub done : (k : ℕ) → k < i → slab_at new k ≡ renewed (slab_at old k)
  pub rest : (k : ℕ) → i ≤ k → slab_at new k ≡ slab_at old k

pub renewed_none : (xs : List SlabState) → RenewedTo xs xs 0
renewed_none xs = record { count = refl; done = λ k h. absurd (omega arith); rest = λ k h. refl }

pub renewed_more : (old mid : List SlabState) (i : ℕ) (S : SlabState) → i < length old → RenewedTo old mid i → S ≡ renewed (slab_at mid i) → RenewedTo old (set mid i S) (i + 1)
renewed_more old mid i S within before is =
    let inside : i < length mid = omega (arith, before.count) in
    record {
      count = length-set {A = SlabState} mid i S ∙ before.count;
      done = λ k h. at_place k h (nat_eq k i) refl;
      rest = λ k h. get_or-set_other mid i k S no_slab (λ (same : k ≡ i). omega arith) ∙ before.rest k (omega arith);
    }
  where
    at_place : (k : ℕ) → k < i + 1 → (b : Bool) → nat_eq k i ≡ b → slab_at (set mid i S) k ≡ renewed (slab_at old k)
    at_place k h true t =
        let here : k ≡ i = eqb-true k i t in
        let inside : i < length mid = omega (arith, before.count) in
        subst (λ (j : ℕ). slab_at (set mid i S) j ≡ renewed (slab_at old j)) (sym here) (get_or-set_same mid i S no_slab inside ∙ is ∙ ap renewed (before.rest i (omega arith)))
    at_place k h false t =
        let apart : k ≢ i = grind (arith, t) in
        get_or-set_other mid i k S no_slab apart ∙ before.done k (omega arith)

each_same : (xs ys : List SlabState) → length ys ≡ length xs → ((k : ℕ) → k < length xs → slab_at ys k ≡ renewed (slab_at xs k)) → ys ≡ map renewed xs
each_same [] [] count all = refl
each_same [] (y ∷ ys) count all = absurd (omega arith)
each_same (x ∷ xs) [] count all = absurd (omega arith)
each_same (x ∷ xs) (y ∷ ys) count all =
    ap (λ (S : SlabState). S ∷ ys) (all 0 (omega arith)) ∙ ap (λ (rest : List SlabState). renewed x ∷ rest) (each_same xs ys (omega arith) (λ k h. all (suc k) (omega arith)))

pub renewed_done : (old new : List SlabState) (i : ℕ) → length old ≤ i → RenewedTo old new i → new ≡ map renewed old
renewed_done old new i all done = each_same old new done.count (λ k h. done.done k (omega arith))

both : (b c : Bool) → (b && c) ≡ true → (b ≡ true) × (c ≡ true)
both true c h = (refl, h)
both false c h = absurd cc

-- each slab of the list may be renewed
pub item_may : (xs : List SlabState) (k : ℕ) → list_all may_renew xs ≡ true → k < length xs → may_renew (slab_at xs k) ≡ true
item_may [] k all h = absurd (omega arith)
item_may (x ∷ xs) zero all h = (both (may_renew x) (list_all may_renew xs) all).0
item_may (x ∷ xs) (suc k) all h = item_may xs k (both (may_renew x) (list_all may_renew xs) all).1 (omega arith)

-- the slabs of a list that were renewed
renewed_parts : (S : SlabState) → ((renewed S).id ≡ S.id) × (length (renewed S).pages ≡ length S.pages) × (IsSlab S → IsSlab (renewed S))
renewed_parts S = by S.up refl
  where
    by : (b : Bool) → S.up ≡ b → ((if b then restarted S else S).id ≡ S.id) × (length (if b then restarted S else S).pages ≡ length S.pages) × (IsSlab S → IsSlab (if b then restarted S else S))
    by true is = (refl, length-replicate {A = Image} (length S.pages) (unmade 0), λ whole. length-replicate {A = Bool} (length S.taken) false ∙ whole ∙ sym (length-replicate {A = Image} (length S.pages) (unmade 0)))
    by false is = (refl, refl, λ whole. whole)

renewed_at : (xs : List SlabState) (k : ℕ) → slab_at (map renewed xs) k ≡ renewed (slab_at xs k)
renewed_at xs k = get_or-map renewed xs k no_slab

pub renewed_slabs : (xs : List SlabState) → AreSlabs xs → AreSlabs (map renewed xs)
renewed_slabs xs old =
    record {
      few = subst (λ (n : ℕ). n ≤ 16) (sym count) old.few;
      numbered = λ i h. ap (λ (S : SlabState). S.id) (renewed_at xs i) ∙ (renewed_parts (slab_at xs i)).0 ∙ old.numbered i (inside i h);
      sizes = λ i h. subst (λ (n : ℕ). n < 65536) (sym (ap (λ (S : SlabState). length S.pages) (renewed_at xs i) ∙ (renewed_parts (slab_at xs i)).1)) (old.sizes i (inside i h));
      whole = λ i h. subst (λ (S : SlabState). IsSlab S) (sym (renewed_at xs i)) ((renewed_parts (slab_at xs i)).2 (old.whole i (inside i h)));
    }
  where
    count : length (map renewed xs) ≡ length xs
    count = length-map xs renewed

    inside : (i : ℕ) → i < length (map renewed xs) → i < length xs
    inside i h = subst (λ (n : ℕ). i < n) count h
