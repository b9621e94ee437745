-- How often a page stands in a list.
use Rattle.std.proofs.Common.{◌≡◌, ◌≤◌, ◌+◌, ℕ, Bool, true, false, eqb, List, [], ◌∷◌, ◌++◌, refl, sym, ap, subst, arith}
use Rattle.std.specs.Prelude.{nat_eq, Contains}
use Rattle.std.specs.List.{AllByRecursion, IsDistinct}
use Rattle.std.proofs.lemmas.Bool.{eqb-true, eq-eqb}
use Rattle.std.proofs.lemmas.List.Elements.{Contains-append_right, All-contains, All-from_recursion}
use Rattle.std.proofs.lemmas.Map.Keys.{IsDistinct-head, IsDistinct-tail}

abbrev pub one_if : Bool → ℕ
one_if true = 1
one_if false = 0

abbrev pub times : ℕ → List ℕ → ℕ
times q [] = 0
times q (x ∷ xs) = one_if (nat_eq q x) + times q xs

pub times_append : (q : ℕ) (xs ys : List ℕ) → times q (xs ++ ys) ≡ times q xs + times q ys
times_append q [] ys = omega arith
times_append q (x ∷ xs) ys = let ih = times_append q xs ys in omega (arith, ih)

pub times_none : (q : ℕ) (xs : List ℕ) → AllByRecursion (λ y. eqb q y ≡ false) xs → times q xs ≡ 0
times_none q [] a = refl
times_none q (x ∷ xs) a =
    let c : one_if (nat_eq q x) ≡ 0 = ap one_if a.0 in
    let ih = times_none q xs a.1 in
    omega (arith, c, ih)

pub distinct_once : (q : ℕ) (xs : List ℕ) → IsDistinct nat_eq xs → times q xs ≤ 1
distinct_once q [] d = omega arith
distinct_once q (x ∷ xs) d = go (distinct_once q xs (IsDistinct-tail eqb x xs d)) (nat_eq q x) refl
  where
    go : times q xs ≤ 1 → (b : Bool) → nat_eq q x ≡ b → times q (x ∷ xs) ≤ 1
    go ih true e =
        let same : q ≡ x = eqb-true q x e in
        let head = IsDistinct-head eqb x xs d in
        let none : times q xs ≡ 0 =
        times_none q xs
        (subst (λ (n : ℕ). AllByRecursion (λ y. eqb n y ≡ false) xs) (sym same) head) in
        let c : one_if (nat_eq q x) ≡ 1 = ap one_if e in
        omega (arith, none, c)
    go ih false e =
        let c : one_if (nat_eq q x) ≡ 0 = ap one_if e in
        omega (arith, ih, c)

pub times_has : (q : ℕ) (xs : List ℕ) → 1 ≤ times q xs → Contains xs q
times_has q [] h = absurd (omega (arith, h))
times_has q (x ∷ xs) h = go (λ m. times_has q xs m) (nat_eq q x) refl
  where
    go : (1 ≤ times q xs → Contains xs q) → (b : Bool) → nat_eq q x ≡ b → Contains (x ∷ xs) q
    go more true e = subst (Contains (x ∷ xs)) (sym (eqb-true q x e)) (0, omega arith, refl)
    go more false e =
        let c : one_if (nat_eq q x) ≡ 0 = ap one_if e in
        Contains-append_right (x ∷ []) xs q (more (omega (arith, h, c)))

all_times : (xs zs : List ℕ) (add : ℕ → ℕ) → ((p : ℕ) → add p + times p zs ≡ times p xs)
    → AllByRecursion (λ p. 1 ≤ times p xs) zs
all_times xs [] add e = tt
all_times xs (z ∷ zs) add e = (
  (let h = e z in let c : one_if (nat_eq z z) ≡ 1 = ap one_if (eq-eqb z z refl) in
      omega (arith, h, c)),
  all_times xs zs (λ p. add p + one_if (nat_eq p z)) (λ p. let h = e p in omega (arith, h)),
)

pub has_times : (q : ℕ) (xs : List ℕ) → Contains xs q → 1 ≤ times q xs
has_times q xs c =
    All-contains (λ p. 1 ≤ times p xs) xs q
    (All-from_recursion (λ p. 1 ≤ times p xs) xs (all_times xs xs (λ p. 0) (λ p. omega arith))) c
