-- Lemmas on lists of nodes in which each stands once.
use Rattle.std.proofs.Common.{◌≡◌, ◌≢◌, ◌≤◌, ◌<◌, ℕ, Bool, true, false, cond, ◌||◌, List, [], ◌∷◌, ◌++◌, length, refl, sym, ◌∙◌, ap, arith, nat_eq, not, if◌then◌else◌, eqb-true, length-append}
use Rattle.std.specs.List.{IsDistinct, AllByRecursion, list_any}
use Rattle.std.specs.Cmp.{nat_eq_equiv}
use Rattle.std.proofs.lemmas.Map.Keys.{IsDistinct-push}
use Rattle.std.proofs.lemmas.Map.Steps.{length-le_from_distinct_below}
use mathlib.Core.Path.{fun_ext}
use Rattle.home_model.specs.Numbered.{put}
use Rattle.page_latches.specs.Set.{has, without_node, IsNodeSet}

pub empty_set : IsNodeSet []
unfolding IsDistinct
empty_set = record { distinct = tt; bound = λ n h. absurd cc }

has_swapped : (ns : List ℕ) (n : ℕ) → list_any (nat_eq n) ns ≡ has ns n
has_swapped [] n = refl
has_swapped (m ∷ ns) n = grind (arith, has_swapped ns n)

has_more : (ns : List ℕ) (m q : ℕ) → has (ns ++ m ∷ []) q ≡ (has ns q || nat_eq m q)
has_more [] m q = grind arith
has_more (k ∷ ns) m q = grind (arith, has_more ns m q)

pub added_set : (ns : List ℕ) (n : ℕ) → IsNodeSet ns → has ns n ≡ false → n ≤ 15 → IsNodeSet (ns ++ n ∷ [])
added_set ns n set new small =
    record {
      distinct = IsDistinct-push nat_eq_equiv ns n set.distinct (has_swapped ns n ∙ new);
      bound = λ q h. by q (has ns q) refl (sym (has_more ns n q) ∙ h);
    }
  where
    by : (q : ℕ) (b : Bool) → has ns q ≡ b → (has ns q || nat_eq n q) ≡ true → q ≤ 15
    by q true t h = set.bound q t
    by q false t h = let e : n ≡ q = eqb-true n q (grind arith) in omega arith

pub room : (ns : List ℕ) (n : ℕ) → IsNodeSet ns → has ns n ≡ false → n ≤ 15 → length ns < 16
room ns n set new small =
    let more = added_set ns n set new small in
    let few = length-le_from_distinct_below (ns ++ n ∷ []) 16 more.distinct (λ q h. let k = more.bound q (sym (has_swapped (ns ++ n ∷ []) q) ∙ h) in omega arith) in
    omega (arith, few, length-append ns (n ∷ []))

has_without : (ns : List ℕ) (n q : ℕ) → has (without_node ns n) q ≡ (if nat_eq q n then false else has ns q)
has_without [] n q = grind arith
has_without (m ∷ ns) n q = grind (arith, has_without ns n q)

pub has_others : (ns : List ℕ) (n : ℕ) → has (without_node ns n) ≡ put (has ns) n false
has_others ns n = fun_ext (has_without ns n)

all_without : (P : ℕ → Type 0) (ns : List ℕ) (n : ℕ) → AllByRecursion P ns → AllByRecursion P (without_node ns n)
all_without P [] n all = all
all_without P (m ∷ ns) n all = by (nat_eq m n) (all_without P ns n all.1)
  where
    by : (b : Bool) → AllByRecursion P (without_node ns n) → AllByRecursion P (cond (not b) (m ∷ without_node ns n) (without_node ns n))
    by true h = h
    by false h = (all.0, h)

distinct_without : (ns : List ℕ) (n : ℕ) → IsDistinct nat_eq ns → IsDistinct nat_eq (without_node ns n)
unfolding IsDistinct
distinct_without [] n d = d
distinct_without (m ∷ ns) n d = by (nat_eq m n) (distinct_without ns n d.1)
  where
    by : (b : Bool) → IsDistinct nat_eq (without_node ns n) → IsDistinct nat_eq (cond (not b) (m ∷ without_node ns n) (without_node ns n))
    by true h = h
    by false h = (all_without (λ y. nat_eq m y ≡ false) ns n d.0, h)

pub kept_set : (ns : List ℕ) (n : ℕ) → IsNodeSet ns → IsNodeSet (without_node ns n)
kept_set ns n set = record { distinct = distinct_without ns n set.distinct; bound = λ q h. set.bound q (was q (nat_eq q n) (sym (has_without ns n q) ∙ h)) }
  where
    was : (q : ℕ) (b : Bool) → (if b then false else has ns q) ≡ true → has ns q ≡ true
    was q true h = absurd cc
    was q false h = h

-- a set that has a node is not empty
pub some_node : (ns : List ℕ) (n : ℕ) → has ns n ≡ true → ns ≢ []
some_node ns n h e = absurd (let none : has ns n ≡ false = ap (λ (q : List ℕ). has q n) e in cc)
