-- Where a page stands among fences.
use Rattle.std.proofs.Common.{◌≡◌, ◌≢◌, ◌≤◌, ◌+◌, ℕ, Bool, true, false, List, [], ◌∷◌, ◌++◌, map, refl, sym, ap, ◌∙◌, arith, inl, inr}
use Rattle.std.specs.Prelude.{◌⊎◌, nat_eq}
use Rattle.std.specs.List.{AllByRecursion}
use Rattle.std.proofs.lemmas.Bool.{eqb-true, eq-eqb}
use Rattle.bplus_tree.proofs.Order.{all_right}
use Rattle.tree_timeline.specs.Fences.{Fence}
use Rattle.tree_timeline.specs.Types.{Bound}
use Rattle.tree_timeline.proofs.Counting.{one_if, times}

abbrev pub page_in : Fence → ℕ
page_in f = f.page

pub record Located (fences : List Fence) (q : ℕ) : Type 0 where
  pub left : List Fence
  pub own : Fence
  pub right : List Fence
  pub are : fences ≡ left ++ (own ∷ right)
  pub is : own.page ≡ q

pub located : (fences : List Fence) (q : ℕ) → 1 ≤ times q (map page_in fences) → Located fences q
located [] q h = absurd (omega (arith, h))
located (f ∷ fs) q h = go (λ l. located fs q l) (nat_eq q f.page) refl
  where
    go : (1 ≤ times q (map page_in fs) → Located fs q) → (b : Bool) → nat_eq q f.page ≡ b
        → Located (f ∷ fs) q
    go more true e =
        record { left = []; own = f; right = fs; are = refl; is = sym (eqb-true q f.page e) }
    go more false e =
        let c : one_if (nat_eq q f.page) ≡ 0 = ap one_if e in
        let d = more (omega (arith, h, c)) in
        record {
          left = f ∷ d.left;
          own = d.own;
          right = d.right;
          are = ap (λ (x : List Fence). f ∷ x) d.are;
          is = d.is;
        }

pub none_times : (q : ℕ) (fences : List Fence) → times q (map page_in fences) ≡ 0
    → AllByRecursion (λ f. f.page ≢ q) fences
none_times q [] e = tt
none_times q (f ∷ fs) e = (apart, none_times q fs (omega (arith, e)))
  where
    apart : f.page ≢ q
    apart s =
        let same : nat_eq q f.page ≡ true = eq-eqb q f.page (sym s) in
        let c : one_if (nat_eq q f.page) ≡ 1 = ap one_if same in
        omega (arith, e, c)

pub times_fences : (q : ℕ) (xs ys : List Fence)
    → times q (map page_in (xs ++ ys)) ≡ times q (map page_in xs) + times q (map page_in ys)
times_fences q [] ys = omega arith
times_fences q (x ∷ xs) ys = let ih = times_fences q xs ys in omega (arith, ih)

-- a page that stands at most once in a list stands once
pub alone : (q : ℕ) (left : List Fence) (own : Fence) (right : List Fence) → own.page ≡ q
    → times q (map page_in (left ++ (own ∷ right))) ≤ 1
    → AllByRecursion (λ f. f.page ≢ q) left × AllByRecursion (λ f. f.page ≢ q) right
alone q left own right is few =
    let s = times_fences q left (own ∷ right) in
    let c : one_if (nat_eq q own.page) ≡ 1 = ap one_if (eq-eqb q own.page (sym is)) in
    (none_times q left (omega (arith, few, s, c)), none_times q right (omega (arith, few, s, c)))

pub own_of : {X : Type 0} (P : X → Type 0) (left : List X) (own : X) (right : List X)
    → AllByRecursion P (left ++ (own ∷ right)) → P own
own_of P left own right a = (all_right P left (own ∷ right) a).0

head_of : Fence → List Fence → Fence
head_of d [] = d
head_of d (x ∷ xs) = x

tail_of : List Fence → List Fence
tail_of [] = []
tail_of (x ∷ xs) = xs

pub same_head : (x y : Fence) (xs ys : List Fence) → x ∷ xs ≡ y ∷ ys → x ≡ y
unfolding head_of
same_head x y xs ys e = ap (head_of x) e

same_tail : (x y : Fence) (xs ys : List Fence) → x ∷ xs ≡ y ∷ ys → xs ≡ ys
unfolding tail_of
same_tail x y xs ys e = ap tail_of e

abbrev pub fence : Bound → ℕ → Fence
fence low page = record { low = low; page = page }

nothing : (y : Fence) (ys : List Fence) → [] ≡ y ∷ ys → ⊥
nothing y ys e = cc

pub only_one : (x y : Fence) (a b : List Fence) → x ∷ [] ≡ a ++ (y ∷ b) → y ≡ x
only_one x y [] b e = sym (same_head x y [] b e)
only_one x y (z ∷ []) b e = absurd (nothing y b (same_tail x z [] (y ∷ b) e))
only_one x y (z ∷ (w ∷ a)) b e =
    absurd (nothing w (a ++ (y ∷ b)) (same_tail x z [] (w ∷ (a ++ (y ∷ b))) e))

-- the first stands before the second, at its place, or behind it
abbrev pub Parted : List Fence → Fence → List Fence → List Fence → Fence → List Fence → Type 0
Parted a x b c y d =
    ((m : List Fence) × (c ≡ a ++ (x ∷ m)) × (b ≡ m ++ (y ∷ d)))
    ⊎ (((a ≡ c) × (x ≡ y) × (b ≡ d)) ⊎ ((m : List Fence) × (a ≡ c ++ (y ∷ m)) × (d ≡ m ++ (x ∷ b))))

pub parted : (a : List Fence) (x : Fence) (b c : List Fence) (y : Fence) (d : List Fence)
    → a ++ (x ∷ b) ≡ c ++ (y ∷ d) → Parted a x b c y d
parted [] x b [] y d e = inr (inl (refl, same_head x y b d e, same_tail x y b d e))
parted [] x b (z ∷ c) y d e =
    inl (
      c,
      ap (λ (f : Fence). f ∷ c) (sym (same_head x z b (c ++ (y ∷ d)) e)),
      same_tail x z b (c ++ (y ∷ d)) e,
    )
parted (w ∷ a) x b [] y d e =
    inr (inr (
      a,
      ap (λ (f : Fence). f ∷ a) (same_head w y (a ++ (x ∷ b)) d e),
      sym (same_tail w y (a ++ (x ∷ b)) d e),
    ))
parted (w ∷ a) x b (z ∷ c) y d e =
    let h = same_head w z (a ++ (x ∷ b)) (c ++ (y ∷ d)) e in
    go h (parted a x b c y d (same_tail w z (a ++ (x ∷ b)) (c ++ (y ∷ d)) e))
  where
    go : w ≡ z → Parted a x b c y d → Parted (w ∷ a) x b (z ∷ c) y d
    go h (inl (m, p, q)) =
        inl (
          m,
          ap (λ (l : List Fence). z ∷ l) p
              ∙ ap (λ (f : Fence). f ∷ (a ++ (x ∷ m))) (sym h),
          q,
        )
    go h (inr (inl (p, q, r))) =
        inr (inl (ap (λ (f : Fence). f ∷ a) h ∙ ap (λ (l : List Fence). z ∷ l) p, q, r))
    go h (inr (inr (m, p, q))) =
        inr (inr (m, ap (λ (f : Fence). f ∷ a) h ∙ ap (λ (l : List Fence). z ∷ l) p, q))
