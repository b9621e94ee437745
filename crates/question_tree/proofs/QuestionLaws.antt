-- Laws of work that asks.
use Rattle.std.proofs.Common.{◌≡◌, ◌+◌, true, false, List, [], ◌∷◌, ◌++◌, map, Some, None, IsSome, refl, sym, ◌∙◌, ap, subst, append_assoc, append-nil}
use Rattle.question_tree.specs.Questions.{Ask, tells, asks, stops, wanted, told, after, then_on, collect, lift, Gives, GivesAll, Leads, left}

nothing : {A : Type 0} {a : A} → None ≡ Some a → ⊥
nothing p = cc

the_same : {A : Type 0} {a b : A} → Some a ≡ Some b → a ≡ b
the_same p = cc

-- what two works in a row were given is what each was given
pub split : {Q I A B : Type 0} (Fit : Q → I → Type 0) (m : Ask Q I A) (f : A → Ask Q I B) (xs : List I) (b : B)
    → Gives Fit (then_on m f) xs b
    → (a : A) × (ys : List I) × (zs : List I) × (xs ≡ ys ++ zs) × Gives Fit m ys a × Gives Fit (f a) zs b
split Fit (tells a) f xs b h = (a, [], xs, refl, refl, h)
split Fit (asks q k) f [] b h = absurd h
split Fit (asks q k) f (x ∷ xs) b h =
    let r = split Fit (k x) f xs b h.1 in
    (r.0, x ∷ r.1, r.2, ap (λ (zs : List _). x ∷ zs) r.3, (h.0, r.4), r.5)
split Fit stops f xs b h = absurd h

-- and the other way round
pub join : {Q I A B : Type 0} (Fit : Q → I → Type 0) (m : Ask Q I A) (f : A → Ask Q I B) (ys zs : List I) (a : A) (b : B)
    → Gives Fit m ys a → Gives Fit (f a) zs b → Gives Fit (then_on m f) (ys ++ zs) b
join Fit (tells c) f [] zs a b g h = subst (λ (x : _). Gives Fit (f x) zs b) (sym g) h
join Fit (tells c) f (y ∷ ys) zs a b g h = absurd g
join Fit (asks q k) f [] zs a b g h = absurd g
join Fit (asks q k) f (y ∷ ys) zs a b g h = (g.0, join Fit (k y) f ys zs a b g.1 h)
join Fit stops f ys zs a b g h = absurd g

-- the works of a list
pub collected : {Q I X A B : Type 0} (Fit : Q → I → Type 0) (f : X → Ask Q I (List A)) (k : List A → Ask Q I B)
    (seen : List A) (xs : List X) (us : List I) (b : B)
    → Gives Fit (collect f k seen xs) us b
    → (ys : List I) × (zs : List I) × (found : List A) × (us ≡ ys ++ zs) × GivesAll Fit f xs ys found
    × Gives Fit (k (seen ++ found)) zs b
unfolding collect
collected {A = A} Fit f k seen [] us b h =
    ([], us, [], refl, (refl, refl), subst (λ (bs : List A). Gives Fit (k bs) us b) (sym (append-nil seen)) h)
collected {A = A} Fit f k seen (x ∷ xs) us b h =
    let r = split Fit (f x) (λ found. collect f k (seen ++ found) xs) us b h in
    let s = collected Fit f k (seen ++ r.0) xs r.2 b r.5 in (
      r.1 ++ s.0,
      s.1,
      r.0 ++ s.2,
      r.3 ∙ (ap (λ (vs : List _). r.1 ++ vs) s.3 ∙ sym (append_assoc r.1 s.0 s.1)),
      (r.1, s.0, r.0, s.2, refl, r.4, s.4, refl),
      subst (λ (bs : List A). Gives Fit (k bs) s.1 b) (append_assoc seen r.0 s.2) s.5,
    )

-- one more given
pub one_more : {Q I A : Type 0} (Fit : Q → I → Type 0) (m n : Ask Q I A) (xs : List I) (q : Q) (x : I)
    → Leads Fit m xs n → wanted n ≡ Some q → Fit q x → Leads Fit m (xs ++ x ∷ []) (after n x)
one_more Fit m n [] q x h w fit = go m h
  where
    go : (m : Ask _ _ _) → m ≡ n → Leads Fit m (x ∷ []) (after n x)
    go (tells a) e = absurd (nothing (ap wanted e ∙ w))
    go (asks p k) e =
        let same : p ≡ q = the_same (ap wanted e ∙ w) in
        (subst (λ (r : _). Fit r x) (sym same) fit, ap (λ (t : Ask _ _ _). after t x) e)
    go stops e = absurd (nothing (ap wanted e ∙ w))
one_more Fit (tells a) n (y ∷ ys) q x h w fit = absurd h
one_more Fit (asks p k) n (y ∷ ys) q x h w fit = (h.0, one_more Fit (k y) n ys q x h.1 w fit)
one_more Fit stops n (y ∷ ys) q x h w fit = absurd h

-- at the end nothing is left
pub all_given : {Q I A : Type 0} (Fit : Q → I → Type 0) (m : Ask Q I A) (xs : List I) (a : A)
    → Leads Fit m xs (tells a) → Gives Fit m xs a
all_given Fit (tells b) [] a h = the_same (ap told h)
all_given Fit (asks q k) [] a h = absurd (nothing (ap told h))
all_given Fit stops [] a h = absurd (nothing (ap told h))
all_given Fit (tells b) (x ∷ xs) a h = absurd h
all_given Fit (asks q k) (x ∷ xs) a h = (h.0, all_given Fit (k x) xs a h.1)
all_given Fit stops (x ∷ xs) a h = absurd h

pub fall : {Q I A : Type 0} (now : Q → I) (m : Ask Q I A) (q : Q) → wanted m ≡ Some q → left now m ≡ 1 + left now (after m (now q))
fall now (tells a) q w = absurd (nothing w)
fall now (asks p k) q w = ap (λ (r : _). 1 + left now (k (now r))) (the_same w)
fall now stops q w = absurd (nothing w)

pub step_on : {Q I A B : Type 0} (m : Ask Q I A) (f : A → Ask Q I B) (q : Q) (x : I) → wanted m ≡ Some q
    → (wanted (then_on m f) ≡ Some q) × (after (then_on m f) x ≡ then_on (after m x) f)
step_on (tells a) f q x w = absurd (nothing w)
step_on (asks p k) f q x w = (w, refl)
step_on stops f q x w = absurd (nothing w)

pub lift_step : {Q I A R J B : Type 0} (f : Q → R) (g : J → I) (m : Ask Q I A) (k : A → Ask R J B) (q : Q) (x : J) → wanted m ≡ Some q
    → (wanted (lift f g m k) ≡ Some (f q)) × (after (lift f g m k) x ≡ lift f g (after m (g x)) k)
unfolding lift
lift_step f g (tells a) k q x e = absurd (nothing e)
lift_step f g (asks p n) k q x e = (ap (λ (r : _). Some (f r)) (the_same e), refl)
lift_step f g stops k q x e = absurd (nothing e)

pub lift_parts : {Q I A R J B : Type 0} (f : Q → R) (g : J → I) (Fit : Q → I → Type 0) (Fits : R → J → Type 0) → ((q : Q) (x : J) → Fits (f q) x → Fit q (g x))
    → (m : Ask Q I A) (k : A → Ask R J B) (xs : List J) (b : B) → Gives Fits (lift f g m k) xs b
    → (a : A) × (ys : List J) × (zs : List J) × (xs ≡ ys ++ zs) × Gives Fit m (map g ys) a × Gives Fits (k a) zs b
unfolding lift
lift_parts f g Fit Fits h (tells a) k xs b d = (a, [], xs, refl, refl, d)
lift_parts f g Fit Fits h (asks q n) k [] b d = absurd d
lift_parts f g Fit Fits h (asks q n) k (x ∷ xs) b d =
    let r = lift_parts f g Fit Fits h (n (g x)) k xs b d.1 in
    (r.0, x ∷ r.1, r.2, ap (λ (zs : List _). x ∷ zs) r.3, (h q x d.0, r.4), r.5)
lift_parts f g Fit Fits h stops k xs b d = absurd d

-- ---- two works in a row, of which the first still asks

pub after_on : {Q I A B : Type 0} (m : Ask Q I A) (k : A → Ask Q I B) (x : I) → IsSome (wanted m) → after (then_on m k) x ≡ then_on (after m x) k
after_on (tells a) k x some = absurd (apart some)
  where
    apart : false ≡ true → ⊥
    apart q = cc
after_on (asks q n) k x some = refl
after_on stops k x some = refl

pub wanted_on : {Q I A B : Type 0} (m : Ask Q I A) (k : A → Ask Q I B) → IsSome (wanted m) → wanted (then_on m k) ≡ wanted m
wanted_on (tells a) k some = absurd (apart some)
  where
    apart : false ≡ true → ⊥
    apart q = cc
wanted_on (asks q n) k some = refl
wanted_on stops k some = refl

pub is_tells : {Q I A : Type 0} (m : Ask Q I A) (a : A) → told m ≡ Some a → m ≡ tells a
is_tells (tells b) a e = ap tells (the_same e)
is_tells (asks q k) a e = absurd (nothing e)
is_tells stops a e = absurd (nothing e)

-- a work that neither asks nor tells has stopped
pub is_stops : {Q I A : Type 0} (m : Ask Q I A) → wanted m ≡ None → told m ≡ None → m ≡ stops
is_stops (tells b) w t = absurd (nothing (sym t))
is_stops (asks q k) w t = absurd (nothing (sym w))
is_stops stops w t = refl
