-- How loops gather what is made of each element.
use Rattle.std.proofs.Common.{◌≡◌, ℕ, zero, suc, ◌+◌, ◌<◌, List, [], ◌∷◌, ◌++◌, length, drop, get_or, Result, Ok, Err, Option, refl, sym, ap, ◌∙◌, append_assoc, drop-cons, add-one, slice_get, Some, None, map}
use Rattle.std.proofs.lemmas.List.{append-nil}
use Rattle.sql_values.specs.declared.arithmetic.Overflow.{Overflow}
use Rattle.sql_values.specs.declared.logic.Truth.{Truth}
use Rattle.sql_values.specs.declared.values.Value.{Value}
use Rattle.sql_meaning.specs.Evaluation.{test_in}
use Rattle.sql_meaning.specs.Terms.{Term}
use Rattle.sql_exec.specs.Kept.{with_both, each, if_kept, kept, pairs, pairs_of}

-- what was gathered, and then the rest
abbrev pub front : {A E : Type 0} → List A → Result (List A) E → Result (List A) E
front as_ r = with_both (λ a b. a ++ b) (Ok as_) r

pub front_none : {A E : Type 0} (r : Result (List A) E) → front [] r ≡ r
front_none (Ok a) = refl
front_none (Err e) = refl

pub front_end : {A E : Type 0} (done : List A) → front {A = A} {E = E} done (Ok []) ≡ Ok done
front_end done = ap Ok (append-nil done)

pub drop_at : {A : Type 0} (xs : List A) (i : ℕ) (x : A) → i < length xs → x ≡ get_or xs i x → drop i xs ≡ x ∷ drop (i + 1) xs
drop_at xs i x h is =
    drop-cons xs i x h ∙ ap (λ z. z ∷ drop (suc i) xs) (sym is) ∙ ap (λ n. x ∷ drop n xs) (sym (add-one i))

push : {A E : Type 0} (done : List A) (y : A) (r : Result (List A) E) → front done (with_both (λ z zs. z ∷ zs) (Ok y) r) ≡ front (done ++ y ∷ []) r
push done y (Ok cs) = ap Ok (sym (append_assoc done (y ∷ []) cs))
push done y (Err e) = refl

pub each_step : {A B E : Type 0} (f : A → Result B E) (xs : List A) (i : ℕ) (x : A) (y : B) (done : List B) → i < length xs → x ≡ get_or xs i x → f x ≡ Ok y → front done (each f (drop i xs)) ≡ front (done ++ y ∷ []) (each f (drop (i + 1) xs))
each_step f xs i x y done h is e =
    ap (λ l. front done (each f l)) (drop_at xs i x h is)
    ∙ ap (λ r. front done (with_both (λ z zs. z ∷ zs) r (each f (drop (i + 1) xs)))) e
    ∙ push done y (each f (drop (i + 1) xs))

pub each_stop : {A B E : Type 0} (f : A → Result B E) (xs : List A) (i : ℕ) (x : A) (e : E) (done : List B) → i < length xs → x ≡ get_or xs i x → f x ≡ Err e → front done (each f (drop i xs)) ≡ Err e
each_stop f xs i x e done h is g =
    ap (λ l. front done (each f l)) (drop_at xs i x h is)
    ∙ ap (λ r. front done (with_both (λ z zs. z ∷ zs) r (each f (drop (i + 1) xs)))) g

keep : {E : Type 0} (done : List (List Value)) (x : List Value) (t : Truth) (r : Result (List (List Value)) E) → front done (with_both (λ u more. if_kept x u ++ more) (Ok t) r) ≡ front (done ++ if_kept x t) r
keep done x t (Ok cs) = ap Ok (sym (append_assoc done (if_kept x t) cs))
keep done x t (Err e) = refl

pub kept_step : (test : Option Term) (xs : List (List Value)) (i : ℕ) (x : List Value) (t : Truth) (done : List (List Value)) → i < length xs → x ≡ get_or xs i x → test_in x test ≡ Ok t → front done (kept test (drop i xs)) ≡ front (done ++ if_kept x t) (kept test (drop (i + 1) xs))
kept_step test xs i x t done h is e =
    ap (λ l. front done (kept test l)) (drop_at xs i x h is)
    ∙ ap (λ r. front done (with_both (λ u more. if_kept x u ++ more) r (kept test (drop (i + 1) xs)))) e
    ∙ keep done x t (kept test (drop (i + 1) xs))

pub kept_stop : (test : Option Term) (xs : List (List Value)) (i : ℕ) (x : List Value) (e : Overflow) (done : List (List Value)) → i < length xs → x ≡ get_or xs i x → test_in x test ≡ Err e → front done (kept test (drop i xs)) ≡ Err e
kept_stop test xs i x e done h is g =
    ap (λ l. front done (kept test l)) (drop_at xs i x h is)
    ∙ ap (λ r. front done (with_both (λ u more. if_kept x u ++ more) r (kept test (drop (i + 1) xs)))) g

-- the right rows at a place, where a list stands there
at_place : {A : Type 0} (xs : List A) (i : ℕ) (x : A) → slice_get xs i ≡ Some x → drop i xs ≡ x ∷ drop (suc i) xs
at_place [] i x h = cc
at_place (y ∷ ys) zero x h = let e : y ≡ x = cc in ap (λ z. z ∷ ys) e
at_place (y ∷ ys) (suc i) x h = at_place ys i x h

past_end : {A : Type 0} (xs : List A) (i : ℕ) → slice_get xs i ≡ None → drop i xs ≡ []
past_end [] zero h = refl
past_end [] (suc i) h = refl
past_end (y ∷ ys) zero h = cc
past_end (y ∷ ys) (suc i) h = past_end ys i h

past_more : {A : Type 0} (xs : List A) (i : ℕ) → slice_get xs i ≡ None → drop (suc i) xs ≡ []
past_more [] i h = refl
past_more (y ∷ ys) zero h = cc
past_more (y ∷ ys) (suc i) h = past_more ys i h

no_pairs : (ls : List (List Value)) → pairs ls [] ≡ []
no_pairs [] = refl
no_pairs (l ∷ ls) = refl

pub pairs_step : (ls : List (List Value)) (rights : List (List (List Value))) (i : ℕ) (l : List Value) (rs : List (List Value)) (done : List (List Value)) → i < length ls → l ≡ get_or ls i l → slice_get rights i ≡ Some rs → done ++ pairs (drop i ls) (drop i rights) ≡ (done ++ map (λ r. l ++ r) rs) ++ pairs (drop (i + 1) ls) (drop (i + 1) rights)
pairs_step ls rights i l rs done h is e =
    ap (λ a. done ++ pairs a (drop i rights)) (drop_at ls i l h is)
    ∙ ap (λ b. done ++ pairs (l ∷ drop (i + 1) ls) b) (at_place rights i rs e ∙ ap (λ n. rs ∷ drop n rights) (sym (add-one i)))
    ∙ sym (append_assoc done (map (λ r. l ++ r) rs) (pairs (drop (i + 1) ls) (drop (i + 1) rights)))

pub pairs_skip : (ls : List (List Value)) (rights : List (List (List Value))) (i : ℕ) (done : List (List Value)) → slice_get rights i ≡ None → done ++ pairs (drop i ls) (drop i rights) ≡ done ++ pairs (drop (i + 1) ls) (drop (i + 1) rights)
pairs_skip ls rights i done e =
    ap (λ b. done ++ pairs (drop i ls) b) (past_end rights i e)
    ∙ ap (λ b. done ++ b) (no_pairs (drop i ls) ∙ sym (no_pairs (drop (i + 1) ls)))
    ∙ ap (λ b. done ++ pairs (drop (i + 1) ls) b) (sym (ap (λ n. drop n rights) (add-one i) ∙ past_more rights i e))

next : (ls : List (List Value)) (rights : List (List (List Value))) (i : ℕ) (l : List Value) (o : Option (List (List Value))) (done : List (List Value)) → i < length ls → l ≡ get_or ls i l → slice_get rights i ≡ o → (done ++ pairs_of l o) ++ pairs (drop (i + 1) ls) (drop (i + 1) rights) ≡ done ++ pairs (drop i ls) (drop i rights)
next ls rights i l None done h is e = ap (λ d. d ++ pairs (drop (i + 1) ls) (drop (i + 1) rights)) (append-nil done) ∙ sym (pairs_skip ls rights i done e)
next ls rights i l (Some rs) done h is e = sym (pairs_step ls rights i l rs done h is e)

pub pairs_next : (ls : List (List Value)) (rights : List (List (List Value))) (i : ℕ) (l : List Value) (done : List (List Value)) → i < length ls → l ≡ get_or ls i l → (done ++ pairs_of l (slice_get rights i)) ++ pairs (drop (i + 1) ls) (drop (i + 1) rights) ≡ done ++ pairs (drop i ls) (drop i rights)
pairs_next ls rights i l done h is = next ls rights i l (slice_get rights i) done h is refl
