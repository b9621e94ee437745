-- Rows that lie in ranges are all rows without those outside.
use Rattle.std.proofs.Common.{◌≡◌, Bool, true, false, cond, List, [], ◌∷◌, ◌++◌, map, refl, ap, inl, inr}
use Rattle.std.specs.Prelude.{filter}
use Rattle.sql_values.specs.declared.values.Value.{Value}
use Rattle.sql_exec.specs.Whole.{Each, FilteredIsWithout, IsNeedless, JoinedIsWithout, Without}
use Rattle.sql_exec.specs.Kept.{pairs}

leave : (P : List Value → Type 0) (x : List Value) (xs ys : List (List Value)) → P x → Without P xs ys → Without P (x ∷ xs) ys
leave P x xs [] p w = (p, w)
leave P x xs (y ∷ ys) p w = inr (p, w)

one_more : (P : List Value → Type 0) (x : List Value) (xs ys : List (List Value)) (b : Bool) → (b ≡ false → P x) → Without P xs ys → Without P (x ∷ xs) (cond b (x ∷ ys) ys)
one_more P x xs ys true p w = inl (refl, w)
one_more P x xs ys false p w = leave P x xs ys (p refl) w

filtered : (P : List Value → Type 0) (q : List Value → Bool) (rows : List (List Value)) → Each (λ r. q r ≡ false → P r) rows → Without P rows (filter q rows)
filtered P q [] h = tt
filtered P q (x ∷ xs) h = one_more P x xs (filter q xs) (q x) h.0 (filtered P q xs h.1)

both : (P : List Value → Type 0) (as_ bs cs ds : List (List Value)) → Without P as_ bs → Without P cs ds → Without P (as_ ++ cs) (bs ++ ds)
both P [] [] cs ds w v = v
both P [] (y ∷ bs) cs ds w v = absurd w
both P (x ∷ as_) [] cs ds w v = leave P x (as_ ++ cs) ds w.0 (both P as_ [] cs ds w.1 v)
both P (x ∷ as_) (y ∷ bs) cs ds (inl w) v = inl (w.0, both P as_ bs cs ds w.1 v)
both P (x ∷ as_) (y ∷ bs) cs ds (inr w) v = inr (w.0, both P as_ (y ∷ bs) cs ds w.1 v)

behind : (P : List Value → Type 0) (l : List Value) (rs ss : List (List Value)) → Without (λ r. P (l ++ r)) rs ss → Without P (map (λ r. l ++ r) rs) (map (λ r. l ++ r) ss)
behind P l [] [] w = tt
behind P l [] (s ∷ ss) w = absurd w
behind P l (r ∷ rs) [] w = (w.0, behind P l rs [] w.1)
behind P l (r ∷ rs) (s ∷ ss) (inl w) = inl (ap (λ z. l ++ z) w.0, behind P l rs ss w.1)
behind P l (r ∷ rs) (s ∷ ss) (inr w) = inr (w.0, behind P l rs (s ∷ ss) w.1)

none_of : (P : List Value → Type 0) (l : List Value) (rs : List (List Value)) → Each (λ r. P (l ++ r)) rs → Without P (map (λ r. l ++ r) rs) []
none_of P l [] h = tt
none_of P l (r ∷ rs) h = (h.0, none_of P l rs h.1)

each_of : (P Q : List Value → Type 0) → ((r : List Value) → P r → Q r) → (rs : List (List Value)) → Each P rs → Each Q rs
each_of P Q f [] h = tt
each_of P Q f (r ∷ rs) h = (f r h.0, each_of P Q f rs h.1)

one_left : (P : List Value → Type 0) (q : List Value → List Value → Bool) (l : List Value) (all ls rs : List (List Value)) (b : Bool)
    → Each (λ r. b ≡ false → P (l ++ r)) rs → Each (λ r. q l r ≡ false → P (l ++ r)) rs
    → Without P all (pairs ls (map (λ m. filter (q m) rs) ls))
    → Without P (map (λ r. l ++ r) rs ++ all) (pairs (cond b (l ∷ ls) ls) (map (λ m. filter (q m) rs) (cond b (l ∷ ls) ls)))
one_left P q l all ls rs true h i w =
    both P (map (λ r. l ++ r) rs) (map (λ r. l ++ r) (filter (q l) rs)) all (pairs ls (map (λ m. filter (q m) rs) ls)) (behind P l rs (filter (q l) rs) (filtered (λ r. P (l ++ r)) (q l) rs i)) w
one_left P q l all ls rs false h i w =
    both P (map (λ r. l ++ r) rs) [] all (pairs ls (map (λ m. filter (q m) rs) ls)) (none_of P l rs (each_of (λ r. false ≡ false → P (l ++ r)) (λ r. P (l ++ r)) (λ r f. f refl) rs h)) w

joined : (P : List Value → Type 0) (p : List Value → Bool) (q : List Value → List Value → Bool) (ls rs : List (List Value)) → Each (λ l. Each (λ r. p l ≡ false → P (l ++ r)) rs) ls → Each (λ l. Each (λ r. q l r ≡ false → P (l ++ r)) rs) ls → Without P (pairs ls (map (λ l. rs) ls)) (pairs (filter p ls) (map (λ l. filter (q l) rs) (filter p ls)))
joined P p q [] rs h i = tt
joined P p q (l ∷ ls) rs h i = one_left P q l (pairs ls (map (λ m. rs) ls)) (filter p ls) rs (p l) h.0 i.0 (joined P p q ls rs h.1 i.1)

pub filtered_is_without : FilteredIsWithout
filtered_is_without schema act q rows h = filtered (IsNeedless schema act) q rows h

pub joined_is_without : JoinedIsWithout
joined_is_without schema act p q ls rs h i = joined (IsNeedless schema act) p q ls rs h i
