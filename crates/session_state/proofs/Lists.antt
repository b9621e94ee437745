use Rattle.std.proofs.Common.{◌≡◌, ◌<◌, ℕ, zero, suc, ◌+◌, List, [], ◌∷◌, ◌++◌, length, map, take, drop, slice_get, slice_set, Some, ap, sym, refl, arith, ◌∙◌}

-- a list of which a front was changed
abbrev pub in_part : {A : Type 0} → (A → A) → List A → ℕ → List A
in_part f xs n = map f (take n xs) ++ drop n xs

pub part_get : {A : Type 0} (f : A → A) (xs : List A) (n : ℕ) → slice_get (in_part f xs n) n ≡ slice_get xs n
part_get f [] zero = refl
part_get f [] (suc n) = refl
part_get f (x ∷ xs) zero = refl
part_get f (x ∷ xs) (suc n) = part_get f xs n

pub part_set : {A : Type 0} (f : A → A) (xs : List A) (n : ℕ) (x : A) → slice_get xs n ≡ Some x → slice_set (in_part f xs n) n (f x) ≡ in_part f xs (suc n)
part_set f [] n x e = absurd cc
part_set f (y ∷ ys) zero x e = let same : y ≡ x = cc in ap (λ z. f z ∷ ys) (sym same)
part_set f (y ∷ ys) (suc n) x e = ap (λ zs. f y ∷ zs) (part_set f ys n x e)

pub has_item : {A : Type 0} (xs : List A) (n : ℕ) → n < length xs → (x : A) × (slice_get xs n ≡ Some x)
has_item [] n h = absurd (omega arith)
has_item (y ∷ ys) zero h = (y, refl)
has_item (y ∷ ys) (suc n) h = has_item ys n (omega arith)

-- one more of the front is changed
pub part_step : {A : Type 0} (f : A → A) (xs now new : List A) (n : ℕ) → now ≡ in_part f xs n → n < length xs
    → ((x : A) → slice_get now n ≡ Some x → new ≡ slice_set now n (f x)) → new ≡ in_part f xs (n + 1)
part_step f xs now new n is h sets =
    let item = has_item xs n h in
    let next : suc n ≡ n + 1 = omega arith in
    let there : slice_get now n ≡ Some item.0 = ap (λ q. slice_get q n) is ∙ part_get f xs n ∙ item.1 in
    sets item.0 there ∙ ap (λ q. slice_set q n (f item.0)) is ∙ part_set f xs n item.0 item.1 ∙ ap (in_part f xs) next

pub part_length : {A : Type 0} (f : A → A) (xs : List A) (n : ℕ) → length (in_part f xs n) ≡ length xs
part_length f [] zero = refl
part_length f [] (suc n) = refl
part_length f (x ∷ xs) zero = refl
part_length f (x ∷ xs) (suc n) = ap suc (part_length f xs n)
