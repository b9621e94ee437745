-- Which numbers a list has.
use Rattle.std.proofs.Common.{◌≡◌, ◌<◌, ℕ, List, [], ◌∷◌, ◌++◌, length, refl, subst, arith, inl, inr}
use Rattle.std.specs.Prelude.{◌⊎◌, ◌↔◌, Contains}
use Rattle.std.specs.List.{AllByRecursion}
use Rattle.std.proofs.lemmas.List.Elements.{Contains-append_left, Contains-append_right, Contains-append_cases, All-from_recursion, All-contains}

pub here : (x : ℕ) (xs : List ℕ) → Contains (x ∷ xs) x
here x xs = (0, omega arith, refl)

pub there : (x q : ℕ) (xs : List ℕ) → Contains xs q → Contains (x ∷ xs) q
there x q xs c = Contains-append_right (x ∷ []) xs q c

pub among : (xs ys : List ℕ) (x : ℕ) → Contains (xs ++ (x ∷ ys)) x
among xs ys x = Contains-append_right xs (x ∷ ys) x (here x ys)

pub by_members : (P : ℕ → Type 0) (xs : List ℕ) → ((q : ℕ) → Contains xs q → P q) → AllByRecursion P xs
by_members P [] f = tt
by_members P (x ∷ xs) f = (f x (here x xs), by_members P xs (λ q c. f q (there x q xs c)))

pub member_has : (P : ℕ → Type 0) (xs : List ℕ) (q : ℕ) → AllByRecursion P xs → Contains xs q → P q
member_has P xs q all c = All-contains P xs q (All-from_recursion P xs all) c

-- one number more, somewhere in a list
pub one_more : (xs ys : List ℕ) (new q : ℕ) → Contains (xs ++ (new ∷ ys)) q ↔ (Contains (xs ++ ys) q ⊎ Contains (new ∷ []) q)
one_more xs ys new q = (forth, back)
  where
    late : Contains (new ∷ []) q ⊎ Contains ys q → Contains (xs ++ ys) q ⊎ Contains (new ∷ []) q
    late (inl c) = inr c
    late (inr c) = inl (Contains-append_right xs ys q c)

    early : Contains xs q ⊎ Contains (new ∷ ys) q → Contains (xs ++ ys) q ⊎ Contains (new ∷ []) q
    early (inl c) = inl (Contains-append_left xs ys q c)
    early (inr c) = late (Contains-append_cases (new ∷ []) ys q c)

    forth : Contains (xs ++ (new ∷ ys)) q → Contains (xs ++ ys) q ⊎ Contains (new ∷ []) q
    forth c = early (Contains-append_cases xs (new ∷ ys) q c)

    old : Contains xs q ⊎ Contains ys q → Contains (xs ++ (new ∷ ys)) q
    old (inl c) = Contains-append_left xs (new ∷ ys) q c
    old (inr c) = Contains-append_right xs (new ∷ ys) q (there new q ys c)

    back : Contains (xs ++ ys) q ⊎ Contains (new ∷ []) q → Contains (xs ++ (new ∷ ys)) q
    back (inl c) = old (Contains-append_cases xs ys q c)
    back (inr c) = Contains-append_right xs (new ∷ ys) q (Contains-append_left (new ∷ []) ys q c)

-- two numbers more
pub two_more : (xs ys zs : List ℕ) (one two q : ℕ) → Contains (xs ++ (one ∷ (ys ++ (two ∷ zs)))) q ↔ (Contains (xs ++ (ys ++ zs)) q ⊎ Contains (one ∷ two ∷ []) q)
two_more xs ys zs one two q = (forth, back)
  where
    first : Contains (xs ++ (one ∷ (ys ++ (two ∷ zs)))) q ↔ (Contains (xs ++ (ys ++ (two ∷ zs))) q ⊎ Contains (one ∷ []) q)
    first = one_more xs (ys ++ (two ∷ zs)) one q

    second : Contains (ys ++ (two ∷ zs)) q ↔ (Contains (ys ++ zs) q ⊎ Contains (two ∷ []) q)
    second = one_more ys zs two q

    late : Contains (ys ++ zs) q ⊎ Contains (two ∷ []) q → Contains (xs ++ (ys ++ zs)) q ⊎ Contains (one ∷ two ∷ []) q
    late (inl c) = inl (Contains-append_right xs (ys ++ zs) q c)
    late (inr c) = inr (there one q (two ∷ []) c)

    early : Contains xs q ⊎ Contains (ys ++ (two ∷ zs)) q → Contains (xs ++ (ys ++ zs)) q ⊎ Contains (one ∷ two ∷ []) q
    early (inl c) = inl (Contains-append_left xs (ys ++ zs) q c)
    early (inr c) = late (second.0 c)

    middle : Contains (xs ++ (ys ++ (two ∷ zs))) q ⊎ Contains (one ∷ []) q → Contains (xs ++ (ys ++ zs)) q ⊎ Contains (one ∷ two ∷ []) q
    middle (inl c) = early (Contains-append_cases xs (ys ++ (two ∷ zs)) q c)
    middle (inr c) = inr (Contains-append_left (one ∷ []) (two ∷ []) q c)

    forth : Contains (xs ++ (one ∷ (ys ++ (two ∷ zs)))) q → Contains (xs ++ (ys ++ zs)) q ⊎ Contains (one ∷ two ∷ []) q
    forth c = middle (first.0 c)

    old : Contains xs q ⊎ Contains (ys ++ zs) q → Contains (xs ++ (one ∷ (ys ++ (two ∷ zs)))) q
    old (inl c) = first.1 (inl (Contains-append_left xs (ys ++ (two ∷ zs)) q c))
    old (inr c) = first.1 (inl (Contains-append_right xs (ys ++ (two ∷ zs)) q (second.1 (inl c))))

    new : Contains (one ∷ []) q ⊎ Contains (two ∷ []) q → Contains (xs ++ (one ∷ (ys ++ (two ∷ zs)))) q
    new (inl c) = first.1 (inr c)
    new (inr c) = first.1 (inl (Contains-append_right xs (ys ++ (two ∷ zs)) q (second.1 (inr c))))

    back : Contains (xs ++ (ys ++ zs)) q ⊎ Contains (one ∷ two ∷ []) q → Contains (xs ++ (one ∷ (ys ++ (two ∷ zs)))) q
    back (inl c) = old (Contains-append_cases xs (ys ++ zs) q c)
    back (inr c) = new (Contains-append_cases (one ∷ []) (two ∷ []) q c)
