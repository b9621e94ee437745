-- Stated: work that asks for one thing after the other, each as what it was given says, and then
-- tells an answer.
use Rattle.std.specs.Prelude.{◌≡◌, ◌+◌, ℕ, List, [], ◌∷◌, ◌++◌, Option, Some, None}

-- an answer, or a question and the work that follows what is given for it, or the end of a work
-- that cannot go on
pub data Ask (Q I A : Type 0) : Type 0 where
  tells : A → Ask Q I A
  asks : Q → (I → Ask Q I A) → Ask Q I A
  stops : Ask Q I A

-- what is asked for now, if anything is
abbrev pub wanted : {Q I A : Type 0} → Ask Q I A → Option Q
wanted (tells a) = None
wanted (asks q k) = Some q
wanted stops = None

-- the answer, once there is one
abbrev pub told : {Q I A : Type 0} → Ask Q I A → Option A
told (tells a) = Some a
told (asks q k) = None
told stops = None

-- the work after it was given something
abbrev pub after : {Q I A : Type 0} → Ask Q I A → I → Ask Q I A
after (tells a) x = tells a
after (asks q k) x = k x
after stops x = stops

-- one work, and then the one that its answer leads to
abbrev pub then_on : {Q I A B : Type 0} → Ask Q I A → (A → Ask Q I B) → Ask Q I B
then_on (tells a) f = f a
then_on (asks q k) f = asks q (λ x. then_on (k x) f)
then_on stops f = stops

-- a work for each of a list, one after the other, and then the one that all their answers lead to,
-- after those seen before
unfoldable pub collect : {Q I X A B : Type 0} → (X → Ask Q I (List A)) → (List A → Ask Q I B)
    → List A → List X → Ask Q I B
collect f k seen [] = k seen
collect f k seen (x ∷ xs) = then_on (f x) (λ found. collect f k (seen ++ found) xs)

-- a work in another one's words: each question, and what is given for it; its answer leads on
unfoldable pub lift : {Q I A R J B : Type 0} → (Q → R) → (J → I) → Ask Q I A → (A → Ask R J B)
    → Ask R J B
lift f g (tells a) k = k a
lift f g (asks q n) k = asks (f q) (λ x. lift f g (n (g x)) k)
lift f g stops k = stops

-- the work is done after exactly these were given, each fit for what was asked, and tells this
abbrev pub Gives : {Q I A : Type 0} → (Q → I → Type 0) → Ask Q I A → List I → A → Type 0
Gives Fit (tells b) [] a = b ≡ a
Gives Fit (tells b) (x ∷ xs) a = ⊥
Gives Fit (asks q k) [] a = ⊥
Gives Fit (asks q k) (x ∷ xs) a = Fit q x × Gives Fit (k x) xs a
Gives Fit stops xs a = ⊥

-- after these were given, each fit for what was asked, this work is left
abbrev pub Leads : {Q I A : Type 0} → (Q → I → Type 0) → Ask Q I A → List I → Ask Q I A → Type 0
Leads Fit m [] n = m ≡ n
Leads Fit (tells b) (x ∷ xs) n = ⊥
Leads Fit (asks q k) (x ∷ xs) n = Fit q x × Leads Fit (k x) xs n
Leads Fit stops (x ∷ xs) n = ⊥

-- how often it still asks, where each question is answered as things stand now
abbrev pub left : {Q I A : Type 0} → (Q → I) → Ask Q I A → ℕ
left now (tells a) = 0
left now (asks q k) = 1 + left now (k (now q))
left now stops = 0

-- the works of a list are done after exactly these were given, and tell this, one after the other
abbrev pub GivesAll : {Q I X A : Type 0} → (Q → I → Type 0) → (X → Ask Q I (List A)) → List X
    → List I → List A → Type 0
GivesAll Fit f [] us found = (us ≡ []) × (found ≡ [])
GivesAll {Q} {I} {X} {A} Fit f (x ∷ xs) us found =
    (here : List I) × (rest : List I) × (first : List A) × (more : List A)
    × (us ≡ here ++ rest) × Gives Fit (f x) here first × GivesAll Fit f xs rest more
    × (found ≡ first ++ more)
