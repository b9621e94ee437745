-- Stated: what holds of each work that asks.
use Rattle.std.specs.Prelude.{◌≡◌, ◌+◌, Bool, true, List, [], ◌∷◌, ◌++◌, map, Some}
use Rattle.question_tree.specs.Questions.{Ask, tells, wanted, after, then_on, collect, lift, Gives, GivesAll, Leads, left}

-- what two works in a row were given is what each was given
abbrev pub Splits : (Q I A B : Type 0) → Type 0
Splits Q I A B =
    (fit : Q → I → Bool) (m : Ask Q I A) (f : A → Ask Q I B) (xs : List I) (b : B)
    → Gives (λ q x. fit q x ≡ true) (then_on m f) xs b
    → (a : A) × (ys : List I) × (zs : List I) × (xs ≡ ys ++ zs)
    × Gives (λ q x. fit q x ≡ true) m ys a × Gives (λ q x. fit q x ≡ true) (f a) zs b

-- and the other way round
abbrev pub Joins : (Q I A B : Type 0) → Type 0
Joins Q I A B =
    (fit : Q → I → Bool) (m : Ask Q I A) (f : A → Ask Q I B) (ys zs : List I) (a : A) (b : B)
    → Gives (λ q x. fit q x ≡ true) m ys a → Gives (λ q x. fit q x ≡ true) (f a) zs b
    → Gives (λ q x. fit q x ≡ true) (then_on m f) (ys ++ zs) b

-- what the works of a list were given, and then the one behind them, is what each was given
abbrev pub CollectSplits : (Q I X A B : Type 0) → Type 0
CollectSplits Q I X A B =
    (fit : Q → I → Bool) (f : X → Ask Q I (List A)) (k : List A → Ask Q I B)
    (seen : List A) (xs : List X) (us : List I) (b : B)
    → Gives (λ q x. fit q x ≡ true) (collect f k seen xs) us b
    → (ys : List I) × (zs : List I) × (found : List A) × (us ≡ ys ++ zs)
    × GivesAll (λ q x. fit q x ≡ true) f xs ys found
    × Gives (λ q x. fit q x ≡ true) (k (seen ++ found)) zs b

-- one more is given
abbrev pub GoesOn : (Q I A : Type 0) → Type 0
GoesOn Q I A =
    (fit : Q → I → Bool) (m n : Ask Q I A) (xs : List I) (q : Q) (x : I)
    → Leads (λ p y. fit p y ≡ true) m xs n → wanted n ≡ Some q → fit q x ≡ true
    → Leads (λ p y. fit p y ≡ true) m (xs ++ x ∷ []) (after n x)

-- where an answer is told, that is what the work gives
abbrev pub Ends : (Q I A : Type 0) → Type 0
Ends Q I A =
    (fit : Q → I → Bool) (m : Ask Q I A) (xs : List I) (a : A)
    → Leads (λ p y. fit p y ≡ true) m xs (tells a) → Gives (λ p y. fit p y ≡ true) m xs a

-- each answer as things stand now leaves one question less
abbrev pub Falls : (Q I A : Type 0) → Type 0
Falls Q I A =
    (now : Q → I) (m : Ask Q I A) (q : Q) → wanted m ≡ Some q
    → left now m ≡ 1 + left now (after m (now q))

-- a step of the first of two works is a step of both
abbrev pub StepsOn : (Q I A B : Type 0) → Type 0
StepsOn Q I A B =
    (m : Ask Q I A) (f : A → Ask Q I B) (q : Q) (x : I) → wanted m ≡ Some q
    → (wanted (then_on m f) ≡ Some q) × (after (then_on m f) x ≡ then_on (after m x) f)

-- a step of a work is a step of it in another one's words
unfoldable pub LiftSteps : (Q I A R J B : Type 0) → Type 0
LiftSteps Q I A R J B =
    (f : Q → R) (g : J → I) (m : Ask Q I A) (k : A → Ask R J B) (q : Q) (x : J) → wanted m ≡ Some q
    → (wanted (lift f g m k) ≡ Some (f q)) × (after (lift f g m k) x ≡ lift f g (after m (g x)) k)

-- what both were given is what the first one was given, and what the rest was
unfoldable pub LiftSplits : (Q I A R J B : Type 0) → Type 0
LiftSplits Q I A R J B =
    (f : Q → R) (g : J → I) (fit : Q → I → Bool) (fits : R → J → Bool)
    → ((q : Q) (x : J) → fits (f q) x ≡ true → fit q (g x) ≡ true)
    → (m : Ask Q I A) (k : A → Ask R J B) (xs : List J) (b : B)
    → Gives (λ r x. fits r x ≡ true) (lift f g m k) xs b
    → (a : A) × (ys : List J) × (zs : List J) × (xs ≡ ys ++ zs)
    × Gives (λ q x. fit q x ≡ true) m (map g ys) a × Gives (λ r x. fits r x ≡ true) (k a) zs b
