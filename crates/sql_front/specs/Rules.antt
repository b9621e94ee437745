-- Stated: rules of a grammar. A rule says which symbols spell which value, where the further conditions are kept at
-- the first k of them.
use Rattle.std.specs.Prelude.{◌≡◌, ℕ, suc, ◌-◌, ◌<◌, ◌⊎◌, Bool, true, List, [], ◌∷◌, ◌++◌, length, Option, Some, None, ◌^◌, ℤ, pos, neg_ℤ}
use Rattle.sql_words.specs.declared.signs.Sign.TheVariants as s
use Rattle.sql_front.specs.Symbols.{Symbol, sign, name, number, text, Input}

abbrev pub Rule : Type 0 → Type 1
Rule X = ℕ → Input → X → Type 0

-- no symbol
abbrev pub nothing : {X : Type 0} → X → Rule X
nothing x k i y = (i ≡ []) × (x ≡ y)

-- this symbol, which a condition may forbid
abbrev pub the_if : Bool → Symbol → Rule (Unit {0})
the_if allowed t k i y = (i ≡ t ∷ []) × (0 < k → allowed ≡ true)

abbrev pub the : Symbol → Rule (Unit {0})
the t k i y = i ≡ t ∷ []

-- a name, which a condition may forbid
abbrev pub a_name_if : (List ℕ → Bool) → Rule (List ℕ)
a_name_if allowed k i n = (i ≡ name n ∷ []) × (0 < k → allowed n ≡ true)

abbrev pub a_name : Rule (List ℕ)
a_name k i n = i ≡ name n ∷ []

-- a number up to 2 ^ 63 - 1
abbrev pub a_small_number : Rule ℤ
a_small_number k i z = (n : ℕ) × (i ≡ number n ∷ []) × (n < 2 ^ 63) × (z ≡ pos n)

-- a number behind a minus
abbrev pub a_negative_number : Rule ℤ
a_negative_number k i z = (n : ℕ) × (i ≡ number n ∷ []) × (z ≡ neg_ℤ (pos n))

-- a text
abbrev pub a_text : Rule (List ℕ)
a_text k i t = i ≡ text t ∷ []

-- one rule, and behind it another that may depend on its value
pub record Both {X Y : Type 0} (R : Rule X) (S : X → Rule Y) (k : ℕ) (i : Input) (y : Y) : Type 0 where
  pub value : X
  pub front : Input
  pub back : Input
  pub whole : i ≡ front ++ back
  pub first : R k front value
  pub second : S value (k - length front) back y

infixl 10 ◌>>=◌
abbrev pub ◌>>=◌ : {X Y : Type 0} → Rule X → (X → Rule Y) → Rule Y
(R >>= S) k i y = Both R S k i y

infixl 10 ◌>>◌
abbrev pub ◌>>◌ : {X Y : Type 0} → Rule X → Rule Y → Rule Y
(R >> S) k i y = Both R (λ _. S) k i y

-- one rule or the other
infixl 5 ◌or◌
abbrev pub ◌or◌ : {X : Type 0} → Rule X → Rule X → Rule X
(R or S) k i x = R k i x ⊎ S k i x

-- a rule or nothing
abbrev pub perhaps : {X : Type 0} → Rule X → Rule (Option X)
perhaps R k i None = i ≡ []
perhaps R k i (Some x) = R k i x

-- a comma and an item, any number of times; an item keeps its rule behind those before it
pub data Further {X : Type 0} (item : List X → Rule X) : List X → ℕ → Input → List X → Type 0 where
  none : {before : List X} {k : ℕ} → Further item before k [] before
  another : {before xs : List X} {k : ℕ} {a b : Input} {x : X} → item before (k - 1) a x → Further item (before ++ x ∷ []) (k - suc (length a)) b xs → Further item before k (sign s.Comma ∷ a ++ b) xs

-- items with commas between them
abbrev pub a_list : {X : Type 0} → (List X → Rule X) → Rule (List X)
a_list item = do
  x ← item []
  Further item (x ∷ [])
