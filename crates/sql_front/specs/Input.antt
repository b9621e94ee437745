-- Stated: readers: each takes what is left of a statement and answers a value and what is left behind it, or what is
-- left where it refuses.
use Rattle.std.specs.Prelude.{◌≡◌, ℕ, zero, suc, Bool, true, if◌then◌else◌, List, [], ◌∷◌, ◌++◌, length, Result, Ok, Err, ℤ, pos, neg_ℤ, nat_lt}
use Rattle.sql_front.specs.declared.stopping.Stop.{Stop}
use Rattle.sql_front.specs.declared.stopping.Stop.TheVariants as stop
use Rattle.sql_words.specs.declared.signs.Sign.TheVariants as s
use Rattle.sql_words.specs.declared.tokens.Class.{Class}
use Rattle.sql_words.specs.declared.tokens.Class.TheVariants as c
use Rattle.sql_front.specs.Symbols.{name, number, text, Input, sees, behind}

abbrev pub Outcome : Type 0 → Type 0
Outcome X = Result (X × Input) Input

abbrev pub Reader : Type 0 → Type 0
Reader X = Input → Outcome X

abbrev pub and_then : {X Y : Type 0} → Outcome X → (X → Reader Y) → Outcome Y
and_then (Ok p) f = f p.0 p.1
and_then (Err i) f = Err i

infixl 10 ◌>>=◌
abbrev pub ◌>>=◌ : {X Y : Type 0} → Reader X → (X → Reader Y) → Reader Y
p >>= f = λ i. and_then (p i) f

infixl 10 ◌>>◌
abbrev pub ◌>>◌ : {X Y : Type 0} → Reader X → Reader Y → Reader Y
p >> q = p >>= (λ _. q)

abbrev pub pure : {X : Type 0} → X → Reader X
pure x = λ i. Ok (x, i)

abbrev pub refuse : {X : Type 0} → Reader X
refuse = λ i. Err i

-- takes a symbol of the class, where the test allows one here
unfoldable pub expect_if : Bool → Class → Reader (Unit {0})
expect_if allowed c = λ i. if sees c i then (if allowed then Ok (tt, behind i) else Err i) else Err i

abbrev pub expect : Class → Reader (Unit {0})
expect c = expect_if true c

unfoldable pub after : Class → Input → Input
after c i = if sees c i then behind i else i

-- takes a symbol of the class, if it comes next
abbrev pub eat : Class → Reader Bool
eat c = λ i. Ok (sees c i, after c i)

-- passes the next symbol over
abbrev pub step : Reader (Unit {0})
step = λ i. Ok (tt, behind i)

-- the name that comes next, which is left there
unfoldable pub named : Reader (List ℕ)
named [] = Err []
named (name n ∷ i) = Ok (n, name n ∷ i)
named (x ∷ i) = Err (x ∷ i)

-- takes a name that the test allows here
unfoldable pub name_if : (List ℕ → Bool) → Reader (List ℕ)
name_if allowed = do
  n ← named
  if allowed n then (step >> pure n) else refuse

unfoldable pub any_name : Reader (List ℕ)
any_name = do
  n ← named
  step
  pure n

-- the number that comes next, which is left there
unfoldable pub numbered : Reader ℕ
numbered [] = Err []
numbered (number n ∷ i) = Ok (n, number n ∷ i)
numbered (x ∷ i) = Err (x ∷ i)

-- takes a number up to 2 ^ 63 - 1
unfoldable pub small_number : Reader ℤ
small_number = do
  n ← numbered
  if nat_lt n 9223372036854775808 then (step >> pure (pos n)) else refuse

-- takes a number behind a minus
unfoldable pub negative_number : Reader ℤ
negative_number = do
  n ← numbered
  step
  pure (neg_ℤ (pos n))

-- the text that comes next, which is left there
unfoldable pub texted : Reader (List ℕ)
texted [] = Err []
texted (text t ∷ i) = Ok (t, text t ∷ i)
texted (x ∷ i) = Err (x ∷ i)

-- takes a text
unfoldable pub text_value : Reader (List ℕ)
text_value = do
  t ← texted
  step
  pure t

-- a comma and an item, any number of times, at most so often; an item is read by those before it
unfoldable pub further : {X : Type 0} → (List X → Reader X) → ℕ → List X → Reader (List X)
further item zero before = pure before
further item (suc n) before = do
  found ← eat (c.Sign s.Comma)
  if found then (do x ← item before; further item n (before ++ x ∷ [])) else pure before

-- items with commas between them
unfoldable pub listed : {X : Type 0} → (List X → Reader X) → Reader (List X)
listed item = do
  x ← item []
  λ i. further item (length i) (x ∷ []) i

-- what a call answers and leaves is what the reader does, unless memory runs out
abbrev pub Reads : {X : Type 0} → Outcome X → Result X Stop → Input → Type 0
Reads (Ok p) (Ok x) new = (x ≡ p.0) × (new ≡ p.1)
Reads (Ok p) (Err stop.Refused) new = ⊥
Reads (Ok p) (Err stop.Memory) new = Unit {0}
Reads (Err i) (Ok x) new = ⊥
Reads (Err i) (Err stop.Refused) new = new ≡ i
Reads (Err i) (Err stop.Memory) new = Unit {0}
