-- For the proofs: what holds of a value that is found, step by step.
use Rattle.std.proofs.Common.{◌≡◌, ℕ, Bool, true, false, cond, Option, Some, None, List, refl, subst}
use Rattle.std.specs.Option.{option_and_then}
use Rattle.std.proofs.lemmas.Slice.Eq.{bytes_eq-Decides}
use Rattle.script_text.specs.Words.{is}

-- P holds of the value, where there is one
unfoldable pub OnFound : {V : Type 0} → (V → Type 0) → Option V → Type 0
OnFound P None = Unit {0}
OnFound P (Some v) = P v

pub on-none : {V : Type 0} (P : V → Type 0) → OnFound P None
unfolding OnFound
on-none P = tt

pub on-some : {V : Type 0} (P : V → Type 0) (v : V) → P v → OnFound P (Some v)
unfolding OnFound
on-some P v h = h

pub found-at : {V : Type 0} (P : V → Type 0) (o : Option V) (v : V) → OnFound P o → o ≡ Some v → P v
unfolding OnFound
found-at P o v h e = subst (OnFound P) e h

-- a value is the one that is found
pub found : {V : Type 0} (o : Option V) → OnFound (λ v. o ≡ Some v) o
unfolding OnFound
found None = tt
found (Some v) = refl

pub is-text : (w t : List ℕ) → is w t ≡ true → w ≡ t
is-text w t e = (bytes_eq-Decides w t).0 e

pub is-not : (w t : List ℕ) → (w ≡ t → ⊥) → is w t ≡ false
is-not w t apart = by_test (is w t) refl where
  by_test : (b : Bool) → is w t ≡ b → b ≡ false
  by_test true e = absurd (apart (is-text w t e))
  by_test false e = refl

-- where a word is a text, or else another way
pub picked : {V : Type 0} (P : V → Type 0) (w t : List ℕ) (x y : Option V) → (w ≡ t → OnFound P x) → OnFound P y → OnFound P (cond (is w t) x y)
picked P w t x y then_found else_found = by_test (is w t) refl where
  by_test : (b : Bool) → is w t ≡ b → OnFound P (cond b x y)
  by_test true e = then_found (is-text w t e)
  by_test false e = else_found

-- one row of a table of words
pub row : {V : Type 0} (P : V → Type 0) (w t : List ℕ) (v : V) (rest : Option V) → (w ≡ t → P v) → OnFound P rest → OnFound P (cond (is w t) (Some v) rest)
row P w t v rest then_found else_found = picked P w t (Some v) rest (λ e. on-some P v (then_found e)) else_found

-- a step behind another
pub mapped : {A V : Type 0} (P : V → Type 0) (Q : A → Type 0) (o : Option A) (g : A → Option V) → OnFound Q o → ((a : A) → Q a → OnFound P (g a)) → OnFound P (option_and_then g o)
unfolding OnFound
mapped P Q None g h step = tt
mapped P Q (Some a) g h step = step a h

-- a step behind another, or else another way
pub forked : {A V : Type 0} (P : V → Type 0) (Q : A → Type 0) (o : Option A) (g : A → Option V) (y : Option V) → OnFound Q o → ((a : A) → Q a → OnFound P (g a)) → OnFound P y → OnFound P (elim o [ Some a ↦ g a | None ↦ y ])
unfolding OnFound
forked P Q None g y h step else_found = else_found
forked P Q (Some a) g y h step else_found = step a h

-- what follows from P holds too
pub weaker : {V : Type 0} (P Q : V → Type 0) (o : Option V) → ((v : V) → P v → Q v) → OnFound P o → OnFound Q o
unfolding OnFound
weaker P Q None step h = tt
weaker P Q (Some v) step h = step v h
