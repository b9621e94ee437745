-- Steps of a reading that may fail, and what a step took from the front of the bytes.
use Rattle.std.proofs.Common.{◌≡◌, ◌≤◌, ◌<◌, ℕ, zero, suc, Bool, true, false, cond, eqb, List, [], ◌∷◌, ◌++◌, length, slice_index, Option, Some, None, ◌⊎◌, inl, inr, refl, sym, ap, subst, ◌∙◌, append_assoc, arith}
use Rattle.std.specs.Prelude.{option_and_then}
use Rattle.std.proofs.lemmas.Bool.{eqb-true}
use Rattle.rm_base.specs.Fields.{AreBytes}

-- the value of a step that was read
pub bind_some : {A B : Type 0} (o : Option A) (f : A → Option B) (y : B) → option_and_then f o ≡ Some y → (x : A) × (o ≡ Some x) × (f x ≡ Some y)
bind_some None f y e = absurd cc
bind_some (Some x) f y e = (x, refl, e)

-- a test that lets nothing through
pub unless_some : {A : Type 0} (b : Bool) (x y : A) → cond b None (Some x) ≡ Some y → (b ≡ false) × (x ≡ y)
unless_some true x y e = absurd cc
unless_some false x y e = (refl, cc)

-- a test that lets a step through
pub then_some : {A : Type 0} (b : Bool) (o : Option A) (y : A) → cond b o None ≡ Some y → (b ≡ true) × (o ≡ Some y)
then_some true o y e = (refl, e)
then_some false o y e = absurd cc

abbrev some : {A : Type 0} → A → Option A
some x = Some x

pub some_is : {A : Type 0} (x y : A) → some x ≡ some y → x ≡ y
some_is x y e = cc

chosen : {A : Type 0} (b c : ℕ) (x y : Option A) (z : A) (t : Bool) → eqb b c ≡ t → cond t x y ≡ Some z → ((b ≡ c) × (x ≡ Some z)) ⊎ (y ≡ Some z)
chosen b c x y z true is e = inl (eqb-true b c is, e)
chosen b c x y z false is e = inr e

-- a choice by a number
pub one_of : {A : Type 0} (b c : ℕ) (x y : Option A) (z : A) → cond (eqb b c) x y ≡ Some z → ((b ≡ c) × (x ≡ Some z)) ⊎ (y ≡ Some z)
one_of b c x y z e = chosen b c x y z (eqb b c) refl e

pub AreBytes-rest : (text rest : List ℕ) → AreBytes (text ++ rest) → AreBytes rest
AreBytes-rest [] rest h = h
AreBytes-rest (b ∷ text) rest h = AreBytes-rest text rest (λ k. h (suc k))

at_front : (b : ℕ) (text rest : List ℕ) → AreBytes (b ∷ (text ++ rest)) → AreBytes text → (k : ℕ) → slice_index (b ∷ text) k < 256
at_front b text rest h below zero = h 0
at_front b text rest h below (suc k) = below k

pub AreBytes-front : (text rest : List ℕ) → AreBytes (text ++ rest) → AreBytes text
AreBytes-front [] rest h = λ k. omega arith
AreBytes-front (b ∷ text) rest h = at_front b text rest h (AreBytes-front text rest (λ k. h (suc k)))

-- the text stood at the front of the bytes, and the rest is left
pub record Takes (bytes text rest : List ℕ) : Type 0 where
  pub parts : AreBytes bytes → bytes ≡ text ++ rest
  pub shorter : length rest ≤ length bytes

pub Takes-fits : (bytes text rest : List ℕ) → Takes bytes text rest → AreBytes bytes → AreBytes rest
Takes-fits bytes text rest t fits = let P : List ℕ → Type 0 = λ b. AreBytes b in AreBytes-rest text rest (subst P (t.parts fits) fits)

pub Takes-then : (a x b y c : List ℕ) → Takes a x b → Takes b y c → Takes a (x ++ y) c
Takes-then a x b y c p q =
    record {
      parts = λ fits. p.parts fits ∙ ap (λ (t : List ℕ). x ++ t) (q.parts (Takes-fits a x b p fits)) ∙ sym (append_assoc x y c);
      shorter = omega (arith, p.shorter, q.shorter);
    }
