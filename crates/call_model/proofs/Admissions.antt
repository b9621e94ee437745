-- For the proofs: what a server's word on a call says of the call's numbers.
use Rattle.std.proofs.Common.{◌≡◌, ℕ, ◌<◌, ◌≤◌, Option, Some, None, ◌⊎◌, inl, inr, refl, arith}
use Rattle.call_model.specs.Callers.{Label}
use Rattle.call_model.specs.Servers.{Server, Admission.Fenced, Admission.Again, Admission.New, by_number, admit}

module _ {R : Type 0} where
  number-new : (o : Option R) (last k : ℕ) → by_number o last k ≡ New → (o ≡ None) ⊎ (last < k)
  number-new None last k e = inl refl
  number-new (Some r) last k e = inr (grind arith)

  number-again : (o : Option R) (last k : ℕ) → by_number o last k ≡ Again → last ≡ k
  number-again None last k e = cc
  number-again (Some r) last k e = grind arith

  number-fenced : (o : Option R) (last k e : ℕ) → by_number o last k ≡ Fenced e → ⊥
  number-fenced None last k e h = cc
  number-fenced (Some r) last k e h = grind arith

  pub admit-new : (s : Server R) (l : Label) → admit s l ≡ New
      → (s.epoch ≤ l.epoch) × ((s.memory l.node).incarnation ≤ l.incarnation)
      × ((s.memory l.node).incarnation ≡ l.incarnation → ((s.memory l.node).reply ≡ None) ⊎ ((s.memory l.node).number < l.number))
  admit-new s l e = let n = number-new (s.memory l.node).reply (s.memory l.node).number l.number in (grind arith, grind arith, grind arith)

  pub admit-again : (s : Server R) (l : Label) → admit s l ≡ Again
      → (s.epoch ≤ l.epoch) × ((s.memory l.node).incarnation ≡ l.incarnation) × ((s.memory l.node).number ≡ l.number)
  admit-again s l e = let n = number-again (s.memory l.node).reply (s.memory l.node).number l.number in (grind arith, grind arith, grind arith)

  pub admit-fenced : (s : Server R) (l : Label) (e : ℕ) → admit s l ≡ Fenced e → (l.epoch < s.epoch) × (e ≡ s.epoch)
  admit-fenced s l e h = let n = number-fenced (s.memory l.node).reply (s.memory l.node).number l.number e in (grind arith, grind arith)
