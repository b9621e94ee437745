-- Stated: what many numbered things hold, as a function of the number.
use Rattle.std.specs.Prelude.{ℕ, Bool, false, if◌then◌else◌, nat_eq}

-- the same but at n, where v is
abbrev pub put : {A : Type 0} → (ℕ → A) → ℕ → A → ℕ → A
put f n v = λ m. if nat_eq m n then v else f m

-- the empty set of numbers
abbrev pub nobody : ℕ → Bool
nobody m = false
