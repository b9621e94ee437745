-- Stated: a work that asks for two numbers, the second by the first, and tells their sum.
use Rattle.std.specs.Prelude.{◌≡◌, ◌+◌, ℕ, [], ◌∷◌, Some, None, ⊤}
use Rattle.question_tree.specs.Questions.{Ask, tells, asks, stops, wanted, told, after, then_on, Gives, Leads, left}

abbrev pub Numbers : Type 0
Numbers = Ask ℕ ℕ ℕ

abbrev pub second : ℕ → Numbers
second x = asks x (λ y. tells (x + y))

abbrev pub sum_of_two : Numbers
sum_of_two = then_on (asks 7 (λ x. tells x)) second

-- each number is fit
abbrev pub Any : ℕ → ℕ → Type 0
Any q x = ⊤

-- its questions, its answer, and what is left in between
pub record ExampleAsks : Type 0 where
  pub first : wanted sum_of_two ≡ Some 7
  pub next : wanted (after sum_of_two 3) ≡ Some 3
  pub last : told (after (after sum_of_two 3) 4) ≡ Some 7
  pub none : told (after (then_on (asks 7 (λ x. stops)) second) 3) ≡ None
  pub gives : Gives Any sum_of_two (3 ∷ 4 ∷ []) 7
  pub two : left (λ q. q + 1) sum_of_two ≡ 2
  pub leads : Leads Any sum_of_two (3 ∷ []) (second 3)
