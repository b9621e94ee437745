-- Stated: what a list is after its lent item was written.
use Rattle.std.specs.Prelude.{ℕ, List, Option, slice_set}
use Rattle.std.specs.Borrow.{RattleType, LendsIf, MutBor, Fml}
use Rattle.rm_base.specs.contracts.items.Items.{the_row}
use Rattle.rm_base.specs.contracts.few.Few.{the_row as few_row}

-- the list ends with its item at i set to the last value behind r, and as it was where there is none
abbrev pub LendsItem : (T : RattleType) → MutBor (List T.Denot) → ℕ → Option (MutBor T.Denot) → Fml
LendsItem T s i r = LendsIf (the_row T) T s r (λ w. slice_set s.now i w) s.now

-- the same of a short list
abbrev pub LendsFewItem : (T N : RattleType) → MutBor (List T.Denot) → ℕ → Option (MutBor T.Denot) → Fml
LendsFewItem T N s i r = LendsIf (few_row T N) T s r (λ w. slice_set s.now i w) s.now
