-- The laws over numbers.
use Rattle.std.proofs.Common.{◌≡◌, ℕ, true, refl}
use Rattle.question_tree.specs.Example.{ExampleAsks}
use Rattle.question_tree.specs.Laws.{Splits, Joins, CollectSplits, GoesOn, Ends, Falls, StepsOn, LiftSteps, LiftSplits}
use Rattle.question_tree.proofs.QuestionLaws.{split, join, collected, one_more, all_given, fall, step_on, lift_step, lift_parts}

pub splits : Splits ℕ ℕ ℕ ℕ
splits fit m f xs b h = split (λ q x. fit q x ≡ true) m f xs b h

pub joins : Joins ℕ ℕ ℕ ℕ
joins fit m f ys zs a b g h = join (λ q x. fit q x ≡ true) m f ys zs a b g h

pub collect_splits : CollectSplits ℕ ℕ ℕ ℕ ℕ
collect_splits fit f k seen xs us b h = collected (λ q x. fit q x ≡ true) f k seen xs us b h

pub goes_on : GoesOn ℕ ℕ ℕ
goes_on fit m n xs q x h w e = one_more (λ p y. fit p y ≡ true) m n xs q x h w e

pub ends : Ends ℕ ℕ ℕ
ends fit m xs a h = all_given (λ p y. fit p y ≡ true) m xs a h

pub falls : Falls ℕ ℕ ℕ
falls now m q w = fall now m q w

pub steps_on : StepsOn ℕ ℕ ℕ ℕ
steps_on m f q x w = step_on m f q x w

pub lift_steps : LiftSteps ℕ ℕ ℕ ℕ ℕ ℕ
unfolding LiftSteps
lift_steps f g m k q x e = lift_step f g m k q x e

pub lift_splits : LiftSplits ℕ ℕ ℕ ℕ ℕ ℕ
unfolding LiftSplits
lift_splits f g fit fits h m k xs b d = lift_parts f g (λ q x. fit q x ≡ true) (λ r x. fits r x ≡ true) h m k xs b d

pub example : ExampleAsks
example = record {
  first = refl;
  next = refl;
  last = refl;
  none = refl;
  gives = (tt, (tt, refl));
  two = refl;
  leads = (tt, refl);
}
