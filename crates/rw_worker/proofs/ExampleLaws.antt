-- The example.
use Rattle.std.proofs.Common.{refl}
use Rattle.question_tree.specs.Questions.{lift}
use Rattle.rw_worker.specs.Example.{ExampleEdits}

pub example : ExampleEdits
unfolding lift
example = record {
  nothing = refl;
  meta = refl;
  slots = refl;
  number = refl;
  full = refl;
  next = refl;
  space = refl;
  lasts = refl;
  commits = refl;
  appends = refl;
  reply = refl;
  looks = refl;
  again = refl;
  rests = refl;
}
