-- What an answer does where its fetch or plan was given up.
use Rattle.std.proofs.Common.{◌≡◌, ◌<◌, ℕ, true, false, Option, arith, sym, subst, refl}
use Rattle.page_image.specs.Image.{Image}
use Rattle.node_model.specs.Slots.{address_number}
use Rattle.node_model.specs.Step.{Step, Step.ReleaseEnd, Step.GivenUp, Step.PlanWrite, Step.PlanClean, Step.PlanRegister, is_changed, may_give_up}
use Rattle.node_model.specs.Call.{Call, Call.Quiet, Call.AskRegister, Call.ToldRegistered, Call.ToldFull, Call.AskUnregister, Call.ToldUnregistered, Call.AskGet, Call.ToldImage, Call.ToldNotYet, Call.AskInvalidate, Call.ToldDone, Call.ToldStarted}
use Rattle.node_model.specs.Node.{Node}
use Rattle.node_model.specs.Learning.{answered, answer_step}

by_call : (r n : ℕ) (c : Option Image) (call : Call) → answer_step r n c call GivenUp ≡ ReleaseEnd
by_call r n c Quiet = refl
by_call r n c AskRegister = refl
by_call r n c (ToldRegistered a) = refl
by_call r n c ToldFull = refl
by_call r n c AskUnregister = refl
by_call r n c ToldUnregistered = refl
by_call r n c (AskGet f) = refl
by_call r n c (ToldImage v) = refl
by_call r n c ToldNotYet = refl
by_call r n c AskInvalidate = refl
by_call r n c ToldDone = refl
by_call r n c ToldStarted = refl

pub goes_on : (r n : ℕ) (N : Node) → N.step ≡ GivenUp → (answered r n N).step ≡ ReleaseEnd
goes_on r n N e = subst (λ st. answer_step r n N.copy N.call st ≡ ReleaseEnd) (sym e) (by_call r n N.copy N.call)

pub one_address : (a b i j s t : ℕ) → a < 32 → b < 32 → s < 65536 → t < 65536 → address_number a i s ≡ address_number b j t → (a ≡ b) × (i ≡ j) × (s ≡ t)
one_address a b i j s t la lb ls lt e = (omega arith, omega arith, omega arith)

pub changed_stays : (step : Step) → is_changed step ≡ true → may_give_up step ≡ false
changed_stays PlanWrite e = refl
changed_stays PlanClean e = refl
changed_stays PlanRegister e = refl
changed_stays _ e = absurd cc
