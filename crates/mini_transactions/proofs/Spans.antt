-- The stage of a page of a plan after what is told.
use Rattle.std.proofs.Common.{◌≡◌, Bool, true, false, Option, Some, None, Ok, Err, refl}
use Rattle.rm_base.specs.declared.places.Addr.{Addr}
use Rattle.page_latches.specs.declared.latch.Latch.TheVariants.{Granted, Busy}
use Rattle.fetch_steps.specs.declared.acts.Told.{Told}
use Rattle.fetch_steps.specs.declared.acts.Told.TheVariants.{Answer, Latch as Tried, Seen as Looked, Slab, Cleaned, Installed, NoAnswer}
use Rattle.mini_transactions.specs.declared.stage.Stage.{Stage}
use Rattle.mini_transactions.specs.declared.page_work.PageWork.{PageWork}
use Rattle.mini_transactions.specs.Telling.{address_in, is_done}
use Rattle.mini_transactions.specs.Hearing.{stage_registered, stage_done, stage_granted, stage_written, stage_lost, stage_cleaned, stage_installed, registered_in, done_in, after}

-- the stage after what is told, of a page past its fetch
abbrev pub stage_answered : Stage → Option Addr → Bool → Stage
stage_answered st None false = st
stage_answered st None true = stage_done st
stage_answered st (Some a) false = stage_registered st
stage_answered st (Some a) true = stage_done (stage_registered st)

abbrev pub stage_after : Stage → Option Addr → Told → Stage
stage_after st a (Answer reply) = stage_answered st (address_in reply) (is_done reply)
stage_after st a (Tried Granted) = stage_granted st
stage_after st a (Tried (Busy holders)) = st
stage_after st a (Looked seen) = st
stage_after st a (Slab (Ok u)) = stage_written st a
stage_after st a (Slab (Err why)) = stage_lost st
stage_after st a (Cleaned there) = stage_cleaned st there
stage_after st a Installed = stage_installed st
stage_after st a NoAnswer = st

answer_stage : (w : PageWork) (a : Option Addr) (b : Bool) → (done_in (registered_in w a) b).stage ≡ stage_answered w.stage a b
answer_stage w None false = refl
answer_stage w None true = refl
answer_stage w (Some a) false = refl
answer_stage w (Some a) true = refl

pub after_stage : (w : PageWork) (told : Told) → (after w told).stage ≡ stage_after w.stage w.address told
after_stage w (Answer reply) = answer_stage w (address_in reply) (is_done reply)
after_stage w (Tried Granted) = refl
after_stage w (Tried (Busy holders)) = refl
after_stage w (Looked seen) = refl
after_stage w (Slab (Ok u)) = refl
after_stage w (Slab (Err why)) = refl
after_stage w (Cleaned there) = refl
after_stage w Installed = refl
after_stage w NoAnswer = refl
