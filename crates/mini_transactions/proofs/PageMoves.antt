-- What a page of a plan is told, past its fetch, moves its step as the law of pages says.
use Rattle.std.proofs.Common.{◌≡◌, ℕ, Bool, true, false, nat_eq, Option, Some, None, Ok, Err, refl, sym, if◌then◌else◌}
use Rattle.std.proofs.lemmas.Bool.{false≢true}
use Rattle.rm_base.specs.declared.places.Addr.{Addr}
use Rattle.page_image.specs.Image.{Image}
use Rattle.page_latches.specs.declared.latch.Latch.TheVariants.{Granted, Busy}
use Rattle.message_model.specs.declared.Got.TheVariants.{Image as Given, NotYet}
use Rattle.message_model.specs.declared.Appended.{Appended as Outcome}
use Rattle.message_network.specs.declared.calls.Reply.{Reply}
use Rattle.message_network.specs.declared.calls.Reply.TheVariants.{Registered, PoolFull, Unregistered, Started, Done, Appended, Got, Fenced}
use Rattle.node_model.specs.Call.{is_of_work}
use Rattle.node_model.specs.Step.{Step}
use Rattle.fetch_steps.specs.declared.acts.Told.{Told}
use Rattle.fetch_steps.specs.declared.acts.Told.TheVariants.{Answer, Latch as Tried, Seen as Looked, Slab, Cleaned, Installed, NoAnswer}
use Rattle.fetch_steps.specs.Fetch.{Fetch}
use Rattle.fetch_steps.specs.Telling.{call_of, settled, is_answer, after_latch}
use Rattle.mini_transactions.specs.declared.stage.Stage.{Stage}
use Rattle.mini_transactions.specs.declared.stage.Stage.TheVariants.{Making, Registering, Fetching, Writing, Quitting}
use Rattle.mini_transactions.specs.declared.page_work.PageWork.{PageWork}
use Rattle.mini_transactions.specs.Work.{step_at}
use Rattle.mini_transactions.specs.Progress.{is_fetching}
use Rattle.mini_transactions.specs.Moves.{after_slab, after_slab_down, after_cleaned, after_install, learned, begins, answered as law_answered}
use Rattle.mini_transactions.specs.Hearing.{stage_registered, stage_done, stage_granted, claim_granted, claim_refused, stage_written, stage_lost, address_lost, stage_cleaned, address_cleaned, stage_installed, claim_missed, answered, after}

yes_no : true ≡ false → ⊥
yes_no e = false≢true (sym e)

granted_moves : (st : Stage) (a : Option Addr) (c : Bool) (f : Fetch) (v : Image) → is_fetching st ≡ false → step_at (stage_granted st) a (claim_granted st c) f v false ≡ after_latch (step_at st a c f v false)
granted_moves Fetching a c f v e = absurd (yes_no e)
granted_moves Writing None c f v e = refl
granted_moves Writing (Some b) c f v e = refl
granted_moves Quitting a true f v e = refl
granted_moves Quitting a false f v e = refl
granted_moves st a c f v e = refl

refused_moves : (st : Stage) (a : Option Addr) (c : Bool) (f : Fetch) (v : Image) → is_fetching st ≡ false → step_at st a (claim_refused st c) f v false ≡ step_at st a c f v false
refused_moves Fetching a c f v e = absurd (yes_no e)
refused_moves Writing None c f v e = refl
refused_moves Writing (Some b) c f v e = refl
refused_moves Quitting a true f v e = refl
refused_moves Quitting a false f v e = refl
refused_moves st a c f v e = refl

missed_moves : (st : Stage) (a : Option Addr) (c : Bool) (f : Fetch) (v : Image) → is_fetching st ≡ false → step_at st a (claim_missed st c) f v false ≡ step_at st a c f v false
missed_moves Fetching a c f v e = absurd (yes_no e)
missed_moves Writing None c f v e = refl
missed_moves Writing (Some b) c f v e = refl
missed_moves Quitting a true f v e = refl
missed_moves Quitting a false f v e = refl
missed_moves st a c f v e = refl

written_moves : (st : Stage) (a : Option Addr) (c : Bool) (f : Fetch) (v : Image) → is_fetching st ≡ false → step_at (stage_written st a) a c f v false ≡ after_slab (step_at st a c f v false)
written_moves Fetching a c f v e = absurd (yes_no e)
written_moves Writing None c f v e = refl
written_moves Writing (Some b) c f v e = refl
written_moves Quitting a true f v e = refl
written_moves Quitting a false f v e = refl
written_moves st a c f v e = refl

lost_moves : (st : Stage) (a : Option Addr) (c : Bool) (f : Fetch) (v : Image) → is_fetching st ≡ false → step_at (stage_lost st) (address_lost st a) c f v false ≡ after_slab_down (step_at st a c f v false)
lost_moves Fetching a c f v e = absurd (yes_no e)
lost_moves Writing None c f v e = refl
lost_moves Writing (Some b) c f v e = refl
lost_moves Quitting a true f v e = refl
lost_moves Quitting a false f v e = refl
lost_moves st a c f v e = refl

cleaned_moves : (r n : ℕ) (st : Stage) (a : Option Addr) (c : Bool) (f : Fetch) (v : Image) → is_fetching st ≡ false → step_at (stage_cleaned st true) (address_cleaned st true a) c f v false ≡ after_cleaned r n true (step_at st a c f v false)
cleaned_moves r n Fetching a c f v e = absurd (yes_no e)
cleaned_moves r n Writing None c f v e = refl
cleaned_moves r n Writing (Some b) c f v e = refl
cleaned_moves r n Quitting a true f v e = refl
cleaned_moves r n Quitting a false f v e = refl
cleaned_moves r n st a c f v e = refl

uncleaned_moves : (r n : ℕ) (st : Stage) (a : Option Addr) (c : Bool) (f : Fetch) (v : Image) → is_fetching st ≡ false → step_at (stage_cleaned st false) (address_cleaned st false a) c f v false ≡ after_cleaned r n false (step_at st a c f v false)
uncleaned_moves r n Fetching a c f v e = absurd (yes_no e)
uncleaned_moves r n Writing None c f v e = refl
uncleaned_moves r n Writing (Some b) c f v e = refl
uncleaned_moves r n Quitting a true f v e = refl
uncleaned_moves r n Quitting a false f v e = refl
uncleaned_moves r n st a c f v e = refl

installed_moves : (st : Stage) (a : Option Addr) (c : Bool) (f : Fetch) (v : Image) → is_fetching st ≡ false → step_at (stage_installed st) a c f v false ≡ after_install a (step_at st a c f v false)
installed_moves Fetching a c f v e = absurd (yes_no e)
installed_moves Writing None c f v e = refl
installed_moves Writing (Some b) c f v e = refl
installed_moves Quitting a true f v e = refl
installed_moves Quitting a false f v e = refl
installed_moves st a c f v e = refl

-- an access
pub planned_access : (w : PageWork) (told : Told) (r n : ℕ) (v : Image) → is_fetching w.stage ≡ false → is_answer told ≡ false
    → step_at (after w told).stage (after w told).address (after w told).claimed (after w told).fetch v false ≡ learned r n told w.address (step_at w.stage w.address w.claimed w.fetch v false)
planned_access w (Answer reply) r n v e h = absurd (yes_no h)
planned_access w (Tried Granted) r n v e h = granted_moves w.stage w.address w.claimed w.fetch v e
planned_access w (Tried (Busy holders)) r n v e h = refused_moves w.stage w.address w.claimed w.fetch v e
planned_access w (Looked seen) r n v e h = refl
planned_access w (Slab (Ok u)) r n v e h = written_moves w.stage w.address w.claimed w.fetch v e
planned_access w (Slab (Err why)) r n v e h = lost_moves w.stage w.address w.claimed w.fetch v e
planned_access w (Cleaned true) r n v e h = cleaned_moves r n w.stage w.address w.claimed w.fetch v e
planned_access w (Cleaned false) r n v e h = uncleaned_moves r n w.stage w.address w.claimed w.fetch v e
planned_access w Installed r n v e h = installed_moves w.stage w.address w.claimed w.fetch v e
planned_access w NoAnswer r n v e h = missed_moves w.stage w.address w.claimed w.fetch v e

-- the page was registered
registers : (b c : Bool) → b ≡ true → Step.PlanLatch ≡ settled (begins (if b then Step.Idle else Step.LatchS)) c
registers true true e = refl
registers true false e = refl
registers false c e = absurd (false≢true e)

registered_moves : (r n : ℕ) (address : Addr) (bit : Bool) (floor : ℕ) (st : Stage) (a : Option Addr) (c : Bool) (f : Fetch) (v : Image) → nat_eq n r ≡ true → is_fetching st ≡ false
    → step_at (stage_registered st) (Some address) c f v false ≡ settled (law_answered r n v (call_of (Registered address bit floor)) (step_at st a c f v true)) c
registered_moves r n address bit floor Making a true f v i e = refl
registered_moves r n address bit floor Making a false f v i e = refl
registered_moves r n address bit floor Registering a c f v i e = registers (nat_eq n r) c i
registered_moves r n address bit floor Fetching a c f v i e = absurd (yes_no e)
registered_moves r n address bit floor Writing None c f v i e = refl
registered_moves r n address bit floor Writing (Some b) c f v i e = refl
registered_moves r n address bit floor Quitting a true f v i e = refl
registered_moves r n address bit floor Quitting a false f v i e = refl
registered_moves r n address bit floor st a c f v i e = refl

full_moves : (r n : ℕ) (slots : ℕ) (st : Stage) (a : Option Addr) (c : Bool) (f : Fetch) (v : Image) → is_fetching st ≡ false
    → step_at (st) a c f v false ≡ settled (law_answered r n v (call_of (PoolFull slots)) (step_at st a c f v true)) c
full_moves r n slots Fetching a c f v e = absurd (yes_no e)
full_moves r n slots Writing None c f v e = refl
full_moves r n slots Writing (Some b) c f v e = refl
full_moves r n slots Quitting a true f v e = refl
full_moves r n slots Quitting a false f v e = refl
full_moves r n slots st a c f v e = refl

unregistered_moves : (r n : ℕ) (st : Stage) (a : Option Addr) (c : Bool) (f : Fetch) (v : Image) → is_fetching st ≡ false
    → step_at (st) a c f v false ≡ settled (law_answered r n v (call_of Unregistered) (step_at st a c f v false)) c
unregistered_moves r n Fetching a c f v e = absurd (yes_no e)
unregistered_moves r n Writing None c f v e = refl
unregistered_moves r n Writing (Some b) c f v e = refl
unregistered_moves r n Quitting a true f v e = refl
unregistered_moves r n Quitting a false f v e = refl
unregistered_moves r n st a c f v e = refl

started_moves : (r n : ℕ) (due : ℕ) (st : Stage) (a : Option Addr) (c : Bool) (f : Fetch) (v : Image) → is_fetching st ≡ false
    → step_at (st) a c f v false ≡ settled (law_answered r n v (call_of (Started due)) (step_at st a c f v true)) c
started_moves r n due Fetching a c f v e = absurd (yes_no e)
started_moves r n due Writing None c f v e = refl
started_moves r n due Writing (Some b) c f v e = refl
started_moves r n due Quitting a true f v e = refl
started_moves r n due Quitting a false f v e = refl
started_moves r n due st a c f v e = refl

done_moves : (r n : ℕ) (st : Stage) (a : Option Addr) (c : Bool) (f : Fetch) (v : Image) → is_fetching st ≡ false
    → step_at (stage_done st) a c f v false ≡ settled (law_answered r n v (call_of Done) (step_at st a c f v true)) c
done_moves r n Fetching a c f v e = absurd (yes_no e)
done_moves r n Writing None c f v e = refl
done_moves r n Writing (Some b) c f v e = refl
done_moves r n Quitting a true f v e = refl
done_moves r n Quitting a false f v e = refl
done_moves r n st a c f v e = refl

appended_moves : (r n : ℕ) (outcome : Outcome) (st : Stage) (a : Option Addr) (c : Bool) (f : Fetch) (v : Image) → is_fetching st ≡ false
    → step_at (st) a c f v false ≡ settled (law_answered r n v (call_of (Appended outcome)) (step_at st a c f v false)) c
appended_moves r n outcome Fetching a c f v e = absurd (yes_no e)
appended_moves r n outcome Writing None c f v e = refl
appended_moves r n outcome Writing (Some b) c f v e = refl
appended_moves r n outcome Quitting a true f v e = refl
appended_moves r n outcome Quitting a false f v e = refl
appended_moves r n outcome st a c f v e = refl

given_moves : (r n : ℕ) (w : Image) (st : Stage) (a : Option Addr) (c : Bool) (f : Fetch) (v : Image) → is_fetching st ≡ false
    → step_at (st) a c f v false ≡ settled (law_answered r n v (call_of (Got (Given w))) (step_at st a c f v true)) c
given_moves r n w Fetching a c f v e = absurd (yes_no e)
given_moves r n w Writing None c f v e = refl
given_moves r n w Writing (Some b) c f v e = refl
given_moves r n w Quitting a true f v e = refl
given_moves r n w Quitting a false f v e = refl
given_moves r n w st a c f v e = refl

not_yet_moves : (r n : ℕ) (applied : ℕ) (st : Stage) (a : Option Addr) (c : Bool) (f : Fetch) (v : Image) → is_fetching st ≡ false
    → step_at (st) a c f v false ≡ settled (law_answered r n v (call_of (Got (NotYet applied))) (step_at st a c f v true)) c
not_yet_moves r n applied Fetching a c f v e = absurd (yes_no e)
not_yet_moves r n applied Writing None c f v e = refl
not_yet_moves r n applied Writing (Some b) c f v e = refl
not_yet_moves r n applied Quitting a true f v e = refl
not_yet_moves r n applied Quitting a false f v e = refl
not_yet_moves r n applied st a c f v e = refl

fenced_moves : (r n : ℕ) (epoch : ℕ) (st : Stage) (a : Option Addr) (c : Bool) (f : Fetch) (v : Image) → is_fetching st ≡ false
    → step_at (st) a c f v false ≡ settled (law_answered r n v (call_of (Fenced epoch)) (step_at st a c f v false)) c
fenced_moves r n epoch Fetching a c f v e = absurd (yes_no e)
fenced_moves r n epoch Writing None c f v e = refl
fenced_moves r n epoch Writing (Some b) c f v e = refl
fenced_moves r n epoch Quitting a true f v e = refl
fenced_moves r n epoch Quitting a false f v e = refl
fenced_moves r n epoch st a c f v e = refl

-- an answer
pub planned_answer : (w : PageWork) (reply : Reply) (r n : ℕ) (v : Image) → nat_eq n r ≡ true → is_fetching w.stage ≡ false
    → step_at (answered w reply).stage (answered w reply).address (answered w reply).claimed (answered w reply).fetch v false
    ≡ settled (law_answered r n v (call_of reply) (step_at w.stage w.address w.claimed w.fetch v (is_of_work (call_of reply)))) w.claimed
planned_answer w (Registered address bit floor) r n v i e = registered_moves r n address bit floor w.stage w.address w.claimed w.fetch v i e
planned_answer w (PoolFull slots) r n v i e = full_moves r n slots w.stage w.address w.claimed w.fetch v e
planned_answer w Unregistered r n v i e = unregistered_moves r n w.stage w.address w.claimed w.fetch v e
planned_answer w (Started due) r n v i e = started_moves r n due w.stage w.address w.claimed w.fetch v e
planned_answer w Done r n v i e = done_moves r n w.stage w.address w.claimed w.fetch v e
planned_answer w (Appended outcome) r n v i e = appended_moves r n outcome w.stage w.address w.claimed w.fetch v e
planned_answer w (Got (Given x)) r n v i e = given_moves r n x w.stage w.address w.claimed w.fetch v e
planned_answer w (Got (NotYet applied)) r n v i e = not_yet_moves r n applied w.stage w.address w.claimed w.fetch v e
planned_answer w (Fenced epoch) r n v i e = fenced_moves r n epoch w.stage w.address w.claimed w.fetch v e
