-- The address and the latch of a page of a plan as it is told of its act.
use Rattle.std.proofs.Common.{◌≡◌, ℕ, Bool, true, false, Option, Some, None, Ok, Err, refl, sym, ap, ◌∙◌, is_some, ◌&&◌}
use Rattle.std.specs.Option.{option_map, option_map_or}
use Rattle.std.proofs.lemmas.Bool.{false≢true}
use Rattle.rm_base.specs.declared.places.Addr.{Addr}
use Rattle.page_image.specs.Image.{Image}
use Rattle.page_latches.specs.declared.latch.Latch.TheVariants.{Granted, Busy}
use Rattle.node_model.specs.Call.{Call, Call.Quiet, is_of_work}
use Rattle.node_model.specs.Step.{Step}
use Rattle.fetch_steps.specs.declared.acts.Told.{Told}
use Rattle.fetch_steps.specs.declared.acts.Told.TheVariants.{Answer, Latch as Tried, Seen as Looked, Slab, Cleaned, Installed, NoAnswer}
use Rattle.fetch_steps.specs.Fetch.{Fetch, number_of}
use Rattle.fetch_steps.specs.Telling.{learned_address as fetch_learned_address}
use Rattle.mini_transactions.specs.declared.stage.Stage.{Stage}
use Rattle.mini_transactions.specs.declared.stage.Stage.TheVariants.{Fetching, Writing, Cleaning, Quitting}
use Rattle.mini_transactions.specs.declared.page_work.PageWork.{PageWork}
use Rattle.mini_transactions.specs.Work.{step_at, page_step, address_at, page_address, may_claim}
use Rattle.mini_transactions.specs.Telling.{address_in, is_done}
use Rattle.mini_transactions.specs.Progress.{is_fetching}
use Rattle.mini_transactions.specs.Moves.{address_lost as law_lost, address_uncleaned, address_told, learned_address, latch_granted, latch_tried, learned_latch}
use Rattle.mini_transactions.specs.Hearing.{registered_in, done_in, claim_granted, claim_refused, claim_missed, address_lost, address_cleaned, after}
use Rattle.mini_transactions.specs.Fetching.{Fetches, is_over}
use Rattle.mini_transactions.proofs.InTurn.{Heard}
use Rattle.mini_transactions.proofs.Clauses.{a_fetch, not_fetching, planned_address, planned_claim, fetch_address, fetches_now}
use Rattle.mini_transactions.proofs.Spans.{stage_answered, stage_after, after_stage}

no_fetch : true ≡ false → ⊥
no_fetch e = false≢true (sym e)

-- ---------------- a page past its fetch stays so

answered_planned : (st : Stage) (a : Option Addr) (b : Bool) → is_fetching st ≡ false → is_fetching (stage_answered st a b) ≡ false
answered_planned Fetching a b e = absurd (no_fetch e)
answered_planned st None false e = refl
answered_planned st None true e = refl
answered_planned st (Some a) false e = refl
answered_planned st (Some a) true e = refl

stays_planned : (st : Stage) (a : Option Addr) (told : Told) → is_fetching st ≡ false → is_fetching (stage_after st a told) ≡ false
stays_planned st a (Answer reply) e = answered_planned st (address_in reply) (is_done reply) e
stays_planned Fetching a told e = absurd (no_fetch e)
stays_planned Writing None (Slab (Ok u)) e = refl
stays_planned Writing (Some b) (Slab (Ok u)) e = refl
stays_planned Cleaning a (Cleaned true) e = refl
stays_planned Cleaning a (Cleaned false) e = refl
stays_planned st a (Tried Granted) e = refl
stays_planned st a (Tried (Busy holders)) e = refl
stays_planned st a (Looked seen) e = refl
stays_planned st a (Slab (Ok u)) e = refl
stays_planned st a (Slab (Err why)) e = refl
stays_planned st a (Cleaned there) e = refl
stays_planned st a Installed e = refl
stays_planned st a NoAnswer e = refl

-- ---------------- the address

answer_address : (w : PageWork) (a : Option Addr) (b : Bool) → (done_in (registered_in w a) b).address ≡ address_told a w.address
answer_address w None false = refl
answer_address w None true = refl
answer_address w (Some a) false = refl
answer_address w (Some a) true = refl

lost_address : (st : Stage) (a : Option Addr) (c : Bool) (f : Fetch) (v : Image) → is_fetching st ≡ false → address_lost st a ≡ law_lost (step_at st a c f v false) a
lost_address Fetching a c f v e = absurd (no_fetch e)
lost_address Writing None c f v e = refl
lost_address Writing (Some b) c f v e = refl
lost_address Quitting a true f v e = refl
lost_address Quitting a false f v e = refl
lost_address st a c f v e = refl

cleaned_address : (st : Stage) (a : Option Addr) (c : Bool) (f : Fetch) (v : Image) → is_fetching st ≡ false → address_cleaned st true a ≡ a
cleaned_address Fetching a c f v e = absurd (no_fetch e)
cleaned_address Writing None c f v e = refl
cleaned_address Writing (Some b) c f v e = refl
cleaned_address Quitting a true f v e = refl
cleaned_address Quitting a false f v e = refl
cleaned_address st a c f v e = refl

uncleaned_address : (st : Stage) (a : Option Addr) (c : Bool) (f : Fetch) (v : Image) → is_fetching st ≡ false → address_cleaned st false a ≡ address_uncleaned (step_at st a c f v false) a
uncleaned_address Fetching a c f v e = absurd (no_fetch e)
uncleaned_address Writing None c f v e = refl
uncleaned_address Writing (Some b) c f v e = refl
uncleaned_address Quitting a true f v e = refl
uncleaned_address Quitting a false f v e = refl
uncleaned_address st a c f v e = refl

kept_address : (w : PageWork) (told : Told) (v : Image) → is_fetching w.stage ≡ false → (after w told).address ≡ learned_address told (step_at w.stage w.address w.claimed w.fetch v false) w.address
kept_address w (Answer reply) v e = answer_address w (address_in reply) (is_done reply)
kept_address w (Tried Granted) v e = refl
kept_address w (Tried (Busy holders)) v e = refl
kept_address w (Looked seen) v e = refl
kept_address w (Slab (Ok u)) v e = refl
kept_address w (Slab (Err why)) v e = lost_address w.stage w.address w.claimed w.fetch v e
kept_address w (Cleaned true) v e = cleaned_address w.stage w.address w.claimed w.fetch v e
kept_address w (Cleaned false) v e = uncleaned_address w.stage w.address w.claimed w.fetch v e
kept_address w Installed v e = refl
kept_address w NoAnswer v e = refl

pub address : (told : Told) (p : ℕ) (v : Image) (o now : Option PageWork) → Heard told p o now → option_map_or (λ w. is_fetching w.stage) o false ≡ false
    → option_map_or page_address now None ≡ learned_address told (option_map_or (λ w. page_step w v Quiet) o Step.Idle) (option_map_or page_address o None)
address told p v None None h f = absurd h
address told p v None (Some y) h f = absurd h
address told p v (Some x) None h f = absurd h
address told p v (Some x) (Some y) h f =
    let is : y ≡ after x told = h.0.planned (not_fetching x.stage f) in
    let past : is_fetching (after x told).stage ≡ false = ap is_fetching (after_stage x told) ∙ stays_planned x.stage x.address told f in
    let here : page_address (after x told) ≡ (after x told).address = planned_address (after x told).stage (after x told) past in
    ap page_address is ∙ here ∙ kept_address x told v f ∙ ap (λ a. learned_address told (page_step x v Quiet) a) (sym (planned_address x.stage x f))

-- ---------------- the latch

answer_latch : (w : PageWork) (a : Option Addr) (b : Bool) → (done_in (registered_in w a) b).claimed ≡ w.claimed
answer_latch w None false = refl
answer_latch w None true = refl
answer_latch w (Some a) false = refl
answer_latch w (Some a) true = refl

granted_latch : (st : Stage) (a : Option Addr) (c : Bool) (f : Fetch) (v : Image) → is_fetching st ≡ false → claim_granted st c ≡ latch_granted (step_at st a c f v false) c
granted_latch Fetching a c f v e = absurd (no_fetch e)
granted_latch Writing None c f v e = refl
granted_latch Writing (Some b) c f v e = refl
granted_latch Quitting a true f v e = refl
granted_latch Quitting a false f v e = refl
granted_latch st a c f v e = refl

refused_latch : (st : Stage) (a : Option Addr) (c : Bool) (f : Fetch) (v : Image) → is_fetching st ≡ false → claim_refused st c ≡ latch_tried false (step_at st a c f v false) c
refused_latch Fetching a c f v e = absurd (no_fetch e)
refused_latch Writing None c f v e = refl
refused_latch Writing (Some b) c f v e = refl
refused_latch Quitting a true f v e = refl
refused_latch Quitting a false f v e = refl
refused_latch st a c f v e = refl

missed_latch : (st : Stage) (a : Option Addr) (c : Bool) (f : Fetch) (v : Image) → is_fetching st ≡ false → claim_missed st c ≡ latch_tried true (step_at st a c f v false) c
missed_latch Fetching a c f v e = absurd (no_fetch e)
missed_latch Writing None c f v e = refl
missed_latch Writing (Some b) c f v e = refl
missed_latch Quitting a true f v e = refl
missed_latch Quitting a false f v e = refl
missed_latch st a c f v e = refl

kept_latch : (w : PageWork) (told : Told) (v : Image) → is_fetching w.stage ≡ false → (after w told).claimed ≡ learned_latch told (step_at w.stage w.address w.claimed w.fetch v false) w.claimed
kept_latch w (Answer reply) v e = answer_latch w (address_in reply) (is_done reply)
kept_latch w (Tried Granted) v e = granted_latch w.stage w.address w.claimed w.fetch v e
kept_latch w (Tried (Busy holders)) v e = refused_latch w.stage w.address w.claimed w.fetch v e
kept_latch w (Looked seen) v e = refl
kept_latch w (Slab (Ok u)) v e = refl
kept_latch w (Slab (Err why)) v e = refl
kept_latch w (Cleaned true) v e = refl
kept_latch w (Cleaned false) v e = refl
kept_latch w Installed v e = refl
kept_latch w NoAnswer v e = missed_latch w.stage w.address w.claimed w.fetch v e

pub latch : (told : Told) (p : ℕ) (v : Image) (o now : Option PageWork) → Heard told p o now → option_map_or (λ w. is_fetching w.stage) o false ≡ false
    → option_map_or may_claim now false ≡ learned_latch told (option_map_or (λ w. page_step w v Quiet) o Step.Idle) (option_map_or may_claim o false)
latch told p v None None h f = absurd h
latch told p v None (Some y) h f = absurd h
latch told p v (Some x) None h f = absurd h
latch told p v (Some x) (Some y) h f =
    let is : y ≡ after x told = h.0.planned (not_fetching x.stage f) in
    let past : is_fetching (after x told).stage ≡ false = ap is_fetching (after_stage x told) ∙ stays_planned x.stage x.address told f in
    let here : may_claim (after x told) ≡ (after x told).claimed = planned_claim (after x told).stage (after x told) past in
    ap may_claim is ∙ here ∙ kept_latch x told v f ∙ ap (λ c. learned_latch told (page_step x v Quiet) c) (sym (planned_claim x.stage x f))

-- ---------------- the address of a page that is fetched

pub address_of_fetch : (told : Told) (p : ℕ) (v : Image) (call : Call) (o now : Option PageWork) → Heard told p o now → option_map_or (λ w. is_fetching w.stage) o false ≡ true → is_of_work call ≡ false
    → option_map number_of (option_map_or page_address now None) ≡ fetch_learned_address told (option_map_or (λ w. page_step w v call) o Step.Idle) (option_map number_of (option_map_or page_address o None))
address_of_fetch told p v call None None h f c = absurd h
address_of_fetch told p v call None (Some y) h f c = absurd h
address_of_fetch told p v call (Some x) None h f c = absurd h
address_of_fetch told p v call (Some x) (Some y) h f c =
    let is : x.stage ≡ Fetching = a_fetch x.stage f in
    let F : Fetches x told y = h.0.fetched is in
    let now : page_address y ≡ y.fetch.address = fetch_address (is_over F.next && is_some y.fetch.address) y x.address F.stage F.address in
    let was : page_address x ≡ x.fetch.address = ap (λ st. address_at st x) is in
    let step = fetches_now x v (is_of_work call) is in
    ap (λ a. option_map number_of a) now ∙ F.fetch.address v call c ∙ ap (λ s. fetch_learned_address told s (option_map number_of x.fetch.address)) (sym step)
    ∙ ap (λ a. fetch_learned_address told (page_step x v call) (option_map number_of a)) (sym was)
