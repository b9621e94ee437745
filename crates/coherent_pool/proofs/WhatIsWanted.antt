-- What a fetch asks for, by its act, its place, and its step in the law of pages.
use Rattle.std.proofs.Common.{◌≡◌, ◌||◌, if◌then◌else◌, ℕ, Bool, true, false, Option, Some, None, IsSome, is_some, refl, ◌∙◌, ap}
use Rattle.rm_base.specs.declared.places.Addr.{Addr}
use Rattle.page_image.specs.Image.{Image}
use Rattle.node_model.specs.Step.{Step, wants_s, wants_x, wants_release}
use Rattle.node_model.specs.Call.{Call, is_of_work}
use Rattle.fetch_steps.specs.Fetch.{Fetch, step_at, step_of, HasImage, IsPlaced, needs_address}
use Rattle.fetch_steps.specs.Acts.{act_of}
use Rattle.fetch_steps.specs.declared.place.Place.{Place}
use Rattle.fetch_steps.specs.declared.place.Place.TheVariants.{Register, LatchS, Look, Read, ReleaseS, LatchX, LookAgain, BackToS, LookBack, Get, Write, Clean, LastS, Held, ReleaseDown, ReleaseEnd, Done, RwLook, RwRead, RwBack, RwLookBack, RwEnd}
use Rattle.fetch_steps.specs.declared.acts.Action.{Action}
use Rattle.coherent_pool.specs.declared.works.FetchWork.{FetchWork}
use Rattle.coherent_pool.specs.declared.works.Stage.{Stage}
use Rattle.coherent_pool.specs.declared.works.Stage.TheVariants.{Fetching, Held as AtHeld, Releasing, Over, Latching, Invalidating, Installing, Writing, Cleaning, Entering, Freeing}
use Rattle.coherent_pool.specs.declared.wanting.Wants.{Wants}
use Rattle.coherent_pool.specs.Standing.{kind_of, wants_at, wants_in, wants_staged, same_wants, takes_at}
use Rattle.coherent_pool.specs.Wanting.{wants_of}
use Rattle.coherent_pool.specs.Hearing.{looks, reads_slot, writes_slot, cleans_slot, takes_register, takes_image, takes_answer}
use Rattle.coherent_pool.specs.Planning.{takes_done, done_call}
use Rattle.coherent_pool.specs.Node.{step_in, step_at as stage_step, image_of}
use Rattle.local_cache.specs.declared.cache.Cached.{Cached}
use Rattle.coherent_pool.specs.Keeping.{suits, StageAgrees, WorkAgrees}
use Rattle.coherent_pool.proofs.Moves.{never}
use Rattle.coherent_pool.proofs.Places.{some_image, has_image}

kind_at : (place : Place) (page lsn : ℕ) (address : Option Addr) (v : Image) → (needs_address place ≡ true → IsSome address) → kind_of (act_of page address (step_at place lsn v false)) ≡ wants_at place
kind_at Read page lsn None v h = absurd (let e : is_some (let o : Option Addr = None in o) ≡ true = h refl in cc)
kind_at Read page lsn (Some a) v h = refl
kind_at Write page lsn None v h = absurd (let e : is_some (let o : Option Addr = None in o) ≡ true = h refl in cc)
kind_at Write page lsn (Some a) v h = refl
kind_at RwRead page lsn None v h = absurd (let e : is_some (let o : Option Addr = None in o) ≡ true = h refl in cc)
kind_at RwRead page lsn (Some a) v h = refl
kind_at _ page lsn a v h = refl

pub kind_by : (f : Fetch) (act : Action) → ((v : Image) → HasImage f v → act ≡ act_of f.page f.address (step_of f v Call.Quiet)) → IsPlaced f.place f.address → kind_of act ≡ wants_at f.place
kind_by f act h placed = ap kind_of (h (some_image f.lsn) (has_image f.place f.lsn)) ∙ kind_at f.place f.page f.lsn f.address (some_image f.lsn) placed

wants_step : (place : Place) (lsn : ℕ) (v : Image) → wants_of (step_at place lsn v false) ≡ wants_at place
wants_step Register lsn v = refl
wants_step LatchS lsn v = refl
wants_step Look lsn v = refl
wants_step Read lsn v = refl
wants_step ReleaseS lsn v = refl
wants_step LatchX lsn v = refl
wants_step LookAgain lsn v = refl
wants_step BackToS lsn v = refl
wants_step LookBack lsn v = refl
wants_step Get lsn v = refl
wants_step Write lsn v = refl
wants_step Clean lsn v = refl
wants_step LastS lsn v = refl
wants_step Held lsn v = refl
wants_step ReleaseDown lsn v = refl
wants_step ReleaseEnd lsn v = refl
wants_step Done lsn v = refl
wants_step RwLook lsn v = refl
wants_step RwRead lsn v = refl
wants_step RwBack lsn v = refl
wants_step RwLookBack lsn v = refl
wants_step RwEnd lsn v = refl

wants_stage : (stage : Stage) (f : Fetch) (v : Image) → wants_of (stage_step stage f v false) ≡ wants_staged stage f.place
wants_stage Fetching f v = wants_step f.place f.lsn v
wants_stage AtHeld f v = refl
wants_stage Releasing f v = refl
wants_stage Over f v = refl
wants_stage Latching f v = refl
wants_stage Invalidating f v = refl
wants_stage Installing f v = refl
wants_stage Writing f v = refl
wants_stage Cleaning f v = refl
wants_stage Entering f v = refl
wants_stage Freeing f v = refl

pub wants_work : (w : FetchWork) → wants_of (step_in (Some w) Call.Quiet) ≡ wants_in w
wants_work w = wants_stage w.stage w.step (image_of w)

-- what a step wants, as the law has it
pub shares : (step : Step) → wants_of step ≡ Wants.Share → wants_s step ≡ true
shares Step.LatchS h = refl
shares Step.BackToS h = refl
shares (Step.LastS v) h = refl
shares _ h = absurd (cc)

pub excludes : (step : Step) → wants_of step ≡ Wants.Exclude → wants_x step ≡ true
excludes Step.LatchX h = refl
excludes Step.PlanLatch h = refl
excludes _ h = absurd (cc)

pub releases : (step : Step) → wants_of step ≡ Wants.Release → wants_release step ≡ true
releases Step.ReleaseS h = refl
releases Step.ReleaseDown h = refl
releases Step.ReleaseEnd h = refl
releases Step.RwBack h = refl
releases (Step.RwEnd v) h = refl
releases Step.PlanRelease h = refl
releases _ h = absurd (cc)

pub looking : (step : Step) → wants_of step ≡ Wants.Look → looks step ≡ true
looking Step.Look h = refl
looking Step.LookAgain h = refl
looking Step.RwLook h = refl
looking _ h = absurd (cc)

pub reading : (step : Step) → wants_of step ≡ Wants.Read → reads_slot step ≡ true
reading Step.Read h = refl
reading Step.RwRead h = refl
reading _ h = absurd (cc)

pub writing : (step : Step) → wants_of step ≡ Wants.Write → writes_slot step ≡ true
writing (Step.Write v) h = refl
writing _ h = absurd (cc)

pub cleaning : (step : Step) → wants_of step ≡ Wants.Clean → cleans_slot step ≡ true
cleaning (Step.Clean v) h = refl
cleaning _ h = absurd (cc)

pub installing : (step : Step) → wants_of step ≡ Wants.Install → step ≡ Step.PlanInstall
installing Step.PlanInstall h = refl
installing _ h = absurd (cc)

pub writing_copy : (step : Step) → wants_of step ≡ Wants.WriteCopy → step ≡ Step.PlanWrite
writing_copy Step.PlanWrite h = refl
writing_copy _ h = absurd (cc)

pub cleaning_copy : (step : Step) → wants_of step ≡ Wants.CleanCopy → step ≡ Step.PlanClean
cleaning_copy Step.PlanClean h = refl
cleaning_copy _ h = absurd (cc)

pub entering : (step : Step) → wants_of step ≡ Wants.RegisterAgain → step ≡ Step.PlanRegister
entering Step.PlanRegister h = refl
entering _ h = absurd (cc)

register_place : (place : Place) (lsn : ℕ) (v : Image) (writer : Bool) → suits writer place ≡ true → takes_register (step_at place lsn v true) ≡ same_wants (wants_at place) Wants.Register
register_place Register lsn v writer h = refl
register_place LatchS lsn v writer h = refl
register_place Look lsn v writer h = refl
register_place Read lsn v writer h = refl
register_place ReleaseS lsn v writer h = refl
register_place LatchX lsn v writer h = refl
register_place LookAgain lsn v writer h = refl
register_place BackToS lsn v writer h = refl
register_place LookBack lsn v writer h = refl
register_place Get lsn v writer h = refl
register_place Write lsn v writer h = refl
register_place Clean lsn v writer h = refl
register_place LastS lsn v writer h = refl
register_place Held lsn v writer h = refl
register_place ReleaseDown lsn v writer h = refl
register_place ReleaseEnd lsn v writer h = absurd (never h)
register_place Done lsn v writer h = absurd (never h)
register_place RwLook lsn v writer h = refl
register_place RwRead lsn v writer h = refl
register_place RwBack lsn v writer h = refl
register_place RwLookBack lsn v writer h = refl
register_place RwEnd lsn v writer h = refl

image_place : (place : Place) (lsn : ℕ) (v : Image) (writer : Bool) → suits writer place ≡ true → takes_image (step_at place lsn v true) ≡ same_wants (wants_at place) Wants.Get
image_place Register lsn v writer h = refl
image_place LatchS lsn v writer h = refl
image_place Look lsn v writer h = refl
image_place Read lsn v writer h = refl
image_place ReleaseS lsn v writer h = refl
image_place LatchX lsn v writer h = refl
image_place LookAgain lsn v writer h = refl
image_place BackToS lsn v writer h = refl
image_place LookBack lsn v writer h = refl
image_place Get lsn v writer h = refl
image_place Write lsn v writer h = refl
image_place Clean lsn v writer h = refl
image_place LastS lsn v writer h = refl
image_place Held lsn v writer h = refl
image_place ReleaseDown lsn v writer h = refl
image_place ReleaseEnd lsn v writer h = absurd (never h)
image_place Done lsn v writer h = absurd (never h)
image_place RwLook lsn v writer h = refl
image_place RwRead lsn v writer h = refl
image_place RwBack lsn v writer h = refl
image_place RwLookBack lsn v writer h = refl
image_place RwEnd lsn v writer h = refl

answer_place : (place : Place) (lsn : ℕ) (v : Image) (writer : Bool) → suits writer place ≡ true → takes_answer (step_at place lsn v true) ≡ (same_wants (wants_at place) Wants.Register || same_wants (wants_at place) Wants.Get)
answer_place Register lsn v writer h = refl
answer_place LatchS lsn v writer h = refl
answer_place Look lsn v writer h = refl
answer_place Read lsn v writer h = refl
answer_place ReleaseS lsn v writer h = refl
answer_place LatchX lsn v writer h = refl
answer_place LookAgain lsn v writer h = refl
answer_place BackToS lsn v writer h = refl
answer_place LookBack lsn v writer h = refl
answer_place Get lsn v writer h = refl
answer_place Write lsn v writer h = refl
answer_place Clean lsn v writer h = refl
answer_place LastS lsn v writer h = refl
answer_place Held lsn v writer h = refl
answer_place ReleaseDown lsn v writer h = refl
answer_place ReleaseEnd lsn v writer h = absurd (never h)
answer_place Done lsn v writer h = absurd (never h)
answer_place RwLook lsn v writer h = refl
answer_place RwRead lsn v writer h = refl
answer_place RwBack lsn v writer h = refl
answer_place RwLookBack lsn v writer h = refl
answer_place RwEnd lsn v writer h = refl

pub register_work : (call : Call) (writer : Bool) (copy : Option Cached) (bit : Bool) (w : FetchWork) → is_of_work call ≡ true → WorkAgrees writer copy bit (Some w) → takes_register (step_in (Some w) call) ≡ takes_at w.stage w.step.place Wants.Register
register_work call writer copy bit w q h = by w.stage h.1
  where
    by : (s : Stage) → StageAgrees s copy bit w.step w.image → takes_register (stage_step s w.step (image_of w) (is_of_work call)) ≡ takes_at s w.step.place Wants.Register
    by Fetching g = ap (λ (b : Bool). takes_register (step_at w.step.place w.step.lsn (image_of w) b)) q ∙ register_place w.step.place w.step.lsn (image_of w) w.step.writer g.2
    by AtHeld g = refl
    by Releasing g = ap (λ (b : Bool). takes_register (if b then Step.GivenUp else Step.ReleaseEnd)) q
    by Over g = ap (λ (b : Bool). takes_register (if b then Step.GivenUp else Step.Idle)) q
    by Latching g = refl
    by Invalidating g = refl
    by Installing g = refl
    by Writing g = refl
    by Cleaning g = refl
    by Entering g = refl
    by Freeing g = refl

pub image_work : (call : Call) (writer : Bool) (copy : Option Cached) (bit : Bool) (w : FetchWork) → is_of_work call ≡ true → WorkAgrees writer copy bit (Some w) → takes_image (step_in (Some w) call) ≡ takes_at w.stage w.step.place Wants.Get
image_work call writer copy bit w q h = by w.stage h.1
  where
    by : (s : Stage) → StageAgrees s copy bit w.step w.image → takes_image (stage_step s w.step (image_of w) (is_of_work call)) ≡ takes_at s w.step.place Wants.Get
    by Fetching g = ap (λ (b : Bool). takes_image (step_at w.step.place w.step.lsn (image_of w) b)) q ∙ image_place w.step.place w.step.lsn (image_of w) w.step.writer g.2
    by AtHeld g = refl
    by Releasing g = ap (λ (b : Bool). takes_image (if b then Step.GivenUp else Step.ReleaseEnd)) q
    by Over g = ap (λ (b : Bool). takes_image (if b then Step.GivenUp else Step.Idle)) q
    by Latching g = refl
    by Invalidating g = refl
    by Installing g = refl
    by Writing g = refl
    by Cleaning g = refl
    by Entering g = refl
    by Freeing g = refl

pub answer_work : (call : Call) (writer : Bool) (copy : Option Cached) (bit : Bool) (w : FetchWork) → is_of_work call ≡ true → WorkAgrees writer copy bit (Some w) → takes_answer (step_in (Some w) call) ≡ (takes_at w.stage w.step.place Wants.Register || takes_at w.stage w.step.place Wants.Get)
answer_work call writer copy bit w q h = by w.stage h.1
  where
    by : (s : Stage) → StageAgrees s copy bit w.step w.image → takes_answer (stage_step s w.step (image_of w) (is_of_work call)) ≡ (takes_at s w.step.place Wants.Register || takes_at s w.step.place Wants.Get)
    by Fetching g = ap (λ (b : Bool). takes_answer (step_at w.step.place w.step.lsn (image_of w) b)) q ∙ answer_place w.step.place w.step.lsn (image_of w) w.step.writer g.2
    by AtHeld g = refl
    by Releasing g = ap (λ (b : Bool). takes_answer (if b then Step.GivenUp else Step.ReleaseEnd)) q
    by Over g = ap (λ (b : Bool). takes_answer (if b then Step.GivenUp else Step.Idle)) q
    by Latching g = refl
    by Invalidating g = refl
    by Installing g = refl
    by Writing g = refl
    by Cleaning g = refl
    by Entering g = refl
    by Freeing g = refl

done_place : (place : Place) (lsn : ℕ) (v : Image) (writer : Bool) → suits writer place ≡ true → takes_done (step_at place lsn v true) ≡ same_wants (wants_at place) Wants.Invalidate
done_place Register lsn v writer h = refl
done_place LatchS lsn v writer h = refl
done_place Look lsn v writer h = refl
done_place Read lsn v writer h = refl
done_place ReleaseS lsn v writer h = refl
done_place LatchX lsn v writer h = refl
done_place LookAgain lsn v writer h = refl
done_place BackToS lsn v writer h = refl
done_place LookBack lsn v writer h = refl
done_place Get lsn v writer h = refl
done_place Write lsn v writer h = refl
done_place Clean lsn v writer h = refl
done_place LastS lsn v writer h = refl
done_place Held lsn v writer h = refl
done_place ReleaseDown lsn v writer h = refl
done_place ReleaseEnd lsn v writer h = absurd (never h)
done_place Done lsn v writer h = absurd (never h)
done_place RwLook lsn v writer h = refl
done_place RwRead lsn v writer h = refl
done_place RwBack lsn v writer h = refl
done_place RwLookBack lsn v writer h = refl
done_place RwEnd lsn v writer h = refl

pub done_work : (call : Call) (writer : Bool) (copy : Option Cached) (bit : Bool) (w : FetchWork) → is_of_work call ≡ true → WorkAgrees writer copy bit (Some w) → takes_done (step_in (Some w) call) ≡ takes_at w.stage w.step.place Wants.Invalidate
done_work call writer copy bit w q h = by w.stage h.1
  where
    by : (s : Stage) → StageAgrees s copy bit w.step w.image → takes_done (stage_step s w.step (image_of w) (is_of_work call)) ≡ takes_at s w.step.place Wants.Invalidate
    by Fetching g = ap (λ (b : Bool). takes_done (step_at w.step.place w.step.lsn (image_of w) b)) q ∙ done_place w.step.place w.step.lsn (image_of w) w.step.writer g.2
    by AtHeld g = refl
    by Releasing g = ap (λ (b : Bool). takes_done (if b then Step.GivenUp else Step.ReleaseEnd)) q
    by Over g = ap (λ (b : Bool). takes_done (if b then Step.GivenUp else Step.Idle)) q
    by Latching g = refl
    by Invalidating g = refl
    by Installing g = refl
    by Writing g = refl
    by Cleaning g = refl
    by Entering g = refl
    by Freeing g = refl

pub is_done_call : (done : Bool) → is_of_work (done_call done) ≡ true
is_done_call true = refl
is_done_call false = refl
