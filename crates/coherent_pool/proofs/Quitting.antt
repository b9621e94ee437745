-- How a fetch is given up or finished, and what leaves it where it is.
use Rattle.std.proofs.Common.{◌≡◌, ◌≢◌, ◌-◌, ℕ, Bool, true, false, Option, Some, None, nat_eq, eqb-true, refl, sym, ◌∙◌, ap, subst, arith}
use Rattle.page_image.specs.Image.{Image}
use Rattle.page_latches.specs.declared.latch.Latch.TheVariants.{Busy}
use Rattle.local_cache.specs.declared.cache.Cached.{Cached}
use Rattle.node_model.specs.Step.{Step, Step.Look as LookStep}
use Rattle.node_model.specs.Call.{Call, is_of_work}
use Rattle.node_model.specs.Node.{Node}
use Rattle.node_model.specs.Step.{may_give_up}
use Rattle.node_model.specs.Learning.{have, gives_up, stands, evicted, parted}
use Rattle.fetch_steps.specs.Fetch.{Fetch}
use Rattle.fetch_steps.specs.Places.{unheard_after}
use Rattle.page_latches.specs.declared.latch.Holders.{Holders}
use Rattle.fetch_steps.specs.declared.acts.Told.TheVariants.{Latch as Tried, NoAnswer}
use Rattle.fetch_steps.specs.declared.place.Place.{Place}
use Rattle.fetch_steps.specs.declared.place.Place.TheVariants.{Register, LatchS, Look, Read, ReleaseS, LatchX, LookAgain, BackToS, LookBack, Get, Write, Clean, LastS, Held as AtHeld, ReleaseDown, RwLook, RwRead, RwBack, RwLookBack, RwEnd}
use Rattle.coherent_pool.specs.declared.known.Known.{Known}
use Rattle.coherent_pool.specs.declared.works.FetchWork.{FetchWork}
use Rattle.coherent_pool.specs.declared.works.Stage.{Stage}
use Rattle.coherent_pool.specs.declared.works.Stage.TheVariants.{Fetching, Held, Releasing, Over, Latching, Invalidating, Installing, Writing, Cleaning, Entering, Freeing}
use Rattle.coherent_pool.specs.Node.{PageState, node_of, node_at, step_in, step_at as stage_step, image_of, copy_in, holds_in, Changes}
use Rattle.coherent_pool.specs.Keeping.{Agrees, PinsAgree, pins_of, WorkAgrees, StageAgrees}
use Rattle.coherent_pool.specs.declared.node.PoolNode.{PoolNode}
use Rattle.coherent_pool.specs.Hearing.{settle_node, SameNode}
use Rattle.coherent_pool.specs.Changing.{with_bit, with_work, told_at, gave_up, evicted_at, parted_at}
use Rattle.coherent_pool.specs.Works.{staged_work}
use Rattle.coherent_pool.proofs.Moves.{never, fetch_at, state_of}
use Rattle.coherent_pool.proofs.Steps.{node_here, others_at}

nothing_given : {X : Type 0} (v : X) → Some v ≡ None → ⊥
nothing_given v h = cc

-- ---------------- a fetch is given up

abbrev quitting : Fetch → Bool → Bool → Place → Fetch
quitting f writer unheard place = record f { writer = writer; place = place; unheard = unheard }

abbrev quitting_state : Known → Bool → Fetch → Bool → Bool → Stage → Place → Option Image → Option Cached → Bool → PageState
quitting_state k leaving f writer unheard stage place image copy bit = record {
  known = record k { bit = bit };
  leaving = leaving;
  copy = copy;
  work = Some (record { step = quitting f writer unheard place; stage = stage; image = image });
}

quit_moves : (up : Bool) (k : Known) (leaving : Bool) (f : Fetch) (image : Option Image) (bit : Bool) (call : Call) (stage : Stage) (place : Place) (writer unheard : Bool) (waits : Bool) (copy : Option Cached)
    → is_of_work call ≡ waits
    → StageAgrees stage copy bit (quitting f writer unheard place) image
    → may_give_up (step_in (quitting_state k leaving f writer unheard stage place image copy bit).work Call.Quiet) ≡ true
    → node_of up (gave_up waits writer (quitting_state k leaving f writer unheard stage place image copy bit)) call
    ≡ settle_node (holds_in (quitting_state k leaving f writer unheard stage place image copy bit).work) (gives_up (node_of up (quitting_state k leaving f writer unheard stage place image copy bit) call))
quit_moves up k leaving f image bit call Fetching Register writer unheard true copy q h s = rw q refl
quit_moves up k leaving f image bit call Fetching Register writer unheard false None q h s = rw q refl
quit_moves up k leaving f image bit call Fetching Register writer unheard false (Some c) q h s = rw q refl
quit_moves up k leaving f image bit call Fetching LatchS writer true true copy q h s = rw q refl
quit_moves up k leaving f image bit call Fetching LatchS writer true false copy q h s = rw q refl
quit_moves up k leaving f image bit call Fetching LatchS writer false true copy q h s = rw q refl
quit_moves up k leaving f image bit call Fetching LatchS writer false false None q h s = rw q refl
quit_moves up k leaving f image bit call Fetching LatchS writer false false (Some c) q h s = rw q refl
quit_moves up k leaving f image bit call Fetching Look writer unheard true copy q h s = rw q refl
quit_moves up k leaving f image bit call Fetching Look writer unheard false copy q h s = rw q refl
quit_moves up k leaving f image bit call Fetching Read true unheard waits copy q h s = absurd (never h.2)
quit_moves up k leaving f image bit call Fetching Read false unheard true copy q h s = rw q refl
quit_moves up k leaving f image bit call Fetching Read false unheard false copy q h s = rw q refl
quit_moves up k leaving f image bit call Fetching ReleaseS writer unheard true copy q h s = rw q refl
quit_moves up k leaving f image bit call Fetching ReleaseS writer unheard false copy q h s = rw q refl
quit_moves up k leaving f image bit call Fetching LatchX writer true true copy q h s = rw q refl
quit_moves up k leaving f image bit call Fetching LatchX writer true false copy q h s = rw q refl
quit_moves up k leaving f image bit call Fetching LatchX writer false true copy q h s = rw q refl
quit_moves up k leaving f image bit call Fetching LatchX writer false false None q h s = rw q refl
quit_moves up k leaving f image bit call Fetching LatchX writer false false (Some c) q h s = rw q refl
quit_moves up k leaving f image bit call Fetching LookAgain writer unheard true copy q h s = rw q refl
quit_moves up k leaving f image bit call Fetching LookAgain writer unheard false copy q h s = rw q refl
quit_moves up k leaving f image bit call Fetching BackToS writer unheard true copy q h s = rw q refl
quit_moves up k leaving f image bit call Fetching BackToS writer unheard false copy q h s = rw q refl
quit_moves up k leaving f image bit call Fetching LookBack writer unheard true copy q h s = rw q refl
quit_moves up k leaving f image bit call Fetching LookBack writer unheard false copy q h s = rw q refl
quit_moves up k leaving f image bit call Fetching Get writer unheard true copy q h s = rw q refl
quit_moves up k leaving f image bit call Fetching Get writer unheard false copy q h s = rw q refl
quit_moves up k leaving f image bit call Fetching Write writer unheard true copy q h s = rw q refl
quit_moves up k leaving f image bit call Fetching Write writer unheard false copy q h s = rw q refl
quit_moves up k leaving f image bit call Fetching Clean writer unheard true copy q h s = rw q refl
quit_moves up k leaving f image bit call Fetching Clean writer unheard false copy q h s = rw q refl
quit_moves up k leaving f image bit call Fetching LastS writer unheard true copy q h s = rw q refl
quit_moves up k leaving f image bit call Fetching LastS writer unheard false copy q h s = rw q refl
quit_moves up k leaving f image bit call Fetching ReleaseDown writer unheard true copy q h s = rw q refl
quit_moves up k leaving f image bit call Fetching ReleaseDown writer unheard false copy q h s = rw q refl
quit_moves up k leaving f image bit call Fetching RwLook writer unheard true copy q h s = rw q refl
quit_moves up k leaving f image bit call Fetching RwLook writer unheard false None q h s = rw q refl
quit_moves up k leaving f image bit call Fetching RwLook writer unheard false (Some c) q h s = rw q refl
quit_moves up k leaving f image bit call Fetching RwRead true unheard true copy q h s = rw q refl
quit_moves up k leaving f image bit call Fetching RwRead true unheard false None q h s = rw q refl
quit_moves up k leaving f image bit call Fetching RwRead true unheard false (Some c) q h s = rw q refl
quit_moves up k leaving f image bit call Fetching RwRead false unheard waits copy q h s = absurd (never h.2)
quit_moves up k leaving f image bit call Fetching RwBack writer unheard true copy q h s = rw q refl
quit_moves up k leaving f image bit call Fetching RwBack writer unheard false copy q h s = rw q refl
quit_moves up k leaving f image bit call Fetching RwLookBack writer unheard true copy q h s = rw q refl
quit_moves up k leaving f image bit call Fetching RwLookBack writer unheard false None q h s = rw q refl
quit_moves up k leaving f image bit call Fetching RwLookBack writer unheard false (Some c) q h s = rw q refl
quit_moves up k leaving f image bit call Fetching RwEnd writer unheard true copy q h s = rw q refl
quit_moves up k leaving f image bit call Fetching RwEnd writer unheard false copy q h s = rw q refl
quit_moves up k leaving f image bit call Latching place writer unheard true copy q h s = rw q refl
quit_moves up k leaving f image bit call Latching place writer unheard false copy q h s = rw q refl
quit_moves up k leaving f image bit call Invalidating place writer unheard true copy q h s = rw q refl
quit_moves up k leaving f image bit call Invalidating place writer unheard false copy q h s = rw q refl
quit_moves up k leaving f image bit call Installing place writer unheard true copy q h s = rw q refl
quit_moves up k leaving f image bit call Installing place writer unheard false copy q h s = rw q refl
quit_moves up k leaving f image bit call Fetching _ writer unheard waits copy q h s = absurd (never s)
quit_moves up k leaving f image bit call _ place writer unheard waits copy q h s = absurd (never s)

quit_keeps : (k : Known) (leaving : Bool) (f : Fetch) (image : Option Image) (bit : Bool) (stage : Stage) (place : Place) (writer unheard : Bool) (waits : Bool) (copy : Option Cached)
    → PinsAgree copy 1
    → StageAgrees stage copy bit (quitting f writer unheard place) image
    → may_give_up (step_in (quitting_state k leaving f writer unheard stage place image copy bit).work Call.Quiet) ≡ true
    → Agrees writer (gave_up waits writer (quitting_state k leaving f writer unheard stage place image copy bit))
quit_keeps k leaving f image bit Fetching Register writer unheard true copy p h s = record { pins = p; work = (refl, refl) }
quit_keeps k leaving f image bit Fetching Register writer unheard false None p h s = record { pins = tt; work = tt }
quit_keeps k leaving f image bit Fetching Register writer unheard false (Some c) p h s = record { pins = ap (λ (m : ℕ). m - 1) p; work = tt }
quit_keeps k leaving f image bit Fetching LatchS writer true true copy p h s = record { pins = p; work = (refl, refl) }
quit_keeps k leaving f image bit Fetching LatchS writer true false copy p h s = record { pins = p; work = (refl, refl) }
quit_keeps k leaving f image bit Fetching LatchS writer false true copy p h s = record { pins = p; work = (refl, refl) }
quit_keeps k leaving f image bit Fetching LatchS writer false false None p h s = record { pins = tt; work = tt }
quit_keeps k leaving f image bit Fetching LatchS writer false false (Some c) p h s = record { pins = ap (λ (m : ℕ). m - 1) p; work = tt }
quit_keeps k leaving f image bit Fetching Look writer unheard true copy p h s = record { pins = p; work = (refl, refl) }
quit_keeps k leaving f image bit Fetching Look writer unheard false copy p h s = record { pins = p; work = (refl, refl) }
quit_keeps k leaving f image bit Fetching Read true unheard waits copy p h s = absurd (never h.2)
quit_keeps k leaving f image bit Fetching Read false unheard true copy p h s = record { pins = p; work = (refl, refl) }
quit_keeps k leaving f image bit Fetching Read false unheard false copy p h s = record { pins = p; work = (refl, refl) }
quit_keeps k leaving f image bit Fetching ReleaseS writer unheard true copy p h s = record { pins = p; work = (refl, refl) }
quit_keeps k leaving f image bit Fetching ReleaseS writer unheard false copy p h s = record { pins = p; work = (refl, refl) }
quit_keeps k leaving f image bit Fetching LatchX writer true true copy p h s = record { pins = p; work = (refl, refl) }
quit_keeps k leaving f image bit Fetching LatchX writer true false copy p h s = record { pins = p; work = (refl, refl) }
quit_keeps k leaving f image bit Fetching LatchX writer false true copy p h s = record { pins = p; work = (refl, refl) }
quit_keeps k leaving f image bit Fetching LatchX writer false false None p h s = record { pins = tt; work = tt }
quit_keeps k leaving f image bit Fetching LatchX writer false false (Some c) p h s = record { pins = ap (λ (m : ℕ). m - 1) p; work = tt }
quit_keeps k leaving f image bit Fetching LookAgain writer unheard true copy p h s = record { pins = p; work = (refl, refl) }
quit_keeps k leaving f image bit Fetching LookAgain writer unheard false copy p h s = record { pins = p; work = (refl, refl) }
quit_keeps k leaving f image bit Fetching BackToS writer unheard true copy p h s = record { pins = p; work = (refl, refl) }
quit_keeps k leaving f image bit Fetching BackToS writer unheard false copy p h s = record { pins = p; work = (refl, refl) }
quit_keeps k leaving f image bit Fetching LookBack writer unheard true copy p h s = record { pins = p; work = (refl, refl) }
quit_keeps k leaving f image bit Fetching LookBack writer unheard false copy p h s = record { pins = p; work = (refl, refl) }
quit_keeps k leaving f image bit Fetching Get writer unheard true copy p h s = record { pins = p; work = (refl, refl) }
quit_keeps k leaving f image bit Fetching Get writer unheard false copy p h s = record { pins = p; work = (refl, refl) }
quit_keeps k leaving f image bit Fetching Write writer unheard true copy p h s = record { pins = p; work = (refl, refl) }
quit_keeps k leaving f image bit Fetching Write writer unheard false copy p h s = record { pins = p; work = (refl, refl) }
quit_keeps k leaving f image bit Fetching Clean writer unheard true copy p h s = record { pins = p; work = (refl, refl) }
quit_keeps k leaving f image bit Fetching Clean writer unheard false copy p h s = record { pins = p; work = (refl, refl) }
quit_keeps k leaving f image bit Fetching LastS writer unheard true copy p h s = record { pins = p; work = (refl, refl) }
quit_keeps k leaving f image bit Fetching LastS writer unheard false copy p h s = record { pins = p; work = (refl, refl) }
quit_keeps k leaving f image bit Fetching ReleaseDown writer unheard true copy p h s = record { pins = p; work = (refl, refl) }
quit_keeps k leaving f image bit Fetching ReleaseDown writer unheard false copy p h s = record { pins = p; work = (refl, refl) }
quit_keeps k leaving f image bit Fetching RwLook writer unheard true copy p h s = record { pins = p; work = (refl, refl) }
quit_keeps k leaving f image bit Fetching RwLook writer unheard false None p h s = record { pins = tt; work = tt }
quit_keeps k leaving f image bit Fetching RwLook writer unheard false (Some c) p h s = record { pins = ap (λ (m : ℕ). m - 1) p; work = tt }
quit_keeps k leaving f image bit Fetching RwRead true unheard true copy p h s = record { pins = p; work = (refl, refl) }
quit_keeps k leaving f image bit Fetching RwRead true unheard false None p h s = record { pins = tt; work = tt }
quit_keeps k leaving f image bit Fetching RwRead true unheard false (Some c) p h s = record { pins = ap (λ (m : ℕ). m - 1) p; work = tt }
quit_keeps k leaving f image bit Fetching RwRead false unheard waits copy p h s = absurd (never h.2)
quit_keeps k leaving f image bit Fetching RwBack writer unheard true copy p h s = record { pins = p; work = (refl, refl) }
quit_keeps k leaving f image bit Fetching RwBack writer unheard false copy p h s = record { pins = p; work = (refl, refl) }
quit_keeps k leaving f image bit Fetching RwLookBack writer unheard true copy p h s = record { pins = p; work = (refl, refl) }
quit_keeps k leaving f image bit Fetching RwLookBack writer unheard false None p h s = record { pins = tt; work = tt }
quit_keeps k leaving f image bit Fetching RwLookBack writer unheard false (Some c) p h s = record { pins = ap (λ (m : ℕ). m - 1) p; work = tt }
quit_keeps k leaving f image bit Fetching RwEnd writer unheard true copy p h s = record { pins = p; work = (refl, refl) }
quit_keeps k leaving f image bit Fetching RwEnd writer unheard false copy p h s = record { pins = p; work = (refl, refl) }
quit_keeps k leaving f image bit Latching place writer unheard true copy p h s = record { pins = p; work = (refl, refl) }
quit_keeps k leaving f image bit Latching place writer unheard false copy p h s = record { pins = p; work = (refl, refl) }
quit_keeps k leaving f image bit Invalidating place writer unheard true copy p h s = record { pins = p; work = (refl, refl) }
quit_keeps k leaving f image bit Invalidating place writer unheard false copy p h s = record { pins = p; work = (refl, refl) }
quit_keeps k leaving f image bit Installing place writer unheard true copy p h s = record { pins = p; work = (refl, refl) }
quit_keeps k leaving f image bit Installing place writer unheard false copy p h s = record { pins = p; work = (refl, refl) }
quit_keeps k leaving f image bit Fetching _ writer unheard waits copy p h s = absurd (never s)
quit_keeps k leaving f image bit _ place writer unheard waits copy p h s = absurd (never s)

pub quits_at : (waits up writer : Bool) (S : PageState) (call : Call) → is_of_work call ≡ waits → Agrees writer S → may_give_up (step_in S.work Call.Quiet) ≡ true
    → node_of up (gave_up waits writer S) call ≡ settle_node (holds_in S.work) (gives_up (node_of up S call))
quits_at waits up writer S call q h s = by S.work h.work s
  where
    by : (w : Option FetchWork) → WorkAgrees writer S.copy S.known.bit w → may_give_up (step_in w Call.Quiet) ≡ true
        → let T : PageState = record S { work = w } in node_of up (gave_up waits writer T) call ≡ settle_node (holds_in w) (gives_up (node_of up T call))
    by None g z = absurd (never z)
    by (Some w) g z =
        let T : PageState = record S { work = Some w } in
        subst (λ (b : Bool). node_of up (gave_up waits b T) call ≡ settle_node (holds_in (Some w)) (gives_up (node_of up T call))) g.0
        (quit_moves up S.known S.leaving w.step w.image S.known.bit call w.stage w.step.place w.step.writer w.step.unheard waits S.copy q g.1 z)

pub quits_keeps : (waits writer : Bool) (S : PageState) → Agrees writer S → may_give_up (step_in S.work Call.Quiet) ≡ true → Agrees writer (gave_up waits writer S)
quits_keeps waits writer S h s = by S.work h.pins h.work s
  where
    by : (w : Option FetchWork) → PinsAgree S.copy (pins_of w) → WorkAgrees writer S.copy S.known.bit w → may_give_up (step_in w Call.Quiet) ≡ true
        → let T : PageState = record S { work = w } in Agrees writer (gave_up waits writer T)
    by None p g z = absurd (never z)
    by (Some w) p g z =
        let T : PageState = record S { work = Some w } in
        subst (λ (b : Bool). Agrees b (gave_up waits b T)) g.0
        (quit_keeps S.known S.leaving w.step w.image S.known.bit w.stage w.step.place w.step.writer w.step.unheard waits S.copy p g.1 z)

-- ---------------- a fetch is finished

is_held : Step → Bool
is_held Step.Held = true
is_held step = false

abbrev let_go_at : PageState → PageState
let_go_at S = with_work S (staged_work Releasing S.work)

finish_moves : (up : Bool) (k : Known) (leaving : Bool) (f : Fetch) (image : Option Image) (copy : Option Cached) (bit : Bool) (call : Call) (writer : Bool) (stage : Stage) (place : Place)
    → is_of_work call ≡ false
    → is_held (step_in (state_of k leaving f writer stage place image copy bit).work Call.Quiet) ≡ true
    → node_of up (let_go_at (state_of k leaving f writer stage place image copy bit)) call ≡ stands (node_of up (state_of k leaving f writer stage place image copy bit) call) Step.ReleaseEnd
unfolding is_held
finish_moves up k leaving f image copy bit call writer Fetching AtHeld q s = rw q refl
finish_moves up k leaving f image copy bit call writer Held place q s = rw q refl
finish_moves up k leaving f image copy bit call writer Fetching _ q s = absurd (never s)
finish_moves up k leaving f image copy bit call writer _ place q s = absurd (never s)

finish_keeps : (k : Known) (leaving : Bool) (f : Fetch) (image : Option Image) (copy : Option Cached) (bit : Bool) (writer : Bool) (stage : Stage) (place : Place)
    → PinsAgree copy 1 → StageAgrees stage copy bit (fetch_at f writer place) image
    → is_held (step_in (state_of k leaving f writer stage place image copy bit).work Call.Quiet) ≡ true
    → Agrees writer (let_go_at (state_of k leaving f writer stage place image copy bit))
unfolding is_held
finish_keeps k leaving f image copy bit writer Fetching AtHeld p h s = record { pins = p; work = (refl, h.0) }
finish_keeps k leaving f image copy bit writer Held place p h s = record { pins = p; work = (refl, h) }
finish_keeps k leaving f image copy bit writer Fetching _ p h s = absurd (never s)
finish_keeps k leaving f image copy bit writer _ place p h s = absurd (never s)

pub finishes_at : (up writer : Bool) (S : PageState) (call : Call) → is_of_work call ≡ false → step_in S.work Call.Quiet ≡ Step.Held
    → node_of up (let_go_at S) call ≡ stands (node_of up S call) Step.ReleaseEnd
unfolding is_held
finishes_at up writer S call q s = by S.work (ap is_held s)
  where
    by : (w : Option FetchWork) → is_held (step_in w Call.Quiet) ≡ true → let T : PageState = record S { work = w } in node_of up (let_go_at T) call ≡ stands (node_of up T call) Step.ReleaseEnd
    by None z = absurd (never z)
    by (Some w) z = finish_moves up S.known S.leaving w.step w.image S.copy S.known.bit call w.step.writer w.stage w.step.place q z

pub finishes_keeps : (writer : Bool) (S : PageState) → Agrees writer S → step_in S.work Call.Quiet ≡ Step.Held → Agrees writer (let_go_at S)
unfolding is_held
finishes_keeps writer S h s = by S.work h.pins h.work (ap is_held s)
  where
    by : (w : Option FetchWork) → PinsAgree S.copy (pins_of w) → WorkAgrees writer S.copy S.known.bit w → is_held (step_in w Call.Quiet) ≡ true → let T : PageState = record S { work = w } in Agrees writer (let_go_at T)
    by None p g z = absurd (never z)
    by (Some w) p g z =
        let T : PageState = record S { work = Some w } in
        subst (λ (b : Bool). Agrees b (let_go_at T)) g.0 (finish_keeps S.known S.leaving w.step w.image S.copy S.known.bit w.step.writer w.stage w.step.place p g.1 z)

-- ---------------- what leaves a fetch where it is

-- a fetch that heard of a try or did not is where it was
unheard_step : (u : Bool) (stage : Stage) (f : Fetch) (v : Image) (waits : Bool) → stage_step stage (record f { unheard = u }) v waits ≡ stage_step stage f v waits
unheard_step u Fetching f v waits = refl
unheard_step u Held f v waits = refl
unheard_step u Releasing f v waits = refl
unheard_step u Over f v waits = refl
unheard_step u Latching f v waits = refl
unheard_step u Invalidating f v waits = refl
unheard_step u Installing f v waits = refl
unheard_step u Writing f v waits = refl
unheard_step u Cleaning f v waits = refl
unheard_step u Entering f v waits = refl
unheard_step u Freeing f v waits = refl

abbrev at_step : Bool → PageState → FetchWork → Call → Step → Node
at_step up S w call step = let T : PageState = record S { work = Some w } in record (node_of up T call) { step = step }

pub busy_stays : (holders : Holders) (up : Bool) (S : PageState) (call : Call) → node_of up (told_at (Tried (Busy holders)) S) call ≡ node_of up S call
busy_stays holders up S call = by S.work
  where
    by : (w : Option FetchWork) → let T : PageState = record S { work = w } in node_of up (told_at (Tried (Busy holders)) T) call ≡ node_of up T call
    by None = refl
    by (Some w) = ap (at_step up S w call) (unheard_step false w.stage w.step (image_of w) (is_of_work call))

pub unheard_stays : (up : Bool) (S : PageState) (call : Call) → node_of up (told_at NoAnswer S) call ≡ node_of up S call
unheard_stays up S call = by S.work
  where
    by : (w : Option FetchWork) → let T : PageState = record S { work = w } in node_of up (told_at NoAnswer T) call ≡ node_of up T call
    by None = refl
    by (Some w) = ap (at_step up S w call) (unheard_step (unheard_after w.step.place w.step.unheard) w.stage w.step (image_of w) (is_of_work call))

busy_stage : (holders : Holders) (stage : Stage) (copy : Option Cached) (bit : Bool) (f : Fetch) (image : Option Image) → StageAgrees stage copy bit f image → StageAgrees stage copy bit (record f { unheard = false }) image
busy_stage holders Fetching copy bit f image h = h
busy_stage holders Held copy bit f image h = h
busy_stage holders Releasing copy bit f image h = h
busy_stage holders Over copy bit f image h = h
busy_stage holders Latching copy bit f image h = h
busy_stage holders Invalidating copy bit f image h = h
busy_stage holders Installing copy bit f image h = h
busy_stage holders Writing copy bit f image h = h
busy_stage holders Cleaning copy bit f image h = h
busy_stage holders Entering copy bit f image h = h
busy_stage holders Freeing copy bit f image h = h

unheard_stage : (u : Bool) (stage : Stage) (copy : Option Cached) (bit : Bool) (f : Fetch) (image : Option Image) → StageAgrees stage copy bit f image → StageAgrees stage copy bit (record f { unheard = u }) image
unheard_stage u Fetching copy bit f image h = h
unheard_stage u Held copy bit f image h = h
unheard_stage u Releasing copy bit f image h = h
unheard_stage u Over copy bit f image h = h
unheard_stage u Latching copy bit f image h = h
unheard_stage u Invalidating copy bit f image h = h
unheard_stage u Installing copy bit f image h = h
unheard_stage u Writing copy bit f image h = h
unheard_stage u Cleaning copy bit f image h = h
unheard_stage u Entering copy bit f image h = h
unheard_stage u Freeing copy bit f image h = h

pub busy_keeps : (holders : Holders) (writer : Bool) (S : PageState) → Agrees writer S → Agrees writer (told_at (Tried (Busy holders)) S)
busy_keeps holders writer S h = by S.work h.pins h.work
  where
    by : (w : Option FetchWork) → PinsAgree S.copy (pins_of w) → WorkAgrees writer S.copy S.known.bit w → let T : PageState = record S { work = w } in Agrees writer (told_at (Tried (Busy holders)) T)
    by None p g = record { pins = p; work = g }
    by (Some w) p g = record { pins = p; work = (g.0, busy_stage holders w.stage S.copy S.known.bit w.step w.image g.1) }

pub unheard_keeps : (writer : Bool) (S : PageState) → Agrees writer S → Agrees writer (told_at NoAnswer S)
unheard_keeps writer S h = by S.work h.pins h.work
  where
    by : (w : Option FetchWork) → PinsAgree S.copy (pins_of w) → WorkAgrees writer S.copy S.known.bit w → let T : PageState = record S { work = w } in Agrees writer (told_at NoAnswer T)
    by None p g = record { pins = p; work = g }
    by (Some w) p g = record { pins = p; work = (g.0, unheard_stage (unheard_after w.step.place w.step.unheard) w.stage S.copy S.known.bit w.step w.image g.1) }

-- the home sets the local bit
stale_copy : (copy : Option Cached) → have (copy_in copy) true ≡ LookStep
stale_copy None = refl
stale_copy (Some c) = refl

stale_stage : (stage : Stage) (copy : Option Cached) (bit : Bool) (f : Fetch) (image : Option Image) → StageAgrees stage copy bit f image → StageAgrees stage copy true f image
stale_stage Fetching copy bit f image h = (h.0, (λ x. stale_copy copy), h.2)
stale_stage Held copy bit f image h = h
stale_stage Releasing copy bit f image h = h
stale_stage Over copy bit f image h = h
stale_stage Latching copy bit f image h = h
stale_stage Invalidating copy bit f image h = h
stale_stage Installing copy bit f image h = h
stale_stage Writing copy bit f image h = h
stale_stage Cleaning copy bit f image h = h
stale_stage Entering copy bit f image h = h
stale_stage Freeing copy bit f image h = h

pub stale_keeps : (writer : Bool) (S : PageState) → Agrees writer S → Agrees writer (with_bit S true)
stale_keeps writer S h = by S.work h.pins h.work
  where
    by : (w : Option FetchWork) → PinsAgree S.copy (pins_of w) → WorkAgrees writer S.copy S.known.bit w → let T : PageState = record S { work = w } in Agrees writer (with_bit T true)
    by None p g = record { pins = p; work = g }
    by (Some w) p g = record { pins = p; work = (g.0, stale_stage w.stage S.copy S.known.bit w.step w.image g.1) }

-- the same at every page
pub same_at : (p : ℕ) (T : PageState) (a b : PoolNode) → Changes p T a b → ((call : Call) → node_of a.up T call ≡ node_at a p call) → SameNode a b
same_at p T a b h here = record { each = λ q call. by q call (nat_eq q p) refl; up = h.up; writer = h.writer }
  where
    by : (q : ℕ) (call : Call) (t : Bool) → nat_eq q p ≡ t → node_at b q call ≡ node_at a q call
    by q call true t =
        let z : q ≡ p = eqb-true q p t in
        subst (λ (m : ℕ). node_at b m call ≡ node_at a m call) (sym z) (node_here p T a b call h ∙ here call)
    by q call false t =
        let ne : q ≢ p = grind (arith, t) in
        (others_at p T a b h).each q call ne

-- ---------------- a copy goes, a page is parted with

pub evicts_at : (up : Bool) (S : PageState) (call : Call) → node_of up (evicted_at S) call ≡ evicted (node_of up S call)
evicts_at up S call = refl

pub evicted_keeps : (writer : Bool) (S : PageState) → S.work ≡ None → Agrees writer (evicted_at S)
evicted_keeps writer S free = record { pins = tt; work = let P : Option FetchWork → Type 0 = λ w. WorkAgrees writer None S.known.bit w in subst P (sym free) tt }

pub parts_at : (up : Bool) (S : PageState) (call : Call) → S.work ≡ None → node_of up (parted_at S) Call.AskUnregister ≡ parted (node_of up S call)
parts_at up S call free =
    let P : Option FetchWork → Type 0 = λ w. let T : PageState = record S { work = w } in node_of up (parted_at T) Call.AskUnregister ≡ parted (node_of up T call) in
    subst P (sym free) refl

pub parted_keeps : (writer : Bool) (S : PageState) → Agrees writer S → S.work ≡ None → Agrees writer (parted_at S)
parted_keeps writer S h free = record { pins = h.pins; work = let P : Option FetchWork → Type 0 = λ w. WorkAgrees writer S.copy true w in subst P (sym free) tt }
