-- How a fetch begins, is answered, is given up and finished, as the law of pages has it.
use Rattle.std.proofs.Common.{◌≡◌, ◌<◌, ◌-◌, ◌+◌, ◌&&◌, ℕ, Bool, true, false, Option, Some, None, is_some, nat_eq, refl, sym, ◌∙◌, ap, subst, arith}
use Rattle.rm_base.specs.declared.places.Addr.{Addr}
use Rattle.page_image.specs.Image.{Image}
use Rattle.local_cache.specs.declared.cache.Cached.{Cached}
use Rattle.node_model.specs.Step.{Step}
use Rattle.node_model.specs.Call.{Call}
use Rattle.node_model.specs.Learning.{begun, answered}
use Rattle.fetch_steps.specs.Fetch.{Fetch, number_of}
use Rattle.message_network.specs.declared.calls.Reply.TheVariants.{Registered}
use Rattle.fetch_steps.specs.declared.place.Place.{Place}
use Rattle.fetch_steps.specs.declared.place.Place.TheVariants.{Register, Get, ReleaseEnd, Done}
use Rattle.coherent_pool.specs.declared.known.Known.{Known}
use Rattle.coherent_pool.specs.declared.works.FetchWork.{FetchWork}
use Rattle.coherent_pool.specs.declared.works.Stage.{Stage}
use Rattle.coherent_pool.specs.declared.works.Stage.TheVariants.{Fetching, Releasing, Over}
use Rattle.coherent_pool.specs.Node.{PageState, node_of, step_in, address_in, holds_in}
use Rattle.coherent_pool.specs.Keeping.{Agrees, PinsAgree, pins_of, WorkAgrees, StageAgrees}
use Rattle.coherent_pool.specs.Hearing.{settle_node, takes_register, takes_image, takes_answer, is_refusal}
use Rattle.coherent_pool.specs.Changing.{pins_in, begun_at, registered_at, got_at, settled}
use Rattle.coherent_pool.proofs.Moves.{never, fetch_at, state_of}

nothing_given : {X : Type 0} (v : X) → Some v ≡ None → ⊥
nothing_given v h = cc

no_copy : true ≡ false → ⊥
no_copy h = cc

pub none_of : {X : Type 0} (o : Option X) → is_some o ≡ false → o ≡ None
none_of None h = refl
none_of (Some v) h = absurd (no_copy h)

-- ---------------- a fetch begins

abbrev free_state : Known → Option Addr → Bool → Option Cached → PageState
free_state k a leaving copy = record { known = record k { addr = a }; leaving = leaving; copy = copy; work = None }

begin_moves : (r n page : ℕ) (up : Bool) (k : Known) (call : Call) (leaving : Bool) (a : Option Addr) (copy : Option Cached) (writer : Bool) → nat_eq n r ≡ writer
    → node_of up (begun_at writer page (free_state k a leaving copy)) call ≡ begun r n (node_of up (free_state k a leaving copy) call)
begin_moves r n page up k call true None None writer e = refl
begin_moves r n page up k call true (Some a) None true e = rw e refl
begin_moves r n page up k call true (Some a) None false e = rw e refl
begin_moves r n page up k call true None (Some c) writer e = refl
begin_moves r n page up k call true (Some a) (Some c) true e = rw e refl
begin_moves r n page up k call true (Some a) (Some c) false e = rw e refl
begin_moves r n page up k call false None None writer e = refl
begin_moves r n page up k call false (Some a) None true e = rw e refl
begin_moves r n page up k call false (Some a) None false e = rw e refl
begin_moves r n page up k call false None (Some c) writer e = refl
begin_moves r n page up k call false (Some a) (Some c) true e = rw e refl
begin_moves r n page up k call false (Some a) (Some c) false e = rw e refl

begin_keeps : (page : ℕ) (k : Known) (leaving : Bool) (a : Option Addr) (copy : Option Cached) (writer : Bool) → PinsAgree copy 0 → (writer ≡ true → (is_some copy && is_some a) ≡ false)
    → Agrees writer (begun_at writer page (free_state k a leaving copy))
begin_keeps page k true None None writer p lacks = record { pins = tt; work = (refl, (refl, (λ x. absurd (never x)), refl)) }
begin_keeps page k true (Some a) None false p lacks = record { pins = tt; work = (refl, (refl, (λ x. absurd (never x)), refl)) }
begin_keeps page k true (Some a) None true p lacks = record { pins = tt; work = (refl, (refl, (λ x. refl), refl)) }
begin_keeps page k true None (Some c) writer p lacks = record { pins = ap (λ (m : ℕ). m + 1) p; work = (refl, (refl, (λ x. absurd (never x)), refl)) }
begin_keeps page k true (Some a) (Some c) false p lacks = record { pins = ap (λ (m : ℕ). m + 1) p; work = (refl, (refl, (λ x. absurd (never x)), refl)) }
begin_keeps page k true (Some a) (Some c) true p lacks = absurd (no_copy (lacks refl))
begin_keeps page k false None None writer p lacks = record { pins = tt; work = (refl, (refl, (λ x. absurd (never x)), refl)) }
begin_keeps page k false (Some a) None false p lacks = record { pins = tt; work = (refl, (refl, (λ x. absurd (never x)), refl)) }
begin_keeps page k false (Some a) None true p lacks = record { pins = tt; work = (refl, (refl, (λ x. refl), refl)) }
begin_keeps page k false None (Some c) writer p lacks = record { pins = ap (λ (m : ℕ). m + 1) p; work = (refl, (refl, (λ x. absurd (never x)), refl)) }
begin_keeps page k false (Some a) (Some c) false p lacks = record { pins = ap (λ (m : ℕ). m + 1) p; work = (refl, (refl, (λ x. absurd (never x)), refl)) }
begin_keeps page k false (Some a) (Some c) true p lacks = absurd (no_copy (lacks refl))

pub begins_at : (r n page : ℕ) (up writer : Bool) (S : PageState) (call : Call) → nat_eq n r ≡ writer → S.work ≡ None → node_of up (begun_at writer page S) call ≡ begun r n (node_of up S call)
begins_at r n page up writer S call e free =
    let P : Option FetchWork → Type 0 = λ w. let T : PageState = record S { work = w } in node_of up (begun_at writer page T) call ≡ begun r n (node_of up T call) in
    subst P (sym free) (begin_moves r n page up S.known call S.leaving S.known.addr S.copy writer e)

pub begun_keeps : (page : ℕ) (writer : Bool) (S : PageState) → Agrees writer S → S.work ≡ None → (writer ≡ true → (is_some S.copy && is_some (address_in S.known S.work)) ≡ false) → Agrees writer (begun_at writer page S)
begun_keeps page writer S h free lacks =
    let Q : Option FetchWork → Type 0 = λ w. writer ≡ true → (is_some S.copy && is_some (address_in S.known w)) ≡ false in
    let pins : PinsAgree S.copy 0 = subst (λ (w : Option FetchWork). PinsAgree S.copy (pins_of w)) free h.pins in
    let P : Option FetchWork → Type 0 = λ w. let T : PageState = record S { work = w } in Agrees writer (begun_at writer page T) in
    subst P (sym free) (begin_keeps page S.known S.leaving S.known.addr S.copy writer pins (subst Q free lacks))

pub few_pins : (writer : Bool) (S : PageState) → Agrees writer S → S.work ≡ None → pins_in S.copy < 255
few_pins writer S h free = by S.copy (subst (λ (w : Option FetchWork). PinsAgree S.copy (pins_of w)) free h.pins)
  where
    by : (o : Option Cached) → PinsAgree o 0 → pins_in o < 255
    by None p = omega arith
    by (Some c) p = omega (arith, p)

-- ---------------- answers

abbrev pub IsAnswer : (Bool → PageState → PageState) → Call → (Step → Bool) → Type 0
IsAnswer F call t =
    (r n : ℕ) (up : Bool) (k : Known) (leaving : Bool) (f : Fetch) (writer : Bool) (stage : Stage) (place : Place) (image : Option Image) (copy : Option Cached) (bit : Bool)
    → nat_eq n r ≡ writer
    → StageAgrees stage copy bit (fetch_at f writer place) image
    → t (step_in (state_of k leaving f writer stage place image copy bit).work call) ≡ true
    → node_of up (F writer (state_of k leaving f writer stage place image copy bit)) Call.Quiet ≡ settle_node (holds_in (state_of k leaving f writer stage place image copy bit).work) (answered r n (node_of up (state_of k leaving f writer stage place image copy bit) call))

abbrev pub IsAnswerKept : (Bool → PageState → PageState) → Call → (Step → Bool) → Type 0
IsAnswerKept F call t =
    (k : Known) (leaving : Bool) (f : Fetch) (writer : Bool) (stage : Stage) (place : Place) (image : Option Image) (copy : Option Cached) (bit : Bool)
    → PinsAgree copy 1
    → StageAgrees stage copy bit (fetch_at f writer place) image
    → t (step_in (state_of k leaving f writer stage place image copy bit).work call) ≡ true
    → Agrees writer (F writer (state_of k leaving f writer stage place image copy bit))

pub answers_by : (F : Bool → PageState → PageState) (call : Call) (t : Step → Bool) → IsAnswer F call t → t Step.Idle ≡ false
    → (r n : ℕ) (up writer : Bool) (S : PageState) → nat_eq n r ≡ writer → Agrees writer S → t (step_in S.work call) ≡ true
    → node_of up (F writer S) Call.Quiet ≡ settle_node (holds_in S.work) (answered r n (node_of up S call))
answers_by F call t move idle r n up writer S e h s = by S.work h.work s
  where
    by : (w : Option FetchWork) → WorkAgrees writer S.copy S.known.bit w → t (step_in w call) ≡ true
        → let T : PageState = record S { work = w } in node_of up (F writer T) Call.Quiet ≡ settle_node (holds_in w) (answered r n (node_of up T call))
    by None g z = absurd (never (sym idle ∙ z))
    by (Some w) g z =
        let T : PageState = record S { work = Some w } in
        subst (λ (b : Bool). node_of up (F b T) Call.Quiet ≡ settle_node (holds_in (Some w)) (answered r n (node_of up T call))) g.0
        (move r n up S.known S.leaving w.step w.step.writer w.stage w.step.place w.image S.copy S.known.bit (e ∙ sym g.0) g.1 z)

pub answer_keeps_by : (F : Bool → PageState → PageState) (call : Call) (t : Step → Bool) → IsAnswerKept F call t → t Step.Idle ≡ false
    → (writer : Bool) (S : PageState) → Agrees writer S → t (step_in S.work call) ≡ true → Agrees writer (F writer S)
answer_keeps_by F call t keep idle writer S h s = by S.work h.pins h.work s
  where
    by : (w : Option FetchWork) → PinsAgree S.copy (pins_of w) → WorkAgrees writer S.copy S.known.bit w → t (step_in w call) ≡ true
        → let T : PageState = record S { work = w } in Agrees writer (F writer T)
    by None p g z = absurd (never (sym idle ∙ z))
    by (Some w) p g z =
        let T : PageState = record S { work = Some w } in
        subst (λ (b : Bool). Agrees b (F b T)) g.0
        (keep S.known S.leaving w.step w.step.writer w.stage w.step.place w.image S.copy S.known.bit p g.1 z)

-- the page is registered
pub register_moves : (a : Addr) (told_bit : Bool) (floor : ℕ) → IsAnswer (λ b. registered_at b (Registered a told_bit floor)) (Call.ToldRegistered (number_of a)) takes_register
register_moves a told_bit floor r n up k leaving f writer Fetching Register (Some w) copy bit e h s = absurd (nothing_given w h.0)
register_moves a told_bit floor r n up k leaving f true Fetching Register None None bit e h s = rw e refl
register_moves a told_bit floor r n up k leaving f false Fetching Register None None bit e h s = rw e refl
register_moves a told_bit floor r n up k leaving f true Fetching Register None (Some c) bit e h s = rw e refl
register_moves a told_bit floor r n up k leaving f false Fetching Register None (Some c) bit e h s = rw e refl
register_moves a told_bit floor r n up k leaving f writer Fetching ReleaseEnd image copy bit e h s = absurd (never h.2)
register_moves a told_bit floor r n up k leaving f writer Fetching Done image copy bit e h s = absurd (never h.2)
register_moves a told_bit floor r n up k leaving f writer Releasing place (Some w) copy bit e h s = absurd (nothing_given w h)
register_moves a told_bit floor r n up k leaving f writer Releasing place None copy bit e h s = refl
register_moves a told_bit floor r n up k leaving f writer Over place (Some w) copy bit e h s = absurd (nothing_given w h)
register_moves a told_bit floor r n up k leaving f writer Over place None None bit e h s = refl
register_moves a told_bit floor r n up k leaving f writer Over place None (Some c) bit e h s = refl
register_moves a told_bit floor r n up k leaving f writer Fetching _ image copy bit e h s = absurd (never s)
register_moves a told_bit floor r n up k leaving f writer _ place image copy bit e h s = absurd (never s)

pub register_keeps : (a : Addr) (told_bit : Bool) (floor : ℕ) → IsAnswerKept (λ b. registered_at b (Registered a told_bit floor)) (Call.ToldRegistered (number_of a)) takes_register
register_keeps a told_bit floor k leaving f writer Fetching Register (Some w) copy bit p h s = absurd (nothing_given w h.0)
register_keeps a told_bit floor k leaving f true Fetching Register None None bit p h s = record { pins = tt; work = (refl, (refl, (λ x. refl), refl)) }
register_keeps a told_bit floor k leaving f true Fetching Register None (Some c) bit p h s = record { pins = ap (λ (m : ℕ). m - 1) p; work = tt }
register_keeps a told_bit floor k leaving f false Fetching Register None copy bit p h s = record { pins = p; work = (refl, (refl, (λ x. absurd (never x)), refl)) }
register_keeps a told_bit floor k leaving f writer Fetching ReleaseEnd image copy bit p h s = absurd (never h.2)
register_keeps a told_bit floor k leaving f writer Fetching Done image copy bit p h s = absurd (never h.2)
register_keeps a told_bit floor k leaving f writer Releasing place (Some w) copy bit p h s = absurd (nothing_given w h)
register_keeps a told_bit floor k leaving f writer Releasing place None copy bit p h s = record { pins = p; work = (refl, refl) }
register_keeps a told_bit floor k leaving f writer Over place (Some w) copy bit p h s = absurd (nothing_given w h)
register_keeps a told_bit floor k leaving f writer Over place None None bit p h s = record { pins = tt; work = tt }
register_keeps a told_bit floor k leaving f writer Over place None (Some c) bit p h s = record { pins = ap (λ (m : ℕ). m - 1) p; work = tt }
register_keeps a told_bit floor k leaving f writer Fetching _ image copy bit p h s = absurd (never s)
register_keeps a told_bit floor k leaving f writer _ place image copy bit p h s = absurd (never s)

-- an answer that leaves a fetch where it is
pub full_moves : IsAnswer (λ b. settled) (Call.ToldFull) takes_answer
full_moves r n up k leaving f writer Fetching Register image copy bit e h s = refl
full_moves r n up k leaving f writer Fetching Get image copy bit e h s = refl
full_moves r n up k leaving f writer Fetching ReleaseEnd image copy bit e h s = absurd (never h.2)
full_moves r n up k leaving f writer Fetching Done image copy bit e h s = absurd (never h.2)
full_moves r n up k leaving f writer Releasing place (Some w) copy bit e h s = absurd (nothing_given w h)
full_moves r n up k leaving f writer Releasing place None copy bit e h s = refl
full_moves r n up k leaving f writer Over place (Some w) copy bit e h s = absurd (nothing_given w h)
full_moves r n up k leaving f writer Over place None None bit e h s = refl
full_moves r n up k leaving f writer Over place None (Some c) bit e h s = refl
full_moves r n up k leaving f writer Fetching _ image copy bit e h s = absurd (never s)
full_moves r n up k leaving f writer _ place image copy bit e h s = absurd (never s)

pub full_keeps : IsAnswerKept (λ b. settled) (Call.ToldFull) takes_answer
full_keeps k leaving f writer Fetching Register image copy bit p h s = record { pins = p; work = (refl, h) }
full_keeps k leaving f writer Fetching Get image copy bit p h s = record { pins = p; work = (refl, h) }
full_keeps k leaving f writer Fetching ReleaseEnd image copy bit p h s = absurd (never h.2)
full_keeps k leaving f writer Fetching Done image copy bit p h s = absurd (never h.2)
full_keeps k leaving f writer Releasing place (Some w) copy bit p h s = absurd (nothing_given w h)
full_keeps k leaving f writer Releasing place None copy bit p h s = record { pins = p; work = (refl, refl) }
full_keeps k leaving f writer Over place (Some w) copy bit p h s = absurd (nothing_given w h)
full_keeps k leaving f writer Over place None None bit p h s = record { pins = tt; work = tt }
full_keeps k leaving f writer Over place None (Some c) bit p h s = record { pins = ap (λ (m : ℕ). m - 1) p; work = tt }
full_keeps k leaving f writer Fetching _ image copy bit p h s = absurd (never s)
full_keeps k leaving f writer _ place image copy bit p h s = absurd (never s)

-- an answer that leaves a fetch where it is
pub behind_moves : IsAnswer (λ b. settled) (Call.ToldNotYet) takes_answer
behind_moves r n up k leaving f writer Fetching Register image copy bit e h s = refl
behind_moves r n up k leaving f writer Fetching Get image copy bit e h s = refl
behind_moves r n up k leaving f writer Fetching ReleaseEnd image copy bit e h s = absurd (never h.2)
behind_moves r n up k leaving f writer Fetching Done image copy bit e h s = absurd (never h.2)
behind_moves r n up k leaving f writer Releasing place (Some w) copy bit e h s = absurd (nothing_given w h)
behind_moves r n up k leaving f writer Releasing place None copy bit e h s = refl
behind_moves r n up k leaving f writer Over place (Some w) copy bit e h s = absurd (nothing_given w h)
behind_moves r n up k leaving f writer Over place None None bit e h s = refl
behind_moves r n up k leaving f writer Over place None (Some c) bit e h s = refl
behind_moves r n up k leaving f writer Fetching _ image copy bit e h s = absurd (never s)
behind_moves r n up k leaving f writer _ place image copy bit e h s = absurd (never s)

pub behind_keeps : IsAnswerKept (λ b. settled) (Call.ToldNotYet) takes_answer
behind_keeps k leaving f writer Fetching Register image copy bit p h s = record { pins = p; work = (refl, h) }
behind_keeps k leaving f writer Fetching Get image copy bit p h s = record { pins = p; work = (refl, h) }
behind_keeps k leaving f writer Fetching ReleaseEnd image copy bit p h s = absurd (never h.2)
behind_keeps k leaving f writer Fetching Done image copy bit p h s = absurd (never h.2)
behind_keeps k leaving f writer Releasing place (Some w) copy bit p h s = absurd (nothing_given w h)
behind_keeps k leaving f writer Releasing place None copy bit p h s = record { pins = p; work = (refl, refl) }
behind_keeps k leaving f writer Over place (Some w) copy bit p h s = absurd (nothing_given w h)
behind_keeps k leaving f writer Over place None None bit p h s = record { pins = tt; work = tt }
behind_keeps k leaving f writer Over place None (Some c) bit p h s = record { pins = ap (λ (m : ℕ). m - 1) p; work = tt }
behind_keeps k leaving f writer Fetching _ image copy bit p h s = absurd (never s)
behind_keeps k leaving f writer _ place image copy bit p h s = absurd (never s)

pub refusal_at : (call : Call) → is_refusal call ≡ true → (r n : ℕ) (up writer : Bool) (S : PageState) → nat_eq n r ≡ writer → Agrees writer S → takes_answer (step_in S.work call) ≡ true
    → node_of up (settled S) Call.Quiet ≡ settle_node (holds_in S.work) (answered r n (node_of up S call))
refusal_at Call.ToldFull z = answers_by (λ b. settled) Call.ToldFull takes_answer full_moves refl
refusal_at Call.ToldNotYet z = answers_by (λ b. settled) Call.ToldNotYet takes_answer behind_moves refl
refusal_at _ z = absurd (never z)

-- storage gave the image
pub load_moves : (v : Image) → IsAnswer (λ b. got_at v) (Call.ToldImage v) takes_image
load_moves v r n up k leaving f writer Fetching Get image copy bit e h s = refl
load_moves v r n up k leaving f writer Fetching ReleaseEnd image copy bit e h s = absurd (never h.2)
load_moves v r n up k leaving f writer Fetching Done image copy bit e h s = absurd (never h.2)
load_moves v r n up k leaving f writer Releasing place (Some w) copy bit e h s = absurd (nothing_given w h)
load_moves v r n up k leaving f writer Releasing place None copy bit e h s = refl
load_moves v r n up k leaving f writer Over place (Some w) copy bit e h s = absurd (nothing_given w h)
load_moves v r n up k leaving f writer Over place None None bit e h s = refl
load_moves v r n up k leaving f writer Over place None (Some c) bit e h s = refl
load_moves v r n up k leaving f writer Fetching _ image copy bit e h s = absurd (never s)
load_moves v r n up k leaving f writer _ place image copy bit e h s = absurd (never s)

pub load_keeps : (v : Image) → IsAnswerKept (λ b. got_at v) (Call.ToldImage v) takes_image
load_keeps v k leaving f writer Fetching Get image copy bit p h s = record { pins = p; work = (refl, ((v, refl, refl), (λ x. absurd (never x)), refl)) }
load_keeps v k leaving f writer Fetching ReleaseEnd image copy bit p h s = absurd (never h.2)
load_keeps v k leaving f writer Fetching Done image copy bit p h s = absurd (never h.2)
load_keeps v k leaving f writer Releasing place (Some w) copy bit p h s = absurd (nothing_given w h)
load_keeps v k leaving f writer Releasing place None copy bit p h s = record { pins = p; work = (refl, refl) }
load_keeps v k leaving f writer Over place (Some w) copy bit p h s = absurd (nothing_given w h)
load_keeps v k leaving f writer Over place None None bit p h s = record { pins = tt; work = tt }
load_keeps v k leaving f writer Over place None (Some c) bit p h s = record { pins = ap (λ (m : ℕ). m - 1) p; work = tt }
load_keeps v k leaving f writer Fetching _ image copy bit p h s = absurd (never s)
load_keeps v k leaving f writer _ place image copy bit p h s = absurd (never s)
