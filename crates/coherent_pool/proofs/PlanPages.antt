-- How a page of a plan goes on, as the law of pages has it.
use Rattle.std.proofs.Common.{◌≡◌, ◌⊎◌, inl, inr, ◌-◌, ◌+◌, ℕ, Bool, true, false, Option, Some, None, is_some, refl, sym, ◌∙◌, ap, subst}
use Rattle.rm_base.specs.declared.places.Addr.{Addr}
use Rattle.page_image.specs.Image.{Image}
use Rattle.local_cache.specs.declared.cache.Cached.{Cached}
use Rattle.node_model.specs.Step.{Step}
use Rattle.node_model.specs.Call.{Call}
use Rattle.node_model.specs.Node.{Node}
use Rattle.node_model.specs.Learning.{stands, installs, after_write, after_clean, after_plan_down, answered}
use Rattle.fetch_steps.specs.Fetch.{Fetch, number_of}
use Rattle.fetch_steps.specs.declared.place.Place.{Place}
use Rattle.fetch_steps.specs.declared.place.Place.TheVariants.{ReleaseEnd, Done}
use Rattle.coherent_pool.specs.declared.known.Known.{Known}
use Rattle.coherent_pool.specs.declared.works.FetchWork.{FetchWork}
use Rattle.coherent_pool.specs.declared.works.Stage.{Stage}
use Rattle.coherent_pool.specs.declared.works.Stage.TheVariants.{Fetching, Releasing, Over, Invalidating, Installing, Writing, Cleaning, Entering}
use Rattle.coherent_pool.specs.Node.{PageState, node_of, step_in}
use Rattle.coherent_pool.specs.Keeping.{Agrees, PinsAgree, pins_of, WorkAgrees, StageAgrees}
use Rattle.coherent_pool.specs.Planning.{done_call, takes_done}
use Rattle.coherent_pool.specs.Changing.{planned_at, invalidated_at, installed_at, written_at, cleaned_at, unslotted, entered_at}
use Rattle.coherent_pool.proofs.Moves.{never, fetch_at, state_of, IsKept}
use Rattle.coherent_pool.proofs.Answering.{IsAnswer, IsAnswerKept}

nothing_given : {X : Type 0} (v : X) → Some v ≡ None → ⊥
nothing_given v h = cc

-- a change F is g of the law's node, where the step of the page is of kind t
abbrev pub IsChange : (Bool → PageState → PageState) → (Node → Node) → (Step → Bool) → Call → Call → Type 0
IsChange F g t call then =
    (up : Bool) (k : Known) (leaving : Bool) (f : Fetch) (writer : Bool) (stage : Stage) (place : Place) (image : Option Image) (copy : Option Cached) (bit : Bool)
    → StageAgrees stage copy bit (fetch_at f writer place) image
    → t (step_in (state_of k leaving f writer stage place image copy bit).work Call.Quiet) ≡ true
    → node_of up (F writer (state_of k leaving f writer stage place image copy bit)) then ≡ g (node_of up (state_of k leaving f writer stage place image copy bit) call)

pub changes_by : (F : Bool → PageState → PageState) (g : Node → Node) (t : Step → Bool) (call then : Call) → IsChange F g t call then → t Step.Idle ≡ false
    → (up writer : Bool) (S : PageState) → Agrees writer S → t (step_in S.work Call.Quiet) ≡ true
    → node_of up (F writer S) then ≡ g (node_of up S call)
changes_by F g t call then change idle up writer S h s = by S.work h.work s
  where
    by : (w : Option FetchWork) → WorkAgrees writer S.copy S.known.bit w → t (step_in w Call.Quiet) ≡ true
        → let T : PageState = record S { work = w } in node_of up (F writer T) then ≡ g (node_of up T call)
    by None a z = absurd (never (sym idle ∙ z))
    by (Some w) a z =
        let T : PageState = record S { work = Some w } in
        subst (λ (b : Bool). node_of up (F b T) then ≡ g (node_of up T call)) a.0
        (change up S.known S.leaving w.step w.step.writer w.stage w.step.place w.image S.copy S.known.bit a.1 z)

-- ---------------- the steps of a plan's page

abbrev pub is_install : Step → Bool
is_install Step.PlanInstall = true
is_install step = false

abbrev pub is_write : Step → Bool
is_write Step.PlanWrite = true
is_write step = false

abbrev pub is_clean : Step → Bool
is_clean Step.PlanClean = true
is_clean step = false

abbrev pub meets_slot : Step → Bool
meets_slot Step.PlanWrite = true
meets_slot Step.PlanClean = true
meets_slot step = false

abbrev pub is_again : Step → Bool
is_again Step.PlanRegister = true
is_again step = false

pub meets_either : (step : Step) → (step ≡ Step.PlanWrite) ⊎ (step ≡ Step.PlanClean) → meets_slot step ≡ true
meets_either step (inl h) = ap meets_slot h
meets_either step (inr h) = ap meets_slot h

pub install_moves : (v : Image) (call : Call) → IsChange (λ b. installed_at v) (λ N. installs N v) is_install call call
install_moves v call up k leaving f writer Installing place image None bit h s = absurd (never h.1)
install_moves v call up k leaving f writer Installing place image (Some c) bit h s = refl
install_moves v call up k leaving f writer Fetching ReleaseEnd image copy bit h s = absurd (never s)
install_moves v call up k leaving f writer Fetching _ image copy bit h s = absurd (never s)
install_moves v call up k leaving f writer _ place image copy bit h s = absurd (never s)

pub install_keeps : (v : Image) → IsKept (λ b. installed_at v) is_install
install_keeps v k leaving f writer Installing place image None bit p h s = absurd (never h.1)
install_keeps v k leaving f writer Installing place image (Some c) bit p h s = record { pins = p; work = (refl, h) }
install_keeps v k leaving f writer Fetching ReleaseEnd image copy bit p h s = absurd (never s)
install_keeps v k leaving f writer Fetching _ image copy bit p h s = absurd (never s)
install_keeps v k leaving f writer _ place image copy bit p h s = absurd (never s)

pub copy_written : (call : Call) → IsChange (λ b. written_at) (λ N. stands N (after_write N.step)) is_write call call
copy_written call up k leaving f writer Writing place image copy bit h s = refl
copy_written call up k leaving f writer Fetching ReleaseEnd image copy bit h s = absurd (never s)
copy_written call up k leaving f writer Fetching _ image copy bit h s = absurd (never s)
copy_written call up k leaving f writer _ place image copy bit h s = absurd (never s)

pub written_keeps : IsKept (λ b. written_at) is_write
written_keeps k leaving f writer Writing place image copy bit p h s = record { pins = p; work = (refl, h) }
written_keeps k leaving f writer Fetching ReleaseEnd image copy bit p h s = absurd (never s)
written_keeps k leaving f writer Fetching _ image copy bit p h s = absurd (never s)
written_keeps k leaving f writer _ place image copy bit p h s = absurd (never s)

pub copy_cleaned : (r n : ℕ) (call : Call) → IsChange (λ b. cleaned_at) (λ N. stands N (after_clean r n N.step)) is_clean call call
copy_cleaned r n call up k leaving f writer Cleaning place image copy bit h s = refl
copy_cleaned r n call up k leaving f writer Fetching ReleaseEnd image copy bit h s = absurd (never s)
copy_cleaned r n call up k leaving f writer Fetching _ image copy bit h s = absurd (never s)
copy_cleaned r n call up k leaving f writer _ place image copy bit h s = absurd (never s)

pub cleaned_keeps : IsKept (λ b. cleaned_at) is_clean
cleaned_keeps k leaving f writer Cleaning place image copy bit p h s = record { pins = p; work = (refl, h) }
cleaned_keeps k leaving f writer Fetching ReleaseEnd image copy bit p h s = absurd (never s)
cleaned_keeps k leaving f writer Fetching _ image copy bit p h s = absurd (never s)
cleaned_keeps k leaving f writer _ place image copy bit p h s = absurd (never s)

pub copy_lost : (page : ℕ) (call : Call) → IsChange (unslotted page) after_plan_down meets_slot call call
copy_lost page call up k leaving f writer Writing place image copy bit h s = refl
copy_lost page call up k leaving f writer Cleaning place image copy bit h s = refl
copy_lost page call up k leaving f writer Fetching ReleaseEnd image copy bit h s = absurd (never s)
copy_lost page call up k leaving f writer Fetching _ image copy bit h s = absurd (never s)
copy_lost page call up k leaving f writer _ place image copy bit h s = absurd (never s)

pub lost_keeps : (page : ℕ) → IsKept (unslotted page) meets_slot
lost_keeps page k leaving f writer Writing place image copy bit p h s = record { pins = p; work = (refl, h) }
lost_keeps page k leaving f writer Cleaning place image copy bit p h s = record { pins = p; work = (refl, h) }
lost_keeps page k leaving f writer Fetching ReleaseEnd image copy bit p h s = absurd (never s)
lost_keeps page k leaving f writer Fetching _ image copy bit p h s = absurd (never s)
lost_keeps page k leaving f writer _ place image copy bit p h s = absurd (never s)

pub entered_moves : (page : ℕ) (a : Addr) (r n : ℕ) → IsChange (entered_at page a) (λ N. answered r n N) is_again (Call.ToldRegistered (number_of a)) Call.Quiet
entered_moves page a r n up k leaving f writer Entering place image copy bit h s = refl
entered_moves page a r n up k leaving f writer Fetching ReleaseEnd image copy bit h s = absurd (never s)
entered_moves page a r n up k leaving f writer Fetching _ image copy bit h s = absurd (never s)
entered_moves page a r n up k leaving f writer _ place image copy bit h s = absurd (never s)

pub entered_keeps : (page : ℕ) (a : Addr) → IsKept (entered_at page a) is_again
entered_keeps page a k leaving f writer Entering place image copy bit p h s = record { pins = p; work = (refl, h) }
entered_keeps page a k leaving f writer Fetching ReleaseEnd image copy bit p h s = absurd (never s)
entered_keeps page a k leaving f writer Fetching _ image copy bit p h s = absurd (never s)
entered_keeps page a k leaving f writer _ place image copy bit p h s = absurd (never s)

-- ---------------- the home's answer to the invalidate

pub invalidate_moves : (done : Bool) → IsAnswer (λ b. invalidated_at done) (done_call done) takes_done
invalidate_moves true r n up k leaving f writer Invalidating place image copy bit e h s = refl
invalidate_moves false r n up k leaving f writer Invalidating place image copy bit e h s = refl
invalidate_moves true r n up k leaving f writer Fetching ReleaseEnd image copy bit e h s = absurd (never h.2)
invalidate_moves false r n up k leaving f writer Fetching ReleaseEnd image copy bit e h s = absurd (never h.2)
invalidate_moves true r n up k leaving f writer Fetching Done image copy bit e h s = absurd (never h.2)
invalidate_moves false r n up k leaving f writer Fetching Done image copy bit e h s = absurd (never h.2)
invalidate_moves true r n up k leaving f writer Releasing place image copy bit e h s = refl
invalidate_moves false r n up k leaving f writer Releasing place image copy bit e h s = refl
invalidate_moves true r n up k leaving f writer Over place image None bit e h s = refl
invalidate_moves true r n up k leaving f writer Over place image (Some c) bit e h s = refl
invalidate_moves false r n up k leaving f writer Over place image None bit e h s = refl
invalidate_moves false r n up k leaving f writer Over place image (Some c) bit e h s = refl
invalidate_moves true r n up k leaving f writer Fetching _ image copy bit e h s = absurd (never s)
invalidate_moves false r n up k leaving f writer Fetching _ image copy bit e h s = absurd (never s)
invalidate_moves true r n up k leaving f writer _ place image copy bit e h s = absurd (never s)
invalidate_moves false r n up k leaving f writer _ place image copy bit e h s = absurd (never s)

pub invalidate_keeps : (done : Bool) → IsAnswerKept (λ b. invalidated_at done) (done_call done) takes_done
invalidate_keeps true k leaving f writer Invalidating place image copy bit p h s = record { pins = p; work = (refl, h) }
invalidate_keeps false k leaving f writer Invalidating place image copy bit p h s = record { pins = p; work = (refl, h) }
invalidate_keeps true k leaving f writer Fetching ReleaseEnd image copy bit p h s = absurd (never h.2)
invalidate_keeps false k leaving f writer Fetching ReleaseEnd image copy bit p h s = absurd (never h.2)
invalidate_keeps true k leaving f writer Fetching Done image copy bit p h s = absurd (never h.2)
invalidate_keeps false k leaving f writer Fetching Done image copy bit p h s = absurd (never h.2)
invalidate_keeps true k leaving f writer Releasing place image copy bit p h s = record { pins = p; work = (refl, h) }
invalidate_keeps false k leaving f writer Releasing place image copy bit p h s = record { pins = p; work = (refl, h) }
invalidate_keeps true k leaving f writer Over place image None bit p h s = record { pins = tt; work = tt }
invalidate_keeps true k leaving f writer Over place image (Some c) bit p h s = record { pins = ap (λ (m : ℕ). m - 1) p; work = tt }
invalidate_keeps false k leaving f writer Over place image None bit p h s = record { pins = tt; work = tt }
invalidate_keeps false k leaving f writer Over place image (Some c) bit p h s = record { pins = ap (λ (m : ℕ). m - 1) p; work = tt }
invalidate_keeps true k leaving f writer Fetching _ image copy bit p h s = absurd (never s)
invalidate_keeps false k leaving f writer Fetching _ image copy bit p h s = absurd (never s)
invalidate_keeps true k leaving f writer _ place image copy bit p h s = absurd (never s)
invalidate_keeps false k leaving f writer _ place image copy bit p h s = absurd (never s)

-- ---------------- a plan begins with a page

pub plans_at : (page : ℕ) (up writer : Bool) (S : PageState) (call : Call) → S.work ≡ None → node_of up (planned_at writer page S) call ≡ stands (node_of up S call) Step.PlanLatch
plans_at page up writer S call free =
    let P : Option FetchWork → Type 0 = λ w. let T : PageState = record S { work = w } in node_of up (planned_at writer page T) call ≡ stands (node_of up T call) Step.PlanLatch in
    subst P (sym free) (by S.copy)
  where
    by : (o : Option Cached) → let T : PageState = record S { work = None; copy = o } in node_of up (planned_at writer page T) call ≡ stands (node_of up T call) Step.PlanLatch
    by None = refl
    by (Some c) = refl

pub planned_keeps : (page : ℕ) (writer : Bool) (S : PageState) → Agrees writer S → S.work ≡ None → is_some S.copy ≡ true → Agrees writer (planned_at writer page S)
planned_keeps page writer S h free there = by S.copy (subst (λ (w : Option FetchWork). PinsAgree S.copy (pins_of w)) free h.pins) there
  where
    by : (o : Option Cached) → PinsAgree o 0 → is_some o ≡ true → let T : PageState = record S { copy = o } in Agrees writer (planned_at writer page T)
    by None p t = absurd (never t)
    by (Some c) p t = record { pins = ap (λ (m : ℕ). m + 1) p; work = (refl, (refl, refl)) }
