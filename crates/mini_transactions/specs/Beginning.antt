-- Stated: where a plan begins with each of its pages.
use Rattle.std.specs.Prelude.{◌≡◌, ◌<◌, ℕ, Bool, false, true, Option, List, length, slice_index_or, is_some, nat_eq, if◌then◌else◌}
use Rattle.std.specs.List.{list_any}
use Rattle.rm_base.specs.declared.places.Addr.{Addr}
use Rattle.page_image.specs.Image.{Image}
use Rattle.redo_record.specs.declared.plans.Plan.{Plan}
use Rattle.node_model.specs.Call.{Call.Quiet}
use Rattle.node_model.specs.Learning.{begin_step}
use Rattle.fetch_steps.specs.Fetch.{step_of, address_of, may_hold}
use Rattle.fetch_steps.specs.Work.{acts_left, acts_from_start}
use Rattle.mini_transactions.specs.declared.known.KnownPage.{KnownPage}
use Rattle.mini_transactions.specs.declared.stage.Stage.{Stage}
use Rattle.mini_transactions.specs.declared.stage.Stage.TheVariants.{Making, Registering, Fetching, Latching}
use Rattle.mini_transactions.specs.declared.page_work.PageWork.{PageWork}

-- a page with a copy
abbrev pub stage_with_copy : Bool → Stage
stage_with_copy has_address = if has_address then Latching else Registering

-- a page that the plan makes is fetched nowhere, and neither is one with a copy
abbrev pub first_stage : Bool → Bool → Bool → Stage
first_stage made copy has_address =
    if made then (if has_address then Latching else Making)
    else (if copy then stage_with_copy has_address else Fetching)

-- a plan begins with a page of which the node knows this address, or none, and perhaps has a copy
pub record Begins (page : ℕ) (made copy : Bool) (address : Option Addr) (w : PageWork) : Type 0 where
  pub number : w.fetch.page ≡ page
  pub stage : w.stage ≡ first_stage made copy (is_some address)
  pub place : w.address ≡ address
  pub claimed : w.claimed ≡ false
  pub fetch : (r n : ℕ) (v : Image) → nat_eq n r ≡ true → step_of w.fetch v Quiet ≡ begin_step r n (address_of w.fetch)
  pub slot : w.fetch.address ≡ address
  pub writer : w.fetch.writer ≡ true
  pub free : may_hold w.fetch ≡ false
  pub left : acts_left w.fetch ≡ acts_from_start true address

-- the plan makes the page
abbrev pub makes : Plan → ℕ → Bool
makes plan p = list_any (λ q. nat_eq q p) plan.made

-- the plan begins with each of its pages, in its order
abbrev pub AllBegin : Plan → List KnownPage → List PageWork → Type 0
AllBegin plan known works = (k : ℕ) → k < length works → (p : ℕ) (page : KnownPage) (w : PageWork) → Begins (slice_index_or plan.pages k p) (makes plan (slice_index_or plan.pages k p)) (slice_index_or known k page).copy (slice_index_or known k page).addr (slice_index_or works k w)
