-- For the proofs: what becomes of the fetch of a plan's page as it is told of its act.
use Rattle.std.specs.Prelude.{◌≡◌, ◌<◌, ℕ, Bool, true, false, None, nat_eq, is_some, ◌&&◌, if◌then◌else◌}
use Rattle.page_image.specs.Image.{Image}
use Rattle.message_network.specs.declared.calls.Reply.{Reply}
use Rattle.node_model.specs.Call.{Call, Call.Quiet, is_of_work}
use Rattle.node_model.specs.Learning.{answer_step}
use Rattle.fetch_steps.specs.declared.acts.Action.{Action}
use Rattle.fetch_steps.specs.declared.acts.Action.TheVariants.{Finished}
use Rattle.fetch_steps.specs.declared.acts.Told.{Told}
use Rattle.fetch_steps.specs.declared.acts.Told.TheVariants.{Answer}
use Rattle.fetch_steps.specs.Fetch.{Fetch, step_of, address_of, may_hold, HasImage}
use Rattle.fetch_steps.specs.Acts.{act_of}
use Rattle.fetch_steps.specs.Telling.{call_of, learned, learned_address, settled, image_after, is_answer}
use Rattle.fetch_steps.specs.Ways.{Goes}
use Rattle.fetch_steps.specs.Work.{acts_left, obstacle_of, only_waits}
use Rattle.mini_transactions.specs.declared.stage.Stage.TheVariants.{Fetching, Latching}
use Rattle.mini_transactions.specs.declared.page_work.PageWork.{PageWork}
use Rattle.mini_transactions.specs.Hearing.{after}

-- the contract of a fetch that is told of its act
pub record FetchTold (before : Fetch) (told : Told) (now : Fetch) : Type 0 where
  pub access : (r n : ℕ) (v : Image) (call : Call) → nat_eq n r ≡ before.writer → is_of_work call ≡ false → is_answer told ≡ false → step_of now v call ≡ learned r n told (step_of before v call)
  pub answer : (r n : ℕ) (reply : Reply) (v : Image) → nat_eq n r ≡ before.writer → told ≡ Answer reply → step_of now (image_after before told v) Quiet ≡ settled (answer_step r n None (call_of reply) (step_of before v (call_of reply))) (may_hold before)
  pub address : (v : Image) (call : Call) → is_of_work call ≡ false → address_of now ≡ learned_address told (step_of before v call) (address_of before)
  pub image : (v : Image) → HasImage before v → HasImage now (image_after before told v)
  pub falls : (v : Image) → Goes before v told → acts_left now < acts_left before
  pub waits : only_waits (obstacle_of before told) ≡ true → acts_left now ≡ acts_left before
  pub page : now.page ≡ before.page
  pub writer : now.writer ≡ before.writer

-- the act of the fetch is that of its step
abbrev pub IsActOf : Fetch → Action → Type 0
IsActOf f act = (v : Image) → HasImage f v → act ≡ act_of f.page f.address (step_of f v Quiet)

abbrev pub is_over : Action → Bool
is_over Finished = true
is_over act = false

-- a page whose fetch is told of its act: with a finished fetch, the page has a copy
pub record Fetches (before : PageWork) (told : Told) (now : PageWork) : Type 0 where
  pub next : Action
  pub fetch : FetchTold before.fetch told now.fetch
  pub acts : IsActOf now.fetch next
  pub claimed : now.claimed ≡ before.claimed
  pub stage : now.stage ≡ (if is_over next && is_some now.fetch.address then Latching else Fetching)
  pub address : now.address ≡ (if is_over next && is_some now.fetch.address then now.fetch.address else before.address)

-- a page that is told of its act
pub record Hears (before : PageWork) (told : Told) (now : PageWork) : Type 0 where
  pub page : now.fetch.page ≡ before.fetch.page
  pub planned : (before.stage ≡ Fetching → ⊥) → now ≡ after before told
  pub fetched : before.stage ≡ Fetching → Fetches before told now
