-- Stated: what a plan becomes as it is told of its act, page by page.
use Rattle.std.specs.Prelude.{◌≡◌, ◌<◌, ℕ, true, false, None, MatchOption, is_some, nat_eq}
use Rattle.std.specs.Option.{option_map, option_map_or}
use Rattle.page_image.specs.Image.{Image}
use Rattle.message_network.specs.declared.calls.Reply.{Reply}
use Rattle.node_model.specs.Call.{Call, Call.Quiet, is_of_work}
use Rattle.node_model.specs.Step.{Step}
use Rattle.node_model.specs.Node.{Node}
use Rattle.node_model.specs.Learning.{answer_step, gives_up}
use Rattle.fetch_steps.specs.declared.acts.Told.{Told}
use Rattle.fetch_steps.specs.declared.acts.Told.TheVariants.{Answer}
use Rattle.fetch_steps.specs.Fetch.{number_of}
use Rattle.fetch_steps.specs.Telling.{call_of, learned as fetch_learned, learned_address as fetch_learned_address, settled, is_answer, image_after as fetch_image_after}
use Rattle.mini_transactions.specs.Progress.{Progress, work_of, step_of, address_of, may_hold, fetches, acts_on, is_installed, HasPageImage}
use Rattle.mini_transactions.specs.ActsLeft.{acts_left, Differ, Goes}
use Rattle.mini_transactions.specs.Moves.{learned, learned_address, learned_latch, answered, goes_on}

-- the image that storage gave to the fetch of page p, after what is told
abbrev pub image_after : Progress → ℕ → Told → Image → Image
image_after m p told v = option_map_or (λ w. fetch_image_after w.fetch told v) (work_of m p) v

-- that image is the one whose LSN the home will be told
abbrev pub HasImageOf : Progress → ℕ → Image → Type 0
HasImageOf m p v = MatchOption (work_of m p) (Unit {0}) (λ w. HasPageImage w v)

-- each page of the plan is at the install, with its latch
abbrev pub AllInstall : Progress → Type 0
AllInstall m = (p : ℕ) (v : Image) (call : Call) → is_some (work_of m p) ≡ true → (step_of m p v call ≡ Step.PlanInstall) × (may_hold m p ≡ true)

-- nothing is left to do of any page
abbrev pub AllEnded : Progress → Type 0
AllEnded m = (p : ℕ) (v : Image) (call : Call) → step_of m p v call ≡ Step.Idle

-- a plan is told of its act. Here r is the number of the RW and n that of the node, v is an image, and call is the node's
-- call about the page
pub record Tells (before : Progress) (told : Told) (now : Progress) : Type 0 where
  pub plan : now.plan ≡ before.plan
  pub lsn : now.lsn ≡ before.lsn
  -- a plan whose group is installed stays so
  pub installed : is_installed before ≡ true → is_installed now ≡ true
  -- what is told of the act that is next leaves fewer acts, where it is no obstacle
  pub falls : (v : Image) → Differ before.plan.pages → Goes before v told → acts_left now < acts_left before
  -- the pages that take no part in the act stay where they are
  pub others : (p : ℕ) → acts_on before p ≡ false → work_of now p ≡ work_of before p
  -- a page past its fetch moves as the law of pages says
  pub access : (r n p : ℕ) (v : Image) (call : Call) → acts_on before p ≡ true → fetches before p ≡ false → is_of_work call ≡ false → is_answer told ≡ false
      → step_of now p v call ≡ learned r n told (address_of before p) (step_of before p v call)
  pub answer : (r n p : ℕ) (reply : Reply) (v : Image) → nat_eq n r ≡ true → acts_on before p ≡ true → fetches before p ≡ false → told ≡ Answer reply
      → step_of now p v Quiet ≡ settled (answered r n v (call_of reply) (step_of before p v (call_of reply))) (may_hold before p)
  pub address : (p : ℕ) (v : Image) → acts_on before p ≡ true → fetches before p ≡ false → address_of now p ≡ learned_address told (step_of before p v Quiet) (address_of before p)
  pub latch : (p : ℕ) (v : Image) → acts_on before p ≡ true → fetches before p ≡ false → may_hold now p ≡ learned_latch told (step_of before p v Quiet) (may_hold before p)
  -- a page that is fetched moves as its fetch, and goes on to the plan where the fetch is over
  pub fetch_access : (r n p : ℕ) (v : Image) (call : Call) → nat_eq n r ≡ true → acts_on before p ≡ true → fetches before p ≡ true → HasImageOf before p v → is_of_work call ≡ false → is_answer told ≡ false
      → step_of now p v call ≡ goes_on p (address_of now p) (fetch_learned r n told (step_of before p v call))
  pub fetch_answer : (r n p : ℕ) (reply : Reply) (v : Image) → nat_eq n r ≡ true → acts_on before p ≡ true → fetches before p ≡ true → HasImageOf before p v → told ≡ Answer reply
      → step_of now p (image_after before p told v) Quiet
      ≡ goes_on p (address_of now p) (settled (answer_step r n None (call_of reply) (step_of before p v (call_of reply))) (may_hold before p))
  pub fetch_address : (p : ℕ) (v : Image) (call : Call) → acts_on before p ≡ true → fetches before p ≡ true → is_of_work call ≡ false
      → option_map number_of (address_of now p) ≡ fetch_learned_address told (step_of before p v call) (option_map number_of (address_of before p))

-- a plan is given up: each page's step is what the law gives up, and at once free where no latch may be held
pub record GivesUp (before now : Progress) : Type 0 where
  pub plan : now.plan ≡ before.plan
  pub lsn : now.lsn ≡ before.lsn
  pub step : (p : ℕ) (v : Image) (N : Node) → is_some (work_of before p) ≡ true → step_of now p v N.call ≡ settled (gives_up N).step (may_hold before p)
  -- a latch that may be held is to be released
  pub latch : (p : ℕ) → may_hold now p ≡ may_hold before p
