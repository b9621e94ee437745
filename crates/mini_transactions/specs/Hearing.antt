-- For the proofs: what a page of a plan becomes as it is told of its act, past its fetch.
use Rattle.std.specs.Prelude.{ℕ, Bool, true, false, Option, Some, None, Result, Ok, Err}
use Rattle.rm_base.specs.declared.places.Addr.{Addr}
use Rattle.page_latches.specs.declared.latch.Latch.{Latch}
use Rattle.page_latches.specs.declared.latch.Latch.TheVariants.{Granted, Busy}
use Rattle.message_network.specs.declared.calls.Reply.{Reply}
use Rattle.slab_node.specs.declared.slab.SlabNo.{SlabNo}
use Rattle.fetch_steps.specs.declared.acts.Action.{Action}
use Rattle.fetch_steps.specs.declared.acts.Action.TheVariants.{Register as AskRegister, Write as WriteSlot}
use Rattle.fetch_steps.specs.declared.acts.Told.{Told}
use Rattle.fetch_steps.specs.declared.acts.Told.TheVariants.{Answer, Latch as Tried, Seen as Looked, Slab, Cleaned, Installed, NoAnswer}
use Rattle.mini_transactions.specs.declared.stage.Stage.{Stage}
use Rattle.mini_transactions.specs.declared.stage.Stage.TheVariants.{Making, Registering, Fetching, Latching, Invalidating, Installing, Writing, Cleaning, Releasing, Quitting, Ended}
use Rattle.mini_transactions.specs.declared.page_work.PageWork.{PageWork}
use Rattle.mini_transactions.specs.Telling.{address_in, is_done}

-- the page was registered
abbrev pub stage_registered : Stage → Stage
stage_registered Making = Latching
stage_registered Registering = Latching
stage_registered stage = stage

abbrev pub registered : PageWork → Addr → PageWork
registered w address = record w { address = Some address; stage = stage_registered w.stage }

abbrev pub registered_in : PageWork → Option Addr → PageWork
registered_in w None = w
registered_in w (Some address) = registered w address

abbrev pub stage_done : Stage → Stage
stage_done Invalidating = Installing
stage_done stage = stage

abbrev pub done_in : PageWork → Bool → PageWork
done_in w true = record w { stage = stage_done w.stage }
done_in w false = w

abbrev pub answered : PageWork → Reply → PageWork
answered w reply = done_in (registered_in w (address_in reply)) (is_done reply)

-- a try was granted, or a release made
abbrev pub stage_granted : Stage → Stage
stage_granted Latching = Invalidating
stage_granted Releasing = Ended
stage_granted stage = stage

abbrev pub claim_granted : Stage → Bool → Bool
claim_granted Latching claimed = true
claim_granted Releasing claimed = false
claim_granted Quitting claimed = false
claim_granted stage claimed = claimed

abbrev pub claim_refused : Stage → Bool → Bool
claim_refused Latching claimed = false
claim_refused stage claimed = claimed

abbrev pub granted : PageWork → PageWork
granted w = record w { stage = stage_granted w.stage; claimed = claim_granted w.stage w.claimed }

abbrev pub refused : PageWork → PageWork
refused w = record w { claimed = claim_refused w.stage w.claimed }

abbrev pub tried : PageWork → Latch → PageWork
tried w Granted = granted w
tried w (Busy holders) = refused w

-- the slot was written
abbrev pub stage_written : Stage → Option Addr → Stage
stage_written Writing (Some address) = Cleaning
stage_written stage address = stage

abbrev pub written : PageWork → PageWork
written w = record w { stage = stage_written w.stage w.address }

-- the slot is lost
abbrev pub stage_lost : Stage → Stage
stage_lost Cleaning = Writing
stage_lost stage = stage

abbrev pub address_lost : Stage → Option Addr → Option Addr
address_lost Writing address = None
address_lost Cleaning address = None
address_lost stage address = address

abbrev pub lost : PageWork → PageWork
lost w = record w { stage = stage_lost w.stage; address = address_lost w.stage w.address }

abbrev pub served : PageWork → Result (Unit {0}) SlabNo → PageWork
served w (Ok u) = written w
served w (Err why) = lost w

-- the home was told that the slot holds the latest image, if it has an entry of the page
abbrev pub stage_cleaned : Stage → Bool → Stage
stage_cleaned Cleaning true = Releasing
stage_cleaned Cleaning false = Writing
stage_cleaned stage there = stage

abbrev pub address_cleaned : Stage → Bool → Option Addr → Option Addr
address_cleaned Cleaning false address = None
address_cleaned stage there address = address

abbrev pub cleaned : PageWork → Bool → PageWork
cleaned w there = record w { stage = stage_cleaned w.stage there; address = address_cleaned w.stage there w.address }

abbrev pub stage_installed : Stage → Stage
stage_installed Installing = Writing
stage_installed stage = stage

abbrev pub installed : PageWork → PageWork
installed w = record w { stage = stage_installed w.stage }

-- nothing is known of the access
abbrev pub claim_missed : Stage → Bool → Bool
claim_missed Latching claimed = true
claim_missed stage claimed = claimed

abbrev pub missed : PageWork → PageWork
missed w = record w { claimed = claim_missed w.stage w.claimed }

-- what is told of an act of the plan
abbrev pub after : PageWork → Told → PageWork
after w (Answer reply) = answered w reply
after w (Tried latch) = tried w latch
after w (Looked seen) = w
after w (Slab outcome) = served w outcome
after w (Cleaned there) = cleaned w there
after w Installed = installed w
after w NoAnswer = missed w

-- the plan is given up
abbrev pub claim_quit : Stage → Bool → Bool → Bool
claim_quit Fetching of_fetch claimed = of_fetch
claim_quit stage of_fetch claimed = claimed

abbrev pub quit : PageWork → Bool → PageWork
quit w of_fetch = record w { stage = Quitting; claimed = claim_quit w.stage of_fetch w.claimed }

-- the act at the page's slot
abbrev pub act_at_slot : ℕ → Option Addr → Action
act_at_slot page None = AskRegister page
act_at_slot page (Some address) = WriteSlot page address

abbrev pub act_to_write : PageWork → Action
act_to_write w = act_at_slot w.fetch.page w.address
