-- Stated: what a plan's page learns of what it is told, as moves of the law of pages.
use Rattle.std.specs.Prelude.{ℕ, Bool, true, false, Option, Some, None, Ok, Err}
use Rattle.rm_base.specs.declared.places.Addr.{Addr}
use Rattle.page_image.specs.Image.{Image}
use Rattle.page_latches.specs.declared.latch.Latch.TheVariants.{Granted, Busy}
use Rattle.node_model.specs.Call.{Call}
use Rattle.node_model.specs.Step.{Step}
use Rattle.node_model.specs.Learning.{after_write, after_clean, answer_step}
use Rattle.fetch_steps.specs.declared.acts.Action.{Action}
use Rattle.fetch_steps.specs.declared.acts.Action.TheVariants.{Finished}
use Rattle.fetch_steps.specs.declared.acts.Told.{Told}
use Rattle.fetch_steps.specs.declared.acts.Told.TheVariants.{Answer, Latch as Tried, Seen as Looked, Slab, Cleaned, Installed, NoAnswer}
use Rattle.fetch_steps.specs.Acts.{act_of}
use Rattle.fetch_steps.specs.Telling.{after_latch}
use Rattle.mini_transactions.specs.Telling.{address_in}
use Rattle.mini_transactions.specs.Work.{written_at}

-- the slot was written
abbrev pub after_slab : Step → Step
after_slab Step.PlanWrite = after_write Step.PlanWrite
after_slab step = step

-- the slot is lost: the page is registered again
abbrev pub after_slab_down : Step → Step
after_slab_down Step.PlanWrite = Step.PlanRegister
after_slab_down Step.PlanClean = Step.PlanRegister
after_slab_down step = step

-- the home was told that the slot holds the latest image; without an entry the page is registered again
abbrev pub after_cleaned : ℕ → ℕ → Bool → Step → Step
after_cleaned r n true Step.PlanClean = after_clean r n Step.PlanClean
after_cleaned r n false Step.PlanClean = Step.PlanRegister
after_cleaned r n there step = step

-- the group was applied to the copy
abbrev pub after_install : Option Addr → Step → Step
after_install address Step.PlanInstall = written_at address
after_install address step = step

-- what a node n learns of an access to a page with this address, past its fetch, where r is the RW
abbrev pub learned : ℕ → ℕ → Told → Option Addr → Step → Step
learned r n (Answer reply) address step = step
learned r n (Tried Granted) address step = after_latch step
learned r n (Tried (Busy holders)) address step = step
learned r n (Looked seen) address step = step
learned r n (Slab (Ok u)) address step = after_slab step
learned r n (Slab (Err why)) address step = after_slab_down step
learned r n (Cleaned there) address step = after_cleaned r n there step
learned r n Installed address step = after_install address step
learned r n NoAnswer address step = step

-- the address that the node keeps of a page past its fetch: a slot that is lost is forgotten
abbrev pub address_lost : Step → Option Addr → Option Addr
address_lost Step.PlanWrite address = None
address_lost Step.PlanClean address = None
address_lost step address = address

abbrev pub address_uncleaned : Step → Option Addr → Option Addr
address_uncleaned Step.PlanClean address = None
address_uncleaned step address = address

abbrev pub address_told : Option Addr → Option Addr → Option Addr
address_told None address = address
address_told (Some told) address = Some told

abbrev pub learned_address : Told → Step → Option Addr → Option Addr
learned_address (Answer reply) step address = address_told (address_in reply) address
learned_address (Slab (Err why)) step address = address_lost step address
learned_address (Cleaned false) step address = address_uncleaned step address
learned_address told step address = address

-- whether the latch of a page past its fetch is held, or its last try was lost or unseen
abbrev pub latch_granted : Step → Bool → Bool
latch_granted Step.PlanLatch held = true
latch_granted Step.PlanRelease held = false
latch_granted Step.ReleaseEnd held = false
latch_granted step held = held

abbrev pub latch_tried : Bool → Step → Bool → Bool
latch_tried unseen Step.PlanLatch held = unseen
latch_tried unseen step held = held

abbrev pub learned_latch : Told → Step → Bool → Bool
learned_latch (Tried Granted) step held = latch_granted step held
learned_latch (Tried (Busy holders)) step held = latch_tried false step held
learned_latch NoAnswer step held = latch_tried true step held
learned_latch told step held = held

-- a page that is registered and has a copy is latched next
abbrev pub begins : Step → Step
begins Step.Idle = Step.PlanLatch
begins step = step

-- an answer to the call of a page with the copy v, past its fetch
abbrev pub answered : ℕ → ℕ → Image → Call → Step → Step
answered r n v call Step.PlanMake = begins (answer_step r n (Some v) call Step.PlanMake)
answered r n v call Step.Register = begins (answer_step r n (Some v) call Step.Register)
answered r n v call step = answer_step r n (Some v) call step

-- a page whose fetch asks for nothing more, and whose address is known, is latched next
abbrev pub goes_on_to : Option Addr → Step → Action → Step
goes_on_to (Some address) step Finished = Step.PlanLatch
goes_on_to address step act = step

-- where a fetch stands that came to this step
abbrev pub goes_on : ℕ → Option Addr → Step → Step
goes_on page address step = goes_on_to address step (act_of page address step)
