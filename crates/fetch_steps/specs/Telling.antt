-- Stated: what is told of an act, as a move of the law of pages.
use Rattle.std.specs.Prelude.{ℕ, Bool, true, false, Option, Some, None, Ok, Err, if◌then◌else◌}
use Rattle.rm_base.specs.declared.places.Addr.{Addr}
use Rattle.page_image.specs.Image.{Image}
use Rattle.page_latches.specs.declared.latch.Latch.TheVariants.{Granted, Busy}
use Rattle.message_model.specs.declared.Got.TheVariants.{Image as Given, NotYet}
use Rattle.message_network.specs.declared.calls.Reply.{Reply}
use Rattle.message_network.specs.declared.calls.Reply.TheVariants.{Registered, PoolFull, Unregistered, Started, Done, Appended, Got, Fenced}
use Rattle.node_model.specs.Call.{Call}
use Rattle.node_model.specs.Step.{Step, wants_s, wants_x, wants_release}
use Rattle.node_model.specs.Learning.{s_step, after_x, release_step, release_address, look_step, after_rw_look, after_look_again, after_write, after_clean, answer_address}
use Rattle.fetch_steps.specs.declared.place.Place.{Place}
use Rattle.fetch_steps.specs.declared.place.Place.TheVariants.{Get as AtGet}
use Rattle.message_network.specs.declared.looks.Seen.{Seen}
use Rattle.fetch_steps.specs.declared.acts.Told.{Told}
use Rattle.fetch_steps.specs.declared.acts.Told.TheVariants.{Answer, Latch as Tried, Seen as Looked, Slab, Cleaned, Installed, NoAnswer}
use Rattle.fetch_steps.specs.Fetch.{Fetch, number_of}

-- an answer as what the law says is handled and not accepted yet; the answers that no fetch or plan of a page waits for are none
abbrev pub call_of : Reply → Call
call_of (Registered address bit floor) = Call.ToldRegistered (number_of address)
call_of (PoolFull slots) = Call.ToldFull
call_of Unregistered = Call.ToldUnregistered
call_of (Started due) = Call.ToldStarted
call_of Done = Call.ToldDone
call_of (Appended appended) = Call.Quiet
call_of (Got (Given v)) = Call.ToldImage v
call_of (Got (NotYet applied)) = Call.ToldNotYet
call_of (Fenced epoch) = Call.Quiet

-- a look where the home has no entry shows bit 1 and no address
abbrev pub shown : Option Seen → Seen
shown (Some seen) = seen
shown None = record { addr = None; bit = true; lsn = 0; floor = 0 }

-- a try was granted, or a release was made. That the node has a copy to use is said apart
abbrev pub after_latch : Step → Step
after_latch step =
    if wants_s step then s_step step None true
    else (if wants_x step then after_x step
    else (if wants_release step then release_step step
    else step))

-- of the second look: without an address the latch is to go, and the address with it
abbrev pub after_second_look : ℕ → ℕ → Option Addr → Seen → Step
after_second_look r n None seen = Step.ReleaseDown
after_second_look r n (Some address) seen = after_look_again r n seen.bit seen.floor

abbrev pub after_seen : ℕ → ℕ → Seen → Step → Step
after_seen r n seen Step.Look = look_step seen.bit
after_seen r n seen Step.RwLook = after_rw_look seen.bit
after_seen r n seen Step.LookAgain = after_second_look r n seen.addr seen
after_seen r n seen step = step

-- the slot was read or written
abbrev pub after_slab : Step → Step
after_slab Step.Read = Step.Held
after_slab Step.RwRead = Step.Idle
after_slab (Step.Write v) = after_write (Step.Write v)
after_slab step = step

-- the slab is down, or has another incarnation
abbrev pub after_slab_down : Step → Step
after_slab_down Step.Read = Step.ReleaseDown
after_slab_down Step.RwRead = Step.Register
after_slab_down (Step.Write v) = Step.ReleaseDown
after_slab_down (Step.Clean v) = Step.ReleaseDown
after_slab_down step = step

abbrev pub after_cleaned : ℕ → ℕ → Bool → Step → Step
after_cleaned r n true (Step.Clean v) = after_clean r n (Step.Clean v)
after_cleaned r n false (Step.Clean v) = Step.ReleaseDown
after_cleaned r n there step = step

-- what a node n learns of an access, where r is the RW
abbrev pub learned : ℕ → ℕ → Told → Step → Step
learned r n (Answer reply) step = step
learned r n (Tried Granted) step = after_latch step
learned r n (Tried (Busy holders)) step = step
learned r n (Looked seen) step = after_seen r n (shown seen) step
learned r n (Slab (Ok u)) step = after_slab step
learned r n (Slab (Err why)) step = after_slab_down step
learned r n (Cleaned there) step = after_cleaned r n there step
learned r n Installed step = step
learned r n NoAnswer step = step

-- the RW forgets the address at once where its read met a slab that is down; else it goes with the latch
abbrev pub address_after_down : Step → Option ℕ → Option ℕ
address_after_down Step.RwRead address = None
address_after_down step address = address

abbrev pub learned_address : Told → Step → Option ℕ → Option ℕ
learned_address (Answer reply) step address = answer_address (call_of reply) address
learned_address (Tried Granted) step address = release_address step address
learned_address (Slab (Err why)) step address = address_after_down step address
learned_address _ step address = address

-- a given-up fetch that can hold no latch has nothing to release
abbrev pub settled : Step → Bool → Step
settled Step.ReleaseEnd false = release_step Step.ReleaseEnd
settled step may_hold = step

-- the image that storage gave, after what is told
abbrev pub image_in : Told → Image → Image
image_in (Answer (Got (Given v))) before = v
image_in _ before = before

abbrev pub image_at : Place → Told → Image → Image
image_at AtGet told before = image_in told before
image_at _ told before = before

abbrev pub image_after : Fetch → Told → Image → Image
image_after f told before = image_at f.place told before

abbrev pub is_answer : Told → Bool
is_answer (Answer reply) = true
is_answer _ = false

-- the node has a copy that it may use: once S is granted, or of the RW once it knows the address
abbrev pub with_copy : Step → Step
with_copy Step.Look = Step.Held
with_copy Step.RwLook = Step.Idle
with_copy step = step
