-- Stated: the act that a step of a fetch asks for, and what may be told of an act.
use Rattle.std.specs.Prelude.{ℕ, Bool, true, false, Option, Err, if◌then◌else◌}
use Rattle.std.specs.Option.{option_map_or}
use Rattle.rm_base.specs.declared.places.Addr.{Addr}
use Rattle.page_latches.specs.declared.latch.Mode.TheVariants.{S, X}
use Rattle.message_network.specs.declared.calls.Reply.{Reply}
use Rattle.message_network.specs.declared.calls.Reply.TheVariants.{Registered, PoolFull, Unregistered, Started, Done, Appended, Got}
use Rattle.node_model.specs.Step.{Step, wants_s, wants_x, wants_release, wants_register}
use Rattle.fetch_steps.specs.declared.acts.Action.{Action}
use Rattle.fetch_steps.specs.declared.acts.Action.TheVariants.{Register as AskRegister, Unregister as AskUnregister, Latch as Try, Release, Look as LookUp, Read as ReadSlot, Get as AskGet, Write as WriteSlot, Clean as CleanUp, Invalidate, Install, Append, Finished}
use Rattle.fetch_steps.specs.declared.acts.Told.{Told}
use Rattle.fetch_steps.specs.declared.acts.Told.TheVariants.{Answer, Latch as Tried, Seen as Looked, Slab, Cleaned, Installed, NoAnswer}

-- an act at the page's address, which each step with such an act has
abbrev pub act_at : (Addr → Action) → Option Addr → Action
act_at act address = option_map_or act address Finished

-- the acts of the steps that neither register nor latch nor release
abbrev pub act_beside : ℕ → Option Addr → Step → Action
act_beside page address Step.Look = LookUp page
act_beside page address Step.LookAgain = LookUp page
act_beside page address Step.RwLook = LookUp page
act_beside page address Step.Read = act_at (ReadSlot page) address
act_beside page address Step.RwRead = act_at (ReadSlot page) address
act_beside page address (Step.Get floor) = AskGet page floor
act_beside page address (Step.Write v) = act_at (WriteSlot page) address
act_beside page address (Step.Clean v) = CleanUp page v.lsn
act_beside page address _ = Finished

-- the act of a step of a fetch, with the address that the node knows
abbrev pub act_of : ℕ → Option Addr → Step → Action
act_of page address step =
    if wants_register step then AskRegister page
    else (if wants_s step then Try page S
    else (if wants_x step then Try page X
    else (if wants_release step then Release page
    else act_beside page address step)))

-- the answers to a call of each kind
abbrev pub replies_register : Reply → Bool
replies_register (Registered address bit floor) = true
replies_register (PoolFull slots) = true
replies_register _ = false

abbrev pub replies_unregister : Reply → Bool
replies_unregister Unregistered = true
replies_unregister _ = false

abbrev pub replies_get : Reply → Bool
replies_get (Got got) = true
replies_get _ = false

abbrev pub replies_invalidate : Reply → Bool
replies_invalidate (Started due) = true
replies_invalidate Done = true
replies_invalidate _ = false

abbrev pub replies_append : Reply → Bool
replies_append (Appended appended) = true
replies_append _ = false

-- what may be told of a latch, of a look, of a slab's read or write, of a clean
abbrev pub tells_latch : Told → Bool
tells_latch (Tried latch) = true
tells_latch NoAnswer = true
tells_latch _ = false

abbrev pub tells_look : Told → Bool
tells_look (Looked seen) = true
tells_look NoAnswer = true
tells_look _ = false

abbrev pub tells_slab : Told → Bool
tells_slab (Slab outcome) = true
tells_slab NoAnswer = true
tells_slab _ = false

abbrev pub tells_clean : Told → Bool
tells_clean (Cleaned there) = true
tells_clean (Slab (Err why)) = true
tells_clean NoAnswer = true
tells_clean _ = false

abbrev pub tells_install : Told → Bool
tells_install Installed = true
tells_install _ = false

abbrev pub tells_call : (Reply → Bool) → Told → Bool
tells_call replies (Answer reply) = replies reply
tells_call replies _ = false

-- this may be told of the act
abbrev pub tells_of : Action → Told → Bool
tells_of (AskRegister page) told = tells_call replies_register told
tells_of (AskUnregister page) told = tells_call replies_unregister told
tells_of (Try page mode) told = tells_latch told
tells_of (Release page) told = tells_latch told
tells_of (LookUp page) told = tells_look told
tells_of (ReadSlot page address) told = tells_slab told
tells_of (AskGet page floor) told = tells_call replies_get told
tells_of (WriteSlot page address) told = tells_slab told
tells_of (CleanUp page lsn) told = tells_clean told
tells_of (Invalidate pages) told = tells_call replies_invalidate told
tells_of Install told = tells_install told
tells_of Append told = tells_call replies_append told
tells_of Finished told = false
