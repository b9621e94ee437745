-- Stated: what a plan reads in what it is told.
use Rattle.std.specs.Prelude.{Bool, true, false, Option, Some, None}
use Rattle.rm_base.specs.declared.places.Addr.{Addr}
use Rattle.message_network.specs.declared.calls.Reply.{Reply}
use Rattle.message_network.specs.declared.calls.Reply.TheVariants.{Registered, Done}

-- the page was registered, and has this address
abbrev pub address_in : Reply → Option Addr
address_in (Registered address bit floor) = Some address
address_in reply = None

-- no other node has a fresh copy of the plan's pages
abbrev pub is_done : Reply → Bool
is_done Done = true
is_done reply = false
