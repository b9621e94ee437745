-- Stated: two lists of events that do something, as the laws speak of them.
use Rattle.std.specs.Prelude.{◌≡◌, ℕ, true, false, List, [], ◌∷◌, length}
use Rattle.page_coherence.specs.Moves.{Move.Begin}
use Rattle.page_coherence.specs.Mode.{Mode.Normal}
use Rattle.page_coherence.specs.Cluster.{Event.Act}
use Rattle.call_model.specs.Callers.{Label}
use Rattle.call_model.specs.Network.{Message, Message.ask, Event.Crash as CrashCaller, Event.Kick as KickCaller}
use Rattle.redo_durability.specs.Machine.{Phase.Open}
use Rattle.pool_laws.specs.Calls.{HomeCall, HomeCall.RegisterPage, HomeAnswer, only}
use Rattle.pool_laws.specs.Pool.{Pool}
use Rattle.pool_laws.specs.Events.{Event, Event.Work, Event.SendRegister, Event.DeliverHome, Event.Crash, Event.Kick, Event.Restart, Event.Rejoin, Event.CrashHome, Event.Renew, Event.Fence, Event.Tail, Event.Sweep, Run, start}

abbrev pub itself : ℕ → ℕ
itself n = n

-- node 1's first call
abbrev pub first : Label
first = record { node = 1; incarnation = 1; epoch = 1; number = 1 }

abbrev pub registers : Message HomeCall HomeAnswer
registers = ask first (RegisterPage 7)

-- node 1 asks for page 7 and goes down; its call is handled, the node is kicked, the call comes again, and the node
-- comes back
abbrev pub late_register : List (Event ℕ)
late_register =
    Work (Act 1 (only 7) (λ p. Begin)) ∷ SendRegister 1 7 ∷ Crash 1 ∷ DeliverHome registers
    ∷ Kick 1 ∷ DeliverHome registers ∷ Restart 1 1 ∷ []

-- the page has an entry, to which the node does not refer, and one call was handled
abbrev pub LateRegisterIsHandledOnce : Type 0
LateRegisterIsHandledOnce = (x : Pool ℕ) × Run itself (start itself 0 [] (λ p. [])) late_register x
    × ((x.pages.page 7).entry.there ≡ true) × ((x.pages.page 7).entry.refs 1 ≡ false) × (length x.home.handled ≡ 1)

-- the home goes down and begins anew; node 1 comes back, takes over and is the RW
abbrev pub renewed_home : List (Event ℕ)
renewed_home =
    CrashHome ∷ Renew (λ a. false) 2 (CrashCaller 0 ∷ CrashCaller 1 ∷ []) (CrashCaller 0 ∷ KickCaller 0 ∷ CrashCaller 1 ∷ KickCaller 1 ∷ [])
    ∷ Restart 1 2 ∷ Fence 3 ∷ Tail ∷ Sweep 1 ∷ Rejoin 1 3 ∷ []

abbrev pub RenewedHomeHasARw : Type 0
RenewedHomeHasARw = (x : Pool ℕ) × Run itself (start itself 0 [] (λ p. [])) renewed_home x
    × (x.pages.mode ≡ Normal) × (x.pages.rw ≡ 1) × (((x.pages.page 7).node 1).up ≡ true) × (x.log.phase ≡ Open)
