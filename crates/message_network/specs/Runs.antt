-- Stated: at most once, over every list of sends, deliveries, fences and renewals.
use Rattle.std.specs.Prelude.{◌≡◌, ◌<◌, ◌≤◌, true, List}
use Rattle.std.specs.List.{Contains}
use Rattle.call_model.specs.Callers.{Label}
use Rattle.call_model.specs.Network.{Message.ask, Handling, Event as Seen, new_network, Run as CallsRun}
use Rattle.call_model.specs.Stages.{Effect, After}
use Rattle.call_model.specs.Laws.{AreRising, stage_of}
use Rattle.message_network.specs.declared.calls.Ask.{Ask}
use Rattle.message_network.specs.declared.calls.Reply.{Reply}
use Rattle.message_network.specs.declared.calls.Reply.TheVariants.{Registered, PoolFull, Unregistered, Started, Done, Appended, Got, Fenced}
use Rattle.message_network.specs.declared.messages.Party.{Party}
use Rattle.message_network.specs.declared.messages.Body.TheVariants.{Reply as Replied}
use Rattle.message_network.specs.declared.messages.Draft.{Draft}
use Rattle.message_network.specs.Labels.{label_of, messages_of, same_party}
use Rattle.message_network.specs.Service.{Service, new_service, network_of, Event, Does, Run}

-- a list of events leads from the new service of server s to S
abbrev pub Leads : Party → List Event → Service → Type 0
Leads s events S = Run s new_service events S

-- the service is a network of the model of calls, which some list of its events leads to
abbrev pub AreRunsOfCalls : Type 0
AreRunsOfCalls = (s : Party) (events : List Event) (S : Service) → Leads s events S
    → (seen : List (Seen Ask Reply)) × CallsRun new_network seen (network_of s S)

-- each event is one step of one node's call or none, or ends calls
abbrev pub AreCallSteps : Type 0
AreCallSteps = (s : Party) (events : List Event) (S T : Service) (e : Event) → Leads s events S → Does s e S T
    → (f : Effect Ask Reply) × After f (stage_of (network_of s S)) (stage_of (network_of s T))

-- each call number of a node's incarnation is handled at most once, in rising order
abbrev pub HandledOnce : Type 0
HandledOnce = (s : Party) (events : List Event) (S : Service) → Leads s events S → AreRising S.handled

-- what is handled is a call that was asked
abbrev pub HandledWereAsked : Type 0
HandledWereAsked = (s : Party) (events : List Event) (S : Service) → Leads s events S
    → (h : Handling Ask Reply) → Contains S.handled h → Contains (messages_of s S.drafts) (ask h.label h.call)

abbrev pub WasHandled : Service → Label → Reply → Type 0
WasHandled S l r = (q : Ask) × Contains S.handled (record { label = l; call = q; reply = r })

-- the reply is the one of its call's handling, or Fenced of a server whose epoch is past the call's
abbrev pub IsRight : Service → Label → Reply → Type 0
IsRight S l (Registered a b f) = WasHandled S l (Registered a b f)
IsRight S l (PoolFull n) = WasHandled S l (PoolFull n)
IsRight S l Unregistered = WasHandled S l Unregistered
IsRight S l (Started n) = WasHandled S l (Started n)
IsRight S l Done = WasHandled S l Done
IsRight S l (Appended a) = WasHandled S l (Appended a)
IsRight S l (Got g) = WasHandled S l (Got g)
IsRight S l (Fenced e) = (l.epoch < e) × (e ≤ S.server.epoch)

-- each reply that the server ever sent is right, so each that a caller accepts is
abbrev pub RepliesAreRight : Type 0
RepliesAreRight = (s : Party) (events : List Event) (S : Service) → Leads s events S
    → (d : Draft) (r : Reply) → Contains S.drafts d → d.body ≡ Replied r → same_party d.from s ≡ true
    → IsRight S (label_of d) r
