-- Stated: two lists of events of a service, step by step.
use Rattle.std.specs.Prelude.{◌≡◌, false, List, [], ◌∷◌}
use Rattle.call_model.specs.Callers.{Label}
use Rattle.call_model.specs.Network.{Handling, Event.Fence}
use Rattle.message_network.specs.declared.calls.Ask.{Ask}
use Rattle.message_network.specs.declared.calls.Ask.TheVariants.{Register}
use Rattle.message_network.specs.declared.calls.Reply.{Reply}
use Rattle.message_network.specs.declared.calls.Reply.TheVariants.{PoolFull}
use Rattle.message_network.specs.declared.messages.Party.TheVariants.{Home}
use Rattle.message_network.specs.Service.{Service, Event, Event.Asks, Event.Delivers, Event.Turns}
use Rattle.message_network.specs.Runs.{Leads}

-- the first call of node 3
abbrev pub first_of_three : Label
first_of_three = record { node = 3; incarnation = 1; epoch = 1; number = 1 }

abbrev pub full_pool : Handling Ask Reply
full_pool = record { label = first_of_three; call = Register 7; reply = PoolFull 8 }

-- a call that comes twice, and its answer that comes twice
abbrev pub repeated : List Event
repeated = Asks 3 (Register 7) ∷ Delivers 1 ∷ Delivers 1 ∷ Delivers 2 ∷ Delivers 3 ∷ []

abbrev pub RepeatedIsHandledOnce : Type 0
RepeatedIsHandledOnce = (S : Service) × Leads Home repeated S × (S.handled ≡ full_pool ∷ []) × ((S.caller 3).waits ≡ false)

-- a call that comes after a fence is refused
abbrev pub late : List Event
late = Asks 3 (Register 7) ∷ Turns (Fence 2) ∷ Delivers 1 ∷ Delivers 2 ∷ []

abbrev pub LateIsRefused : Type 0
LateIsRefused = (S : Service) × Leads Home late S × (S.handled ≡ []) × ((S.caller 3).waits ≡ false)
