-- Stated: three lists of events that do something, as the laws speak of them.
use Rattle.std.specs.Prelude.{◌≡◌, ℕ, false, List, [], ◌∷◌}
use Rattle.call_model.specs.Callers.{Label}
use Rattle.call_model.specs.Network.{Message.ask, Message.answer, Message.refusal, Handling, Network, Event, Event.Ask, Event.Deliver, Event.Crash, Event.Kick, Event.Restart, Event.Rejoin, Event.Fence}
use Rattle.call_model.specs.Laws.{Reaches}

-- the first call of node 3, in incarnation i and epoch e with number k
abbrev pub of_three : (i e k : ℕ) → Label
of_three i e k = record { node = 3; incarnation = i; epoch = e; number = k }

abbrev pub handling : Label → (call reply : ℕ) → Handling ℕ ℕ
handling l q r = record { label = l; call = q; reply = r }

-- a call that comes twice, and its answer that comes twice
abbrev pub repeated : List (Event ℕ ℕ)
repeated =
    Ask 3 70 ∷ Deliver (ask (of_three 1 1 1) 70) ∷ Deliver (ask (of_three 1 1 1) 70)
    ∷ Deliver (answer (of_three 1 1 1) 9) ∷ Deliver (answer (of_three 1 1 1) 9) ∷ []

abbrev pub RepeatedIsHandledOnce : Type 0
RepeatedIsHandledOnce = (N : Network ℕ ℕ) × Reaches repeated N
    × (N.handled ≡ handling (of_three 1 1 1) 70 9 ∷ []) × ((N.caller 3).waits ≡ false)

-- a call whose node goes down is handled until the kick, and no longer; the node comes back and asks again
abbrev pub orphaned : List (Event ℕ ℕ)
orphaned =
    Ask 3 70 ∷ Crash 3 ∷ Deliver (ask (of_three 1 1 1) 70) ∷ Kick 3 ∷ Deliver (ask (of_three 1 1 1) 70)
    ∷ Restart 3 1 ∷ Deliver (answer (of_three 1 1 1) 9) ∷ Ask 3 71
    ∷ Deliver (ask (of_three 2 1 2) 71) ∷ Deliver (answer (of_three 2 1 2) 8) ∷ []

abbrev pub OrphanedIsHandledOnce : Type 0
OrphanedIsHandledOnce = (N : Network ℕ ℕ) × Reaches orphaned N
    × (N.handled ≡ handling (of_three 2 1 2) 71 8 ∷ handling (of_three 1 1 1) 70 9 ∷ []) × ((N.caller 3).waits ≡ false)

-- a call that comes after a fence is refused, and the node rejoins
abbrev pub refused : List (Event ℕ ℕ)
refused =
    Ask 3 70 ∷ Fence 2 ∷ Deliver (ask (of_three 1 1 1) 70) ∷ Deliver (refusal (of_three 1 1 1) 2) ∷ Rejoin 3 2 ∷ []

abbrev pub RefusedIsNotHandled : Type 0
RefusedIsNotHandled = (N : Network ℕ ℕ) × Reaches refused N × (N.handled ≡ []) × ((N.caller 3).epoch ≡ 2)
