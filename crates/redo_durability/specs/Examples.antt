-- Stated: two lists of events that do something, as the laws speak of them. A group is here its number of bytes.
use Rattle.std.specs.Prelude.{◌≡◌, ℕ, List, [], ◌∷◌}
use Rattle.redo_durability.specs.Machine.{Phase.Open, State, Event, Event.Install, Event.Send, Event.Handle, Event.Late, Event.Accept, Event.Crash, Event.Fence, Event.Tail, Event.Sweep}
use Rattle.redo_durability.specs.Laws.{Reaches}

abbrev pub itself : ℕ → ℕ
itself n = n

-- the RW goes down with an acknowledged group, one in flight that arrives late, and one in its buffer that is lost
abbrev pub taken_over : List (Event ℕ)
taken_over =
    Install 10 ∷ Send ∷ Install 20 ∷ Handle ∷ Accept ∷ Send ∷ Install 30 ∷ Crash ∷ Handle
    ∷ Fence 2 ∷ Late 1 30 (30 ∷ []) ∷ Tail ∷ Sweep ∷ Install 40 ∷ Send ∷ Handle ∷ Accept ∷ []

abbrev pub TakenOverIsDurable : Type 0
TakenOverIsDurable = (s : State ℕ) × Reaches itself [] taken_over s
    × (s.phase ≡ Open) × (s.store.groups ≡ 10 ∷ 20 ∷ 40 ∷ [])
    × (s.made ≡ s.store.groups) × (s.acknowledged ≡ s.store.groups)

-- an append that reaches the store after the fence alone is lost with its RW
abbrev pub too_late : List (Event ℕ)
too_late = Install 10 ∷ Send ∷ Crash ∷ Fence 2 ∷ Late 1 0 (10 ∷ []) ∷ Tail ∷ Sweep ∷ []

abbrev pub TooLateIsLost : Type 0
TooLateIsLost = (s : State ℕ) × Reaches itself [] too_late s × (s.store.groups ≡ []) × (s.made ≡ [])
