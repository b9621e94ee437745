-- Stated: what is durable, over every list of events.
use Rattle.std.specs.Prelude.{◌≡◌, ℕ, ◌+◌, List, ◌++◌, sum_by}
use Rattle.redo_durability.specs.Store.{tail_of, Answer, Answer.Kept, answer_to}
use Rattle.redo_durability.specs.Machine.{Append.Sent, Append.Answered, Phase.Open, State, start, pending, Event, Event.Late, Happens, Run}

-- ys begins with xs
abbrev pub IsFront : {G : Type 0} → List G → List G → Type 0
IsFront {G = G} xs ys = (rest : List G) × (ys ≡ xs ++ rest)

-- a list of events leads from a store with this log to s
abbrev pub Reaches : {G : Type 0} → (G → ℕ) → List G → List (Event G) → State G → Type 0
Reaches size log events s = Run size (start size log) events s

-- the store's groups are a front of the RW's log
abbrev pub StoreIsAFront : (G : Type 0) → Type 0
StoreIsAFront G = (size : G → ℕ) (log : List G) (events : List (Event G)) (s : State G) → Reaches size log events s
    → IsFront s.store.groups s.made

-- while the RW is up, its log is the store's groups, then those of its append that are not there yet, then its buffer
abbrev pub OpenLogIsWhole : (G : Type 0) → Type 0
OpenLogIsWhole G = (size : G → ℕ) (log : List G) (events : List (Event G)) (s : State G) → Reaches size log events s
    → s.phase ≡ Open → s.made ≡ s.store.groups ++ (pending s.append ++ s.buffer)

-- an append that is in flight will be kept, and was kept where it is answered
abbrev pub NoneIsRefused : (G : Type 0) → Type 0
NoneIsRefused G = (size : G → ℕ) (log : List G) (events : List (Event G)) (s : State G) → Reaches size log events s
    → ((e o : ℕ) (groups : List G) → s.append ≡ Sent e o groups
    → answer_to size s.store e o groups ≡ Kept (tail_of size s.store + sum_by size groups))
    × ((groups : List G) (a : Answer) → s.append ≡ Answered groups a → a ≡ Kept (tail_of size s.store))

-- an append of an older epoch changes nothing
abbrev pub OlderChangeNothing : (G : Type 0) → Type 0
OlderChangeNothing G = (size : G → ℕ) (s t : State G) (e o : ℕ) (groups : List G)
    → Happens size (Late e o groups) s t → t ≡ s

-- the store loses nothing
abbrev pub StoreGrows : (G : Type 0) → Type 0
StoreGrows G = (size : G → ℕ) (s t : State G) (events : List (Event G))
    → Run size s events t → IsFront s.store.groups t.store.groups

-- what was once acknowledged stands in the store for ever, and in the log of each later RW
abbrev pub AcknowledgedLasts : (G : Type 0) → Type 0
AcknowledgedLasts G = (size : G → ℕ) (log : List G) (events more : List (Event G)) (s t : State G)
    → Reaches size log events s → Run size s more t
    → IsFront s.acknowledged t.store.groups × IsFront s.acknowledged t.made
