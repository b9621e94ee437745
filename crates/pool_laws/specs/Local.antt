-- Stated: the events of the pages in which no call is sent, handled or accepted, and that change no history.
use Rattle.std.specs.Prelude.{◌≡◌, ℕ, Bool, true, false}
use Rattle.page_coherence.specs.Moves.{Move, Move.SendRegister, Move.SendGet, Move.SendInvalidate, Move.SendUnregister, Move.Install, Move.HandleRegister, Move.HandleFull, Move.HandleUnregister, Move.HandleGet, Move.HandleInvalidate, Move.Accept}
use Rattle.page_coherence.specs.Cluster.{Event as PageEvent, Event.Act, Event.Write, Event.Remove, Event.LoseSlots, Event.DropSlab}

-- a move without a call, and without a change of a page's history
abbrev pub is_local : Move → Bool
is_local SendRegister = false
is_local SendGet = false
is_local SendInvalidate = false
is_local SendUnregister = false
is_local (Install v) = false
is_local (HandleRegister a v) = false
is_local HandleFull = false
is_local HandleUnregister = false
is_local (HandleGet a) = false
is_local (HandleInvalidate d) = false
is_local Accept = false
is_local _ = true

-- an event of the pages that needs nothing else of the pool
abbrev pub IsWork : PageEvent → Type 0
IsWork (Act n ps move) = (p : ℕ) → ps p ≡ true → is_local (move p) ≡ true
IsWork (Write n p a) = Unit {0}
IsWork (Remove p) = Unit {0}
IsWork (LoseSlots ds) = Unit {0}
IsWork (DropSlab ps) = Unit {0}
IsWork _ = ⊥
