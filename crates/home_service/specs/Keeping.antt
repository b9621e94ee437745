-- For the proofs: what the home's side keeps of its parts.
use Rattle.std.specs.Prelude.{◌≡◌, ◌<◌, ℕ, true, List, IfSome}
use Rattle.call_model.specs.Servers.{Server}
use Rattle.message_network.specs.declared.calls.Reply.{Reply}
use Rattle.message_network.specs.declared.calls.Reply.TheVariants.{Registered, PoolFull, Unregistered, Started, Done, Appended, Got, Fenced}
use Rattle.page_latches.specs.Set.{has}
use Rattle.home_tables.specs.Home.{HomeState, entry_at}
use Rattle.slab_node.specs.Slab.{SlabState}
use Rattle.rmem_calls.specs.Seating.{AreSeated}

-- a reply that holds no page, so that a copy takes no memory
abbrev pub IsPlain : Reply → Type 0
IsPlain (Registered a bit floor) = Unit {0}
IsPlain (PoolFull slots) = Unit {0}
IsPlain Unregistered = Unit {0}
IsPlain (Started due) = Unit {0}
IsPlain Done = Unit {0}
IsPlain (Appended answer) = Unit {0}
IsPlain (Got answer) = ⊥
IsPlain (Fenced epoch) = Unit {0}

-- each reply that the server keeps holds no page
abbrev pub ArePlain : Server Reply → Type 0
ArePlain server = (n : ℕ) → IfSome (server.memory n).reply IsPlain

-- each of the others is among the nodes
abbrev pub Includes : List ℕ → List ℕ → Type 0
Includes nodes others = (n : ℕ) → has others n ≡ true → has nodes n ≡ true

-- a page is due at none but those nodes
abbrev pub Expects : HomeState → List ℕ → Type 0
Expects home nodes = (p n : ℕ) → p < 32768 → n < 16 → (entry_at home p).due n ≡ true → has nodes n ≡ true

pub record IsKept (server : Server Reply) (home : HomeState) (slabs : List SlabState) (expected : List ℕ) : Type 0 where
  pub plain : ArePlain server
  pub seated : AreSeated home slabs
  pub expects : Expects home expected
