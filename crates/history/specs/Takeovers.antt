-- Stated: what a takeover commits, whatever happens in it, and what a loss of nodes leaves.
use Rattle.std.specs.Prelude.{◌≡◌, ℕ, Bool, true, false, List, [], ◌∷◌, ◌++◌}
use Rattle.table_machine.specs.declared.entries.Entry.{Entry}
use Rattle.table_machine.specs.Language.{Language}
use Rattle.table_machine.specs.Machine.{last}
use Rattle.version_store.specs.Contents.{Content}
use Rattle.history.specs.Clusters.{Cluster}
use Rattle.history.specs.Events.{AllHappen, Event, opens, tails}
use Rattle.history.specs.Incidents.{Broken, Loss, Undoing, broken_takeovers, crash, renewal, restart, takeover}
use Rattle.history.specs.Invariant.{Refines}

abbrev pub is_opening : Event → Bool
is_opening (opens n) = true
is_opening _ = false

abbrev pub OpensNone : List Event → Type 0
OpensNone [] = Unit {0}
OpensNone (e ∷ es) = (is_opening e ≡ false) × OpensNone es

-- From the first Tail step until a node opens, whatever happens between, further crashes and takeovers that are
-- begun again among it: the commits are then exactly those that were durable at that step, and the queue is
-- empty.
abbrev pub TakeoversKeepDurable : Language → Type 0
TakeoversKeepDurable language =
    (was : Content) (c d : Cluster) (more : List Event) (n : ℕ) (journal : List Entry)
    → Refines language was c → OpensNone more → AllHappen language c (tails ∷ (more ++ opens n ∷ [])) journal d
    → (d.machine.count ≡ (c.at c.durable).last) × (d.machine.waiting ≡ 0)

-- a takeover that is lost and begun again, any number of times, commits what the first would have committed
abbrev pub TakeoversBeginAgain : Language → Type 0
TakeoversBeginAgain language =
    (was : Content) (c d : Cluster) (bs : List Broken) (n : ℕ) (us : List Undoing) (lsn : ℕ)
    (journal : List Entry)
    → Refines language was c → AllHappen language c (broken_takeovers bs ++ takeover n us lsn) journal d
    → (d.machine.count ≡ (c.at c.durable).last) × (d.machine.waiting ≡ 0)

-- the log, its durable front, the commits and the queue are as they were
pub record KeepsLog (c d : Cluster) : Type 0 where
  pub at : d.at ≡ c.at
  pub lsn : d.lsn ≡ c.lsn
  pub durable : d.durable ≡ c.durable
  pub count : d.machine.count ≡ c.machine.count
  pub end : last d.machine ≡ last c.machine
  pub changes : d.machine.changes ≡ c.machine.changes

-- no loss or restart of a node, and no renewal, moves the log or the commits
pub record LossesKeepLog (language : Language) : Type 0 where
  pub crashes : (c d : Cluster) (l : Loss) (journal : List Entry) → AllHappen language c (crash l) journal d
      → KeepsLog c d
  pub restarts : (c d : Cluster) (n : ℕ) (journal : List Entry) → AllHappen language c (restart n) journal d
      → KeepsLog c d
  pub renewals : (c d : Cluster) (ls : List Loss) (journal : List Entry)
      → AllHappen language c (renewal ls) journal d → KeepsLog c d
