-- Stated: the laws of the pool, over every list of events.
use Rattle.std.specs.Prelude.{◌≡◌, ℕ, List, ◌++◌, length}
use Rattle.page_image.specs.Image.{Image}
use Rattle.page_coherence.specs.Cluster.{Event as PageEvent, Run as PagesRun, Reached as PagesReached, MayStart}
use Rattle.page_coherence.specs.Coherence.{Coherent}
use Rattle.call_model.specs.Stages.{Stage.Handled}
use Rattle.call_model.specs.Laws.{AreRising, stage_of}
use Rattle.redo_durability.specs.Store.{Answer, Answer.Kept, tail_of}
use Rattle.redo_durability.specs.Machine.{Event as LogEvent, Run as LogRuns}
use Rattle.redo_durability.specs.Laws.{IsFront}
use Rattle.pool_laws.specs.Calls.{StorageCall.AppendGroups, StorageAnswer.Appended}
use Rattle.pool_laws.specs.Pool.{Pool, pages_seen, log_seen}
use Rattle.pool_laws.specs.Events.{Event, Happens, Run, start}

-- some list of events leads to x
pub record Reached {G : Type 0} (size : G → ℕ) (x : Pool G) : Type 0 where
  pub rw : ℕ
  pub log : List G
  pub histories : ℕ → List Image
  pub events : List (Event G)
  pub may_start : MayStart (length log) histories
  pub run : Run size (start size rw log histories) events x

-- what an event does to the pages and to the log is a list of events of each
abbrev pub EventsAreSteps : (G : Type 0) → Type 0
EventsAreSteps G = (size : G → ℕ) (e : Event G) (x y : Pool G) → Reached size x → Happens size e x y
    → ((es : List PageEvent) × PagesRun (pages_seen x) es (pages_seen y))
    × ((ls : List (LogEvent G)) × LogRuns size (log_seen x) ls (log_seen y))

-- so the pages are in a state of which coherence and the latch law are promised
abbrev pub PagesAreReached : (G : Type 0) → Type 0
PagesAreReached G = (size : G → ℕ) (x : Pool G) → Reached size x → PagesReached (pages_seen x)

abbrev pub PagesAreCoherent : (G : Type 0) → Type 0
PagesAreCoherent G = (size : G → ℕ) (x : Pool G) → Reached size x
    → (p : ℕ) → Coherent x.pages.mode x.pages.rw x.pages.watermark ((pages_seen x).page p)

-- the home and storage handle each call at most once
abbrev pub HandledOnce : (G : Type 0) → Type 0
HandledOnce G = (size : G → ℕ) (x : Pool G) → Reached size x → AreRising x.home.handled × AreRising x.storage.handled

-- the store's groups are a front of the RW's log, and what was acknowledged is a front of the store's
abbrev pub LogIsDurable : (G : Type 0) → Type 0
LogIsDurable G = (size : G → ℕ) (x : Pool G) → Reached size x
    → IsFront x.log.store.groups x.log.made × IsFront x.log.acknowledged x.log.store.groups

-- only the RW has an append, and one that storage has answered is kept: it is the end of the store
abbrev pub AppendsAreKept : (G : Type 0) → Type 0
AppendsAreKept G = (size : G → ℕ) (x : Pool G) → Reached size x
    → (n offset : ℕ) (groups : List G) (a : Answer)
    → stage_of x.storage n ≡ Handled (AppendGroups offset groups) (Appended a)
    → (n ≡ x.pages.rw) × (a ≡ Kept (tail_of size x.log.store)) × (x.log.store.groups ≡ x.log.acknowledged ++ groups)
