-- Stated: the pool as one machine: its pages, the calls to the home and to storage, and the log.
use Rattle.std.specs.Prelude.{ℕ}
use Rattle.node_model.specs.Call.{Call, Call.Quiet}
use Rattle.page_coherence.specs.Cluster.{State as Pages}
use Rattle.call_model.specs.Network.{Network}
use Rattle.call_model.specs.Laws.{stage_of}
use Rattle.redo_durability.specs.Machine.{Append, Append.NoAppend, State as Log}
use Rattle.pool_laws.specs.Calls.{HomeCall, HomeAnswer, StorageCall, StorageAnswer, call_seen, append_seen}

-- `pages` says nothing of calls and `log` nothing of an append, since the messages say it
pub record Pool (G : Type 0) : Type 0 where
  pub pages : Pages
  pub home : Network HomeCall HomeAnswer
  pub storage : Network (StorageCall G) StorageAnswer
  pub log : Log G

-- ---------------- the calls of pages, and the append of a log

abbrev pub with_calls : (ℕ → ℕ → Call) → Pages → Pages
with_calls c s = record s { page = λ p. record (s.page p) { node = λ n. record ((s.page p).node n) { call = c p n } } }

abbrev pub no_calls : ℕ → ℕ → Call
no_calls p n = Quiet

abbrev pub with_append : {G : Type 0} → Append G → Log G → Log G
with_append a k = record k { append = a }

-- ---------------- what the messages say

abbrev pub calls_seen : {G : Type 0} → Pool G → ℕ → ℕ → Call
calls_seen x p n = call_seen p (stage_of x.home n) (stage_of x.storage n)

-- the pages with the calls that are under way, and the log with the append
abbrev pub pages_seen : {G : Type 0} → Pool G → Pages
pages_seen x = with_calls (calls_seen x) x.pages

abbrev pub log_seen : {G : Type 0} → Pool G → Log G
log_seen x = with_append (append_seen x.log.epoch (stage_of x.storage x.pages.rw)) x.log

abbrev pub seen : {G : Type 0} → Pool G → Pool G
seen x = record x { pages = pages_seen x; log = log_seen x }

-- without what the messages say
abbrev pub bare : {G : Type 0} → Pool G → Pool G
bare x = record x { pages = with_calls no_calls x.pages; log = with_append NoAppend x.log }
