-- Stated: what happens to nodes and to the home, each as a list of events.
use Rattle.std.specs.Prelude.{ℕ, zero, suc, Bool, List, [], ◌∷◌, ◌++◌, if◌then◌else◌}
use Rattle.sql_database.specs.declared.replies.SqlReply.TheVariants as reply
use Rattle.table_machine.specs.declared.entries.Entry.TheVariants as entry
use Rattle.history.specs.Events.{Event, appends, frees, opens, reader_falls, table, tails, undoes, writer_falls}

-- these sessions are told that their node is not available
abbrev pub refusals : List ℕ → List Event
refusals [] = []
refusals (s ∷ ss) = table (entry.Reply s reply.Unavailable) ∷ refusals ss

-- a node that is lost: whether it takes the writes or takes over, the sessions that have something open there,
-- and those of them that wait for a reply
pub record Loss : Type 0 where
  pub node : ℕ
  pub writer : Bool
  pub busy : List ℕ
  pub waiting : List ℕ

abbrev pub crash : Loss → List Event
crash l = (if l.writer then writer_falls l.node l.busy else reader_falls l.node l.busy) ∷ refusals l.waiting

abbrev pub restart : ℕ → List Event
restart n = table (entry.Up n) ∷ []

-- A reader keeps nothing that the log or the table machine knows of: a kick takes its pages away, and after a
-- rejoin its statement reads anew at the snapshot that it has.
abbrev pub kick : ℕ → List Event
kick n = []

abbrev pub rejoin : ℕ → List Event
rejoin n = []

-- the home is lost and begins anew: each node that was up goes down and up again, one after the other
abbrev pub renewal : List Loss → List Event
renewal [] = []
renewal (l ∷ ls) = crash l ++ (restart l.node ++ renewal ls)

-- a session's slot, with so many entries in its undo list
pub record Undoing : Type 0 where
  pub session : ℕ
  pub count : ℕ

-- its entries are undone, the newest first, and it is given back
abbrev pub undo_slot : ℕ → ℕ → List Event
undo_slot s zero = frees s ∷ []
undo_slot s (suc n) = undoes s ∷ undo_slot s n

abbrev pub undo_slots : List Undoing → List Event
undo_slots [] = []
undo_slots (u ∷ us) = undo_slot u.session u.count ++ undo_slots us

-- the log is cut where it is durable, what is open is undone, this is made durable, and the node opens
abbrev pub takeover : ℕ → List Undoing → ℕ → List Event
takeover n us lsn = tails ∷ (undo_slots us ++ (appends lsn ∷ (opens n ∷ [])))

-- a node that takes over is lost before it opens
pub record Broken : Type 0 where
  pub undone : List Undoing
  pub loss : Loss

abbrev pub broken_takeovers : List Broken → List Event
broken_takeovers [] = []
broken_takeovers (b ∷ bs) = tails ∷ (undo_slots b.undone ++ (crash b.loss ++ broken_takeovers bs))
