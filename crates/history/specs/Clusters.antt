-- Stated: a cluster of stores, one for each group of its log, beside the table machine.
use Rattle.std.specs.Prelude.{ℕ, suc, Bool, true, false, Option, None, List, [], ◌∷◌, if◌then◌else◌, filter, is_none, is_some, nat_eq, nat_le, not, ◌&&◌, ◌||◌}
use Rattle.std.specs.Option.{option_map_or}
use Rattle.sql_database.specs.Answers.{Answer, refused, rows, wants}
use Rattle.sql_database.specs.Applied.{change_key}
use Rattle.sql_database.specs.Database.{Database}
use Rattle.sql_database.specs.declared.changes.Change.{Change}
use Rattle.sql_database.specs.declared.replies.SqlReply.TheVariants as reply
use Rattle.table_machine.specs.Conflicts.{Evaluated, least, told, unless_duplicate}
use Rattle.table_machine.specs.Machine as machine
use Rattle.table_machine.specs.Machine.{Machine, Session}
use Rattle.version_store.specs.Contents.{Content, content, found}
use Rattle.version_store.specs.Stores.{Store, put}
use Rattle.version_store.specs.Versions.{Version, is_own}

-- a node takes the writes; none does; or one takes over, past its Tail step
pub data Mode : Type 0 where
  Open : Mode
  Dead : Mode
  Taken : Mode

-- What a session's write has still to install, and whether its slot, if it has one, is to be undone. `job` says
-- that a write was taken up and is not judged yet. For the proofs alone: what of its transaction is installed,
-- and, while it is not judged, what it has still to install.
pub record Work : Type 0 where
  pub todo : List Change
  pub installed : List Change
  pub ending : Bool
  pub job : Bool

-- `at` has the store after each group of the log, which has `lsn` groups, the first `durable` of them in the
-- log store. Of the machine the session table is real; its commits, and what its transactions have pending, are
-- what the log has to stand for.
pub record Cluster : Type 0 where
  pub machine : Machine
  pub at : ℕ → Store
  pub lsn : ℕ
  pub durable : ℕ
  pub mode : Mode
  pub work : ℕ → Work

-- the store as the log stands
abbrev pub now : Cluster → Store
now c = c.at c.lsn

-- ---- what a session reads and tests

abbrev pub own_of : Bool → Option ℕ → Option ℕ
own_of true o = None
own_of false o = o

-- the number of a session's own transaction, where it is not to be undone
abbrev pub own : Cluster → ℕ → Option ℕ
own c s = own_of (c.work s).ending ((now c).slot s)

abbrev pub reads : Cluster → ℕ → ℕ → Content
reads c s snap = content (now c) snap (own c s)

-- whether the newest version is in the way of a writer: it is another's, and has no stamp up to the snapshot
abbrev pub in_the_way : List Version → (ℕ → ℕ) → ℕ → Option ℕ → Bool
in_the_way [] stamp snap own = false
in_the_way (v ∷ vs) stamp snap own =
    not (is_own own v.trx) && (nat_eq (stamp v.trx) 0 || not (nat_le (stamp v.trx) snap))

-- whether another has taken a change's key
abbrev pub is_taken : Store → ℕ → Option ℕ → Change → Bool
is_taken S snap own c = in_the_way (found S snap own c.table c.key) S.stamp snap own

-- what comes of an answer, with a test of one's own for conflicts: of those the least key comes first, then a
-- duplicate
abbrev pub evaluated_by : (Change → Bool) → Database → Answer → Evaluated
evaluated_by test d (rows rs) = told (reply.Rows rs)
evaluated_by test d (refused r) = told r
evaluated_by test d (wants cs n dup) =
    option_map_or (λ c. told (reply.Conflict (change_key d c))) (least (filter test cs))
    (unless_duplicate cs n dup)

-- ---- how a cluster goes on

abbrev pub ended : Work
ended = record { todo = []; installed = []; ending = true; job = false }

abbrev pub is_lost : Session → Session → Bool
is_lost old new = is_some old.transaction && is_none new.transaction

-- a session whose transaction is gone has its changes undone
abbrev pub works : (ℕ → Session) → (ℕ → Session) → (ℕ → Work) → ℕ → Work
works old new work s = if is_lost (old s) (new s) then ended else work s

-- one more group
abbrev pub grown : Cluster → Store → ℕ → Work → Machine → Cluster
grown c S s w m =
    record c { machine = m; at = put c.at (suc c.lsn) S; lsn = suc c.lsn; work = put c.work s w }

-- a cluster whose log is that of a base, with nothing open
abbrev pub start : ℕ → Database → ℕ → Store → Cluster
start nodes base first S = record {
  machine = machine.start nodes base first;
  at = λ j. S;
  lsn = 0;
  durable = 0;
  mode = Open;
  work = λ s. ended;
}
