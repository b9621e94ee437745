-- Stated: what each entry makes of the state.
use Rattle.std.specs.Prelude.{ℕ, ◌+◌, ◌-◌, Bool, true, false, ◌&&◌, ◌||◌, not, nat_eq, if◌then◌else◌, List, [], ◌∷◌, ◌++◌, Option, Some, None, Result, option_map, option_and_then}
use Rattle.std.specs.List.{list_any}
use Rattle.std.specs.Option.{option_map_or}
use Rattle.std.specs.Result.{result_ok}
use Rattle.sql_statements.specs.declared.statements.Stmt.{Stmt}
use Rattle.sql_database.specs.declared.changes.Change.{Change}
use Rattle.sql_database.specs.declared.replies.SqlReply.{SqlReply}
use Rattle.sql_database.specs.declared.replies.SqlReply.TheVariants as reply
use Rattle.sql_database.specs.Replies.{is_done, is_giving_up}
use Rattle.table_machine.specs.Conflicts.{Evaluated}
use Rattle.table_machine.specs.Machine.{Machine, Session, Statement, Transaction, unqueued, queued, settled, idle, is_lasting, is_some_of, last, pending_of}
use Rattle.sql_database.specs.Statements.{is_begin, is_commit, is_ending, is_write}

-- a function with one value changed
abbrev pub put : {A : Type 0} → (ℕ → A) → ℕ → A → ℕ → A
put f n v = λ k. if nat_eq k n then v else f k

abbrev pub is_in : List ℕ → ℕ → Bool
is_in ns n = list_any (λ k. nat_eq k n) ns

abbrev pub is_in_some : List ℕ → Option ℕ → Bool
is_in_some ns o = option_map_or (is_in ns) o false

-- one session's state changes
abbrev pub with_session : Machine → ℕ → Session → Machine
with_session m s x = record m { sessions = put m.sessions s x; forgot = false }

-- an entry that changes nothing
abbrev pub passed : Machine → Machine
passed m = record m { forgot = false }

abbrev pub joined : Machine → ℕ → ℕ → Machine
joined m s n = record m { joined = m.joined + 1; sessions = put m.sessions s (idle n); forgot = false }

abbrev pub fresh : Result Stmt ℕ → Statement
fresh read = record { read = read; due = None; changes = []; commit = unqueued; stopped = false }

-- the statement is stopped, and this reply is forced
abbrev pub forced : SqlReply → Statement → Statement
forced r a = record a { due = Some r; stopped = true }

-- where the node is not up the statement is refused; where a transaction was lost, the session is told so once
abbrev pub asking : Bool → Result Stmt ℕ → Session → Session
asking up read x =
    if not up then record x { statement = Some (forced reply.Unavailable (fresh read)) }
    else (if x.lost then record x { lost = false; statement = Some (forced reply.Lost (fresh read)) }
    else record x { statement = Some (fresh read) })

abbrev pub submitted : Machine → ℕ → Result Stmt ℕ → Machine
submitted m s read = with_session m s (asking (m.up (m.sessions s).node) read (m.sessions s))

abbrev pub snapshot : ℕ → Transaction
snapshot n = record { snap = n; pending = []; lasting = false }

abbrev pub snapped : Machine → ℕ → Machine
snapped m s = with_session m s (record (m.sessions s) { transaction = Some (snapshot m.count) })

abbrev pub joins : List Change → Transaction → Transaction
joins cs t = record t { pending = t.pending ++ cs }

abbrev pub is_told : Evaluated → Statement → Statement
is_told e a = record a { due = Some e.reply; changes = e.changes }

abbrev pub told_session : Evaluated → Session → Session
told_session e x = record x { transaction = option_map (joins e.changes) x.transaction; statement = option_map (is_told e) x.statement }

-- the reply is due, and the changes join the transaction's
abbrev pub executed : Machine → ℕ → Evaluated → Machine
executed m s e = with_session m s (told_session e (m.sessions s))

-- for COMMIT the reply is due once its changes are in the queue
abbrev pub due_in_queue : Option Stmt → Option SqlReply → Option SqlReply
due_in_queue st due = if option_map_or is_commit st false then Some (reply.Ok 0) else due

abbrev pub in_queue : Statement → Statement
in_queue a = record a { commit = queued; due = due_in_queue (result_ok a.read) a.due }

abbrev pub queued_session : Session → Session
queued_session x = record x { transaction = None; statement = option_map in_queue x.statement }

-- the transaction's changes stand at the queue's end, and the session waits for them
abbrev pub enqueued : Machine → ℕ → Machine
enqueued m s = record m {
  waiting = m.waiting + 1;
  changes = put m.changes (last m + 1) (pending_of (m.sessions s));
  owner = put m.owner (last m + 1) (Some s);
  sessions = put m.sessions s (queued_session (m.sessions s));
  forgot = false;
}

abbrev pub is_made : Statement → Statement
is_made a = record a { commit = settled }

abbrev pub settled_session : Session → Session
settled_session x = record x { statement = option_map is_made x.statement }

-- the first of the queue is the last commit, and the session that waits for it knows
abbrev pub settles : Machine → Machine
settles m = record m {
  count = m.count + 1;
  waiting = m.waiting - 1;
  sessions = λ t. if is_some_of (m.owner (m.count + 1)) t then settled_session (m.sessions t) else m.sessions t;
  forgot = false;
}

-- no session of these waits for what is in the queue
abbrev pub disowned : (ℕ → Option ℕ) → List ℕ → ℕ → Option ℕ
disowned owner ss = λ n. if is_in_some ss (owner n) then None else owner n

-- a statement that is given up takes the transaction along unless a BEGIN opened it and the statement only reads
abbrev pub outlasts : Option Stmt → Transaction → Option Transaction
outlasts st t = if t.lasting && not (option_map_or (λ s. is_write s || is_ending s) st false) then Some t else None

abbrev pub asked : Session → Option Stmt
asked x = option_and_then (λ a. result_ok a.read) x.statement

abbrev pub given_up : Session → Session
given_up x = record x {
  transaction = option_and_then (outlasts (asked x)) x.transaction;
  statement = option_map (forced reply.Unavailable) x.statement;
}

abbrev pub timed_out : Machine → ℕ → Machine
timed_out m s = record m {
  owner = disowned m.owner (s ∷ []);
  sessions = put m.sessions s (given_up (m.sessions s));
  forgot = false;
}

-- its transaction goes, which it is to be told where a BEGIN opened it, and its statement is refused
abbrev pub fallen : Session → Session
fallen x = record x {
  lost = x.lost || is_lasting x;
  transaction = None;
  statement = option_map (forced reply.Unavailable) x.statement;
}

abbrev pub downed : Machine → ℕ → List ℕ → Machine
downed m n ss = record m {
  up = put m.up n false;
  writer = if is_some_of m.writer n then None else m.writer;
  owner = disowned m.owner ss;
  sessions = λ t. if is_in ss t then fallen (m.sessions t) else m.sessions t;
  forgot = false;
}

abbrev pub started : Machine → ℕ → Machine
started m n = record m { up = put m.up n true; forgot = false }

-- the first so many of the queue are commits, and the queue is empty
abbrev pub forgotten : Machine → ℕ → Machine
forgotten m k = record m { count = m.count + k; waiting = 0; forgot = true }

abbrev pub opened : Machine → ℕ → Machine
opened m n = record m { writer = Some n; forgot = false }

abbrev pub is_and : (Stmt → Bool) → Option Stmt → SqlReply → Bool
is_and is st r = option_map_or is st false && is_done r

-- the transaction after the reply: BEGIN that is done makes it last, COMMIT and ROLLBACK that are done end it, and
-- else it stays where it lasts
abbrev pub stays : Option Stmt → SqlReply → Transaction → Option Transaction
stays st r t =
    if is_giving_up r || is_and is_ending st r then None
    else (if is_and is_begin st r then Some (record t { lasting = true })
    else (if t.lasting then Some t else None))

abbrev pub answered_session : SqlReply → Session → Session
answered_session r x = record x { transaction = option_and_then (stays (asked x) r) x.transaction; statement = None }

abbrev pub answered : Machine → ℕ → SqlReply → Machine
answered m s r = with_session m s (answered_session r (m.sessions s))
