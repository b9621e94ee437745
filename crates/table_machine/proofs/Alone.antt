-- One session that is alone: what each of its entries needs, and what it leads to.
use Rattle.std.proofs.Common.{◌≡◌, ◌≢◌, ◌≤◌, ◌<◌, ◌+◌, ◌-◌, ◌⊎◌, ℕ, Bool, true, false, ◌||◌, ◌&&◌, not, cond, if◌then◌else◌, nat_eq, is_some, List, [], ◌∷◌, ◌++◌, filter, Option, Some, None, Result, Ok, option_map, refl, sym, ap, subst, ◌∙◌, inr, arith}
use Rattle.std.specs.List.{list_any, range_with_len}
use Rattle.std.specs.Option.{option_map_or}
use Rattle.sql_values.specs.declared.values.Value.{Value}
use Rattle.sql_statements.specs.declared.statements.Stmt.{Stmt}
use Rattle.sql_database.specs.declared.changes.Change.{Change}
use Rattle.sql_database.specs.declared.replies.SqlReply.{SqlReply}
use Rattle.sql_database.specs.declared.replies.SqlReply.TheVariants as reply
use Rattle.sql_database.specs.Answers.{Answer, rows, refused, wants, changes_of, reply_to}
use Rattle.sql_database.specs.Statements.{IsEvaluated, is_ending}
use Rattle.sql_database.specs.Database.{Database}
use Rattle.sql_database.specs.Applied.{applied, change_key}
use Rattle.table_machine.specs.declared.entries.Entry.TheVariants as entry
use Rattle.table_machine.specs.Conflicts.{Evaluated, evaluated, has_key, is_conflict, is_newer, is_pending, least, told, unless_duplicate}
use Rattle.table_machine.specs.Laws.{AloneHasNoConflict}
use Rattle.table_machine.specs.Language.{Language}
use Rattle.table_machine.specs.Machine.{Machine, NoneForced, Session, Statement, Transaction, commit_of, committed, due_of, is_open, is_some_of, is_stopped, last, pending_of, running, unqueued, view}
use Rattle.table_machine.specs.Moves.{answered, answered_session, asking, enqueued, executed, fresh, in_queue, is_made, is_told, queued_session, settled_session, settles, snapped, snapshot, submitted, told_session, with_session}
use Rattle.table_machine.specs.Replies.{IsReplied, IsSyntax}
use Rattle.table_machine.specs.Serving.{IsServing, TableState, begun_at, between_lines}
use Rattle.table_machine.specs.Steps.{Commits, Step}
use Rattle.table_machine.proofs.CommitLaws.{beside, one_more, put_at}

abbrev pub trx : ℕ → List Change → Bool → Transaction
trx n cs l = record { snap = n; pending = cs; lasting = l }

-- a session that has a statement
abbrev pub in_line : Option Transaction → Statement → Session
in_line t a = record { node = 0; lost = false; transaction = t; statement = Some a }

-- one session in this state, on a node that takes writes, with so many commits that make this database
pub record IsAlone (m : Machine) (n : ℕ) (x : Session) (d : Database) : Type 0 where
  pub up : m.up 0 ≡ true
  pub writer : m.writer ≡ Some 0
  pub joined : m.joined ≡ 1
  pub waiting : m.waiting ≡ 0
  pub count : m.count ≡ n
  pub first : m.first ≤ n
  pub tables : committed m n ≡ d
  pub session : m.sessions 0 ≡ x

-- ---- no key is in conflict

pub no_conflict : AloneHasNoConflict
no_conflict m t c one sees =
    let none : last m - t.snap ≡ 0 = omega (arith, sees) in
    let pending : is_pending m 0 c ≡ false = ap (λ k. list_any (λ i. not (nat_eq i 0) && has_key c (pending_of (m.sessions i))) (range_with_len 0 k)) one in
    let newer : is_newer m t.snap c ≡ false = ap (λ k. list_any (λ n. has_key c (m.changes n)) (range_with_len (t.snap + 1) k)) none in
    ap (λ b. b || is_newer m t.snap c) pending ∙ newer

none_left : {X : Type 0} (p : X → Bool) (xs : List X) → ((x : X) → p x ≡ false) → filter p xs ≡ []
none_left p [] h = refl
none_left p (x ∷ xs) h = ap (λ b. cond b (x ∷ filter p xs) (filter p xs)) (h x) ∙ none_left p xs h

-- what an answer makes due where nothing is in conflict
abbrev pub told_of : Answer → Evaluated
told_of a = record { reply = reply_to a; changes = changes_of a }

by_duplicate : (cs : List Change) (n : ℕ) (dup : Option Value) → unless_duplicate cs n dup ≡ told_of (wants cs n dup)
by_duplicate cs n None = refl
by_duplicate cs n (Some v) = refl

pub evaluated_alone : (m : Machine) (t : Transaction) (a : Answer) → ((c : Change) → is_conflict m 0 t c ≡ false) → evaluated m 0 t a ≡ told_of a
evaluated_alone m t (rows rs) h = refl
evaluated_alone m t (refused r) h = refl
evaluated_alone m t (wants cs n dup) h =
    ap (λ l. option_map_or (λ c. told (reply.Conflict (change_key (view m t) c))) (least l) (unless_duplicate cs n dup)) (none_left (is_conflict m 0 t) cs h)
    ∙ by_duplicate cs n dup

-- ---- a session in any state

module _ (language : Language) (m : Machine) (n : ℕ) (x : Session) (d : Database) (h : IsAlone m n x d) where
  pub none_forced : is_stopped x ≡ false → NoneForced m
  none_forced going t below =
      let same : 0 ≡ t = omega (arith, h.joined, below) in
      subst (λ k. is_stopped (m.sessions k) ≡ false) same (ap is_stopped h.session ∙ going)

  pub takes_writes : is_open m (m.sessions 0).node ≡ is_some_of (Some 0) x.node
  takes_writes = ap (λ o. is_some_of o (m.sessions 0).node) h.writer ∙ ap (λ y. is_some_of (Some 0) y.node) h.session

  pub becomes : (y z : Session) → y ≡ z → IsAlone (with_session m 0 y) n z d
  becomes y z same =
      record { up = h.up; writer = h.writer; joined = h.joined; waiting = h.waiting; count = h.count; first = h.first; tables = h.tables; session = same }

  pub no_snap : ((st : Stmt) → running x ≡ Some st → is_ending st ≡ false → x.transaction ≡ None → ⊥) → (any : Machine) → ¬ Step language m (entry.Snap 0) any
  no_snap f any p = f p.1.statement (sym (ap running h.session) ∙ p.1.runs) p.1.stays (sym (ap (λ y. y.transaction) h.session) ∙ p.1.free)

  pub no_exec : ((st : Stmt) → running x ≡ Some st → IsEvaluated st → ⊥) → (any : Machine) → ¬ Step language m (entry.Exec 0) any
  no_exec f any p = f p.3.statement (sym (ap running h.session) ∙ p.3.runs) p.3.kind

  pub no_enqueue : ((st : Stmt) → running x ≡ Some st → pending_of x ≢ [] → Commits x st → ⊥) → (any : Machine) → ¬ Step language m (entry.Enqueue 0) any
  no_enqueue f any p =
      f p.1.statement (sym (ap running h.session) ∙ p.1.runs) (subst (λ y. pending_of y ≢ []) h.session p.1.changes)
      (subst (λ y. Commits y p.1.statement) h.session p.1.commits)

  pub no_settle : (any : Machine) → ¬ Step language m entry.Settle any
  no_settle any p = let some : 0 < m.waiting = p.2 in let none : m.waiting ≡ 0 = h.waiting in absurd (omega arith)

  pub replies : (r : SqlReply) → is_stopped x ≡ false → IsSyntax x r ⊎ ((st : Stmt) × (running x ≡ Some st) × IsReplied m x st r) → Step language m (entry.Reply 0 r) (answered m 0 r)
  replies r going may =
      (inr (none_forced going, subst (λ y. IsSyntax y r ⊎ ((st : Stmt) × (running y ≡ Some st) × IsReplied m y st r)) (sym h.session) may), refl)

  pub answered_alone : (r : SqlReply) → IsAlone (answered m 0 r) n (answered_session r x) d
  answered_alone r = becomes _ _ (ap (answered_session r) h.session)

-- ---- between two lines

pub alone_of : (m : Machine) (t : TableState) → IsServing m t → IsAlone m m.count (between_lines m.count t.own) t.kept
alone_of m t h =
    record { up = h.up; writer = h.writer; joined = h.alone; waiting = h.none_waits; count = refl; first = h.first; tables = h.tables; session = h.session }

pub serving_of : (m : Machine) (n : ℕ) (d : Database) (own : Option (List Change)) → IsAlone m n (between_lines n own) d → IsServing m (record { kept = d; own = own })
serving_of m n d own h =
    record {
      up = h.up;
      writer = h.writer;
      alone = h.joined;
      none_waits = h.waiting;
      first = omega (arith, h.first, h.count);
      tables = ap (committed m) h.count ∙ h.tables;
      session = h.session ∙ ap (λ k. between_lines k own) (sym h.count);
    }

module _ (language : Language) (m : Machine) (t : TableState) (line : List ℕ) (read : Result Stmt ℕ) (h : IsServing m t) (p : language.parses line read) where
  pub submits : Step language m (entry.Submit 0 line) (submitted m 0 read)
  submits = (
    read,
    none_forced language m m.count (between_lines m.count t.own) t.kept (alone_of m t h) refl,
    omega (arith, h.alone),
    ap (λ y. y.statement) h.session,
    p,
    refl,
  )

  pub asked_alone : IsAlone (submitted m 0 read) m.count (in_line (option_map (begun_at m.count) t.own) (fresh read)) t.kept
  asked_alone =
      becomes language m m.count (between_lines m.count t.own) t.kept (alone_of m t h) _ _
      (ap (λ y. asking (m.up y.node) read y) h.session ∙ ap (λ b. asking b read (between_lines m.count t.own)) h.up)

-- ---- a statement's entries

module _ (language : Language) (m : Machine) (n : ℕ) (st : Stmt) (d : Database) (h : IsAlone m n (in_line None (fresh (Ok st))) d) where
  pub snaps : is_ending st ≡ false → Step language m (entry.Snap 0) (snapped m 0)
  snaps stays = (
    none_forced language m n (in_line None (fresh (Ok st))) d h refl,
    record { statement = st; runs = ap running h.session; stays = stays; free = ap (λ y. y.transaction) h.session; writer = ap is_some h.writer },
    refl,
  )

  pub snapped_alone : IsAlone (snapped m 0) n (in_line (Some (trx n [] false)) (fresh (Ok st))) d
  snapped_alone =
      becomes language m n (in_line None (fresh (Ok st))) d h _ _
      (ap (λ (y : Session). record y { transaction = Some (snapshot m.count) }) h.session ∙ ap (λ k. in_line (Some (snapshot k)) (fresh (Ok st))) h.count)

module _ (language : Language) (m : Machine) (n : ℕ) (cs : List Change) (l : Bool) (st : Stmt) (d : Database) (h : IsAlone m n (in_line (Some (trx n cs l)) (fresh (Ok st))) d) (a : Answer) where
  pub execs : IsEvaluated st → language.answers (applied d cs) st a → Step language m (entry.Exec 0) (executed m 0 (evaluated m 0 (trx n cs l) a))
  execs kind over = (
    trx n cs l,
    a,
    none_forced language m n (in_line (Some (trx n cs l)) (fresh (Ok st))) d h refl,
    record {
      statement = st;
      runs = ap running h.session;
      kind = kind;
      writes = λ w. takes_writes language m n (in_line (Some (trx n cs l)) (fresh (Ok st))) d h;
      has = ap (λ y. y.transaction) h.session;
      due = ap due_of h.session;
      answers = subst (λ e. language.answers (applied e cs) st a) (sym h.tables) over;
    },
    refl,
  )

  free : (c : Change) → is_conflict m 0 (trx n cs l) c ≡ false
  free c = no_conflict m (trx n cs l) c h.joined (let e : n ≡ m.count + m.waiting = omega (arith, h.count, h.waiting) in e)

  pub executed_alone : IsAlone (executed m 0 (evaluated m 0 (trx n cs l) a)) n (in_line (Some (trx n (cs ++ changes_of a) l)) (is_told (told_of a) (fresh (Ok st)))) d
  executed_alone =
      becomes language m n (in_line (Some (trx n cs l)) (fresh (Ok st))) d h _ _
      (ap (told_session (evaluated m 0 (trx n cs l) a)) h.session
      ∙ ap (λ e. told_session e (in_line (Some (trx n cs l)) (fresh (Ok st)))) (evaluated_alone m (trx n cs l) a free))

module _ (language : Language) (m : Machine) (n : ℕ) (cs : List Change) (l : Bool) (a : Statement) (d : Database) (h : IsAlone m n (in_line (Some (trx n cs l)) a) d) (going : a.stopped ≡ false) where
  pub enqueues : (st : Stmt) → running (in_line (Some (trx n cs l)) a) ≡ Some st → a.commit ≡ unqueued → cs ≢ [] → Commits (in_line (Some (trx n cs l)) a) st → Step language m (entry.Enqueue 0) (enqueued m 0)
  enqueues st runs free some commits = (
    none_forced language m n (in_line (Some (trx n cs l)) a) d h going,
    record {
      statement = st;
      runs = ap running h.session ∙ runs;
      writer = takes_writes language m n (in_line (Some (trx n cs l)) a) d h;
      free = ap commit_of h.session ∙ free;
      changes = subst (λ y. pending_of y ≢ []) (sym h.session) some;
      commits = subst (λ y. Commits y st) (sym h.session) commits;
    },
    refl,
  )

  quiet : NoneForced (enqueued m 0)
  quiet t below =
      let same : 0 ≡ t = omega (arith, h.joined, below) in
      subst (λ k. is_stopped ((enqueued m 0).sessions k) ≡ false) same (ap (λ y. is_stopped (queued_session y)) h.session ∙ going)

  pub settles_it : Step language (enqueued m 0) entry.Settle (settles (enqueued m 0))
  settles_it = (quiet, ap is_some h.writer, omega arith, refl)

  owned : nat_eq (m.count + 1) (last m + 1) ≡ true
  owned = let none : m.waiting ≡ 0 = h.waiting in grind arith

  pub settled_alone : IsAlone (settles (enqueued m 0)) (n + 1) (in_line None (is_made (in_queue a))) (applied d cs)
  settled_alone =
      record {
        up = h.up;
        writer = h.writer;
        joined = h.joined;
        waiting = let none : m.waiting ≡ 0 = h.waiting in omega arith;
        count = ap (λ k. k + 1) h.count;
        first = omega (arith, h.first);
        tables =
            one_more m.base m.changes (enqueued m 0).changes m.first n cs h.first
            (λ i low. beside m.changes (last m + 1) (pending_of (m.sessions 0)) i (omega (arith, low, h.count)))
            (put_at m.changes (last m + 1) (n + 1) (pending_of (m.sessions 0)) (omega (arith, h.count, h.waiting)) ∙ ap pending_of h.session)
            ∙ ap (λ e. applied e cs) h.tables;
        session =
            ap (λ b. if is_some_of (if b then Some 0 else m.owner (m.count + 1)) 0 then settled_session (queued_session (m.sessions 0)) else queued_session (m.sessions 0)) owned
            ∙ ap (λ y. settled_session (queued_session y)) h.session;
      }
