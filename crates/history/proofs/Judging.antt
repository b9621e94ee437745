-- A write is taken up, and judged.
use Rattle.std.proofs.Common.{◌≡◌, ℕ, ◌≢◌, Bool, true, false, Option, Some, None, Ok, List, [], ◌++◌, if◌then◌else◌, arith, ◌⊎◌, inl, inr, refl, sym, subst, ap, ◌∙◌, Result, filter, option_map, option_and_then, Err}
use Rattle.sql_values.specs.declared.values.Value.{Value}
use Rattle.sql_statements.specs.declared.statements.Stmt.{Stmt}
use Rattle.std.specs.Option.{option_map_or}
use Rattle.std.specs.Result.{result_ok}
use Rattle.history.proofs.Entries.{same_refl}
use Rattle.history.proofs.Frames.{good_machine}
use Rattle.history.proofs.SessionLaws.{pending_some}
use Rattle.history.proofs.Verdicts.{free_names, free_places}
use Rattle.history.proofs.Views.{all_installed}
use Rattle.history.proofs.WriteLaws.{evaluated_changes}
use Rattle.history.specs.Clusters.{now, own, reads, is_taken, evaluated_by, Work, Cluster}
use Rattle.history.specs.Databases.{StandsFor}
use Rattle.history.specs.Events.{IsReady}
use Rattle.history.specs.Fitting.{ContentWantsFit}
use Rattle.history.specs.Invariant.{Judged, KeepsSession, Refines}
use Rattle.history.specs.Machines.{IsFair}
use Rattle.history.specs.Places.{says, is_said}
use Rattle.sql_database.specs.Answers.{Answer, wants}
use Rattle.sql_database.specs.Database.{Database}
use Rattle.sql_database.specs.Fitting.{IsProper}
use Rattle.sql_database.specs.declared.changes.Change.{Change}
use Rattle.table_machine.specs.Conflicts.{is_conflict, evaluated, Evaluated}
use Rattle.table_machine.specs.Language.{Language}
use Rattle.table_machine.specs.Machine.{pending_of, running, Transaction, Statement}
use Rattle.table_machine.specs.Moves.{joins, is_told, told_session, executed}
use Rattle.version_store.proofs.Places.{put_all, put_both}
use Rattle.version_store.specs.Contents.{Content, catalog_name, chain_of}
use Rattle.version_store.specs.Held.{none_of}
use Rattle.version_store.specs.Stores.{catalog, put}

-- ---- a write is taken up

told_read : (o : Option Statement) (st : Stmt) (e : Evaluated)
    → option_and_then (λ a. if Statement.stopped a then None else result_ok (Statement.read a)) o ≡ Some st
    → option_map (λ b. Statement.read b) (option_map (is_told e) o) ≡ Some (Ok st)
told_read None st e h = absurd (grind arith)
told_read (Some a) st e h = ap (λ r. Some r) (by_read a.stopped a.read h)
  where
    by_read : (b : Bool) (q : Result Stmt ℕ) → (if b then None else result_ok q) ≡ Some st → q ≡ Ok st
    by_read true q h = absurd (grind arith)
    by_read false (Ok y) h = let i : y ≡ st = grind arith in ap (λ z. Ok z) i
    by_read false (Err y) h = absurd (grind arith)

told_due : (o : Option Statement) (st : Stmt) (e : Evaluated)
    → option_and_then (λ a. if Statement.stopped a then None else result_ok (Statement.read a)) o ≡ Some st
    → option_and_then (λ b. Statement.due b) (option_map (is_told e) o) ≡ Some e.reply
told_due None st e h = absurd (grind arith)
told_due (Some a) st e h = refl

pub keep_write : {language : Language}
    → (was : Content) (c : Cluster) (s : ℕ) (t : Transaction) (a : Answer) (fit : ContentWantsFit language.answers)
    (db : Database) (st : Stmt) → StandsFor (reads c s t.snap) db → IsProper st → language.answers db st a
    → Refines language was c → IsReady c → (c.machine.sessions s).transaction ≡ Some t
    → IsFair was (executed c.machine s (evaluated c.machine s t a))
    → evaluated_by (is_taken (now c) t.snap (own c s)) db a ≡ evaluated c.machine s t a
    → running (c.machine.sessions s) ≡ Some st
    → Refines language was
    (record c {
      machine = executed c.machine s (evaluated c.machine s t a);
      work = put c.work s
          (record (c.work s) { todo = (evaluated c.machine s t a).changes; job = true });
    })
keep_write {language} was c s t a fit db st is pr an g y tr f same run =
    good_machine was c (executed c.machine s ev) c.mode (put c.work s W) g f
    (record { first = refl; count = refl; end = refl; changes = refl })
    (λ o. (o, (g.is_open o).0)) (λ n. absurd (n y.open_mode))
    (put_all (λ s V. (u t : ℕ) (a k : List ℕ) → u ≢ s → (now c).slot u ≡ Some t → is_said (says V.todo a k) ≡ true
    → none_of t (chain_of (now c) a k) ≡ true) c.work s W (λ u n a k ne sl p. places u n a k ne sl p kinds)
    (λ u ne. g.clear u))
    (put_both (λ u V x. KeepsSession language (now c) u V x) c.work c.machine.sessions s W
    (told_session ev (c.machine.sessions s))
    (record {
      holds = (g.each s).holds;
      none = (g.each s).none;
      gone = (g.each s).gone;
      pend = pend;
      names = λ a p. names a p kinds;
      judged = λ j. judged;
    }) (λ u ne. g.each u))
  where
    ev : Evaluated
    ev = evaluated c.machine s t a

    W : Work
    W = record (c.work s) { todo = ev.changes; job = true }

    judged : Judged language (now c) s W (told_session ev (c.machine.sessions s))
    judged = record {
      transaction = joins ev.changes t;
      database = db;
      answer = a;
      statement = st;
      has = ap (option_map (joins ev.changes)) tr;
      asks = told_read (c.machine.sessions s).statement st ev run;
      reading = is;
      answers = an;
      todo = sym (ap (λ v. v.changes) same);
      due = told_due (c.machine.sessions s).statement st ev run ∙ sym (ap (λ v. Some v.reply) same);
    }

    kinds : (ev.changes ≡ [])
        ⊎ ((cs : List Change) × (n : ℕ) × (dup : Option Value) × (a ≡ wants cs n dup) × (ev.changes ≡ cs)
        × (filter (is_conflict c.machine s t) cs ≡ []))
    kinds = evaluated_changes c.machine s t a

    pend : pending_of (told_session ev (c.machine.sessions s)) ≡ (c.work s).installed ++ ev.changes
    pend = ap (λ o. option_map_or (λ t. Transaction.pending t) (option_map (joins ev.changes) o) []) tr
        ∙ ap (λ cs. cs ++ ev.changes)
        (sym (pending_some (c.machine.sessions s) t tr)
        ∙ all_installed (now c) s (c.work s) (c.machine.sessions s) (g.each s) (y.no_todo s))

    places : (u n : ℕ) (b k : List ℕ) → u ≢ s → (now c).slot u ≡ Some n → is_said (says ev.changes b k) ≡ true
        → (ev.changes ≡ [])
        ⊎ ((cs : List Change) × (n : ℕ) × (dup : Option Value) × (a ≡ wants cs n dup) × (ev.changes ≡ cs)
        × (filter (is_conflict c.machine s t) cs ≡ [])) → none_of n (chain_of (now c) b k) ≡ true
    places u n b k ne sl p (inl z) =
        let q : is_said (says [] b k) ≡ true = subst (λ cs. is_said (says cs b k) ≡ true) z p in
        absurd (grind arith)
    places u n b k ne sl p (inr z) =
        free_places was c s t g y tr z.0 z.5 u n b k ne sl (subst (λ cs. is_said (says cs b k) ≡ true) z.4 p)

    names : (b : List ℕ) → is_said (says ev.changes catalog_name b) ≡ true
        → (ev.changes ≡ [])
        ⊎ ((cs : List Change) × (n : ℕ) × (dup : Option Value) × (a ≡ wants cs n dup) × (ev.changes ≡ cs)
        × (filter (is_conflict c.machine s t) cs ≡ [])) → (now c).rows catalog b ≡ []
    names b p (inl z) =
        let q : is_said (says [] catalog_name b) ≡ true = subst
        (λ cs. is_said (says cs catalog_name b) ≡ true) z p in absurd (grind arith)
    names b p (inr z) =
        free_names was c s t g y tr z.0
        (fit (reads c s t.snap) db st z.0 z.1 z.2 is pr (subst (λ x. language.answers db st x) z.3 an)).1 z.5 b
        (subst (λ cs. is_said (says cs catalog_name b) ≡ true) z.4 p)

-- the worker has read and tested
pub keep_verdict : {language : Language} → (was : Content) (c : Cluster) (s : ℕ) → Refines language was c
    → Refines language was (record c { work = put c.work s (record (c.work s) { job = false }) })
keep_verdict {language} was c s g =
    good_machine was c c.machine c.mode (put c.work s W) g g.fair (same_refl c.machine) (λ o. (o, (g.is_open o).0))
    (λ n. let o = g.closed n in (
      o.0,
      put_all (λ u V. (V.ending ≡ true) × (V.todo ≡ []) × (V.job ≡ false)) c.work s W
          ((o.1 s).0, (o.1 s).1, refl) (λ u ne. o.1 u),
    ))
    (put_all (λ s V. (u t : ℕ) (a k : List ℕ) → u ≢ s → (now c).slot u ≡ Some t → is_said (says V.todo a k) ≡ true
    → none_of t (chain_of (now c) a k) ≡ true) c.work s W (g.clear s) (λ u ne. g.clear u))
    (put_all (λ u V. KeepsSession language (now c) u V (c.machine.sessions u)) c.work s W
    (let e = g.each s in
    record {
      holds = e.holds;
      none = e.none;
      gone = e.gone;
      pend = e.pend;
      names = e.names;
      judged = λ j. absurd (grind arith);
    }) (λ u ne. g.each u))
  where
    W : Work
    W = record (c.work s) { job = false }
