-- Every event keeps the invariant, and its entries are steps.
use Rattle.std.proofs.Common.{◌≡◌, ℕ, ◌≢◌, ◌-◌, Bool, true, false, None, List, [], ◌∷◌, ◌++◌, if◌then◌else◌, arith, ◌⊎◌, inl, inr, refl, sym, subst, ap, ◌∙◌}
use Rattle.sql_statements.specs.declared.statements.Stmt.{Stmt}
use Rattle.table_machine.specs.declared.entries.Entry.TheVariants as entry
use Rattle.sql_statements.specs.declared.statements.Stmt.TheVariants as stmt
use Rattle.history.proofs.ContentLaws.{alike}
use Rattle.history.proofs.Entries.{keep_works, plain_step}
use Rattle.history.proofs.FairSteps.{run_fair, running_proper, step_fair}
use Rattle.history.proofs.Frames.{Same}
use Rattle.history.proofs.Installs.{keep_change, keep_create}
use Rattle.history.proofs.Judging.{keep_verdict, keep_write}
use Rattle.history.proofs.Nodes.{keep_append, keep_crash, keep_open, keep_settle, keep_tail}
use Rattle.history.proofs.Slots.{keep_begin, keep_commit, keep_free, keep_split, keep_undo}
use Rattle.history.proofs.Verdicts.{evaluates}
use Rattle.history.proofs.Views.{reads_view}
use Rattle.history.specs.Clusters.{now, reads, Cluster, Open}
use Rattle.history.specs.Events.{MayOpen, MayUndo, entries, Happens, AllHappen, IsReady, Evaluates, Event, table, takes_up, judges, begins, writes, creates, splits, commits, appends, settle, undoes, frees, writer_falls, reader_falls, tails, opens}
use Rattle.history.specs.Fitting.{ContentWantsFit}
use Rattle.history.specs.Invariant.{Refines}
use Rattle.history.specs.Languages.{KeepsCatalogName}
use Rattle.history.specs.Machines.{IsFair}
use Rattle.sql_database.specs.Answers.{Answer}
use Rattle.sql_database.specs.Database.{Database}
use Rattle.sql_database.specs.Fitting.{IsProper}
use Rattle.sql_database.specs.Rules.{AnswersByContent}
use Rattle.sql_database.specs.Statements.{is_write, IsEvaluated}
use Rattle.sql_database.specs.declared.changes.Change.{Change}
use Rattle.table_machine.specs.Conflicts.{evaluated}
use Rattle.table_machine.specs.Language.{Language}
use Rattle.table_machine.specs.Machine.{view, is_some_of, pending_of, Transaction, Machine}
use Rattle.table_machine.specs.Moves.{is_in, executed, enqueued, settles, fallen, forgotten, opened}
use Rattle.table_machine.specs.Runs.{Leads}
use Rattle.table_machine.specs.Steps.{Step, MayExec}
use Rattle.table_machine.specs.declared.entries.Entry.{Entry}
use Rattle.version_store.specs.Contents.{Content}
use Rattle.version_store.specs.Stores.{put}

write_evaluated : (st : Stmt) → is_write st ≡ true → IsEvaluated st
write_evaluated (stmt.Create s) w = tt
write_evaluated (stmt.Insert t names rows) w = tt
write_evaluated (stmt.Update t sets test) w = tt
write_evaluated (stmt.Delete t test) w = tt
write_evaluated (stmt.Select q) w = tt
write_evaluated stmt.Begin w = absurd (grind arith)
write_evaluated stmt.Commit w = absurd (grind arith)
write_evaluated stmt.Rollback w = absurd (grind arith)

leads_append : (language : Language) (es fs : List Entry) (m between n : Machine) → Leads language m es between
    → Leads language between fs n → Leads language m (es ++ fs) n
leads_append language [] fs m between n h k = subst (λ x. Leads language x fs n) h k
leads_append language (e ∷ es) fs m between n h k = (h.0, h.1, leads_append language es fs h.0 between n h.2 k)

empty_list : (cs : List Change) → (cs ≢ [] → ⊥) → cs ≡ []
empty_list [] f = refl
empty_list (c ∷ cs) f = absurd (f (λ e. grind arith))

module _ (language : Language) (names : KeepsCatalogName language) (respects : AnswersByContent language.answers)
    (fit : ContentWantsFit language.answers) (was : Content) where
  pub proper : (c : Cluster) (s : ℕ) (t : Transaction) (db : Database) (a : Answer) → Refines language was c
      → (e : Evaluates language c s t db a) → IsProper e.statement
  proper c s t db a g e =
      running_proper language was names fit (c.machine.sessions s) e.statement (g.fair.proper s) e.runs

  may_exec : (c : Cluster) (s : ℕ) (t : Transaction) (db : Database) (a : Answer) → Refines language was c
      → IsReady c → Evaluates language c s t db a → MayExec language c.machine s t a
  may_exec c s t db a g y e = record {
    statement = e.statement;
    runs = e.runs;
    kind = write_evaluated e.statement e.kind;
    writes = λ w. e.writer;
    has = e.has;
    due = e.due;
    answers = respects db (view c.machine t) e.statement a
        (alike (reads c s t.snap) db (view c.machine t) e.reading
        (reads_view was c s t g e.has (y.no_todo s))) e.answers;
  }

  -- the entries of an event are steps of the table machine
  entries_lead : (e : Event) (c d : Cluster) → Happens language e c d → Refines language was c
      → Leads language c.machine (entries e c) d.machine
  entries_lead (table e) c d h g = (h.0, h.2, ap (λ x. x.machine) h.4)
  entries_lead (takes_up s) c d h g = (
    executed c.machine s (evaluated c.machine s h.0 h.2),
    (h.0, h.2, h.3, may_exec c s h.0 h.1 h.2 g h.4 h.5, refl),
    ap (λ x. x.machine) h.6
        ∙ ap (executed c.machine s)
        (evaluates was c s h.0 g h.4 (Evaluates.has h.5) h.1 (Evaluates.statement h.5) h.2 fit
        (Evaluates.reading h.5) (proper c s h.0 h.1 h.2 g h.5) (Evaluates.answers h.5)),
  )
  entries_lead (judges s) c d h g = ap (λ x. x.machine) h
  entries_lead (begins s) c d h g = ap (λ x. x.machine) h.4
  entries_lead (writes s p) c d h g = ap (λ x. x.machine) h.7.2
  entries_lead (creates s p) c d h g = ap (λ x. x.machine) h.7
  entries_lead (splits s p) c d h g = ap (λ x. x.machine) h.3
  entries_lead (commits s) c d h g = (enqueued c.machine s, (h.1.free, h.1.may, refl), ap (λ x. x.machine) h.2)
  entries_lead (appends e) c d h g = ap (λ x. x.machine) h.2
  entries_lead settle c d h g =
      let l = h.2 in let r = g.rises c.durable c.lsn g.order (omega arith) in let b = g.below in
      (settles c.machine, (h.0, (g.is_open h.1).0, omega (arith, l, r, b), refl), ap (λ x. x.machine) h.3)
  entries_lead (undoes s) c d h g = ap (λ x. x.machine) h.5
  entries_lead (frees s) c d h g = ap (λ x. x.machine) h.3
  entries_lead (writer_falls n ss) c d h g = (h.0, h.1, ap (λ x. x.machine) h.3)
  entries_lead (reader_falls n ss) c d h g = (h.0, h.1, ap (λ x. x.machine) h.4)
  entries_lead tails c d h g = ap (λ x. x.machine) h.1
  entries_lead (opens n) c d h g =
      let o : MayOpen c n = h.0 in
      let w : c.machine.writer ≡ None = (g.closed (λ e. let z = o.taken in absurd (grind arith))).0 in
      let b = g.below in (
        forgotten c.machine ((now c).last - c.machine.count),
        (o.free, w, omega (arith, b), refl),
        (
          opened (forgotten c.machine ((now c).last - c.machine.count)) n,
          (o.free, w, o.up, refl, refl),
          ap (λ x. x.machine) h.1,
        ),
      )

  same_downed : (m n : Machine) (k : ℕ) (ss : List ℕ) → Step language m (entry.Down k ss) n → Same m n
  same_downed m n k ss h =
      subst (λ x. Same m x) (sym h.3) (record { first = refl; count = refl; end = refl; changes = refl })

  keeps : (e : Event) (c d : Cluster) → Happens language e c d → Refines language was c → IsFair was d.machine
      → Refines language was d
  keeps (table e) c d h g f =
      let fm = step_fair language was names fit e c.machine h.0 h.2 g.fair in
      let p = plain_step language names fit was e c.machine h.0 g.fair h.1 h.2 in
      subst (λ x. Refines language was x) (sym h.4) (keep_works was c h.0 g fm p.same p.writer p.keeps h.3)
  keeps (takes_up s) c d h g f =
      let x = h.5 in
      let e = evaluates was c s h.0 g h.4 x.has h.1 x.statement h.2 fit x.reading
      (proper c s h.0 h.1 h.2 g x) x.answers in
      let f2 : IsFair was (executed c.machine s (evaluated c.machine s h.0 h.2)) = subst (λ z. IsFair was z)
      (ap (λ x. x.machine) h.6 ∙ ap (executed c.machine s) e) f in
      subst (λ z. Refines language was z)
      (sym (h.6 ∙ ap
      (λ v. record c {
        machine = executed c.machine s v;
        work = put c.work s (record (c.work s) { todo = v.changes; job = true });
      }) e))
      (keep_write was c s h.0 h.2 fit h.1 x.statement x.reading
      (proper c s h.0 h.1 h.2 g x) x.answers g h.4 x.has f2 e x.runs)
  keeps (judges s) c d h g f = subst (λ x. Refines language was x) (sym h) (keep_verdict was c s g)
  keeps (begins s) c d h g f = subst (λ x. Refines language was x) (sym h.4) (keep_begin was c s g h.0 h.1 h.2)
  keeps (writes s p) c d h g f =
      subst (λ x. Refines language was x) (sym h.7.2)
      (keep_change was c s h.1 h.7.0 p h.0 h.2 h.3 g h.4 h.5 h.6 h.7.1)
  keeps (creates s p) c d h g f =
      subst (λ x. Refines language was x) (sym h.7) (keep_create was c s h.1 p h.0 h.2 h.3 g h.4 h.5 h.6)
  keeps (splits s p) c d h g f = subst (λ x. Refines language was x) (sym h.3) (keep_split was c s p g h.0 h.2)
  keeps (commits s) c d h g f =
      subst (λ x. Refines language was x) (sym h.2)
      (keep_commit was c s h.0 g h.1 (subst (λ x. IsFair was x.machine) h.2 f))
  keeps (appends e) c d h g f = subst (λ x. Refines language was x) (sym h.2) (keep_append was c e g h.0 h.1)
  keeps settle c d h g f =
      subst (λ x. Refines language was x) (sym h.3)
      (keep_settle was c g h.1 h.2 (subst (λ x. IsFair was x.machine) h.3 f))
  keeps (undoes s) c d h g f = let u : MayUndo c s h.0 = h.3 in
      subst (λ x. Refines language was x) (sym h.5) (keep_undo was c s h.0 h.1 h.2 g u.quiet u.ending u.slot h.4)
  keeps (frees s) c d h g f = let u : MayUndo c s h.0 = h.1 in
      subst (λ x. Refines language was x) (sym h.3) (keep_free was c s h.0 g u.quiet u.ending u.slot h.2)
  keeps (writer_falls n ss) c d h g f =
      let fm = step_fair language was names fit (entry.Down n ss) c.machine h.0 h.1 g.fair in
      let w : h.0.writer ≡ None = ap (λ x. x.writer) h.1.3 ∙ none h.2 in
      subst (λ x. Refines language was x) (sym h.3) (keep_crash was c h.0 g fm (same_downed c.machine h.0 n ss h.1) w
      (λ s. empty_list (pending_of (h.0.sessions s))
      (λ ne. let z = fm.writes s ne in
      let y : is_some_of None (h.0.sessions s).node ≡ true = subst
      (λ o. is_some_of o (h.0.sessions s).node ≡ true) w z in absurd (grind arith))))
    where
      none : (is_some_of c.machine.writer n ≡ true) ⊎ (c.mode ≢ Open)
          → (if is_some_of c.machine.writer n then None else c.machine.writer) ≡ None
      none (inl e) = ap (λ b. if b then None else c.machine.writer) e
      none (inr e) = by_test (is_some_of c.machine.writer n) ((g.closed e).0)
        where
          by_test : (b : Bool) → c.machine.writer ≡ None → (if b then None else c.machine.writer) ≡ None
          by_test true w = refl
          by_test false w = w
  keeps (reader_falls n ss) c d h g f =
      let fm = step_fair language was names fit (entry.Down n ss) c.machine h.0 h.1 g.fair in
      subst (λ x. Refines language was x) (sym h.4)
      (keep_works was c h.0 g fm (same_downed c.machine h.0 n ss h.1)
      (ap (λ x. x.writer) h.1.3 ∙ ap (λ b. if b then None else c.machine.writer) h.2)
      (λ s. subst (λ x. ((x.sessions s).transaction ≡ None)
      ⊎ (pending_of (x.sessions s) ≡ pending_of (c.machine.sessions s))) (sym h.1.3)
      (by_test s (is_in ss s))) h.3)
    where
      by_test : (s : ℕ) (b : Bool)
          → ((if b then fallen (c.machine.sessions s) else c.machine.sessions s).transaction ≡ None)
          ⊎ (pending_of (if b then fallen (c.machine.sessions s) else c.machine.sessions s) ≡ pending_of
          (c.machine.sessions s))
      by_test s true = inl refl
      by_test s false = inr refl
  keeps tails c d h g f = subst (λ x. Refines language was x) (sym h.1) (keep_tail was c g h.0)
  keeps (opens n) c d h g f = let o : MayOpen c n = h.0 in
      subst (λ x. Refines language was x) (sym h.1)
      (keep_open was c n g (λ e. let z = o.taken in absurd (grind arith)) o.whole
      (subst (λ x. IsFair was x.machine) h.1 f))

  pub story : (events : List Event) (c : Cluster) (es : List Entry) (d : Cluster) → AllHappen language c events es d
      → Refines language was c → Leads language c.machine es d.machine × Refines language was d
  story [] c es d h g = (
    subst (λ xs. Leads language c.machine xs d.machine) (sym h.0) (ap (λ x. x.machine) h.1),
    subst (λ x. Refines language was x) (sym h.1) g,
  )
  story (e ∷ more) c es d h g =
      let mid : Cluster = h.0 in
      let run : Leads language c.machine (entries e c) mid.machine = entries_lead e c mid h.2 g in
      let good : Refines language was mid = keeps e c mid h.2 g
      (run_fair language was names fit (entries e c) c.machine mid.machine run g.fair) in
      let rest = story more mid h.1 d h.4 good in (
        subst (λ x. Leads language c.machine x d.machine) (sym h.3)
            (leads_append language (entries e c) h.1 c.machine mid.machine d.machine run rest.0),
        rest.1,
      )
