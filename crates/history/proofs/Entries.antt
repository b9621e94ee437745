-- Events of the session table alone.
use Rattle.std.proofs.Common.{◌≡◌, ℕ, ◌≢◌, Bool, true, false, Option, Some, None, List, [], ◌++◌, if◌then◌else◌, is_some, ◌&&◌, arith, ◌⊎◌, inl, inr, refl, sym, subst, ap, ◌∙◌, filter, option_map, option_and_then, is_none}
use Rattle.sql_values.specs.declared.values.Value.{Value}
use Rattle.sql_statements.specs.declared.statements.Stmt.{Stmt}
use Rattle.std.specs.Option.{option_map_or}
use Rattle.table_machine.specs.declared.entries.Entry.TheVariants as entry
use Rattle.table_machine.specs.Machine as machine
use Rattle.history.proofs.FairSteps.{running_proper}
use Rattle.history.proofs.Frames.{Same, each_ended, each_same, good_machine}
use Rattle.history.proofs.SessionLaws.{outlasts_so, pending_none, pending_some, same_asking, stays_so}
use Rattle.history.proofs.Views.{view_is}
use Rattle.history.proofs.WriteLaws.{evaluated_changes}
use Rattle.history.specs.Clusters.{now, ended, is_lost, works, Work, Cluster}
use Rattle.history.specs.Events.{MovesNoCommit, LeavesJobs}
use Rattle.history.specs.Fitting.{ContentWantsFit}
use Rattle.history.specs.Invariant.{Judged, KeepsSession, Refines}
use Rattle.history.specs.Languages.{KeepsCatalogName}
use Rattle.history.specs.Machines.{IsFair}
use Rattle.history.specs.Places.{says, is_said, over}
use Rattle.history.specs.Timelines.{timeline_of, content_at}
use Rattle.sql_database.specs.Answers.{Answer, wants}
use Rattle.sql_database.specs.Statements.{is_write}
use Rattle.sql_database.specs.declared.changes.Change.{Change}
use Rattle.table_machine.specs.Conflicts.{is_conflict, evaluated}
use Rattle.table_machine.specs.Language.{Language}
use Rattle.table_machine.specs.Machine.{idle, view, is_open, pending_of, running, Transaction, Session, Machine}
use Rattle.table_machine.specs.Moves.{with_session, asking, snapshot, joins, told_session, outlasts, asked, given_up, stays, answered_session}
use Rattle.table_machine.specs.Steps.{Step, MayExec}
use Rattle.table_machine.specs.declared.entries.Entry.{Entry}
use Rattle.version_store.proofs.Places.{put_all}
use Rattle.version_store.specs.Contents.{Content, chain_of}
use Rattle.version_store.specs.Held.{none_of}
use Rattle.version_store.specs.Stores.{put, Store}
use Rattle.history.proofs.PlaceLaws.{append_none}

-- ---- the session table alone

-- a session's pending stays, or its transaction is gone
abbrev Keeps : Machine → Machine → Type 0
Keeps m n = (s : ℕ) → ((n.sessions s).transaction ≡ None) ⊎ (pending_of (n.sessions s) ≡ pending_of (m.sessions s))

keep_one : (m : Machine) (s : ℕ) (x : Session) → (x.transaction ≡ None) ⊎ (pending_of x ≡ pending_of (m.sessions s))
    → (u : ℕ) → ((put m.sessions s x u).transaction ≡ None)
    ⊎ (pending_of (put m.sessions s x u) ≡ pending_of (m.sessions u))
keep_one m s x h =
    put_all (λ u y. (y.transaction ≡ None) ⊎ (pending_of y ≡ pending_of (m.sessions u))) m.sessions s x h
    (λ u ne. inr refl)

keep_by : (x : Session) (f : Transaction → Option Transaction)
    → ((t : Transaction)
    → (f t ≡ None) ⊎ ((u : Transaction) × (f t ≡ Some u) × (u.snap ≡ t.snap) × (u.pending ≡ t.pending)))
    → (option_and_then f x.transaction ≡ None)
    ⊎ (option_map_or (λ t. Transaction.pending t) (option_and_then f x.transaction) [] ≡ pending_of x)
keep_by x f h = by_case x.transaction
  where
    by_case : (o : Option Transaction)
        → (option_and_then f o ≡ None)
        ⊎ (option_map_or (λ t. Transaction.pending t) (option_and_then f o) [] ≡ option_map_or
        (λ t. Transaction.pending t) o [])
    by_case None = inl refl
    by_case (Some t) = either (h t)
      where
        either : (f t ≡ None) ⊎ ((u : Transaction) × (f t ≡ Some u) × (u.snap ≡ t.snap) × (u.pending ≡ t.pending))
            → (f t ≡ None) ⊎ (option_map_or (λ t. Transaction.pending t) (f t) [] ≡ t.pending)
        either (inl z) = inl z
        either (inr z) = inr (ap (λ o. option_map_or (λ t. Transaction.pending t) o []) z.1 ∙ z.3)

pub same_refl : (m : Machine) → Same m m
same_refl m = record { first = refl; count = refl; end = refl; changes = refl }

-- a plain entry keeps the commits and the writer
pub record StaysPut (m n : Machine) : Type 0 where
  pub same : Same m n
  pub writer : n.writer ≡ m.writer
  pub keeps : Keeps m n

plain_one : (m : Machine) (s : ℕ) (x : Session)
    → (x.transaction ≡ None) ⊎ (pending_of x ≡ pending_of (m.sessions s)) → StaysPut m (with_session m s x)
plain_one m s x h =
    record {
      same = record { first = refl; count = refl; end = refl; changes = refl };
      writer = refl;
      keeps = keep_one m s x h;
    }

module _ (language : Language) (names : KeepsCatalogName language) (fit : ContentWantsFit language.answers)
    (was : Content) where
  plain_exec : (m : Machine) (s : ℕ) (t : Transaction) (a : Answer) (st : Stmt) → IsFair was m
      → MayExec language m s t a → running (m.sessions s) ≡ Some st → is_write st ≡ false
      → (evaluated m s t a).changes ≡ []
  plain_exec m s t a st g c r w = either (evaluated_changes m s t a)
    where
      either : ((evaluated m s t a).changes ≡ [])
          ⊎ ((cs : List Change) × (n : ℕ) × (dup : Option Value) × (a ≡ wants cs n dup)
          × ((evaluated m s t a).changes ≡ cs) × (filter (is_conflict m s t) cs ≡ []))
          → (evaluated m s t a).changes ≡ []
      either (inl z) = z
      either (inr z) =
          let f = fit (λ a k. over (says t.pending a k) (content_at (timeline_of was m.first m.changes) t.snap a k))
          (view m t) c.statement z.0 z.1 z.2 (view_is was m g s t c.has)
          (running_proper language was names fit (m.sessions s) c.statement (g.proper s) c.runs)
          (subst (λ b. language.answers (view m t) c.statement b) z.3 c.answers) in
          let same : Some st ≡ Some c.statement = sym r ∙ c.runs in
          let w2 : is_write c.statement ≡ false =
          (let q : st ≡ c.statement = grind arith in subst (λ x. is_write x ≡ false) q w) in
          let w3 = f.0 in absurd (grind arith)

  pub plain_step : (e : Entry) (m n : Machine) → IsFair was m → MovesNoCommit m e → Step language m e n
      → StaysPut m n
  plain_step (entry.Join s name k) m n g p c =
      subst (λ z. StaysPut m z) (sym c.2)
      (record {
        same = record { first = refl; count = refl; end = refl; changes = refl };
        writer = refl;
        keeps = keep_one m s (machine.idle k) (inl refl);
      })
  plain_step (entry.Submit s text) m n g p c =
      subst (λ z. StaysPut m z) (sym c.5)
      (plain_one m s (asking (m.up (m.sessions s).node) c.0 (m.sessions s))
      (inr (ap (λ o. option_map_or (λ t. Transaction.pending t) o [])
      (same_asking (m.up (m.sessions s).node) c.0 (m.sessions s)).0)))
  plain_step (entry.Snap s) m n g p c =
      subst (λ z. StaysPut m z) (sym c.2)
      (plain_one m s (record (m.sessions s) { transaction = Some (snapshot m.count) })
      (inr (sym (pending_none (m.sessions s) c.1.free))))
  plain_step (entry.Exec s) m n g p c =
      subst (λ z. StaysPut m z) (sym c.4) (plain_one m s (told_session (evaluated m s c.0 c.1) (m.sessions s))
      (inr (ap (λ o. option_map_or (λ t. Transaction.pending t)
      (option_map (joins (evaluated m s c.0 c.1).changes) o) []) c.3.has
      ∙ ap (λ cs. Transaction.pending c.0 ++ cs) (plain_exec m s c.0 c.1 p.0 g c.3 p.1 p.2)
      ∙ append_none (Transaction.pending c.0) ∙ sym (pending_some (m.sessions s) c.0 c.3.has))))
  plain_step (entry.Enqueue s) m n g p c = absurd p
  plain_step entry.Settle m n g p c = absurd p
  plain_step (entry.Forget k) m n g p c = absurd p
  plain_step (entry.Reply s r) m n g p c =
      subst (λ z. StaysPut m z) (sym c.1)
      (plain_one m s (answered_session r (m.sessions s))
      (keep_by (m.sessions s) (stays (asked (m.sessions s)) r) (stays_so (asked (m.sessions s)) r)))
  plain_step (entry.Timer s) m n g p c =
      subst (λ z. StaysPut m z) (sym c.2)
      (record {
        same = record { first = refl; count = refl; end = refl; changes = refl };
        writer = refl;
        keeps = keep_one m s (given_up (m.sessions s))
            (keep_by (m.sessions s) (outlasts (asked (m.sessions s))) (outlasts_so (asked (m.sessions s))));
      })
  plain_step (entry.Down k ss) m n g p c = absurd p
  plain_step (entry.Up k) m n g p c =
      subst (λ z. StaysPut m z) (sym c.2)
      (record {
        same = record { first = refl; count = refl; end = refl; changes = refl };
        writer = refl;
        keeps = λ u. inr refl;
      })
  plain_step (entry.Opened k) m n g p c = absurd p
  plain_step (entry.Ignored l) m n g p c =
      subst (λ z. StaysPut m z) (sym c.1)
      (record {
        same = record { first = refl; count = refl; end = refl; changes = refl };
        writer = refl;
        keeps = λ u. inr refl;
      })
  plain_step (entry.Missed l) m n g p c =
      subst (λ z. StaysPut m z) (sym c.1)
      (record {
        same = record { first = refl; count = refl; end = refl; changes = refl };
        writer = refl;
        keeps = λ u. inr refl;
      })
  plain_step (entry.End ss) m n g p c =
      subst (λ z. StaysPut m z) (sym c.2)
      (record {
        same = record { first = refl; count = refl; end = refl; changes = refl };
        writer = refl;
        keeps = λ u. inr refl;
      })

-- what is lost ends, what is not stays
each_works : {language : Language} → (S : Store) (s : ℕ) (W : Work) (x y : Session)
    → (y.transaction ≡ None) ⊎ (pending_of y ≡ pending_of x) → (W.job ≡ true → (y ≡ x) ⊎ (is_lost x y ≡ true))
    → KeepsSession language S s W x → KeepsSession language S s (if is_lost x y then ended else W) y
each_works {language} S s W x y h w e = by_lost (is_lost x y) refl
  where
    is_gone : (o : Option Transaction) → is_none o ≡ true → o ≡ None
    is_gone None z = refl
    is_gone (Some t) z = absurd (grind arith)

    both : (o q : Option Transaction) → (is_some o && is_none q) ≡ false → q ≡ None → o ≡ None
    both None q a b = refl
    both (Some t) None a b = absurd (grind arith)
    both (Some t) (Some u) a b = absurd (grind arith)

    pending : is_lost x y ≡ false → (y.transaction ≡ None) ⊎ (pending_of y ≡ pending_of x)
        → pending_of y ≡ pending_of x
    pending q (inl z) = pending_none y z ∙ sym (pending_none x (both x.transaction y.transaction q z))
    pending q (inr z) = z

    by_job : is_lost x y ≡ false → Judged language S s W x → (y ≡ x) ⊎ (is_lost x y ≡ true)
        → Judged language S s W y
    by_job q u (inl z) = subst (λ k. Judged language S s W k) (sym z) u
    by_job q u (inr z) = absurd (grind arith)

    by_lost : (b : Bool) → is_lost x y ≡ b → KeepsSession language S s (if b then ended else W) y
    by_lost true q = each_ended S s y (pending_none y (is_gone y.transaction (grind arith)))
    by_lost false q = each_same S s W x y (pending q h) (λ j u. by_job q u (w j)) e

pub keep_works : {language : Language} → (was : Content) (c : Cluster) (m : Machine) → Refines language was c
    → IsFair was m → Same c.machine m → m.writer ≡ c.machine.writer → Keeps c.machine m → LeavesJobs c m
    → Refines language was (record c { machine = m; work = works c.machine.sessions m.sessions c.work })
keep_works {language} was c m g f e w k wa =
    good_machine was c m c.mode (works c.machine.sessions m.sessions c.work) g f e
    (λ o. (o, subst (λ x. is_some x ≡ true) (sym w) (g.is_open o).0))
    (λ n. let cl = g.closed n in (w ∙ cl.0, λ s. quiet s (is_lost (c.machine.sessions s) (m.sessions s)) (cl.1 s)))
    (λ s u t a k ne sl. by_lost s u t a k (is_lost (c.machine.sessions s) (m.sessions s)) ne sl)
    (λ s. each_works (now c) s (c.work s) (c.machine.sessions s) (m.sessions s) (k s) (wa s) (g.each s))
  where
    quiet : (s : ℕ) (b : Bool) → ((c.work s).ending ≡ true) × ((c.work s).todo ≡ []) × ((c.work s).job ≡ false)
        → ((if b then ended else c.work s).ending ≡ true) × ((if b then ended else c.work s).todo ≡ [])
        × ((if b then ended else c.work s).job ≡ false)
    quiet s true h = (refl, refl, refl)
    quiet s false h = h

    by_lost : (s u t : ℕ) (a k : List ℕ) (b : Bool) → u ≢ s → (now c).slot u ≡ Some t
        → is_said (says (if b then ended else c.work s).todo a k) ≡ true → none_of t (chain_of (now c) a k) ≡ true
    by_lost s u t a k true ne sl p = absurd (grind arith)
    by_lost s u t a k false ne sl p = g.clear s u t a k ne sl p
