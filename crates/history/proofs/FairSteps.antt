-- Each entry keeps the machine fair.
use Rattle.std.proofs.Common.{◌≡◌, ℕ, zero, suc, ◌≢◌, ◌≤◌, ◌<◌, ◌+◌, ◌-◌, Bool, true, false, Option, Some, None, Ok, List, [], ◌∷◌, ◌++◌, if◌then◌else◌, is_some, nat_eq, nat_le, ◌&&◌, ◌||◌, arith, ◌⊎◌, inl, inr, eqb-true, refl, sym, subst, ap, ◌∙◌, Result, filter, option_map, option_and_then, Err}
use Rattle.sql_values.specs.declared.values.Value.{Value}
use Rattle.sql_statements.specs.declared.statements.Stmt.{Stmt}
use Rattle.std.specs.List.{range_with_len}
use Rattle.std.specs.Result.{result_ok}
use Rattle.sql_database.specs.declared.replies.SqlReply.TheVariants as reply
use Rattle.table_machine.specs.declared.entries.Entry.TheVariants as entry
use Rattle.history.proofs.ChangeLaws.{is_applied, is_committed}
use Rattle.history.proofs.ConflictLaws.{no_conflict}
use Rattle.history.proofs.NumberLaws.{fair_count, fair_end, fair_grow, fits_end}
use Rattle.history.proofs.SessionLaws.{Goes, fair_goes, fair_one, goes_by, goes_same, outlasts_so, pending_none, pending_some, proper_map, same_asking, stays_so}
use Rattle.history.proofs.WriteLaws.{evaluated_changes, fair_wrote}
use Rattle.history.specs.Databases.{StandsFor}
use Rattle.history.specs.Fitting.{FitsAll, ContentWantsFit}
use Rattle.history.specs.Languages.{KeepsCatalogName}
use Rattle.history.specs.Machines.{ReadsProper, IsFair, FairParts}
use Rattle.history.specs.Places.{says, is_said, over}
use Rattle.history.specs.Timelines.{timeline_of, content_at}
use Rattle.sql_database.specs.Answers.{Answer, wants}
use Rattle.sql_database.specs.Fitting.{IsProper}
use Rattle.sql_database.specs.declared.changes.Change.{Change}
use Rattle.table_machine.specs.Conflicts.{is_conflict, evaluated, Evaluated}
use Rattle.table_machine.specs.Language.{Language}
use Rattle.table_machine.specs.Machine.{idle, committed, view, last, is_some_of, pending_of, running, Transaction, Statement, Session, Machine}
use Rattle.table_machine.specs.Moves.{is_in, with_session, fresh, forced, asking, snapshot, joins, is_told, told_session, executed, in_queue, queued_session, enqueued, is_made, settled_session, settles, outlasts, asked, given_up, fallen, downed, forgotten, stays, answered_session}
use Rattle.table_machine.specs.Runs.{Leads}
use Rattle.table_machine.specs.Steps.{sessions_with, is_busy_on, Step, MayExec}
use Rattle.table_machine.specs.declared.entries.Entry.{Entry}
use Rattle.version_store.proofs.Places.{put_all}
use Rattle.version_store.specs.Contents.{Content}
use Rattle.version_store.specs.Stores.{put}
use Rattle.history.proofs.PlaceLaws.{append_none}

-- ---- each entry

in_filter : (p : ℕ → Bool) (a n u : ℕ) → a ≤ u → u < a + n → p u ≡ true
    → is_in (filter p (range_with_len a n)) u ≡ true
in_filter p a zero u l h e = absurd (omega (arith, l, h))
in_filter p a (suc n) u l h e =
    by_test (λ q. in_filter p (a + 1) n u q (omega (arith, h)) e) (nat_eq a u) refl (p a) refl
  where
    by_test : (a + 1 ≤ u → is_in (filter p (range_with_len (a + 1) n)) u ≡ true) → (b : Bool) → nat_eq a u ≡ b
        → (c : Bool) → p a ≡ c
        → is_in (if c then a ∷ filter p (range_with_len (a + 1) n) else filter p (range_with_len (a + 1) n)) u ≡ true
    by_test more true q true r = ap (λ b. b || is_in (filter p (range_with_len (a + 1) n)) u) q
    by_test more true q false r = let z : p a ≡ true = subst (λ i. p i ≡ true) (sym (eqb-true a u q)) e in
        absurd (grind arith)
    by_test more false q true r = let ne : a ≢ u = grind arith in
        ap (λ b. b || is_in (filter p (range_with_len (a + 1) n)) u) q ∙ more (omega (arith, ne, l))
    by_test more false q false r = let ne : a ≢ u = grind arith in more (omega (arith, ne, l))

module _ (language : Language) (was : Content) (names : KeepsCatalogName language)
    (fit : ContentWantsFit language.answers) where
  fair_down : (m : Machine) (n : ℕ) (ss : List ℕ) → ss ≡ sessions_with (is_busy_on n) m → IsFair was m
      → IsFair was (downed m n ss)
  fair_down m n ss e g =
      fair_goes was m.base m.first m.count (last m) m.changes m.joined m.writer m.sessions g m.joined
      (if is_some_of m.writer n then None else m.writer) new
      (λ u. goes u (is_in ss u)) (λ u l. out u l (is_in ss u))
      (λ u ne old w. by_test u ne old w (is_some_of m.writer n) refl) (λ u. proper u (is_in ss u))
    where
      proper : (u : ℕ) (b : Bool) → ReadsProper (if b then fallen (m.sessions u) else m.sessions u)
      proper u true =
          proper_map (m.sessions u) (fallen (m.sessions u)) (forced reply.Unavailable) refl (λ a. refl) (g.proper u)
      proper u false = g.proper u

      new : ℕ → Session
      new = λ t. if is_in ss t then fallen (m.sessions t) else m.sessions t

      goes : (u : ℕ) (b : Bool) → Goes m.count (m.sessions u) (if b then fallen (m.sessions u) else m.sessions u)
      goes u true = inl refl
      goes u false = goes_same m.count (m.sessions u) (m.sessions u) refl refl

      out : (u : ℕ) → m.joined ≤ u → (b : Bool)
          → ((if b then fallen (m.sessions u) else m.sessions u).transaction ≡ None)
          × ((if b then fallen (m.sessions u) else m.sessions u).statement ≡ None)
      out u l true = (refl, ap (λ o. option_map (forced reply.Unavailable) o) (g.outside u l).1)
      out u l false = g.outside u l

      busy : (u : ℕ) → pending_of (m.sessions u) ≢ [] → (m.sessions u).node ≡ n → is_in ss u ≡ true
      busy u old nd =
          subst (λ xs. is_in xs u ≡ true) (sym e)
          (in_filter (λ s. is_busy_on n (m.sessions s)) 0 m.joined u (omega arith)
          (inside (nat_le m.joined u) refl) is)
        where
          inside : (b : Bool) → nat_le m.joined u ≡ b → u < 0 + m.joined
          inside true q = absurd (old (pending_none (m.sessions u) (g.outside u (grind arith)).0))
          inside false q = let l : u < m.joined = grind arith in omega (arith, l)

          has : (o : Option Transaction) → (m.sessions u).transaction ≡ o → is_some o ≡ true
          has None q = absurd (old (pending_none (m.sessions u) q))
          has (Some t) q = refl

          is : (nat_eq (m.sessions u).node n &&
              (is_some (m.sessions u).statement || is_some (m.sessions u).transaction)) ≡ true
          is = let a : nat_eq (m.sessions u).node n ≡ true = grind (arith, nd) in
              let b = has (m.sessions u).transaction refl in let c = is_some (m.sessions u).statement in grind arith

      by_test : (u : ℕ) → pending_of (new u) ≢ [] → pending_of (m.sessions u) ≢ []
          → is_some_of m.writer (m.sessions u).node ≡ true → (b : Bool) → is_some_of m.writer n ≡ b
          → is_some_of (if b then None else m.writer) (m.sessions u).node ≡ true
      by_test u ne old w false q = w
      by_test u ne old w true q =
          absurd (ne (ap (λ b. pending_of (if b then fallen (m.sessions u) else m.sessions u))
          (busy u old (node m.writer q w))))
        where
          node : (o : Option ℕ) → is_some_of o n ≡ true → is_some_of o (m.sessions u).node ≡ true
              → (m.sessions u).node ≡ n
          node None a b = absurd (grind arith)
          node (Some k) a b = sym (eqb-true k (m.sessions u).node b) ∙ eqb-true k n a

  fair_settle : (m : Machine) → 0 < m.waiting → IsFair was m → IsFair was (settles m)
  fair_settle m l g =
      subst (λ e. FairParts was m.base m.first (m.count + 1) e m.changes m.joined m.writer new)
      (let z : m.count + m.waiting ≡ (m.count + 1) + (m.waiting - 1) = omega (arith, l) in z)
      (fair_count was m.base m.first m.count (last m) m.changes m.joined m.writer new
      (fair_goes was m.base m.first m.count (last m) m.changes m.joined m.writer m.sessions g m.joined m.writer new
      (λ u. goes u (is_some_of (m.owner (m.count + 1)) u))
      (λ u q. out u q (is_some_of (m.owner (m.count + 1)) u)) (λ u ne old w. w)
      (λ u. proper u (is_some_of (m.owner (m.count + 1)) u)))
      (m.count + 1) (omega arith) (omega (arith, l)))
    where
      new : ℕ → Session
      new = λ t. if is_some_of (m.owner (m.count + 1)) t then settled_session (m.sessions t) else m.sessions t

      proper : (u : ℕ) (b : Bool) → ReadsProper (if b then settled_session (m.sessions u) else m.sessions u)
      proper u true =
          proper_map (m.sessions u) (settled_session (m.sessions u)) is_made refl (λ a. refl) (g.proper u)
      proper u false = g.proper u

      goes : (u : ℕ) (b : Bool)
          → Goes m.count (m.sessions u) (if b then settled_session (m.sessions u) else m.sessions u)
      goes u true = goes_same m.count (m.sessions u) (settled_session (m.sessions u)) refl refl
      goes u false = goes_same m.count (m.sessions u) (m.sessions u) refl refl

      out : (u : ℕ) → m.joined ≤ u → (b : Bool)
          → ((if b then settled_session (m.sessions u) else m.sessions u).transaction ≡ None)
          × ((if b then settled_session (m.sessions u) else m.sessions u).statement ≡ None)
      out u q true = ((g.outside u q).0, ap (λ o. option_map is_made o) (g.outside u q).1)
      out u q false = g.outside u q

  fair_forget : (m : Machine) (k : ℕ) → k ≤ m.waiting → IsFair was m → IsFair was (forgotten m k)
  fair_forget m k l g =
      fair_count was m.base m.first m.count (m.count + k + 0) m.changes m.joined m.writer m.sessions
      (fair_end was m.base m.first m.count (last m) m.changes m.joined m.writer m.sessions g (m.count + k + 0)
      (omega (arith, l)) (omega arith)) (m.count + k) (omega arith) (omega arith)

  fair_enqueue : (m : Machine) (s : ℕ) (t : Transaction) → (m.sessions s).transaction ≡ Some t → (m.joined ≤ s → ⊥)
      → IsFair was m → IsFair was (enqueued m s)
  fair_enqueue m s t tr inside g =
      subst (λ e. FairParts was m.base m.first m.count e
      (put m.changes (last m + 1) (pending_of (m.sessions s))) m.joined m.writer new)
      (let z : last m + 1 ≡ m.count + (m.waiting + 1) = omega arith in z)
      (fair_grow was m.base m.first m.count (last m) m.changes m.joined m.writer new
      (fair_goes was m.base m.first m.count
      (last m) m.changes m.joined m.writer m.sessions g m.joined m.writer new
      (put_all (λ u y. Goes m.count (m.sessions u) y) m.sessions s x (inl refl)
      (λ u ne. goes_same m.count (m.sessions u) (m.sessions u) refl refl))
      (put_all (λ u y. m.joined ≤ u → (y.transaction ≡ None) × (y.statement ≡ None)) m.sessions s x
      (λ l. absurd (inside l)) (λ u ne l. g.outside u l))
      (λ u ne old w. w)
      (put_all (λ u y. ReadsProper y) m.sessions s x
      (proper_map (m.sessions s) x in_queue refl (λ a. refl) (g.proper s)) (λ u ne. g.proper u)))
      (last m + 1) (pending_of (m.sessions s)) (omega arith)
      (subst (λ cs. FitsAll (content_at (timeline_of was m.first m.changes) (last m)) cs)
      (sym (pending_some (m.sessions s) t tr))
      (fits_end was m.base m.first m.count (last m) m.changes m.joined m.writer m.sessions g s t tr))
      (put_all (λ u y. (v : Transaction) (a k : List ℕ) → y.transaction ≡ Some v
      → is_said (says v.pending a k) ≡ true → is_said (says (pending_of (m.sessions s)) a k) ≡ true
      → ⊥) m.sessions s x
      (λ v a k e. absurd (grind arith))
      (λ u ne v a k e p q. ne
      (g.alone u s a k
      (subst (λ cs. is_said (says cs a k) ≡ true) (sym (pending_some (m.sessions u) v e)) p) q))))
    where
      x : Session
      x = queued_session (m.sessions s)

      new : ℕ → Session
      new = put m.sessions s (queued_session (m.sessions s))

  no_statement : (m : Machine) (s : ℕ) (st : Stmt) → IsFair was m → running (m.sessions s) ≡ Some st → m.joined ≤ s
      → ⊥
  no_statement m s st g r l =
      let z : None ≡ Some st = sym
      (ap (λ o. option_and_then (λ a. if Statement.stopped a then None else result_ok (Statement.read a)) o)
      (g.outside s l).1) ∙ r in grind arith

  -- what runs is what was read
  pub running_proper : (x : Session) (st : Stmt) → ReadsProper x → running x ≡ Some st → IsProper st
  running_proper x st g r = by_case x.statement refl r
    where
      by_read : (a : Statement) → x.statement ≡ Some a → (b : Bool) (q : Result Stmt ℕ) → a.read ≡ q
          → (if b then None else result_ok q) ≡ Some st → IsProper st
      by_read a e true q f h = absurd (grind arith)
      by_read a e false (Ok y) f h = let i : y ≡ st = grind arith in g a st e (f ∙ ap (λ z. Ok z) i)
      by_read a e false (Err y) f h = absurd (grind arith)

      by_case : (o : Option Statement) → x.statement ≡ o
          → option_and_then (λ a. if Statement.stopped a then None else result_ok (Statement.read a)) o ≡ Some st
          → IsProper st
      by_case None e h = absurd (grind arith)
      by_case (Some a) e h = by_read a e a.stopped a.read refl h

  fair_exec : (m : Machine) (s : ℕ) (t : Transaction) (a : Answer) → MayExec language m s t a → IsFair was m
      → IsFair was (executed m s (evaluated m s t a))
  fair_exec m s t a c g = either (evaluated_changes m s t a)
    where
      e : Evaluated
      e = evaluated m s t a

      x : Session
      x = told_session (evaluated m s t a) (m.sessions s)

      pr : ReadsProper x
      pr = proper_map (m.sessions s) x (is_told e) refl (λ a. refl) (g.proper s)

      tx : x.transaction ≡ Some (joins e.changes t)
      tx = ap (option_map (joins e.changes)) c.has

      either : ((evaluated m s t a).changes ≡ [])
          ⊎ ((cs : List Change) × (n : ℕ) × (dup : Option Value) × (a ≡ wants cs n dup)
          × ((evaluated m s t a).changes ≡ cs) × (filter (is_conflict m s t) cs ≡ []))
          → IsFair was (with_session m s x)
      either (inl z) =
          fair_one was m s x g
          (inr (inr (
            t,
            joins e.changes t,
            c.has,
            tx,
            refl,
            ap (λ cs. t.pending ++ cs) z
                ∙ append_none t.pending,
            refl,
          ))) pr (λ l. absurd (no_statement m s c.statement g c.runs l))
      either (inr z) =
          let seen : StandsFor
          (λ a k. over (says t.pending a k) (content_at (timeline_of was m.first m.changes) t.snap a k))
          (view m t) =
          is_applied t.pending (content_at (timeline_of was m.first m.changes) t.snap) (committed m t.snap)
          (is_committed was m (last m) t.snap g.base_is g.line
          (let p = (g.snaps s t c.has).1 in let h = g.high in omega (arith, p, h)) (g.snaps s t c.has).0)
          (g.own s t c.has) in
          let w = fit (λ a k. over (says t.pending a k) (content_at (timeline_of was m.first m.changes) t.snap a k))
          (view m t) c.statement z.0 z.1 z.2 seen (running_proper (m.sessions s) c.statement (g.proper s) c.runs)
          (subst (λ b. language.answers (view m t) c.statement b) z.3 c.answers) in
          fair_wrote was m s t z.0 x g c.has (tx ∙ ap (λ cs. Some (joins cs t)) z.4) refl w.1
          (λ a k p q. no_conflict m s t z.0 a k z.5 p q) (c.writes w.0)
          (λ l. no_statement m s c.statement g c.runs l) pr

  proper_asking : (m : Machine) (s : ℕ) (text : List ℕ) (read : Result Stmt ℕ) → language.parses text read
      → (up : Bool) → ReadsProper (asking up read (m.sessions s))
  proper_asking m s text read p false a st e r =
      let i : a.read ≡ read =
      (let z : forced reply.Unavailable (fresh read) ≡ a = grind arith in ap (λ k. k.read) (sym z)) in
      names text st (subst (λ q. language.parses text q) (sym i ∙ r) p)
  proper_asking m s text read p true a st e r = by_lost (m.sessions s).lost e
    where
      by_lost : (b : Bool)
          → (if b then record
          (m.sessions s) { lost = false; statement = Some (forced reply.Lost (fresh read)) } else record
          (m.sessions s) { statement = Some (fresh read) }).statement ≡ Some a → IsProper st
      by_lost true e =
          let i : a.read ≡ read =
          (let z : forced reply.Lost (fresh read) ≡ a = grind arith in ap (λ k. k.read) (sym z)) in
          names text st (subst (λ q. language.parses text q) (sym i ∙ r) p)
      by_lost false e =
          let i : a.read ≡ read = (let z : fresh read ≡ a = grind arith in ap (λ k. k.read) (sym z)) in
          names text st (subst (λ q. language.parses text q) (sym i ∙ r) p)

  pub step_fair : (e : Entry) (m new : Machine) → Step language m e new → IsFair was m → IsFair was new
  step_fair (entry.Join s name n) m new c g = subst (λ z. IsFair was z) (sym c.2)
      (fair_goes was m.base m.first m.count (last m) m.changes m.joined m.writer m.sessions g (m.joined + 1) m.writer
      (put m.sessions s (idle n))
      (put_all (λ u y. Goes m.count (m.sessions u) y) m.sessions s (idle n) (inl refl)
      (λ u ne. goes_same m.count (m.sessions u) (m.sessions u) refl refl))
      (put_all (λ u y. m.joined + 1 ≤ u → (y.transaction ≡ None) × (y.statement ≡ None)) m.sessions s (idle n)
      (λ l. (refl, refl)) (λ u ne l. g.outside u (omega (arith, l)))) (λ u ne old w. w)
      (put_all (λ u y. ReadsProper y) m.sessions s (idle n) (λ a st e r. absurd (grind arith))
      (λ u ne. g.proper u)))
  step_fair (entry.Submit s text) m new c g = let x = same_asking (m.up (m.sessions s).node) c.0 (m.sessions s) in
      subst (λ z. IsFair was z) (sym c.5)
      (fair_one was m s (asking (m.up (m.sessions s).node) c.0 (m.sessions s)) g
      (goes_same m.count (m.sessions s) (asking (m.up (m.sessions s).node) c.0 (m.sessions s)) x.0 x.1)
      (proper_asking m s text c.0 c.4 (m.up (m.sessions s).node))
      (λ l. absurd (let b = c.2 in omega (arith, b, l))))
  step_fair (entry.Snap s) m new c g = subst (λ z. IsFair was z) (sym c.2)
      (fair_one was m s (record (m.sessions s) { transaction = Some (snapshot m.count) }) g
      (inr (inl (snapshot m.count, refl, refl, refl))) (g.proper s)
      (λ l. absurd (no_statement m s c.1.statement g c.1.runs l)))
  step_fair (entry.Exec s) m new c g = subst (λ z. IsFair was z) (sym c.4) (fair_exec m s c.0 c.1 c.3 g)
  step_fair (entry.Enqueue s) m new c g =
      subst (λ z. IsFair was z) (sym c.2) (by_case (m.sessions s).transaction refl)
    where
      by_case : (o : Option Transaction) → (m.sessions s).transaction ≡ o → IsFair was (enqueued m s)
      by_case None q = absurd (c.1.changes (pending_none (m.sessions s) q))
      by_case (Some t) q = fair_enqueue m s t q (λ l. no_statement m s c.1.statement g c.1.runs l) g
  step_fair entry.Settle m new c g = subst (λ z. IsFair was z) (sym c.3) (fair_settle m c.2 g)
  step_fair (entry.Forget k) m new c g = subst (λ z. IsFair was z) (sym c.3) (fair_forget m k c.2 g)
  step_fair (entry.Reply s r) m new c g = subst (λ z. IsFair was z) (sym c.1)
      (fair_one was m s (answered_session r (m.sessions s)) g
      (goes_by m.count (m.sessions s) (answered_session r (m.sessions s))
      (stays (asked (m.sessions s)) r) refl refl (stays_so (asked (m.sessions s)) r))
      (λ a st e q. absurd (grind arith))
      (λ l. (ap (option_and_then (stays (asked (m.sessions s)) r)) (g.outside s l).0, refl)))
  step_fair (entry.Timer s) m new c g = subst (λ z. IsFair was z) (sym c.2)
      (fair_one was m s (given_up (m.sessions s)) g
      (goes_by m.count (m.sessions s) (given_up (m.sessions s)) (outlasts (asked (m.sessions s))) refl refl
      (outlasts_so (asked (m.sessions s))))
      (proper_map (m.sessions s) (given_up (m.sessions s)) (forced reply.Unavailable) refl (λ a. refl)
      (g.proper s))
      (λ l. (
        ap (option_and_then (outlasts (asked (m.sessions s)))) (g.outside s l).0,
        ap (λ o. option_map (forced reply.Unavailable) o) (g.outside s l).1,
      )))
  step_fair (entry.Down n ss) m new c g = subst (λ z. IsFair was z) (sym c.3) (fair_down m n ss c.2 g)
  step_fair (entry.Up n) m new c g = subst (λ z. IsFair was z) (sym c.2) g
  step_fair (entry.Opened n) m new c g = subst (λ z. IsFair was z) (sym c.4)
      (fair_goes was m.base m.first m.count (last m) m.changes m.joined m.writer m.sessions g m.joined
      (Some n) m.sessions (λ u. goes_same m.count (m.sessions u) (m.sessions u) refl refl) g.outside
      (λ u ne old w. absurd
      (let z : is_some_of None (m.sessions u).node ≡ true = subst
      (λ o. is_some_of o (m.sessions u).node ≡ true) c.1 w in grind arith)) g.proper)
  step_fair (entry.Ignored l) m new c g = subst (λ z. IsFair was z) (sym c.1) g
  step_fair (entry.Missed l) m new c g = subst (λ z. IsFair was z) (sym c.1) g
  step_fair (entry.End ss) m new c g = subst (λ z. IsFair was z) (sym c.2) g

  pub run_fair : (es : List Entry) (m new : Machine) → Leads language m es new → IsFair was m → IsFair was new
  run_fair [] m new h g = subst (λ z. IsFair was z) (sym h) g
  run_fair (e ∷ es) m new h g = run_fair es h.0 new h.2 (step_fair e m h.0 h.1 g)
