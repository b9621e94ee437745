-- Sessions that keep what they have, lose it, or begin.
use Rattle.std.proofs.Common.{◌≡◌, ℕ, ◌≢◌, ◌≤◌, Bool, true, false, Option, Some, None, List, [], if◌then◌else◌, ◌&&◌, ◌||◌, not, arith, ◌⊎◌, inl, inr, refl, sym, subst, ap, ◌∙◌, Result, option_map, option_and_then}
use Rattle.sql_statements.specs.declared.statements.Stmt.{Stmt}
use Rattle.std.specs.Option.{option_map_or}
use Rattle.sql_database.specs.declared.replies.SqlReply.TheVariants as reply
use Rattle.history.specs.Fitting.{FitsAll}
use Rattle.history.specs.Machines.{ReadsProper, IsFair, FairParts}
use Rattle.history.specs.Places.{says, is_said}
use Rattle.history.specs.Timelines.{timeline_of, content_at, latest}
use Rattle.sql_database.specs.Database.{Database}
use Rattle.sql_database.specs.Fitting.{IsProper}
use Rattle.sql_database.specs.Replies.{is_giving_up}
use Rattle.sql_database.specs.Statements.{is_write, is_begin, is_ending}
use Rattle.sql_database.specs.declared.changes.Change.{Change}
use Rattle.sql_database.specs.declared.replies.SqlReply.{SqlReply}
use Rattle.table_machine.specs.Machine.{last, is_some_of, pending_of, Transaction, Statement, Session, Machine}
use Rattle.table_machine.specs.Moves.{with_session, fresh, forced, asking, outlasts, is_and, stays}
use Rattle.version_store.proofs.Places.{put_all}
use Rattle.version_store.specs.Contents.{Content}
use Rattle.version_store.specs.Stores.{put}

-- ---- sessions that keep what they have, lose it, or begin

abbrev pub Goes : ℕ → Session → Session → Type 0
Goes n x y = (y.transaction ≡ None)
    ⊎ (((t : Transaction) × (y.transaction ≡ Some t) × (t.pending ≡ []) × (t.snap ≡ n))
    ⊎ ((t : Transaction) × (u : Transaction) × (x.transaction ≡ Some t) × (y.transaction ≡ Some u) × (u.snap ≡ t.snap)
    × (u.pending ≡ t.pending) × (y.node ≡ x.node)))

pub goes_same : (n : ℕ) (x y : Session) → y.transaction ≡ x.transaction → y.node ≡ x.node → Goes n x y
goes_same n x y e f = by_case x.transaction refl
  where
    by_case : (o : Option Transaction) → x.transaction ≡ o → Goes n x y
    by_case None q = inl (e ∙ q)
    by_case (Some t) q = inr (inr (t, t, q, e ∙ q, refl, refl, f))

pub pending_none : (x : Session) → x.transaction ≡ None → pending_of x ≡ []
pending_none x e = ap (λ o. option_map_or (λ t. t.pending) o []) e

pub pending_some : (x : Session) (t : Transaction) → x.transaction ≡ Some t → pending_of x ≡ t.pending
pending_some x t e = ap (λ o. option_map_or (λ t. t.pending) o []) e

-- either nothing is pending, or it is what was
pub goes_pending : (n : ℕ) (x y : Session) → Goes n x y
    → (pending_of y ≡ []) ⊎ ((pending_of y ≡ pending_of x) × (y.node ≡ x.node))
goes_pending n x y (inl e) = inl (pending_none y e)
goes_pending n x y (inr (inl z)) = inl (pending_some y z.0 z.1 ∙ z.2)
goes_pending n x y (inr (inr z)) = inr (pending_some y z.1 z.3 ∙ z.5 ∙ sym (pending_some x z.0 z.2), z.6)

module _ (was : Content) (base : Database) (first count end : ℕ) (changes : ℕ → List Change) (j : ℕ) (w : Option ℕ)
    (ss : ℕ → Session) (g : FairParts was base first count end changes j w ss) where
  pub fair_goes : (i : ℕ) (v : Option ℕ) (new : ℕ → Session) → ((s : ℕ) → Goes count (ss s) (new s))
      → ((s : ℕ) → i ≤ s → ((new s).transaction ≡ None) × ((new s).statement ≡ None))
      → ((s : ℕ) → pending_of (new s) ≢ [] → pending_of (ss s) ≢ [] → is_some_of w (ss s).node ≡ true
      → is_some_of v (ss s).node ≡ true) → ((s : ℕ) → ReadsProper (new s))
      → FairParts was base first count end changes i v new
  fair_goes i v new h out wr pr = record {
    proper = pr;
    base_is = g.base_is;
    low = g.low;
    high = g.high;
    snaps = λ s t e. snaps s t e (h s);
    outside = out;
    alone = λ s u a k p q. g.alone s u a k (said s a k p (goes_pending count (ss s) (new s) (h s)))
        (said u a k q (goes_pending count (ss u) (new u) (h u)));
    late = λ s t a k e p. late s t a k e p (h s);
    line = g.line;
    own = λ s t e. own s t e (h s);
    writes = λ s ne. writes s ne (goes_pending count (ss s) (new s) (h s));
  }
    where
      inside : (s : ℕ) (t u : Transaction) → (new s).transaction ≡ Some t → (new s).transaction ≡ Some u → u ≡ t
      inside s t u e f = let z : Some u ≡ Some t = sym f ∙ e in grind arith

      clash : (s : ℕ) (t : Transaction) → (new s).transaction ≡ Some t → (new s).transaction ≡ None → ⊥
      clash s t e f = let z : Some t ≡ None = sym e ∙ f in grind arith

      snaps : (s : ℕ) (t : Transaction) → (new s).transaction ≡ Some t → Goes count (ss s) (new s)
          → (first ≤ t.snap) × (t.snap ≤ count)
      snaps s t e (inl f) = absurd (clash s t e f)
      snaps s t e (inr (inl z)) = let q : t.snap ≡ count = ap (λ x. x.snap) (sym (inside s t z.0 e z.1)) ∙ z.3 in
          let l = g.low in (omega (arith, q, l), omega (arith, q))
      snaps s t e (inr (inr z)) = let q : t.snap ≡ z.0.snap = ap (λ x. x.snap) (sym (inside s t z.1 e z.3)) ∙ z.4 in
          let l = g.snaps s z.0 z.2 in (subst (λ n. first ≤ n) (sym q) l.0, subst (λ n. n ≤ count) (sym q) l.1)

      said : (s : ℕ) (a k : List ℕ) → is_said (says (pending_of (new s)) a k) ≡ true
          → (pending_of (new s) ≡ []) ⊎ ((pending_of (new s) ≡ pending_of (ss s)) × ((new s).node ≡ (ss s).node))
          → is_said (says (pending_of (ss s)) a k) ≡ true
      said s a k p (inl e) =
          let z : is_said (says [] a k) ≡ true = subst (λ cs. is_said (says cs a k) ≡ true) e p in
          absurd (grind arith)
      said s a k p (inr e) = subst (λ cs. is_said (says cs a k) ≡ true) e.0 p

      late : (s : ℕ) (t : Transaction) (a k : List ℕ) → (new s).transaction ≡ Some t
          → is_said (says t.pending a k) ≡ true → Goes count (ss s) (new s)
          → latest (timeline_of was first changes) end a k ≤ t.snap
      late s t a k e p (inl f) = absurd (clash s t e f)
      late s t a k e p (inr (inl z)) = let q : t.pending ≡ [] = ap (λ x. x.pending) (sym (inside s t z.0 e z.1))
          ∙ z.2 in let y : is_said (says [] a k) ≡ true = subst (λ cs. is_said (says cs a k) ≡ true) q p in
          absurd (grind arith)
      late s t a k e p (inr (inr z)) =
          let q : t.pending ≡ z.0.pending = ap (λ x. x.pending) (sym (inside s t z.1 e z.3)) ∙ z.5 in
          let r : t.snap ≡ z.0.snap = ap (λ x. x.snap) (sym (inside s t z.1 e z.3)) ∙ z.4 in
          subst (λ n. latest (timeline_of was first changes) end a k ≤ n) (sym r)
          (g.late s z.0 a k z.2 (subst (λ cs. is_said (says cs a k) ≡ true) q p))

      own : (s : ℕ) (t : Transaction) → (new s).transaction ≡ Some t → Goes count (ss s) (new s)
          → FitsAll (content_at (timeline_of was first changes) t.snap) t.pending
      own s t e (inl f) = absurd (clash s t e f)
      own s t e (inr (inl z)) =
          subst (λ cs. FitsAll (content_at (timeline_of was first changes) t.snap) cs)
          (sym (ap (λ x. x.pending) (sym (inside s t z.0 e z.1)) ∙ z.2)) tt
      own s t e (inr (inr z)) =
          let q : t.pending ≡ z.0.pending = ap (λ x. x.pending) (sym (inside s t z.1 e z.3)) ∙ z.5 in
          let r : t.snap ≡ z.0.snap = ap (λ x. x.snap) (sym (inside s t z.1 e z.3)) ∙ z.4 in
          subst (λ n. FitsAll (content_at (timeline_of was first changes) n) t.pending) (sym r)
          (subst (λ cs. FitsAll (content_at (timeline_of was first changes) z.0.snap) cs) (sym q)
          (g.own s z.0 z.2))

      writes : (s : ℕ) → pending_of (new s) ≢ []
          → (pending_of (new s) ≡ []) ⊎ ((pending_of (new s) ≡ pending_of (ss s)) × ((new s).node ≡ (ss s).node))
          → is_some_of v (new s).node ≡ true
      writes s ne (inl e) = absurd (ne e)
      writes s ne (inr e) = let old : pending_of (ss s) ≢ [] = λ z. ne (e.0 ∙ z) in
          subst (λ n. is_some_of v n ≡ true) (sym e.1) (wr s ne old (g.writes s old))

-- ---- one session

pub proper_map : (x y : Session) (f : Statement → Statement) → y.statement ≡ option_map f x.statement
    → ((a : Statement) → (f a).read ≡ a.read) → ReadsProper x → ReadsProper y
proper_map x y f e h g a st q r = by_case x.statement refl
  where
    by_case : (o : Option Statement) → x.statement ≡ o → IsProper st
    by_case None z = let w : None ≡ Some a = sym (e ∙ ap (option_map f) z) ∙ q in absurd (grind arith)
    by_case (Some b) z = let w : Some (f b) ≡ Some a = sym (e ∙ ap (option_map f) z) ∙ q in
        let i : f b ≡ a = grind arith in g b st z (sym (h b) ∙ ap (λ k. k.read) i ∙ r)

pub fair_one : (was : Content) (m : Machine) (s : ℕ) (x : Session) → IsFair was m → Goes m.count (m.sessions s) x
    → ReadsProper x → (m.joined ≤ s → (x.transaction ≡ None) × (x.statement ≡ None)) → IsFair was (with_session m s x)
fair_one was m s x g h pr out =
    fair_goes was m.base m.first m.count (last m) m.changes m.joined m.writer m.sessions g m.joined m.writer
    (put m.sessions s x)
    (put_all (λ u y. Goes m.count (m.sessions u) y) m.sessions s x h
    (λ u ne. goes_same m.count (m.sessions u) (m.sessions u) refl refl))
    (put_all (λ u y. m.joined ≤ u → (y.transaction ≡ None) × (y.statement ≡ None)) m.sessions s x out
    (λ u ne l. g.outside u l))
    (λ u ne old w. w) (put_all (λ u y. ReadsProper y) m.sessions s x pr (λ u ne. g.proper u))

pub same_asking : (up : Bool) (read : Result Stmt ℕ) (x : Session)
    → ((asking up read x).transaction ≡ x.transaction) × ((asking up read x).node ≡ x.node)
same_asking false read x = (refl, refl)
same_asking true read x = by_lost x.lost
  where
    by_lost : (b : Bool)
        → ((if b then record x {
          lost = false;
          statement = Some (forced reply.Lost (fresh read));
        } else record x {
          statement =
              Some (fresh read);
        }).transaction ≡ x.transaction)
        × ((if b then record x {
          lost = false;
          statement = Some (forced reply.Lost (fresh read));
        } else record x {
          statement =
              Some (fresh read);
        }).node ≡ x.node)
    by_lost true = (refl, refl)
    by_lost false = (refl, refl)

pub goes_by : (n : ℕ) (x y : Session) (f : Transaction → Option Transaction)
    → y.transaction ≡ option_and_then f x.transaction → y.node ≡ x.node
    → ((t : Transaction)
    → (f t ≡ None) ⊎ ((u : Transaction) × (f t ≡ Some u) × (u.snap ≡ t.snap) × (u.pending ≡ t.pending)))
    → Goes n x y
goes_by n x y f e nd h = by_case x.transaction refl
  where
    by_case : (o : Option Transaction) → x.transaction ≡ o → Goes n x y
    by_case None q = inl (e ∙ ap (option_and_then f) q)
    by_case (Some t) q = either (h t)
      where
        either : (f t ≡ None) ⊎ ((u : Transaction) × (f t ≡ Some u) × (u.snap ≡ t.snap) × (u.pending ≡ t.pending))
            → Goes n x y
        either (inl z) = inl (e ∙ ap (option_and_then f) q ∙ z)
        either (inr z) = inr (inr (t, z.0, q, e ∙ ap (option_and_then f) q ∙ z.1, z.2, z.3, nd))

pub stays_so : (st : Option Stmt) (r : SqlReply) (t : Transaction)
    → (stays st r t ≡ None)
    ⊎ ((u : Transaction) × (stays st r t ≡ Some u) × (u.snap ≡ t.snap) × (u.pending ≡ t.pending))
stays_so st r t = by_test (is_giving_up r || is_and is_ending st r) (is_and is_begin st r) t.lasting
  where
    by_test : (a b c : Bool)
        → ((if a then None else
        (if b then Some (record t { lasting = true }) else (if c then Some t else None))) ≡ None)
        ⊎ ((u : Transaction)
        × ((if a then None else
        (if b then Some (record t { lasting = true }) else (if c then Some t else None))) ≡ Some u)
        × (u.snap ≡ t.snap) × (u.pending ≡ t.pending))
    by_test true b c = inl refl
    by_test false true c = inr (record t { lasting = true }, refl, refl, refl)
    by_test false false true = inr (t, refl, refl, refl)
    by_test false false false = inl refl

pub outlasts_so : (st : Option Stmt) (t : Transaction)
    → (outlasts st t ≡ None)
    ⊎ ((u : Transaction) × (outlasts st t ≡ Some u) × (u.snap ≡ t.snap) × (u.pending ≡ t.pending))
outlasts_so st t = by_test (t.lasting && not (option_map_or (λ s. is_write s || is_ending s) st false))
  where
    by_test : (b : Bool)
        → ((if b then Some t else None) ≡ None)
        ⊎ ((u : Transaction) × ((if b then Some t else None) ≡ Some u) × (u.snap ≡ t.snap)
        × (u.pending ≡ t.pending))
    by_test true = inr (t, refl, refl, refl)
    by_test false = inl refl
