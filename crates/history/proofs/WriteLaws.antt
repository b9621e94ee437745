-- The machine stays fair as a transaction writes.
use Rattle.std.proofs.Common.{◌≡◌, ℕ, ◌≢◌, ◌≤◌, ◌<◌, Bool, true, false, Option, Some, None, List, [], ◌∷◌, ◌++◌, if◌then◌else◌, nat_eq, nat_le, arith, ◌⊎◌, inl, inr, eqb-true, refl, sym, subst, ◌∙◌, filter, fold}
use Rattle.sql_values.specs.declared.values.Value.{Value}
use Rattle.std.specs.Option.{option_map_or}
use Rattle.std.specs.Ordering.{is_lt}
use Rattle.sql_values.specs.Order.{text_cmp}
use Rattle.sql_database.specs.declared.replies.SqlReply.TheVariants as reply
use Rattle.history.proofs.ConflictLaws.{Clashes}
use Rattle.history.proofs.FittingLaws.{fits_append}
use Rattle.history.proofs.PlaceLaws.{said_or_else, says_append}
use Rattle.history.proofs.SessionLaws.{pending_none, pending_some}
use Rattle.history.proofs.TimelineLaws.{latest_has, latest_high}
use Rattle.history.specs.Fitting.{FitsAll}
use Rattle.history.specs.Machines.{ReadsProper, IsFair}
use Rattle.history.specs.Places.{says, is_said, over}
use Rattle.history.specs.Timelines.{timeline_of, content_at, latest}
use Rattle.sql_database.specs.Answers.{Answer, rows, refused, wants}
use Rattle.sql_database.specs.Applied.{change_key}
use Rattle.sql_database.specs.declared.changes.Change.{Change}
use Rattle.table_machine.specs.Conflicts.{is_conflict, lesser, least, told, unless_duplicate, evaluated}
use Rattle.table_machine.specs.Machine.{view, last, is_some_of, is_open, pending_of, Transaction, Session, Machine}
use Rattle.table_machine.specs.Moves.{with_session, joins}
use Rattle.version_store.proofs.Places.{put_all}
use Rattle.version_store.specs.Contents.{Content}
use Rattle.version_store.specs.Stores.{put}

-- ---- a statement's changes

some_least : (cs : List Change) (b : Change) → fold lesser (Some b) cs ≡ None → ⊥
some_least [] b h = grind arith
some_least (c ∷ cs) b h = by_test (some_least cs c) (some_least cs b) (is_lt (text_cmp c.key b.key)) h
  where
    by_test : (fold lesser (Some c) cs ≡ None → ⊥) → (fold lesser (Some b) cs ≡ None → ⊥) → (t : Bool)
        → fold lesser (if t then Some c else Some b) cs ≡ None → ⊥
    by_test f g true h = f h
    by_test f g false h = g h

least_none : (cs : List Change) → least cs ≡ None → cs ≡ []
least_none [] h = refl
least_none (c ∷ cs) h = absurd (some_least cs c h)

pub evaluated_changes : (m : Machine) (s : ℕ) (t : Transaction) (a : Answer) → ((evaluated m s t a).changes ≡ [])
    ⊎ ((cs : List Change) × (n : ℕ) × (dup : Option Value) × (a ≡ wants cs n dup) × ((evaluated m s t a).changes ≡ cs)
    × (filter (is_conflict m s t) cs ≡ []))
evaluated_changes m s t (rows rs) = inl refl
evaluated_changes m s t (refused r) = inl refl
evaluated_changes m s t (wants cs n dup) = by_least (least (filter (is_conflict m s t) cs)) refl dup
  where
    by_least : (o : Option Change) → least (filter (is_conflict m s t) cs) ≡ o → (d : Option Value)
        → ((option_map_or (λ c. told (reply.Conflict (change_key (view m t) c))) o
        (unless_duplicate cs n d)).changes ≡ [])
        ⊎ ((ds : List Change) × (k : ℕ) × (dup : Option Value) × (wants cs n d ≡ wants ds k dup)
        × ((option_map_or (λ c. told (reply.Conflict (change_key (view m t) c))) o
        (unless_duplicate cs n d)).changes ≡ ds) × (filter (is_conflict m s t) ds ≡ []))
    by_least (Some c) e d = inl refl
    by_least None e None = inr (cs, n, None, refl, refl, least_none (filter (is_conflict m s t) cs) e)
    by_least None e (Some v) = inl refl

module _ (was : Content) (m : Machine) (s : ℕ) (t : Transaction) (cs : List Change) (x : Session) (g : IsFair was m)
    (tr : (m.sessions s).transaction ≡ Some t) (xt : x.transaction ≡ Some (joins cs t))
    (xn : x.node ≡ (m.sessions s).node)
    (fits : FitsAll (λ a k. over (says t.pending a k) (content_at (timeline_of was m.first m.changes) t.snap a k)) cs)
    (free : (a k : List ℕ) → is_said (says cs a k) ≡ true → Clashes m s t a k → ⊥)
    (at : is_open m (m.sessions s).node ≡ true) where
  joined_of : (u : Transaction) → x.transaction ≡ Some u → u ≡ joins cs t
  joined_of u e = let z : Some u ≡ Some (joins cs t) = sym e ∙ xt in grind arith

  below : (u : ℕ) → (m.joined ≤ u → ⊥) → u < m.joined
  below u f = by_test (nat_le m.joined u) refl
    where
      by_test : (b : Bool) → nat_le m.joined u ≡ b → u < m.joined
      by_test true e = absurd (f (grind arith))
      by_test false e = grind arith

  has_pending : (u : ℕ) (a k : List ℕ) → is_said (says (pending_of (m.sessions u)) a k) ≡ true → u < m.joined
  has_pending u a k p =
      below u (λ l. let z : is_said (says [] a k) ≡ true = subst (λ ds. is_said (says ds a k) ≡ true)
      (pending_none (m.sessions u) (g.outside u l).0) p in grind arith)

  said_joined : (a k : List ℕ) → is_said (says (t.pending ++ cs) a k) ≡ true
      → (is_said (says cs a k) ≡ true) ⊎ (is_said (says (pending_of (m.sessions s)) a k) ≡ true)
  said_joined a k p =
      either (said_or_else (says cs a k) (says t.pending a k)
      (subst (λ o. is_said o ≡ true) (says_append t.pending cs a k) p))
    where
      either : (is_said (says cs a k) ≡ true) ⊎ (is_said (says t.pending a k) ≡ true)
          → (is_said (says cs a k) ≡ true) ⊎ (is_said (says (pending_of (m.sessions s)) a k) ≡ true)
      either (inl z) = inl z
      either (inr z) = inr (subst (λ ds. is_said (says ds a k) ≡ true) (sym (pending_some (m.sessions s) t tr)) z)

  one_other : (u : ℕ) (a k : List ℕ) → is_said (says (t.pending ++ cs) a k) ≡ true
      → is_said (says (pending_of (m.sessions u)) a k) ≡ true → u ≡ s
  one_other u a k p q = either (said_joined a k p)
    where
      by_test : is_said (says cs a k) ≡ true → (b : Bool) → nat_eq u s ≡ b → u ≡ s
      by_test z true e = eqb-true u s e
      by_test z false e = let ne : u ≢ s = grind arith in absurd (free a k z (inl (u, ne, has_pending u a k q, q)))

      either : (is_said (says cs a k) ≡ true) ⊎ (is_said (says (pending_of (m.sessions s)) a k) ≡ true) → u ≡ s
      either (inl z) = by_test z (nat_eq u s) refl
      either (inr z) = g.alone u s a k q z

  pub fair_wrote : (m.joined ≤ s → ⊥) → ReadsProper x → IsFair was (with_session m s x)
  fair_wrote inside pr = record {
    proper = put_all (λ u y. ReadsProper y) m.sessions s x pr (λ u ne. g.proper u);
    base_is = g.base_is;
    low = g.low;
    high = g.high;
    line = g.line;
    snaps = put_all
        (λ u y. (v : Transaction) → y.transaction ≡ Some v → (m.first ≤ v.snap) × (v.snap ≤ m.count)) m.sessions s x
        (λ v e. subst (λ z. (m.first ≤ z.snap) × (z.snap ≤ m.count)) (sym (joined_of v e)) (g.snaps s t tr))
        (λ u ne. g.snaps u);
    outside = put_all (λ u y. m.joined ≤ u → (y.transaction ≡ None) × (y.statement ≡ None)) m.sessions s x
        (λ l. absurd (inside l)) (λ u ne. g.outside u);
    alone = λ u v a k. put_all
        (λ u y. is_said (says (pending_of y) a k) ≡ true
        → is_said (says (pending_of (put m.sessions s x v)) a k) ≡ true → u ≡ v) m.sessions s x
        (λ p. put_all (λ v z. is_said (says (pending_of z) a k) ≡ true → s ≡ v) m.sessions s x (λ q. refl)
        (λ v nv q. sym (one_other v a k (newest_of a k p) q)) v)
        (λ u nu p. put_all (λ v z. is_said (says (pending_of z) a k) ≡ true → u ≡ v) m.sessions s x
        (λ q. one_other u a k (newest_of a k q) p) (λ v nv q. g.alone u v a k p q) v) u;
    late = put_all
        (λ u y. (v : Transaction) (a k : List ℕ) → y.transaction ≡ Some v → is_said (says v.pending a k) ≡ true
        → latest (timeline_of was m.first m.changes) (last m) a k ≤ v.snap) m.sessions s x
        (λ v a k e p. subst (λ z. latest (timeline_of was m.first m.changes) (last m) a k ≤ z.snap)
        (sym (joined_of v e))
        (late a k (said_joined a k (subst (λ z. is_said (says z.pending a k) ≡ true) (joined_of v e) p))))
        (λ u ne. g.late u);
    own = put_all
        (λ u y. (v : Transaction) → y.transaction ≡ Some v
        → FitsAll (content_at (timeline_of was m.first m.changes) v.snap) v.pending) m.sessions s x
        (λ v e. subst (λ z. FitsAll (content_at (timeline_of was m.first m.changes) z.snap) z.pending)
        (sym (joined_of v e))
        (fits_append t.pending (content_at (timeline_of was m.first m.changes) t.snap) cs
        (g.own s t tr) fits)) (λ u ne. g.own u);
    writes = put_all (λ u y. pending_of y ≢ [] → is_some_of m.writer y.node ≡ true) m.sessions s x
        (λ ne. subst (λ n. is_some_of m.writer n ≡ true) (sym xn) at) (λ u ne. g.writes u);
  }
    where
      newest_of : (a k : List ℕ) → is_said (says (pending_of x) a k) ≡ true
          → is_said (says (t.pending ++ cs) a k) ≡ true
      newest_of a k p = subst (λ ds. is_said (says ds a k) ≡ true) (pending_some x (joins cs t) xt) p

      late : (a k : List ℕ)
          → (is_said (says cs a k) ≡ true) ⊎ (is_said (says (pending_of (m.sessions s)) a k) ≡ true)
          → latest (timeline_of was m.first m.changes) (last m) a k ≤ t.snap
      late a k (inr z) =
          g.late s t a k tr (subst (λ ds. is_said (says ds a k) ≡ true) (pending_some (m.sessions s) t tr) z)
      late a k (inl z) = by_test (nat_le (latest (timeline_of was m.first m.changes) (last m) a k) t.snap) refl
        where
          low : m.first ≤ last m
          low = let a = g.low in let b = g.high in omega (arith, a, b)

          by_test : (b : Bool) → nat_le (latest (timeline_of was m.first m.changes) (last m) a k) t.snap ≡ b
              → latest (timeline_of was m.first m.changes) (last m) a k ≤ t.snap
          by_test true e = grind arith
          by_test false e =
              let l : t.snap < latest (timeline_of was m.first m.changes) (last m) a k = grind arith in
              let f = (g.snaps s t tr).0 in
              absurd (free a k z
              (inr (
                latest (timeline_of was m.first m.changes) (last m) a k,
                l,
                latest_high (timeline_of was m.first m.changes) (last m) a k low,
                latest_has (timeline_of was m.first m.changes) (last m) a k (omega (arith, f, l)),
              )))
