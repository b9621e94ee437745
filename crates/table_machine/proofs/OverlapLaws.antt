-- Two commits whose spans overlap share no key.
use Rattle.std.proofs.Common.{◌≡◌, ◌≢◌, ◌≤◌, ◌<◌, ◌+◌, ◌-◌, ◌⊎◌, ℕ, Bool, true, false, not, ◌||◌, ◌&&◌, if◌then◌else◌, is_some, nat_eq, List, [], ◌∷◌, ◌++◌, filter, Option, Some, None, Result, Ok, Err, option_map, option_and_then, unwrap_or, nat_le, arith, refl, sym, ap, subst, ◌∙◌, inl, inr}
use Rattle.std.specs.List.{AllByRecursion, list_any, range_with_len}
use Rattle.std.specs.Option.{option_map_or}
use Rattle.std.specs.Result.{result_ok}
use Rattle.sql_values.specs.declared.values.Value.{Value}
use Rattle.sql_statements.specs.declared.statements.Stmt.{Stmt}
use Rattle.sql_database.specs.declared.changes.Change.{Change}
use Rattle.sql_database.specs.declared.replies.SqlReply.{SqlReply}
use Rattle.sql_database.specs.declared.replies.SqlReply.TheVariants as reply
use Rattle.sql_database.specs.Answers.{Answer, rows, refused, wants}
use Rattle.sql_database.specs.Applied.{change_key}
use Rattle.sql_database.specs.Database.{Database}
use Rattle.sql_database.specs.Replies.{is_giving_up}
use Rattle.sql_database.specs.Statements.{is_begin, is_ending, is_write}
use Rattle.table_machine.specs.declared.entries.Entry.{Entry}
use Rattle.table_machine.specs.declared.entries.Entry.TheVariants as entry
use Rattle.table_machine.specs.Conflicts.{Evaluated, evaluated, has_key, is_conflict, is_newer, is_pending, least, told, unless_duplicate}
use Rattle.table_machine.specs.Language.{Language}
use Rattle.table_machine.specs.Laws.{ForcedMayStand, OverlapsShareNoKey, ShareNoKey}
use Rattle.table_machine.specs.Machine.{Machine, Session, Transaction, idle, is_some_of, last, pending_of, running, start, view}
use Rattle.table_machine.specs.Moves.{answered, answered_session, asked, asking, fallen, forced, fresh, given_up, in_queue, is_and, is_made, is_in, joins, outlasts, put, queued_session, settled_session, snapshot, stays, told_session}
use Rattle.table_machine.specs.Runs.{Leads}
use Rattle.table_machine.specs.Steps.{Step}
use Rattle.table_machine.proofs.CommitLaws.{beside, put_at}
use Rattle.table_machine.proofs.KeyLaws.{all_weaker, none_in_range, none_pass, or_parts, share_append, share_none, share_turn}

abbrev IsYes : Bool → Type 0
IsYes true = Unit {0}
IsYes false = ⊥

nothing_is : {A B : Type 0} (a : A) → None ≡ Some a → B
nothing_is a e = absurd (subst IsYes (sym (ap is_some e)) tt)

-- No transaction's changes have a key of a commit after its snapshot, and no two sessions' changes share one.
record IsApart (m : Machine) : Type 0 where
  mine : (s : ℕ) (t : Transaction) (n : ℕ) → (m.sessions s).transaction ≡ Some t → t.snap < n → n ≤ last m → ShareNoKey t.pending (m.changes n)
  others : (s u : ℕ) → s ≢ u → ShareNoKey (pending_of (m.sessions s)) (pending_of (m.sessions u))
  outside : (s : ℕ) → m.joined ≤ s → pending_of (m.sessions s) ≡ []
  silent : (s : ℕ) → m.joined ≤ s → (m.sessions s).statement ≡ None

abbrev pending_in : Option Transaction → List Change
pending_in o = option_map_or (λ t. t.pending) o []

-- ---- entries that add no changes

-- the transaction has no changes, or it is the one that was there
abbrev IsPart : Option Transaction → Option Transaction → Type 0
IsPart old None = Unit {0}
IsPart old (Some t) = (t.pending ≡ []) ⊎ ((u : Transaction) × (old ≡ Some u) × (t.snap ≡ u.snap) × (t.pending ≡ u.pending))

part_itself : (o : Option Transaction) → IsPart o o
part_itself None = tt
part_itself (Some t) = inr (t, refl, refl, refl)

part_pending : (old new : Option Transaction) → IsPart old new → (pending_in new ≡ []) ⊎ (pending_in new ≡ pending_in old)
part_pending old None h = inl refl
part_pending old (Some t) (inl e) = inl e
part_pending old (Some t) (inr e) = inr (e.3 ∙ sym (ap pending_in e.1))

part_mine : (m : Machine) → IsApart m → (s : ℕ) (new : Option Transaction) (t : Transaction) (n : ℕ) → IsPart (m.sessions s).transaction new → new ≡ Some t → t.snap < n → n ≤ last m
    → ShareNoKey t.pending (m.changes n)
part_mine m g s None t n h e p q = nothing_is t e
part_mine m g s (Some v) t n h e p q = by_part h
  where
    same : v ≡ t
    same = ap (λ o. unwrap_or o v) e

    by_part : IsPart (m.sessions s).transaction (Some v) → ShareNoKey t.pending (m.changes n)
    by_part (inl x) = subst (λ l. ShareNoKey l (m.changes n)) (sym x ∙ ap (λ w. w.pending) same) tt
    by_part (inr x) =
        let snap : t.snap ≡ (x.0).snap = ap (λ w. w.snap) (sym same) ∙ x.2 in
        subst (λ l. ShareNoKey l (m.changes n)) (sym x.3 ∙ ap (λ w. w.pending) same) (g.mine s x.0 n x.1 (subst (λ k. k < n) snap p) q)

apart_of_parts : (as_ bs cs ds : List Change) → (as_ ≡ []) ⊎ (as_ ≡ cs) → (bs ≡ []) ⊎ (bs ≡ ds) → ShareNoKey cs ds → ShareNoKey as_ bs
apart_of_parts as_ bs cs ds (inl a) q h = subst (λ l. ShareNoKey l bs) (sym a) tt
apart_of_parts as_ bs cs ds (inr a) (inl b) h = subst (λ l. ShareNoKey as_ l) (sym b) (share_none as_)
apart_of_parts as_ bs cs ds (inr a) (inr b) h = subst (λ l. ShareNoKey l bs) (sym a) (subst (λ l. ShareNoKey cs l) (sym b) h)

nothing_of : (as_ cs : List Change) → (as_ ≡ []) ⊎ (as_ ≡ cs) → cs ≡ [] → as_ ≡ []
nothing_of as_ cs (inl a) e = a
nothing_of as_ cs (inr a) e = a ∙ e

quiet : (m new : Machine) → IsApart m → ((s : ℕ) → IsPart (m.sessions s).transaction (new.sessions s).transaction) → ((s : ℕ) → m.joined ≤ s → (new.sessions s).statement ≡ None)
    → new.changes ≡ m.changes → last new ≤ last m → m.joined ≤ new.joined → IsApart new
quiet m new g parts rest same low more = record {
  mine = λ s t n e p q. subst (λ f. ShareNoKey t.pending (f n)) (sym same) (part_mine m g s (new.sessions s).transaction t n (parts s) e p (omega (arith, q, low)));
  others = λ s u ne. apart_of_parts _ _ (pending_of (m.sessions s)) (pending_of (m.sessions u)) (of s) (of u) (g.others s u ne);
  outside = λ s j. nothing_of (pending_of (new.sessions s)) (pending_of (m.sessions s)) (of s) (g.outside s (omega (arith, j, more)));
  silent = λ s j. rest s (omega (arith, j, more));
}
  where
    of : (s : ℕ) → (pending_of (new.sessions s) ≡ []) ⊎ (pending_of (new.sessions s) ≡ pending_of (m.sessions s))
    of s = part_pending (m.sessions s).transaction (new.sessions s).transaction (parts s)

-- one session changes, whose statement is none where it was not there
put_silent : (m : Machine) → IsApart m → (s : ℕ) (x : Session) → (m.joined ≤ s → x.statement ≡ None) → (u : ℕ) → m.joined ≤ u → (put m.sessions s x u).statement ≡ None
put_silent m g s x h u j = by_test (nat_eq u s) refl
  where
    by_test : (b : Bool) → nat_eq u s ≡ b → Session.statement (if b then x else m.sessions u) ≡ None
    by_test true e = let same : u ≡ s = grind arith in h (subst (λ k. m.joined ≤ k) same j)
    by_test false e = g.silent u j

-- one session's transaction is a part of what it was
put_part : (m : Machine) (s : ℕ) (x : Session) → IsPart (m.sessions s).transaction x.transaction → (u : ℕ) → IsPart (m.sessions u).transaction (put m.sessions s x u).transaction
put_part m s x h u = by_test (nat_eq u s) refl
  where
    by_test : (b : Bool) → nat_eq u s ≡ b → IsPart (m.sessions u).transaction (Session.transaction (if b then x else m.sessions u))
    by_test true e = let same : s ≡ u = grind arith in subst (λ k. IsPart (m.sessions k).transaction x.transaction) same h
    by_test false e = part_itself (m.sessions u).transaction

asking_part : (up lost : Bool) (read : Result Stmt ℕ) (x : Session)
    → IsPart x.transaction (Session.transaction (if not up then record x { statement = Some (forced reply.Unavailable (fresh read)) }
    else (if lost then record x { lost = false; statement = Some (forced reply.Lost (fresh read)) } else record x { statement = Some (fresh read) })))
asking_part false lost read x = part_itself x.transaction
asking_part true true read x = part_itself x.transaction
asking_part true false read x = part_itself x.transaction

outlasts_part : (st : Option Stmt) (o : Option Transaction) → IsPart o (option_and_then (outlasts st) o)
outlasts_part st None = tt
outlasts_part st (Some t) = by_test (t.lasting && not (option_map_or (λ s. is_write s || is_ending s) st false))
  where
    by_test : (b : Bool) → IsPart (Some t) (if b then Some t else None)
    by_test true = part_itself (Some t)
    by_test false = tt

stays_part : (st : Option Stmt) (r : SqlReply) (o : Option Transaction) → IsPart o (option_and_then (stays st r) o)
stays_part st r None = tt
stays_part st r (Some t) = by_tests (is_giving_up r || is_and is_ending st r) (is_and is_begin st r) t.lasting
  where
    by_tests : (a b c : Bool) → IsPart (Some t) (if a then None else (if b then Some (record t { lasting = true }) else (if c then Some t else None)))
    by_tests true b c = tt
    by_tests false true c = inr (t, refl, refl, refl)
    by_tests false false true = part_itself (Some t)
    by_tests false false false = tt

settled_part : (b : Bool) (x : Session) → IsPart x.transaction (Session.transaction (if b then settled_session x else x))
settled_part true x = part_itself x.transaction
settled_part false x = part_itself x.transaction

fallen_part : (b : Bool) (x : Session) → IsPart x.transaction (Session.transaction (if b then fallen x else x))
fallen_part true x = tt
fallen_part false x = part_itself x.transaction

-- ---- a statement's changes join

module _ (m : Machine) (s : ℕ) (t : Transaction) where
  free_changes : (a : Answer) → AllByRecursion (λ c. is_conflict m s t c ≡ false) (Evaluated.changes (evaluated m s t a))
  free_changes (rows rs) = tt
  free_changes (refused r) = tt
  free_changes (wants cs n dup) = by_least (least (filter (is_conflict m s t) cs)) refl
    where
      by_duplicate : (d : Option Value) → AllByRecursion (λ c. is_conflict m s t c ≡ false) cs → AllByRecursion (λ c. is_conflict m s t c ≡ false) (Evaluated.changes (unless_duplicate cs n d))
      by_duplicate None h = h
      by_duplicate (Some v) h = tt

      by_least : (o : Option Change) → least (filter (is_conflict m s t) cs) ≡ o
          → AllByRecursion (λ c. is_conflict m s t c ≡ false) (Evaluated.changes (option_map_or (λ c. told (reply.Conflict (change_key (view m t) c))) o (unless_duplicate cs n dup)))
      by_least None e = by_duplicate dup (none_pass (is_conflict m s t) cs e)
      by_least (Some c) e = tt

  no_commit : (n : ℕ) → t.snap < n → n ≤ last m → (c : Change) → is_conflict m s t c ≡ false → has_key c (m.changes n) ≡ false
  no_commit n p q c h =
      none_in_range (λ k. has_key c (m.changes k)) (last m - t.snap) (t.snap + 1) n (or_parts (is_pending m s c) (is_newer m t.snap c) h).1
      (omega (arith, p)) (omega (arith, p, q))

  no_other : (u : ℕ) → u ≢ s → u < m.joined → (c : Change) → is_conflict m s t c ≡ false → has_key c (pending_of (m.sessions u)) ≡ false
  no_other u ne j c h =
      by_and (not (nat_eq u s)) (has_key c (pending_of (m.sessions u)))
      (none_in_range (λ k. not (nat_eq k s) && has_key c (pending_of (m.sessions k))) m.joined 0 u (or_parts (is_pending m s c) (is_newer m t.snap c) h).0 (omega arith) (omega (arith, j)))
      (let e : nat_eq u s ≡ false = grind arith in ap not e)
    where
      by_and : (a b : Bool) → (a && b) ≡ false → a ≡ true → b ≡ false
      by_and true b e f = e
      by_and false b e f = absurd (grind arith)

-- two lists of changes, of this session and of another
joined_apart : (m : Machine) → IsApart m → (s : ℕ) (t : Transaction) (cs : List Change) → (m.sessions s).transaction ≡ Some t → AllByRecursion (λ c. is_conflict m s t c ≡ false) cs
    → (u : ℕ) → u ≢ s → ShareNoKey (t.pending ++ cs) (pending_of (m.sessions u))
joined_apart m g s t cs has free u ne =
    share_append t.pending cs (pending_of (m.sessions u)) (subst (λ l. ShareNoKey l (pending_of (m.sessions u))) (ap pending_in has) (g.others s u (λ e. ne (sym e)))) (by_joined (nat_lt_or u m.joined))
  where
    nat_lt_or : (a b : ℕ) → (a < b) ⊎ (b ≤ a)
    nat_lt_or a b = by_test (nat_le b a) refl
      where
        by_test : (q : Bool) → nat_le b a ≡ q → (a < b) ⊎ (b ≤ a)
        by_test true e = inr (let x : b ≤ a = grind arith in x)
        by_test false e = inl (let x : a < b = grind arith in x)

    by_joined : (u < m.joined) ⊎ (m.joined ≤ u) → ShareNoKey cs (pending_of (m.sessions u))
    by_joined (inl j) = all_weaker (is_conflict m s t) (λ c. has_key c (pending_of (m.sessions u))) cs (no_other m s t u ne j) free
    by_joined (inr j) = subst (λ l. ShareNoKey cs l) (sym (g.outside u j)) (share_none cs)

module _ (m : Machine) (g : IsApart m) (s : ℕ) (t : Transaction) (v : Evaluated) (has : (m.sessions s).transaction ≡ Some t) (free : AllByRecursion (λ c. is_conflict m s t c ≡ false) v.changes) where
  abbrev after : ℕ → Session
  after u = put m.sessions s (told_session v (m.sessions s)) u

  there : (after s).transaction ≡ Some (joins v.changes t)
  there = ap Session.transaction (put_at m.sessions s s (told_session v (m.sessions s)) refl) ∙ ap (option_map (joins v.changes)) has

  elsewhere : (u : ℕ) → u ≢ s → after u ≡ m.sessions u
  elsewhere u ne = let e : nat_eq u s ≡ false = grind arith in ap (λ b. if b then told_session v (m.sessions s) else m.sessions u) e

  here_or_there : (u : ℕ) → (u ≡ s) ⊎ (u ≢ s)
  here_or_there u = by_test (nat_eq u s) refl
    where
      by_test : (b : Bool) → nat_eq u s ≡ b → (u ≡ s) ⊎ (u ≢ s)
      by_test true e = inl (let x : u ≡ s = grind arith in x)
      by_test false e = inr (λ same. let x : nat_eq u s ≡ true = grind arith in grind arith)

  mine_after : (u : ℕ) (w : Transaction) (n : ℕ) → (u ≡ s) ⊎ (u ≢ s) → (after u).transaction ≡ Some w → w.snap < n → n ≤ last m → ShareNoKey w.pending (m.changes n)
  mine_after u w n (inl e) is p q =
      let same : joins v.changes t ≡ w = ap (λ o. unwrap_or o (joins v.changes t)) (sym (ap (λ k. (after k).transaction) e ∙ there) ∙ is) in
      let snap : t.snap < n = subst (λ k. k < n) (sym (ap (λ x. x.snap) same)) p in
      subst (λ x. ShareNoKey x.pending (m.changes n)) same
      (share_append t.pending v.changes (m.changes n) (g.mine s t n has snap q) (all_weaker (is_conflict m s t) (λ c. has_key c (m.changes n)) v.changes (no_commit m s t n snap q) free))
  mine_after u w n (inr ne) is p q = g.mine u w n (sym (ap Session.transaction (elsewhere u ne)) ∙ is) p q

  others_after : (u w : ℕ) → u ≢ w → (u ≡ s) ⊎ (u ≢ s) → (w ≡ s) ⊎ (w ≢ s) → ShareNoKey (pending_of (after u)) (pending_of (after w))
  others_after u w ne (inl a) (inl b) = absurd (ne (a ∙ sym b))
  others_after u w ne (inl a) (inr b) =
      subst (λ l. ShareNoKey l (pending_of (after w))) (sym (ap (λ k. pending_of (after k)) a ∙ ap pending_in there))
      (subst (λ x. ShareNoKey (t.pending ++ v.changes) (pending_of x)) (sym (elsewhere w b)) (joined_apart m g s t v.changes has free w b))
  others_after u w ne (inr a) (inl b) =
      subst (λ l. ShareNoKey (pending_of (after u)) l) (sym (ap (λ k. pending_of (after k)) b ∙ ap pending_in there))
      (subst (λ x. ShareNoKey (pending_of x) (t.pending ++ v.changes)) (sym (elsewhere u a))
      (share_turn (t.pending ++ v.changes) (pending_of (m.sessions u)) (joined_apart m g s t v.changes has free u a)))
  others_after u w ne (inr a) (inr b) =
      subst (λ x. ShareNoKey (pending_of x) (pending_of (after w))) (sym (elsewhere u a))
      (subst (λ x. ShareNoKey (pending_of (m.sessions u)) (pending_of x)) (sym (elsewhere w b)) (g.others u w ne))

  outside_after : (u : ℕ) → (u ≡ s) ⊎ (u ≢ s) → s < m.joined → m.joined ≤ u → (pending_of (after u) ≡ []) × ((after u).statement ≡ None)
  outside_after u (inl e) low j = absurd (omega (arith, e, low, j))
  outside_after u (inr ne) low j = (ap pending_of (elsewhere u ne) ∙ g.outside u j, ap Session.statement (elsewhere u ne) ∙ g.silent u j)

  exec_apart : (new : Machine) → s < m.joined → new.sessions ≡ after → new.changes ≡ m.changes → last new ≡ last m → new.joined ≡ m.joined → IsApart new
  exec_apart new low ss same end more = record {
    mine = λ u w n e p q. subst (λ f. ShareNoKey w.pending (f n)) (sym same) (mine_after u w n (here_or_there u) (ap (λ f. Session.transaction (f u)) (sym ss) ∙ e) p (omega (arith, q, end)));
    others = λ u w ne. subst (λ f. ShareNoKey (pending_of (f u)) (pending_of (f w))) (sym ss) (others_after u w ne (here_or_there u) (here_or_there w));
    outside = λ u j. ap (λ f. pending_of (f u)) ss ∙ (outside_after u (here_or_there u) low (omega (arith, j, more))).0;
    silent = λ u j. ap (λ f. Session.statement (f u)) ss ∙ (outside_after u (here_or_there u) low (omega (arith, j, more))).1;
  }

-- ---- a transaction's changes go into the queue

module _ (m : Machine) (g : IsApart m) (s : ℕ) where
  abbrev queue_at : ℕ → Session
  queue_at u = put m.sessions s (queued_session (m.sessions s)) u

  of_other : (u : ℕ) (t : Transaction) → (queue_at u).transaction ≡ Some t → (u ≢ s) × ((m.sessions u).transaction ≡ Some t)
  of_other u t e = by_test (nat_eq u s) refl e
    where
      by_test : (b : Bool) → nat_eq u s ≡ b → Session.transaction (if b then queued_session (m.sessions s) else m.sessions u) ≡ Some t → (u ≢ s) × ((m.sessions u).transaction ≡ Some t)
      by_test true q h = nothing_is t h
      by_test false q h = ((λ same. let x : nat_eq u s ≡ true = grind arith in grind arith), h)

  below : (a b : ℕ) → a ≢ b + 1 → a ≤ b + 1 → a ≤ b
  below a b ne l = grind arith

  mine_queued : (u : ℕ) (t : Transaction) (n : ℕ) → (queue_at u).transaction ≡ Some t → t.snap < n → n ≤ last m + 1 → ShareNoKey t.pending (put m.changes (last m + 1) (pending_of (m.sessions s)) n)
  mine_queued u t n e p q = by_test (nat_eq n (last m + 1)) refl
    where
      other : (u ≢ s) × ((m.sessions u).transaction ≡ Some t)
      other = of_other u t e

      by_test : (b : Bool) → nat_eq n (last m + 1) ≡ b → ShareNoKey t.pending (if b then pending_of (m.sessions s) else m.changes n)
      by_test true k = subst (λ l. ShareNoKey l (pending_of (m.sessions s))) (ap pending_in other.1) (g.others u s other.0)
      by_test false k = g.mine u t n other.1 p (let x : n ≢ last m + 1 = (λ same. let y : nat_eq n (last m + 1) ≡ true = grind arith in grind arith) in below n (last m) x q)

  queued_part : (u : ℕ) → (pending_of (queue_at u) ≡ []) ⊎ (pending_of (queue_at u) ≡ pending_of (m.sessions u))
  queued_part u = part_pending (m.sessions u).transaction (queue_at u).transaction (put_part m s (queued_session (m.sessions s)) tt u)

  enqueue_apart : (new : Machine) → new.sessions ≡ queue_at → new.changes ≡ put m.changes (last m + 1) (pending_of (m.sessions s)) → last new ≡ last m + 1 → new.joined ≡ m.joined → IsApart new
  enqueue_apart new ss cs end more = record {
    mine = λ u t n e p q. subst (λ f. ShareNoKey t.pending (f n)) (sym cs) (mine_queued u t n (ap (λ f. Session.transaction (f u)) (sym ss) ∙ e) p (subst (λ k. n ≤ k) end q));
    others = λ u w ne. subst (λ f. ShareNoKey (pending_of (f u)) (pending_of (f w))) (sym ss) (apart_of_parts _ _ (pending_of (m.sessions u)) (pending_of (m.sessions w)) (queued_part u) (queued_part w) (g.others u w ne));
    outside = λ u j. ap (λ f. pending_of (f u)) ss ∙ nothing_of (pending_of (queue_at u)) (pending_of (m.sessions u)) (queued_part u) (g.outside u (omega (arith, j, more)));
    silent = λ u j. ap (λ f. Session.statement (f u)) ss ∙ put_silent m g s (queued_session (m.sessions s)) (λ k. ap (option_map in_queue) (g.silent s k)) u (omega (arith, j, more));
  }

-- ---- every entry

runs_there : (x : Session) (st : Stmt) → running x ≡ Some st → x.statement ≡ None → ⊥
runs_there x st r e = nothing_is st (ap (λ o. option_and_then (λ a. if a.stopped then None else result_ok a.read) o) (sym e) ∙ r)

below_joined : (m : Machine) → IsApart m → (s : ℕ) (st : Stmt) → running (m.sessions s) ≡ Some st → s < m.joined
below_joined m g s st r = by_test (nat_le m.joined s) refl
  where
    by_test : (q : Bool) → nat_le m.joined s ≡ q → s < m.joined
    by_test true e = absurd (let x : m.joined ≤ s = grind arith in runs_there (m.sessions s) st r (g.silent s x))
    by_test false e = let x : s < m.joined = grind arith in x

same_rest : (m : Machine) → IsApart m → (s : ℕ) → m.joined ≤ s → (m.sessions s).statement ≡ None
same_rest m g s j = g.silent s j

settled_silent : (b : Bool) (x : Session) → x.statement ≡ None → Session.statement (if b then settled_session x else x) ≡ None
settled_silent true x e = ap (option_map is_made) e
settled_silent false x e = e

fallen_silent : (b : Bool) (x : Session) → x.statement ≡ None → Session.statement (if b then fallen x else x) ≡ None
fallen_silent true x e = ap (option_map (forced reply.Unavailable)) e
fallen_silent false x e = e

step : (language : Language) (e : Entry) (old new : Machine) → Step language old e new → IsApart old → IsApart new
step language (entry.Join s name n) old new c g = subst IsApart (sym c.2)
    (quiet old _ g (put_part old s (idle n) tt) (put_silent old g s (idle n) (λ j. refl)) refl (omega arith) (omega arith))
step language (entry.Submit s text) old new c g = subst IsApart (sym c.5)
    (quiet old _ g (put_part old s _ (asking_part (old.up (old.sessions s).node) (old.sessions s).lost c.0 (old.sessions s)))
    (put_silent old g s _ (λ j. absurd (let x : s < old.joined = c.2 in omega (arith, x, j)))) refl (omega arith) (omega arith))
step language (entry.Snap s) old new c g = subst IsApart (sym c.2)
    (quiet old _ g (put_part old s _ (inl refl)) (put_silent old g s _ (λ j. g.silent s j)) refl (omega arith) (omega arith))
step language (entry.Exec s) old new c g = subst IsApart (sym c.4)
    (exec_apart old g s c.0 (evaluated old s c.0 c.1) c.3.has (free_changes old s c.0 c.1) _ (below_joined old g s c.3.statement c.3.runs) refl refl refl refl)
step language (entry.Enqueue s) old new c g = subst IsApart (sym c.2) (enqueue_apart old g s _ refl refl (omega arith) refl)
step language entry.Settle old new c g = subst IsApart (sym c.3)
    (quiet old _ g (λ u. settled_part (is_some_of (old.owner (old.count + 1)) u) (old.sessions u)) (λ u j. settled_silent (is_some_of (old.owner (old.count + 1)) u) (old.sessions u) (g.silent u j))
    refl (let x : 0 < old.waiting = c.2 in omega (arith, x)) (omega arith))
step language (entry.Forget k) old new c g = subst IsApart (sym c.3)
    (quiet old _ g (λ u. part_itself (old.sessions u).transaction) (λ u j. g.silent u j) refl (let x : k ≤ old.waiting = c.2 in omega (arith, x)) (omega arith))
step language (entry.Reply s r) old new c g = subst IsApart (sym c.1)
    (quiet old _ g (put_part old s (answered_session r (old.sessions s)) (stays_part (asked (old.sessions s)) r (old.sessions s).transaction))
    (put_silent old g s (answered_session r (old.sessions s)) (λ j. refl)) refl (omega arith) (omega arith))
step language (entry.Timer s) old new c g = subst IsApart (sym c.2)
    (quiet old _ g (put_part old s (given_up (old.sessions s)) (outlasts_part (asked (old.sessions s)) (old.sessions s).transaction))
    (put_silent old g s (given_up (old.sessions s)) (λ j. ap (option_map (forced reply.Unavailable)) (g.silent s j))) refl (omega arith) (omega arith))
step language (entry.Down n ss) old new c g = subst IsApart (sym c.3)
    (quiet old _ g (λ u. fallen_part (is_in ss u) (old.sessions u)) (λ u j. fallen_silent (is_in ss u) (old.sessions u) (g.silent u j)) refl (omega arith) (omega arith))
step language (entry.Up n) old new c g = subst IsApart (sym c.2) (quiet old _ g (λ u. part_itself (old.sessions u).transaction) (λ u j. g.silent u j) refl (omega arith) (omega arith))
step language (entry.Opened n) old new c g = subst IsApart (sym c.4) (quiet old _ g (λ u. part_itself (old.sessions u).transaction) (λ u j. g.silent u j) refl (omega arith) (omega arith))
step language (entry.Ignored l) old new c g = subst IsApart (sym c.1) (quiet old _ g (λ u. part_itself (old.sessions u).transaction) (λ u j. g.silent u j) refl (omega arith) (omega arith))
step language (entry.Missed l) old new c g = subst IsApart (sym c.1) (quiet old _ g (λ u. part_itself (old.sessions u).transaction) (λ u j. g.silent u j) refl (omega arith) (omega arith))
step language (entry.End ss) old new c g = subst IsApart (sym c.2) (quiet old _ g (λ u. part_itself (old.sessions u).transaction) (λ u j. g.silent u j) refl (omega arith) (omega arith))

steps : (language : Language) (es : List Entry) (old new : Machine) → Leads language old es new → IsApart old → IsApart new
steps language [] old new l g = subst IsApart (sym l) g
steps language (e ∷ es) old new l g = steps language es l.0 new l.2 (step language e old l.0 l.1 g)

begins : (nodes : ℕ) (base : Database) (first : ℕ) → IsApart (start nodes base first)
begins nodes base first = record {
  mine = λ s t n e p q. nothing_is t e;
  others = λ s u ne. tt;
  outside = λ s j. refl;
  silent = λ s j. refl;
}

pub share_none_over : (language : Language) → OverlapsShareNoKey language
share_none_over language nodes base first es s t old new leads step has n p q = IsApart.mine (steps language es (start nodes base first) old leads (begins nodes base first)) s t n has p q

pub forced_stands : (language : Language) → ForcedMayStand language
forced_stands language s r old stopped due = (answered old s r, (inl (record { stopped = stopped; due = due }), refl))
