-- Each turn of one session is answered in turn.
use Rattle.std.proofs.Common.{◌≡◌, ◌≢◌, ◌+◌, ◌⊎◌, ℕ, Bool, true, false, ◌||◌, ◌&&◌, if◌then◌else◌, List, [], ◌∷◌, ◌++◌, Option, Some, None, Result, Ok, Err, option_map, unwrap_or, refl, sym, ap, subst, ◌∙◌, inl, inr}
use Rattle.sql_statements.specs.declared.statements.Stmt.{Stmt}
use Rattle.sql_statements.specs.declared.statements.Stmt.TheVariants as stmt
use Rattle.sql_database.specs.declared.changes.Change.{Change}
use Rattle.sql_database.specs.declared.replies.SqlReply.{SqlReply}
use Rattle.sql_database.specs.declared.replies.SqlReply.TheVariants as reply
use Rattle.sql_database.specs.Answers.{Answer, rows, refused, wants, changes_of, reply_to}
use Rattle.sql_database.specs.Statements.{IsEvaluated, is_begin, is_commit, is_ending, is_write}
use Rattle.sql_database.specs.Database.{Database}
use Rattle.sql_database.specs.Applied.{applied}
use Rattle.table_machine.specs.declared.entries.Entry.TheVariants as entry
use Rattle.table_machine.specs.Conflicts.{evaluated as evaluated_in}
use Rattle.table_machine.specs.Laws.{TurnsAreAnswered}
use Rattle.table_machine.specs.Language.{Language}
use Rattle.table_machine.specs.Machine.{Machine, Session, due_of, is_lasting, pending_of, running}
use Rattle.table_machine.specs.Moves.{answered, answered_session, enqueued, executed, fresh, in_queue, is_and, is_made, is_told, settles, snapped, stays, submitted}
use Rattle.sql_database.specs.Replies.{is_done, is_giving_up}
use Rattle.table_machine.specs.Replies.{IsReplied, IsSyntax, begun, done, evaluated, full, plain_end, second_begin, stray_end}
use Rattle.table_machine.specs.Runs.{IsPoolFull}
use Rattle.table_machine.specs.Serving.{Evaluates, IsAnswered, IsServing, TableState, Turn, at_rest, begun_at, between_lines}
use Rattle.table_machine.specs.Steps.{Commits}
use Rattle.table_machine.proofs.Alone as alone
use Rattle.table_machine.proofs.Alone.{IsAlone, in_line, told_of, trx}
use Rattle.sql_database.proofs.KindLaws.{IsPlainKind, plain_kind}
use Rattle.sql_database.specs.Rules.{FairAnswers, IsFair}
use Rattle.table_machine.proofs.InTurn as in_turn

abbrev IsYes : Bool → Type 0
IsYes true = Unit {0}
IsYes false = ⊥

clash : {A : Type 0} → true ≡ false → A
clash e = absurd (subst IsYes e tt)

abbrev IsThere : {A : Type 0} → Option A → Type 0
IsThere None = ⊥
IsThere (Some x) = Unit {0}

some_there : {A : Type 0} (x : A) → Some x ≢ None
some_there x e = subst IsThere e tt

abbrev HasItem : {A : Type 0} → List A → Type 0
HasItem [] = ⊥
HasItem (x ∷ xs) = Unit {0}

item_there : {A : Type 0} (x : A) (xs : List A) → (x ∷ xs) ≢ []
item_there x xs e = subst HasItem e tt

same_of : (st other : Stmt) → Some st ≡ Some other → st ≡ other
same_of st other e = ap (λ o. unwrap_or o st) e

-- ---- what does not stand

no_pool : (r : SqlReply) → is_giving_up r ≡ false → ¬ IsPoolFull r
no_pool r e p = clash (sym (ap is_giving_up p.1) ∙ e)

not_ending : (st other : Stmt) → is_ending st ≡ true → Some st ≡ Some other → is_ending other ≡ false → ⊥
not_ending st other ends e f = clash (sym ends ∙ (ap is_ending (same_of st other e) ∙ f))

not_evaluated : (st other : Stmt) → (IsEvaluated st → ⊥) → Some st ≡ Some other → IsEvaluated other → ⊥
not_evaluated st other f e k = f (subst IsEvaluated (sym (same_of st other e)) k)

no_commit : (x : Session) (st other : Stmt) → is_commit st ≡ false → (is_write st ≡ true → is_lasting x ≡ false → ⊥) → Some st ≡ Some other → Commits x other → ⊥
no_commit x st other c w e (inl a) = clash (sym a.0 ∙ (sym (ap is_commit (same_of st other e)) ∙ c))
no_commit x st other c w e (inr b) = w (ap is_write (same_of st other e) ∙ b.0) b.1

-- ---- sameness

told_so : (language : Language) (m : Machine) (line : List ℕ) (r r' : SqlReply) (t t' : TableState) → r ≡ r' → t ≡ t' → IsAnswered language m line r' t' → IsAnswered language m line r t
told_so language m line r r' t t' e f h = subst (λ q. IsAnswered language m line q t) (sym e) (subst (IsAnswered language m line r') (sym f) h)

moved_to : (m : Machine) (n : ℕ) (x y : Session) (d e : Database) → x ≡ y → d ≡ e → IsAlone m n x d → IsAlone m n y e
moved_to m n x y d e p q h = subst (λ z. IsAlone m n z e) p (subst (IsAlone m n x) q h)

-- a transaction after a reply to a statement that neither begins nor ends one
stays_plain : (st : Stmt) (r : SqlReply) (n : ℕ) (cs : List Change) (l : Bool) → IsPlainKind st → is_giving_up r ≡ false → stays (Some st) r (trx n cs l) ≡ (if l then Some (trx n cs l) else None)
stays_plain st r n cs l kind e =
    ap (λ b. if b || is_and is_ending (Some st) r then None else (if is_and is_begin (Some st) r then Some (trx n cs true) else (if l then Some (trx n cs l) else None))) e
    ∙ (ap (λ b. if b && is_done r then None else (if is_and is_begin (Some st) r then Some (trx n cs true) else (if l then Some (trx n cs l) else None))) kind.ending
    ∙ ap (λ b. if b && is_done r then Some (trx n cs true) else (if l then Some (trx n cs l) else None)) kind.begin)

module _ (language : Language) (m : Machine) (line : List ℕ) (k : Database) where
  -- ---- a reply at once

  module _ (own : Option (List Change)) (read : Result Stmt ℕ) (h : IsServing m (record { kept = k; own = own })) (p : language.parses line read) where
    abbrev x : Session
    x = in_line (option_map (begun_at m.count) own) (fresh read)

    there : IsAlone (submitted m 0 read) m.count x k
    there = alone.asked_alone language m (record { kept = k; own = own }) line read h p

    at_once : (r : SqlReply) (after : Option (List Change)) → ((st : Stmt) → running x ≡ Some st → is_ending st ≡ false → x.transaction ≡ None → ⊥)
        → ((st : Stmt) → running x ≡ Some st → IsEvaluated st → ⊥) → ((st : Stmt) → running x ≡ Some st → pending_of x ≢ [] → Commits x st → ⊥)
        → is_giving_up r ≡ false → IsSyntax x r ⊎ ((st : Stmt) × (running x ≡ Some st) × IsReplied (submitted m 0 read) x st r)
        → answered_session r x ≡ between_lines m.count after → IsAnswered language m line r (record { kept = k; own = after })
    at_once r after snap exec queue room may ends =
        let m1 : Machine = submitted m 0 read in
        in_turn.answered language m m1 line (alone.submits language m (record { kept = k; own = own }) line read h p)
        [] m1 (inr (alone.no_snap language m1 m.count x k there snap, refl, refl))
        [] m1 (inr (alone.no_exec language m1 m.count x k there exec, refl, refl))
        [] m1 (inr (alone.no_enqueue language m1 m.count x k there queue, refl, refl))
        [] m1 (inr (alone.no_settle language m1 m.count x k there, refl, refl))
        r (no_pool r room) (answered m1 0 r) (alone.replies language m1 m.count x k there r refl may) (record { kept = k; own = after })
        (alone.serving_of (answered m1 0 r) m.count k after
        (moved_to (answered m1 0 r) m.count (answered_session r x) (between_lines m.count after) k k ends refl (alone.answered_alone language m1 m.count x k there r)))

  syntax_stays : (n at : ℕ) (own : Option (List Change)) → answered_session (reply.Syntax at) (in_line (option_map (begun_at n) own) (fresh (Err at))) ≡ between_lines n own
  syntax_stays n at None = refl
  syntax_stays n at (Some cs) = refl

  syntax : (own : Option (List Change)) (at : ℕ) → IsServing m (record { kept = k; own = own }) → language.parses line (Err at) → IsAnswered language m line (reply.Syntax at) (record { kept = k; own = own })
  syntax own at h p =
      at_once own (Err at) h p (reply.Syntax at) own (λ st e f g. some_there st (sym e)) (λ st e f. some_there st (sym e)) (λ st e f g. some_there st (sym e)) refl
      (inl (record { asked = fresh (Err at); at = at; has = refl; going = refl; refused = refl; is = refl })) (syntax_stays m.count at own)

  -- ---- BEGIN

  second : (cs : List Change) → IsServing m (record { kept = k; own = Some cs }) → language.parses line (Ok stmt.Begin) → IsAnswered language m line reply.InTransaction (record { kept = k; own = Some cs })
  second cs h p =
      at_once (Some cs) (Ok stmt.Begin) h p reply.InTransaction (Some cs) (λ st e f g. some_there _ g) (λ st e f. not_evaluated stmt.Begin st (λ i. i) e f)
      (λ st e f g. no_commit (in_line (Some (begun_at m.count cs)) (fresh (Ok stmt.Begin))) stmt.Begin st refl (λ a b. clash (sym a)) e g) refl (inr (stmt.Begin, refl, second_begin (refl, refl, refl))) refl

  opens : IsServing m (at_rest k) → language.parses line (Ok stmt.Begin) → IsAnswered language m line (reply.Ok 0) (record { kept = k; own = Some [] })
  opens h p =
      let n : ℕ = m.count in
      let m1 : Machine = submitted m 0 (Ok stmt.Begin) in
      let h1 : IsAlone m1 n (in_line None (fresh (Ok stmt.Begin))) k = alone.asked_alone language m (at_rest k) line (Ok stmt.Begin) h p in
      let m2 : Machine = snapped m1 0 in
      let x2 : Session = in_line (Some (trx n [] false)) (fresh (Ok stmt.Begin)) in
      let h2 : IsAlone m2 n x2 k = alone.snapped_alone language m1 n stmt.Begin k h1 in
      let m3 : Machine = answered m2 0 (reply.Ok 0) in
      in_turn.answered language m m1 line (alone.submits language m (at_rest k) line (Ok stmt.Begin) h p)
      (entry.Snap 0 ∷ []) m2 (inl (alone.snaps language m1 n stmt.Begin k h1 refl, refl))
      [] m2 (inr (alone.no_exec language m2 n x2 k h2 (λ st e f. not_evaluated stmt.Begin st (λ i. i) e f), refl, refl))
      [] m2 (inr (alone.no_enqueue language m2 n x2 k h2 (λ st e f g. f refl), refl, refl))
      [] m2 (inr (alone.no_settle language m2 n x2 k h2, refl, refl))
      (reply.Ok 0) (no_pool (reply.Ok 0) refl) m3
      (alone.replies language m2 n x2 k h2 (reply.Ok 0) refl (inr (stmt.Begin, refl, begun (refl, some_there _, refl, refl)))) (record { kept = k; own = Some [] })
      (alone.serving_of m3 n k (Some []) (alone.answered_alone language m2 n x2 k h2 (reply.Ok 0)))

  -- ---- COMMIT and ROLLBACK

  stray : (st : Stmt) → is_ending st ≡ true → (IsEvaluated st → ⊥) → answered_session reply.NoTransaction (in_line None (fresh (Ok st))) ≡ between_lines m.count None
      → IsServing m (at_rest k) → language.parses line (Ok st) → IsAnswered language m line reply.NoTransaction (at_rest k)
  stray st ends control after h p =
      at_once None (Ok st) h p reply.NoTransaction None (λ other e f g. not_ending st other ends e f) (λ other e f. not_evaluated st other control e f)
      (λ other e f g. f refl) refl (inr (st, refl, stray_end (ends, refl, refl, refl))) after

  gives_back : (cs : List Change) → IsServing m (record { kept = k; own = Some cs }) → language.parses line (Ok stmt.Rollback) → IsAnswered language m line (reply.Ok 0) (at_rest k)
  gives_back cs h p =
      at_once (Some cs) (Ok stmt.Rollback) h p (reply.Ok 0) None (λ st e f g. some_there _ g) (λ st e f. not_evaluated stmt.Rollback st (λ i. i) e f)
      (λ st e f g. no_commit (in_line (Some (begun_at m.count cs)) (fresh (Ok stmt.Rollback))) stmt.Rollback st refl (λ a b. clash (sym a)) e g) refl (inr (stmt.Rollback, refl, plain_end (inl refl, refl, refl))) refl

  keeps : (cs : List Change) → IsServing m (record { kept = k; own = Some cs }) → language.parses line (Ok stmt.Commit) → IsAnswered language m line (reply.Ok 0) (at_rest (applied k cs))
  keeps [] h p =
      at_once (Some []) (Ok stmt.Commit) h p (reply.Ok 0) None (λ st e f g. some_there _ g) (λ st e f. not_evaluated stmt.Commit st (λ i. i) e f)
      (λ st e f g. f refl) refl (inr (stmt.Commit, refl, plain_end (inr (refl, refl), refl, refl))) refl
  keeps (c ∷ cs) h p =
      let n : ℕ = m.count in
      let all : List Change = c ∷ cs in
      let t : TableState = record { kept = k; own = Some all } in
      let m1 : Machine = submitted m 0 (Ok stmt.Commit) in
      let x1 : Session = in_line (Some (trx n all true)) (fresh (Ok stmt.Commit)) in
      let h1 : IsAlone m1 n x1 k = alone.asked_alone language m t line (Ok stmt.Commit) h p in
      let m2 : Machine = enqueued m1 0 in
      let m3 : Machine = settles m2 in
      let x3 : Session = in_line None (is_made (in_queue (fresh (Ok stmt.Commit)))) in
      let h3 : IsAlone m3 (n + 1) x3 (applied k all) = alone.settled_alone language m1 n all true (fresh (Ok stmt.Commit)) k h1 refl in
      let m4 : Machine = answered m3 0 (reply.Ok 0) in
      in_turn.answered language m m1 line (alone.submits language m t line (Ok stmt.Commit) h p)
      [] m1 (inr (alone.no_snap language m1 n x1 k h1 (λ st e f g. some_there _ g), refl, refl))
      [] m1 (inr (alone.no_exec language m1 n x1 k h1 (λ st e f. not_evaluated stmt.Commit st (λ i. i) e f), refl, refl))
      (entry.Enqueue 0 ∷ []) m2 (inl (alone.enqueues language m1 n all true (fresh (Ok stmt.Commit)) k h1 refl stmt.Commit refl refl (item_there c cs) (inl (refl, refl)), refl))
      (entry.Settle ∷ []) m3 (inl (alone.settles_it language m1 n all true (fresh (Ok stmt.Commit)) k h1 refl, refl))
      (reply.Ok 0) (no_pool (reply.Ok 0) refl) m4
      (alone.replies language m3 (n + 1) x3 (applied k all) h3 (reply.Ok 0) refl (inr (stmt.Commit, refl, done (refl, refl, inr (inr refl))))) (at_rest (applied k all))
      (alone.serving_of m4 (n + 1) (applied k all) None (alone.answered_alone language m3 (n + 1) x3 (applied k all) h3 (reply.Ok 0)))

  -- ---- statements that are evaluated

  module _ (st : Stmt) (kind : IsEvaluated st) (p : language.parses line (Ok st)) where
    plain : IsPlainKind st
    plain = plain_kind st kind

    -- in a transaction of its own
    module _ (h : IsServing m (at_rest k)) (a : Answer) (over : language.answers k st a) where
      abbrev m1 : Machine
      m1 = submitted m 0 (Ok st)

      h1 : IsAlone m1 m.count (in_line None (fresh (Ok st))) k
      h1 = alone.asked_alone language m (at_rest k) line (Ok st) h p

      abbrev m2 : Machine
      m2 = snapped m1 0

      h2 : IsAlone m2 m.count (in_line (Some (trx m.count [] false)) (fresh (Ok st))) k
      h2 = alone.snapped_alone language m1 m.count st k h1

      abbrev m3 : Machine
      m3 = executed m2 0 (evaluated_in m2 0 (trx m.count [] false) a)

      abbrev x3 : Session
      x3 = in_line (Some (trx m.count (changes_of a) false)) (is_told (told_of a) (fresh (Ok st)))

      h3 : IsAlone m3 m.count x3 k
      h3 = alone.executed_alone language m2 m.count [] false st k h2 a

      -- no changes
      only_told : changes_of a ≡ [] → is_giving_up (reply_to a) ≡ false → IsReplied m3 x3 st (reply_to a) → IsAnswered language m line (reply_to a) (at_rest (applied k (changes_of a)))
      only_told none room replied =
          let m4 : Machine = answered m3 0 (reply_to a) in
          in_turn.answered language m m1 line (alone.submits language m (at_rest k) line (Ok st) h p)
          (entry.Snap 0 ∷ []) m2 (inl (alone.snaps language m1 m.count st k h1 plain.ending, refl))
          (entry.Exec 0 ∷ []) m3 (inl (alone.execs language m2 m.count [] false st k h2 a kind over, refl))
          [] m3 (inr (alone.no_enqueue language m3 m.count x3 k h3 (λ other e f g. f none), refl, refl))
          [] m3 (inr (alone.no_settle language m3 m.count x3 k h3, refl, refl))
          (reply_to a) (no_pool (reply_to a) room) m4 (alone.replies language m3 m.count x3 k h3 (reply_to a) refl (inr (st, refl, replied))) (at_rest (applied k (changes_of a)))
          (alone.serving_of m4 m.count (applied k (changes_of a)) None
          (moved_to m4 m.count (answered_session (reply_to a) x3) (between_lines m.count None) k (applied k (changes_of a))
          (ap (λ t. record { node = 0; lost = false; transaction = t; statement = None }) (stays_plain st (reply_to a) m.count (changes_of a) false plain room))
          (ap (applied k) (sym none)) (alone.answered_alone language m3 m.count x3 k h3 (reply_to a))))

      -- changes, which are committed
      committed_now : (n : ℕ) → is_write st ≡ true → changes_of a ≢ [] → reply_to a ≡ reply.Ok n → IsAnswered language m line (reply.Ok n) (at_rest (applied k (changes_of a)))
      committed_now n writes some is =
          let cs : List Change = changes_of a in
          let m4 : Machine = enqueued m3 0 in
          let m5 : Machine = settles m4 in
          let x5 : Session = in_line None (is_made (in_queue (is_told (told_of a) (fresh (Ok st))))) in
          let h5 : IsAlone m5 (m.count + 1) x5 (applied k cs) = alone.settled_alone language m3 m.count cs false (is_told (told_of a) (fresh (Ok st))) k h3 refl in
          let m6 : Machine = answered m5 0 (reply.Ok n) in
          let due : due_of x5 ≡ Some (reply.Ok n) = ap (λ b. if b then Some (reply.Ok 0) else Some (reply_to a)) plain.commit ∙ ap Some is in
          in_turn.answered language m m1 line (alone.submits language m (at_rest k) line (Ok st) h p)
          (entry.Snap 0 ∷ []) m2 (inl (alone.snaps language m1 m.count st k h1 plain.ending, refl))
          (entry.Exec 0 ∷ []) m3 (inl (alone.execs language m2 m.count [] false st k h2 a kind over, refl))
          (entry.Enqueue 0 ∷ []) m4
          (inl (alone.enqueues language m3 m.count cs false (is_told (told_of a) (fresh (Ok st))) k h3 refl st refl refl some (inr (writes, refl, ap is_done is)), refl))
          (entry.Settle ∷ []) m5 (inl (alone.settles_it language m3 m.count cs false (is_told (told_of a) (fresh (Ok st))) k h3 refl, refl))
          (reply.Ok n) (no_pool (reply.Ok n) refl) m6
          (alone.replies language m5 (m.count + 1) x5 (applied k cs) h5 (reply.Ok n) refl (inr (st, refl, done (due, refl, inr (inr refl))))) (at_rest (applied k cs))
          (alone.serving_of m6 (m.count + 1) (applied k cs) None (alone.answered_alone language m5 (m.count + 1) x5 (applied k cs) h5 (reply.Ok n)))

      -- changes for which there is no room
      no_room : (n : ℕ) → changes_of a ≢ [] → reply_to a ≡ reply.Ok n → IsAnswered language m line reply.SpaceFull (at_rest k)
      no_room n some is =
          let m4 : Machine = answered m3 0 reply.SpaceFull in
          record {
            entries = entry.Submit 0 line ∷ (entry.Snap 0 ∷ (entry.Exec 0 ∷ (entry.Reply 0 reply.SpaceFull ∷ [])));
            next = m4;
            in_turn =
                record {
                  asked = m1;
                  submits = alone.submits language m (at_rest k) line (Ok st) h p;
                  made = m3;
                  work = entry.Snap 0 ∷ (entry.Exec 0 ∷ []);
                  goes_on = (refl, (refl, tt));
                  leads = (m2, alone.snaps language m1 m.count st k h1 plain.ending, (m3, alone.execs language m2 m.count [] false st k h2 a kind over, refl));
                  replies = alone.replies language m3 m.count x3 k h3 reply.SpaceFull refl (inr (st, refl, full (n, ap Some is, some, refl, inl refl)));
                  all = refl;
                };
            serves = alone.serving_of m4 m.count k None (alone.answered_alone language m3 m.count x3 k h3 reply.SpaceFull);
            exact = λ other. absurd (other refl);
          }

    -- in the transaction that a BEGIN opened
    module _ (own : List Change) (h : IsServing m (record { kept = k; own = Some own })) (a : Answer) (over : language.answers (applied k own) st a) where
      abbrev t0 : TableState
      t0 = record { kept = k; own = Some own }

      abbrev n1 : Machine
      n1 = submitted m 0 (Ok st)

      abbrev y1 : Session
      y1 = in_line (Some (trx m.count own true)) (fresh (Ok st))

      g1 : IsAlone n1 m.count y1 k
      g1 = alone.asked_alone language m t0 line (Ok st) h p

      abbrev n2 : Machine
      n2 = executed n1 0 (evaluated_in n1 0 (trx m.count own true) a)

      abbrev y2 : Session
      y2 = in_line (Some (trx m.count (own ++ changes_of a) true)) (is_told (told_of a) (fresh (Ok st)))

      g2 : IsAlone n2 m.count y2 k
      g2 = alone.executed_alone language n1 m.count own true st k g1 a

      joins_own : is_giving_up (reply_to a) ≡ false → IsReplied n2 y2 st (reply_to a) → IsAnswered language m line (reply_to a) (record { kept = k; own = Some (own ++ changes_of a) })
      joins_own room replied =
          let n3 : Machine = answered n2 0 (reply_to a) in
          in_turn.answered language m n1 line (alone.submits language m t0 line (Ok st) h p)
          [] n1 (inr (alone.no_snap language n1 m.count y1 k g1 (λ other e f g. some_there _ g), refl, refl))
          (entry.Exec 0 ∷ []) n2 (inl (alone.execs language n1 m.count own true st k g1 a kind over, refl))
          [] n2 (inr (alone.no_enqueue language n2 m.count y2 k g2 (λ other e f g. no_commit y2 st other plain.commit (λ w l. clash l) e g), refl, refl))
          [] n2 (inr (alone.no_settle language n2 m.count y2 k g2, refl, refl))
          (reply_to a) (no_pool (reply_to a) room) n3 (alone.replies language n2 m.count y2 k g2 (reply_to a) refl (inr (st, refl, replied)))
          (record { kept = k; own = Some (own ++ changes_of a) })
          (alone.serving_of n3 m.count k (Some (own ++ changes_of a))
          (moved_to n3 m.count (answered_session (reply_to a) y2) (between_lines m.count (Some (own ++ changes_of a))) k k
          (ap (λ t. record { node = 0; lost = false; transaction = t; statement = None }) (stays_plain st (reply_to a) m.count (own ++ changes_of a) true plain room))
          refl (alone.answered_alone language n2 m.count y2 k g2 (reply_to a))))

      no_room_own : (n : ℕ) → changes_of a ≢ [] → reply_to a ≡ reply.Ok n → IsAnswered language m line reply.SpaceFull (at_rest k)
      no_room_own n some is =
          let n3 : Machine = answered n2 0 reply.SpaceFull in
          record {
            entries = entry.Submit 0 line ∷ (entry.Exec 0 ∷ (entry.Reply 0 reply.SpaceFull ∷ []));
            next = n3;
            in_turn =
                record {
                  asked = n1;
                  submits = alone.submits language m t0 line (Ok st) h p;
                  made = n2;
                  work = entry.Exec 0 ∷ [];
                  goes_on = (refl, tt);
                  leads = (n2, alone.execs language n1 m.count own true st k g1 a kind over, refl);
                  replies = alone.replies language n2 m.count y2 k g2 reply.SpaceFull refl (inr (st, refl, full (n, ap Some is, some, refl, inl refl)));
                  all = refl;
                };
            serves = alone.serving_of n3 m.count k None (alone.answered_alone language n2 m.count y2 k g2 reply.SpaceFull);
            exact = λ other. absurd (other refl);
          }

    told_alone : (a : Answer) → IsServing m (at_rest k) → language.answers k st a → IsFair st a → IsAnswered language m line (reply_to a) (at_rest (applied k (changes_of a)))
    told_alone (rows rs) h over f = only_told h (rows rs) over refl refl (evaluated (refl, refl))
    told_alone (refused r) h over f = only_told h (refused r) over refl f.1 (evaluated (refl, f.0))
    told_alone (wants cs n (Some v)) h over f = only_told h (wants cs n (Some v)) over refl refl (evaluated (refl, refl))
    told_alone (wants [] n None) h over f = only_told h (wants [] n None) over refl refl (done (refl, refl, inr (inl (f, refl))))
    told_alone (wants (c ∷ cs) n None) h over f = committed_now h (wants (c ∷ cs) n None) over n f (item_there c cs) refl

    told_own : (own : List Change) (a : Answer) → IsServing m (record { kept = k; own = Some own }) → language.answers (applied k own) st a → IsFair st a
        → IsAnswered language m line (reply_to a) (record { kept = k; own = Some (own ++ changes_of a) })
    told_own own (rows rs) h over f = joins_own own h (rows rs) over refl (evaluated (refl, refl))
    told_own own (refused r) h over f = joins_own own h (refused r) over f.1 (evaluated (refl, f.0))
    told_own own (wants cs n (Some v)) h over f = joins_own own h (wants cs n (Some v)) over refl (evaluated (refl, refl))
    told_own own (wants cs n None) h over f = joins_own own h (wants cs n None) over refl (done (refl, refl, inl refl))

    -- only an answer that is Ok has changes
    ok_of : (a : Answer) → changes_of a ≢ [] → (n : ℕ) × (reply_to a ≡ reply.Ok n)
    ok_of (rows rs) some = absurd (some refl)
    ok_of (refused r) some = absurd (some refl)
    ok_of (wants cs n None) some = (n, refl)
    ok_of (wants cs n (Some v)) some = absurd (some refl)

    evaluates : FairAnswers language.answers → (own : Option (List Change)) (r : SqlReply) (new : TableState) → IsServing m (record { kept = k; own = own })
        → Evaluates language st (record { kept = k; own = own }) r new → IsAnswered language m line r new
    evaluates fair None r new h (a, over, inl e) =
        told_so language m line r (reply_to a) new (at_rest (applied k (changes_of a))) e.0 e.1 (told_alone a h over (fair k st a over))
    evaluates fair None r new h (a, over, inr e) =
        let ok : (n : ℕ) × (reply_to a ≡ reply.Ok n) = ok_of a e.1 in
        told_so language m line r reply.SpaceFull new (at_rest k) e.0 e.3 (no_room h a over ok.0 e.1 ok.1)
    evaluates fair (Some own) r new h (a, over, inl e) =
        told_so language m line r (reply_to a) new (record { kept = k; own = Some (own ++ changes_of a) }) e.0 e.1 (told_own own a h over (fair (applied k own) st a over))
    evaluates fair (Some own) r new h (a, over, inr e) =
        let ok : (n : ℕ) × (reply_to a ≡ reply.Ok n) = ok_of a e.1 in
        told_so language m line r reply.SpaceFull new (at_rest k) e.0 e.3 (no_room_own own h a over ok.0 e.1 ok.1)

  abbrev state : Option (List Change) → TableState
  state own = record { kept = k; own = own }

  turn : FairAnswers language.answers → (own : Option (List Change)) (read : Result Stmt ℕ) (r : SqlReply) (new : TableState) → IsServing m (state own) → language.parses line read → Turn language read (state own) r new → IsAnswered language m line r new
  turn fair own (Err at) r new h p t = told_so language m line r (reply.Syntax at) new (state own) t.0 t.1 (syntax own at h p)
  turn fair None (Ok stmt.Begin) r new h p (inl t) = told_so language m line r (reply.Ok 0) new (state (Some [])) t.1 t.2 (opens h p)
  turn fair None (Ok stmt.Begin) r new h p (inr t) = absurd (t.0 refl)
  turn fair (Some cs) (Ok stmt.Begin) r new h p (inl t) = absurd (some_there cs t.0)
  turn fair (Some cs) (Ok stmt.Begin) r new h p (inr t) = told_so language m line r reply.InTransaction new (state (Some cs)) t.1 t.2 (second cs h p)
  turn fair None (Ok stmt.Commit) r new h p (inl t) = absurd (some_there t.0 (sym t.1))
  turn fair None (Ok stmt.Commit) r new h p (inr t) = told_so language m line r reply.NoTransaction new (at_rest k) t.1 t.2 (stray stmt.Commit refl (λ i. i) refl h p)
  turn fair (Some cs) (Ok stmt.Commit) r new h p (inl t) =
      let same : t.0 ≡ cs = sym (ap (λ o. unwrap_or o t.0) t.1) in
      told_so language m line r (reply.Ok 0) new (at_rest (applied k cs)) t.2 (t.3 ∙ ap (λ l. at_rest (applied k l)) same) (keeps cs h p)
  turn fair (Some cs) (Ok stmt.Commit) r new h p (inr t) = absurd (some_there cs t.0)
  turn fair None (Ok stmt.Rollback) r new h p (inl t) = absurd (t.0 refl)
  turn fair None (Ok stmt.Rollback) r new h p (inr t) = told_so language m line r reply.NoTransaction new (at_rest k) t.1 t.2 (stray stmt.Rollback refl (λ i. i) refl h p)
  turn fair (Some cs) (Ok stmt.Rollback) r new h p (inl t) = told_so language m line r (reply.Ok 0) new (at_rest k) t.1 t.2 (gives_back cs h p)
  turn fair (Some cs) (Ok stmt.Rollback) r new h p (inr t) = absurd (some_there cs t.0)
  turn fair own (Ok (stmt.Create s)) r new h p t = evaluates (stmt.Create s) tt p fair own r new h t
  turn fair own (Ok (stmt.Insert n names tuples)) r new h p t = evaluates (stmt.Insert n names tuples) tt p fair own r new h t
  turn fair own (Ok (stmt.Update n sets test)) r new h p t = evaluates (stmt.Update n sets test) tt p fair own r new h t
  turn fair own (Ok (stmt.Delete n test)) r new h p t = evaluates (stmt.Delete n test) tt p fair own r new h t
  turn fair own (Ok (stmt.Select q)) r new h p t = evaluates (stmt.Select q) tt p fair own r new h t

pub turns : (language : Language) → FairAnswers language.answers → TurnsAreAnswered language
turns language fair m old new line read r h p t = turn language m line old.kept fair old.own read r new h p t
