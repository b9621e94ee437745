-- A statement is read by its rule, and where the reader stops nothing goes on.
use Rattle.std.proofs.Common.{◌≡◌, ℕ, ◌≤◌, inl, Bool, true, cond, List, [], ◌∷◌, ◌++◌, length, Ok, Err, refl, sym, ◌∙◌, ap, subst, arith, append_assoc, append-nil, length-append}
use Rattle.sql_words.specs.declared.reserved.Word.TheVariants as w
use Rattle.sql_words.specs.declared.signs.Sign.TheVariants as s
use Rattle.sql_words.specs.declared.tokens.Class.TheVariants as c
use Rattle.sql_statements.specs.declared.statements.Stmt.{Stmt}
use Rattle.sql_statements.specs.declared.statements.Stmt.TheVariants as stmt
use Rattle.sql_front.specs.Grammar as g
use Rattle.sql_front.specs.Grammar.{IsStatement}
use Rattle.sql_front.specs.Input.{Outcome, Reader, and_then, pure, expect_if, eat}
use Rattle.sql_front.specs.ReadStmt as r
use Rattle.sql_front.specs.Rules.{Rule, nothing, the, Both, ◌or◌}
use Rattle.sql_front.specs.Sentences.{BeginStatement}
use Rattle.sql_front.specs.Symbols.{Symbol, word, sign, Input, same_class}
use Rattle.sql_front.proofs.Exact.{SameHead, runs_to, Good, takes, stops}
use Rattle.sql_front.proofs.Follows.{Judged, reads, falls, Follows, Next, First, Anything, follows_within, follows_as, follows_pure, follows_both, follows_the, follows_eat}
use Rattle.sql_front.proofs.SelectFollows.{follows_select}
use Rattle.sql_front.proofs.Stable.{took, stopped, still_err, both_ok}
use Rattle.sql_front.proofs.StmtFollows.{next_sees, next_more, first_sees, first_more, Ended, semicolon, follows_create, follows_insert, follows_update, follows_delete}
use Rattle.sql_front.proofs.SymbolFacts.{word_is, sign_is}

-- ---- BEGIN, COMMIT, ROLLBACK

abbrev ends_of : List Symbol
ends_of = word w.Commit ∷ word w.Rollback ∷ []

follows_end : Follows ((Both (the (word w.Commit)) (λ _. nothing stmt.Commit)) or (Both (the (word w.Rollback)) (λ _. nothing stmt.Rollback)))
    (λ i. and_then (eat (c.Reserved w.Commit) i) (λ b. cond b (pure stmt.Commit) (λ j. and_then (expect_if true (c.Reserved w.Rollback) j) (λ _. pure stmt.Rollback))))
    (First ends_of) (Next semicolon)
unfolding same_class
follows_end = follows_eat (λ b. cond b (pure stmt.Commit) (λ j. and_then (expect_if true (c.Reserved w.Rollback) j) (λ _. pure stmt.Rollback))) (word w.Commit) (word_is w.Commit)
    (follows_pure stmt.Commit (Next semicolon))
    (follows_both (follows_the (word w.Rollback) (word_is w.Rollback)) (λ _. follows_pure stmt.Rollback (Next semicolon)) (λ i h. tt))
    (first_sees (c.Reserved w.Commit) (word w.Rollback ∷ []) (refl, tt))
    (λ i. inl refl)
    (first_more (word w.Commit) (word w.Rollback ∷ []))

abbrev transactions : List Symbol
transactions = word w.Begin ∷ ends_of

follows_transaction : Follows g.a_transaction r.transaction (First transactions) (Next semicolon)
unfolding r.transaction same_class
follows_transaction = follows_eat (λ b. cond b (pure stmt.Begin) (λ i. and_then (eat (c.Reserved w.Commit) i) (λ b. cond b (pure stmt.Commit) (λ j. and_then (expect_if true (c.Reserved w.Rollback) j) (λ _. pure stmt.Rollback)))))
    (word w.Begin) (word_is w.Begin)
    (follows_pure stmt.Begin (Next semicolon)) follows_end
    (first_sees (c.Reserved w.Begin) ends_of (refl, (refl, tt)))
    (λ i. inl refl)
    (first_more (word w.Begin) ends_of)

-- ---- statements

anything : {X : Type 0} {R : Rule X} {P : Reader X} {H T : Input → Type 0} → Follows R P H T → ((i : Input) → Next semicolon i → T i) → Follows R P Anything (Next semicolon)
anything f h = follows_within f h (λ i g. tt)

abbrev deletions : List Symbol
deletions = word w.Delete ∷ transactions

abbrev delete_or : Reader Stmt
delete_or = λ i. and_then (eat (c.Reserved w.Delete) i) (λ b. cond b r.delete r.transaction)

follows_delete_or : Follows ((Both (the (word w.Delete)) (λ _. g.a_delete)) or g.a_transaction) delete_or (First deletions) (Next semicolon)
unfolding same_class
follows_delete_or = follows_eat (λ b. cond b r.delete r.transaction) (word w.Delete) (word_is w.Delete)
    follows_delete follows_transaction
    (first_sees (c.Reserved w.Delete) transactions (refl, (refl, (refl, tt))))
    (λ i. inl refl)
    (first_more (word w.Delete) transactions)

abbrev changes : List Symbol
changes = word w.Update ∷ deletions

follows_change : Follows g.a_change r.change (First changes) (Next semicolon)
unfolding r.change same_class
follows_change = follows_eat (λ b. cond b r.update delete_or) (word w.Update) (word_is w.Update)
    follows_update follows_delete_or
    (first_sees (c.Reserved w.Update) deletions (refl, (refl, (refl, (refl, tt)))))
    (λ i. inl refl)
    (first_more (word w.Update) deletions)

abbrev queries : List Symbol
queries = word w.Select ∷ changes

abbrev select_or : Reader Stmt
select_or = λ i. and_then (eat (c.Reserved w.Select) i) (λ b. cond b r.select r.change)

follows_select_or : Follows ((Both (the (word w.Select)) (λ _. g.a_select)) or g.a_change) select_or (First queries) (Next semicolon)
unfolding same_class
follows_select_or = follows_eat (λ b. cond b r.select r.change) (word w.Select) (word_is w.Select)
    follows_select follows_change
    (first_sees (c.Reserved w.Select) changes (refl, (refl, (refl, (refl, (refl, tt))))))
    (λ i. inl refl)
    (first_more (word w.Select) changes)

abbrev insertions : List Symbol
insertions = word w.Insert ∷ queries

abbrev insert_or : Reader Stmt
insert_or = λ i. and_then (eat (c.Reserved w.Insert) i) (λ b. cond b r.insert select_or)

follows_insert_or : Follows ((Both (the (word w.Insert)) (λ _. g.an_insert)) or ((Both (the (word w.Select)) (λ _. g.a_select)) or g.a_change)) insert_or (First insertions) (Next semicolon)
unfolding same_class
follows_insert_or = follows_eat (λ b. cond b r.insert select_or) (word w.Insert) (word_is w.Insert)
    follows_insert follows_select_or
    (first_sees (c.Reserved w.Insert) queries (refl, (refl, (refl, (refl, (refl, (refl, tt)))))))
    (λ i. inl refl)
    (first_more (word w.Insert) queries)

follows_command : Follows g.a_command r.command Anything (Next semicolon)
unfolding r.command same_class
follows_command = follows_eat (λ b. cond b r.create insert_or) (word w.Create) (word_is w.Create)
    (anything follows_create (λ i h. tt)) follows_insert_or
    (first_sees (c.Reserved w.Create) insertions (refl, (refl, (refl, (refl, (refl, (refl, (refl, tt))))))))
    (λ i. tt)
    (λ i h. tt)

-- ---- to the end

abbrev no_value : Rule (Unit {0})
no_value = nothing tt

good_at_end : (i : Input) → Good (no_value) r.at_end i
unfolding r.at_end
good_at_end [] = takes tt [] (record { taken = []; whole = refl; again = go }) (λ k. (refl, refl)) where
  go : (q : Input) → SameHead [] q → r.at_end q ≡ Ok (tt, q)
  go [] h = refl
  go (y ∷ q) h = absurd h
good_at_end (x ∷ i) = stops (x ∷ i) (record { taken = []; whole = refl; again = go }) [] tt (refl, refl) where
  go : (q : Input) → SameHead (x ∷ i) q → r.at_end q ≡ Err q
  go [] h = absurd h
  go (y ∷ q) h = refl

follows_at_end : Follows (no_value) r.at_end Ended Ended
unfolding r.at_end
follows_at_end = record {
  good = good_at_end;
  begins = ([], tt, (refl, refl));
  judge = λ k p x z m h. by_case k p x z m.0 h;
  heads = λ k p x z m h. subst (λ q. Ended (q ++ z)) (sym m.0) h;
} where
  by_case : (k : ℕ) (p : Input) (x : Unit {0}) (z : Input) → p ≡ [] → Ended z → Judged r.at_end k p x z
  by_case k p x [] e h = reads (ap (λ q. r.at_end (q ++ [])) e)
  by_case k p x (y ∷ z) e h = absurd h

abbrev ending : Stmt → Reader Stmt
ending x = λ i. and_then (r.at_end i) (λ _. pure x)

follows_ending : (x : Stmt) → Follows (nothing x) (ending x) Ended Ended
follows_ending x = follows_as to from (λ j. refl) (follows_both follows_at_end (λ _. follows_pure x Ended) (λ i h. h)) where
  to : (k : ℕ) (p : Input) (y : Stmt) → Both (no_value) (λ _. nothing x) k p y → nothing x k p y
  to k p y m = (m.whole ∙ ap (λ q. q ++ m.back) m.first.0 ∙ m.second.0, m.second.1)

  from : (k : ℕ) (p : Input) (y : Stmt) → nothing x k p y → Both (no_value) (λ _. nothing x) k p y
  from k p y m = record { value = tt; front = []; back = p; whole = refl; first = (refl, refl); second = m }

follows_statement : Follows g.a_statement r.statement Anything Ended
unfolding r.statement same_class
follows_statement = follows_both follows_command
    (λ x. follows_eat (λ _. ending x) (sign s.Semicolon) (sign_is s.Semicolon)
    (follows_ending x) (follows_ending x)
    (next_sees (c.Sign s.Semicolon) [] tt)
    (λ i. inl refl)
    (λ i h. next_more (sign s.Semicolon) [] i h))
    (λ i h. h)

-- ---- what is read is a statement, and where reading stops nothing goes on

abbrev statement : Reader Stmt
statement = r.statement

-- all of a statement is read
pub all_read : (ts : Input) (x : Stmt) → IsStatement ts x → statement ts ≡ Ok (x, [])
all_read ts x m = ap statement (sym (append-nil ts)) ∙ by_case (follows_statement.judge (length ts) ts x [] m tt) where
  by_case : Judged statement (length ts) ts x [] → statement (ts ++ []) ≡ Ok (x, [])
  by_case (reads e) = e
  by_case (falls q t m e h g) = absurd (omega (arith, ap length e, length-append q (t ∷ m)))

-- all of it was read
at_its_end : (i : Input) (x : Stmt) (q : Input) → statement i ≡ Ok (x, q) → q ≡ []
unfolding r.statement r.at_end
at_its_end i x q h = by_command (r.command i) h where
  by_rest : (y : Stmt) (b : Bool) (j : Input) → and_then (r.at_end j) (λ _. pure {X = Stmt} y) ≡ Ok (x, q) → q ≡ []
  by_rest y b [] e = sym (ap rest_of e) where
    rest_of : Outcome Stmt → Input
    rest_of (Ok p) = p.1
    rest_of (Err k) = k
  by_rest y b (z ∷ j) e = absurd cc

  by_command : (o : Outcome Stmt) → and_then o (λ y. λ j. and_then (eat (c.Sign s.Semicolon) j) (λ _. λ k. and_then (r.at_end k) (λ _. pure y))) ≡ Ok (x, q) → q ≡ []
  by_command (Ok p) e = by_rest p.0 true _ e
  by_command (Err j) e = absurd cc

-- what a reader left
abbrev pub left_of : {X : Type 0} → Outcome X → Input
left_of (Ok p) = p.1
left_of (Err i) = i

-- symbols that are all passed over begin a statement
pub passed_begin : (q z : Input) → length (left_of (statement (q ++ z))) ≤ length z → BeginStatement q
passed_begin q z less = by_case (follows_statement.good q) where
  stopped_in : (t d : Input) (y : Symbol) → q ≡ t ++ y ∷ d → ((v : Input) → SameHead (y ∷ d) v → statement (t ++ v) ≡ Err v) → ⊥
  stopped_in t d y e again =
      let there : statement (q ++ z) ≡ Err (y ∷ d ++ z) = ap (λ v. statement (v ++ z)) e ∙ ap statement (append_assoc t (y ∷ d) z) ∙ again (y ∷ d ++ z) refl in
      absurd (omega (arith, less, ap (λ o. length (left_of o)) there, length-append d z))

  by_stop : (t d more : Input) (x : Stmt) → q ≡ t ++ d → ((v : Input) → SameHead d v → statement (t ++ v) ≡ Err v) → g.a_statement (length t) (t ++ more) x → BeginStatement q
  by_stop t [] more x e again m = subst BeginStatement (sym (e ∙ append-nil t)) (more, x, m)
  by_stop t (y ∷ d) more x e again m = absurd (stopped_in t d y e again)

  by_case : Good g.a_statement r.statement q → BeginStatement q
  by_case (stops d u more x m) = by_stop u.taken d more x u.whole u.again m
  by_case (takes x d u m) =
      let all : u.taken ≡ q = sym (u.whole ∙ ap (λ z. u.taken ++ z) (at_its_end q x d (runs_to u)) ∙ append-nil u.taken) in
      ([], x, subst (λ z. g.a_statement (length q) z x) (all ∙ sym (append-nil q)) (m (length q)))

-- where the reader stops before a symbol, no statement goes on with it
pub stopped_ends : (t d : Input) (y : Symbol) → statement (t ++ y ∷ d) ≡ Err (y ∷ d) → BeginStatement (t ++ y ∷ []) → ⊥
stopped_ends t d y h b = by_case (follows_statement.judge (length (t ++ y ∷ [])) ((t ++ y ∷ []) ++ b.0) b.1 [] b.2 tt) where
  again : statement (((t ++ y ∷ []) ++ b.0) ++ []) ≡ Err (y ∷ b.0)
  again = ap statement (append-nil ((t ++ y ∷ []) ++ b.0) ∙ append_assoc t (y ∷ []) b.0) ∙ still_err g.a_statement statement follows_statement.good t (y ∷ d) h (y ∷ b.0) refl

  clash : (o : Outcome Stmt) (x : Stmt) (q : Input) → o ≡ Err q → o ≡ Ok (x, []) → ⊥
  clash o x q e f = cc

  by_case : Judged statement (length (t ++ y ∷ [])) ((t ++ y ∷ []) ++ b.0) b.1 [] → ⊥
  by_case (reads e) = clash _ b.1 (y ∷ b.0) again e
  by_case (falls q z m e less f) =
      let same : length (z ∷ m ++ []) ≡ length (y ∷ b.0) = ap (λ o. length (left_of o)) (sym f ∙ again) in
      absurd (omega (arith, same, less, ap length e, length-append q (z ∷ m), length-append (t ++ y ∷ []) b.0, length-append m []))

-- a statement has one meaning
pub one_meaning : (ts : Input) (x y : Stmt) → IsStatement ts x → IsStatement ts y → x ≡ y
one_meaning ts x y m n = (both_ok (statement ts) x y [] [] (all_read ts x m) (all_read ts y n)).0

-- what is read to the end is a statement
pub read_means : (ts : Input) (x : Stmt) (q : Input) → statement ts ≡ Ok (x, q) → IsStatement ts x × (q ≡ [])
read_means ts x q h =
    let u = took g.a_statement statement follows_statement.good ts x q h in
    let none : q ≡ [] = at_its_end ts x q h in
    let all : u.taken ≡ ts = sym (u.whole ∙ ap (λ z. u.taken ++ z) none ∙ append-nil u.taken) in
    (subst (λ z. g.a_statement (length ts) z x) all (u.means (length ts)), none)

-- where the reader stops, it has read the symbols before
pub stop_rest : (ts q : Input) → statement ts ≡ Err q → (t : Input) × (ts ≡ t ++ q)
stop_rest ts q h = let u = stopped g.a_statement statement follows_statement.good ts q h in (u.taken, u.whole)

-- what is read is read to the end
pub read_to_end : (ts : Input) (x : Stmt) (q : Input) → statement ts ≡ Ok (x, q) → statement ts ≡ Ok (x, [])
read_to_end ts x q h = h ∙ ap (λ z. Ok (x, z)) (at_its_end ts x q h)
