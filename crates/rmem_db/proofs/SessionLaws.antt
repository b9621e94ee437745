-- What each sort of statement makes of the session.
use Rattle.std.proofs.Common.{◌≡◌, ◌≢◌, ◌⊎◌, ℕ, codes, bytes_eq, Bool, true, false, List, [], ◌∷◌, ◌++◌, Option, Some, None, Result, Ok, Err, IfOk, refl, sym, ap, subst, ◌∙◌, inl, inr}
use Rattle.std.proofs.lemmas.Slice.Eq.{bytes_eq-Decides}
use Rattle.sql_words.specs.declared.reserved.Word.TheVariants as word
use Rattle.sql_words.specs.Reserved.{spelling}
use Rattle.sql_statements.specs.declared.statements.Stmt.{Stmt}
use Rattle.sql_statements.specs.declared.statements.Stmt.TheVariants as stmt
use Rattle.sql_database.specs.declared.changes.Change.{Change}
use Rattle.sql_database.specs.declared.replies.SqlReply.{SqlReply}
use Rattle.sql_database.specs.declared.replies.SqlReply.TheVariants as reply
use Rattle.sql_database.specs.Answers.{Answer, changes_of, reply_to}
use Rattle.sql_database.specs.Fitting.{IsProper}
use Rattle.sql_database.specs.Statements.{IsEvaluated}
use Rattle.sql_exec.specs.Whole.{AnswersOver}
use Rattle.sql_database.specs.Database.{Database}
use Rattle.sql_database.specs.Applied.{applied, changed}
use Rattle.sql_engine.specs.Executed.{Executes, MakesTable}
use Rattle.sql_front.specs.Created as created
use Rattle.table_machine.specs.Laws.{AnswersGoOn}
use Rattle.sql_database.specs.Replies.{is_giving_up}
use Rattle.table_machine.specs.Serving.{Evaluates, GivesBack, Keeps, Opens, TableState, Turn, at_rest, seen}
use Rattle.page_store.specs.Stored.{Stored}
use Rattle.paged_tables.specs.Content.{HoldsKept, IsFullNow}
use Rattle.rmem_db.specs.declared.session.OneSession.{OneSession}
use Rattle.rmem_db.specs.Session.{CanBeFull, Stands, Takes, sql}

-- no test is both
pub apart : {A : Type 0} → true ≡ false → A
apart e = absurd (clash e) where
  clash : true ≡ false → ⊥
  clash q = cc

-- one change after the other, in two parts
applied_on : (d : Database) (first more : List Change) → applied d (first ++ more) ≡ applied (applied d first) more
applied_on d [] more = refl
applied_on d (c ∷ first) more = applied_on (changed d c) first more

module _ {W : Type 0} (Kept Shown : W → Database → Type 0) where
  abbrev session : W → Bool → OneSession W
  session tables begun = record { tables = tables; in_transaction = begun }

  abbrev state : Database → Option (List Change) → TableState
  state kept own = record { kept = kept; own = own }

  -- ---- BEGIN, COMMIT and ROLLBACK

  pub opens_again : (x : OneSession W) (kept : Database) (own : Option (List Change)) → x.in_transaction ≡ true → Stands Kept Shown x (state kept own) → Takes Kept Shown (Opens (state kept own)) x reply.InTransaction
  opens_again x kept None is h = apart (sym is ∙ h.flag)
  opens_again x kept (Some cs) is h = record { new = state kept (Some cs); step = inr (λ e. none e, refl, refl); stands = h } where
    none : Some cs ≡ None → ⊥
    none e = cc

  pub opens_now : (x : OneSession W) (kept : Database) (own : Option (List Change)) → x.in_transaction ≡ false → Stands Kept Shown x (state kept own) → Takes Kept Shown (Opens (state kept own)) (session x.tables true) (reply.Ok 0)
  opens_now x kept None is h = record { new = state kept (Some []); step = inl (refl, refl, refl); stands = record { kept = h.kept; shown = h.shown; flag = refl } }
  opens_now x kept (Some cs) is h = apart (sym h.flag ∙ is)

  pub keeps_none : (x : OneSession W) (kept : Database) (own : Option (List Change)) → x.in_transaction ≡ false → Stands Kept Shown x (state kept own) → Takes Kept Shown (Keeps (state kept own)) x reply.NoTransaction
  keeps_none x kept None is h = record { new = state kept None; step = inr (refl, refl, refl); stands = h }
  keeps_none x kept (Some cs) is h = apart (sym h.flag ∙ is)

  pub keeps_own : (x : OneSession W) (kept : Database) (own : Option (List Change)) → x.in_transaction ≡ true → Stands Kept Shown x (state kept own) → (after : W) → ((n : Database) → Shown x.tables n → Kept after n) → ((n : Database) → Shown x.tables n → Shown after n)
      → Takes Kept Shown (Keeps (state kept own)) (session after false) (reply.Ok 0)
  keeps_own x kept None is h after keep show = apart (sym is ∙ h.flag)
  keeps_own x kept (Some cs) is h after keep show =
      record { new = at_rest (applied kept cs); step = inl (cs, refl, refl, refl); stands = record { kept = keep (applied kept cs) h.shown; shown = show (applied kept cs) h.shown; flag = refl } }

  pub gives_none : (x : OneSession W) (kept : Database) (own : Option (List Change)) → x.in_transaction ≡ false → Stands Kept Shown x (state kept own) → Takes Kept Shown (GivesBack (state kept own)) x reply.NoTransaction
  gives_none x kept None is h = record { new = state kept None; step = inr (refl, refl, refl); stands = h }
  gives_none x kept (Some cs) is h = apart (sym h.flag ∙ is)

  pub gives_own : (x : OneSession W) (kept : Database) (own : Option (List Change)) → x.in_transaction ≡ true → Stands Kept Shown x (state kept own) → (after : W) → ((n : Database) → Kept x.tables n → Kept after n) → ((n : Database) → Kept x.tables n → Shown after n)
      → Takes Kept Shown (GivesBack (state kept own)) (session after false) (reply.Ok 0)
  gives_own x kept None is h after give show = apart (sym is ∙ h.flag)
  gives_own x kept (Some cs) is h after give show =
      record { new = at_rest kept; step = inl (λ e. none e, refl, refl); stands = record { kept = give kept h.kept; shown = show kept h.kept; flag = refl } }
    where
      none : Some cs ≡ None → ⊥
      none e = cc

  -- ---- other statements

  module _ (go_on : AnswersGoOn sql) (st : Stmt) where
    -- a reply that there is no room is no answer
    no_answer : (d : Database) (a : Answer) → AnswersOver d st a → reply.SpaceFull ≡ reply_to a → ⊥
    no_answer d a over e = apart (ap is_giving_up e ∙ go_on d st a over)

    abbrev Ended : Type 0 → Database → W → SqlReply → Answer → Type 0
    Ended IsFull now told r a = ((r ≡ reply_to a) × Shown told (applied now (changes_of a))) ⊎ ((r ≡ reply.SpaceFull) × (changes_of a ≢ []) × IsFull)

    -- there is no room
    pub full : (IsFull : Type 0) (kept : Database) (own : Option (List Change)) (told after : W) (r : SqlReply) → (IsFull → CanBeFull kept) → r ≡ reply.SpaceFull
        → Executes (seen (state kept own)) st (Shown told) IsFull r → Kept told kept → ((n : Database) → Kept told n → Kept after n) → ((n : Database) → Kept told n → Shown after n) → Takes Kept Shown (Evaluates sql st (state kept own)) (session after false) r
    full IsFull kept own told after r fills is t stays give show = by_end t.ends where
      by_end : Ended IsFull (seen (state kept own)) told r t.answer → Takes Kept Shown (Evaluates sql st (state kept own)) (session after false) r
      by_end (inl e) = absurd (no_answer (seen (state kept own)) t.answer t.is (sym is ∙ e.0))
      by_end (inr e) =
          record {
            new = at_rest kept;
            step = (t.answer, t.is, inr (e.0, e.1, fills e.2, refl));
            stands = record { kept = give kept stays; shown = show kept stays; flag = refl };
          }

    -- the changes join those of the open transaction
    pub joins : (IsFull : Type 0) (x : OneSession W) (kept : Database) (own : Option (List Change)) (told : W) (r : SqlReply) → (r ≡ reply.SpaceFull → ⊥) → x.in_transaction ≡ true → Stands Kept Shown x (state kept own)
        → Executes (seen (state kept own)) st (Shown told) IsFull r → Kept told kept → Takes Kept Shown (Evaluates sql st (state kept own)) (session told x.in_transaction) r
    joins IsFull x kept None told r other is h t stays = apart (sym is ∙ h.flag)
    joins IsFull x kept (Some before) told r other is h t stays = by_end t.ends where
      by_end : Ended IsFull (applied kept before) told r t.answer → Takes Kept Shown (Evaluates sql st (state kept (Some before))) (session told x.in_transaction) r
      by_end (inr e) = absurd (other e.0)
      by_end (inl e) =
          record {
            new = state kept (Some (before ++ changes_of t.answer));
            step = (t.answer, t.is, inl (e.0, refl));
            stands = record { kept = stays; shown = subst (Shown told) (sym (applied_on kept before (changes_of t.answer))) e.1; flag = is };
          }

    -- the changes are kept at once
    pub keeps_now : (IsFull : Type 0) (x : OneSession W) (kept : Database) (own : Option (List Change)) (told after : W) (r : SqlReply) → (r ≡ reply.SpaceFull → ⊥) → x.in_transaction ≡ false → Stands Kept Shown x (state kept own)
        → Executes (seen (state kept own)) st (Shown told) IsFull r → ((n : Database) → Shown told n → Kept after n) → ((n : Database) → Shown told n → Shown after n)
        → Takes Kept Shown (Evaluates sql st (state kept own)) (session after x.in_transaction) r
    keeps_now IsFull x kept (Some before) told after r other is h t keep show = apart (sym h.flag ∙ is)
    keeps_now IsFull x kept None told after r other is h t keep show = by_end t.ends where
      by_end : Ended IsFull kept told r t.answer → Takes Kept Shown (Evaluates sql st (state kept None)) (session after x.in_transaction) r
      by_end (inr e) = absurd (other e.0)
      by_end (inl e) =
          record {
            new = at_rest (applied kept (changes_of t.answer));
            step = (t.answer, t.is, inl (e.0, refl));
            stands = record { kept = keep (applied kept (changes_of t.answer)) e.1; shown = show (applied kept (changes_of t.answer)) e.1; flag = is };
          }

-- a store that is full shows that one can be
pub can_be_full : (tables : Stored) (k : Database) → HoldsKept tables k → IsFullNow tables → CanBeFull k
can_be_full tables k holds full = (tables, holds, full)

-- ---- any statement

-- what is none of these three is evaluated
pub is_evaluated : (st : Stmt) → (st ≡ stmt.Begin → ⊥) → (st ≡ stmt.Commit → ⊥) → (st ≡ stmt.Rollback → ⊥) → IsEvaluated st
is_evaluated (stmt.Create s) a b c = tt
is_evaluated (stmt.Insert t names tuples) a b c = tt
is_evaluated (stmt.Update t sets test) a b c = tt
is_evaluated (stmt.Delete t test) a b c = tt
is_evaluated (stmt.Select q) a b c = tt
is_evaluated stmt.Begin a b c = a refl
is_evaluated stmt.Commit a b c = b refl
is_evaluated stmt.Rollback a b c = c refl

turn_of : (st : Stmt) (old new : TableState) (r : SqlReply) → IsEvaluated st → Evaluates sql st old r new → Turn sql (Ok st) old r new
turn_of (stmt.Create s) old new r k e = e
turn_of (stmt.Insert t names tuples) old new r k e = e
turn_of (stmt.Update t sets test) old new r k e = e
turn_of (stmt.Delete t test) old new r k e = e
turn_of (stmt.Select q) old new r k e = e
turn_of stmt.Begin old new r k e = absurd k
turn_of stmt.Commit old new r k e = absurd k
turn_of stmt.Rollback old new r k e = absurd k

takes_evaluated : {W : Type 0} (Kept Shown : W → Database → Type 0) (st : Stmt) (old : TableState) (x : OneSession W) (r : SqlReply) → IsEvaluated st → Takes Kept Shown (Evaluates sql st old) x r → Takes Kept Shown (Turn sql (Ok st) old) x r
takes_evaluated Kept Shown st old x r k h = record { new = h.new; step = turn_of st old h.new r k h.step; stands = h.stands }

pub takes_if_ok : {W E : Type 0} (Kept Shown : W → Database → Type 0) (st : Stmt) (old : TableState) (x : OneSession W) (r : Result SqlReply E) → IsEvaluated st
    → IfOk r (Takes Kept Shown (Evaluates sql st old) x) → IfOk r (Takes Kept Shown (Turn sql (Ok st) old) x)
takes_if_ok Kept Shown st old x (Ok y) k h = takes_evaluated Kept Shown st old x y k h
takes_if_ok Kept Shown st old x (Err e) k h = tt

-- what the parser says of a CREATE is what its execution asks
pub makes : (st : Stmt) → created.MakesTable st → MakesTable st
unfolding spelling
makes (stmt.Create s) h = record { table = h.table; word = h.free word.Table }
makes (stmt.Insert t names tuples) h = tt
makes (stmt.Update t sets test) h = tt
makes (stmt.Delete t test) h = tt
makes (stmt.Select q) h = tt
makes stmt.Begin h = tt
makes stmt.Commit h = tt
makes stmt.Rollback h = tt

proper_name : (t : List ℕ) → t ≢ codes "table" → bytes_eq t (codes "table") ≡ false
proper_name t ne = by_test (bytes_eq t (codes "table")) refl
  where
    by_test : (b : Bool) → bytes_eq t (codes "table") ≡ b → b ≡ false
    by_test true e = absurd (ne ((bytes_eq-Decides t (codes "table")).0 e))
    by_test false e = refl

-- the catalog's word is reserved, so what the parser says of a CREATE makes no table under it
pub is_proper : (st : Stmt) → created.MakesTable st → IsProper st
unfolding spelling
is_proper (stmt.Create s) h = proper_name s.table (h.free word.Table)
is_proper (stmt.Insert t names tuples) h = tt
is_proper (stmt.Update t sets test) h = tt
is_proper (stmt.Delete t test) h = tt
is_proper (stmt.Select q) h = tt
is_proper stmt.Begin h = tt
is_proper stmt.Commit h = tt
is_proper stmt.Rollback h = tt
