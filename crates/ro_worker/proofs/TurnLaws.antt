-- What a turn comes to.
use Rattle.std.proofs.Common.{◌≡◌, ℕ, Bool, true, false, Option, Some, None, IsSome, refl, sym, ◌∙◌, ap, subst}
use Rattle.std.specs.Prelude.{option_map, Result, Ok, Err, IfOk}
use Rattle.sql_statements.specs.declared.statements.Stmt.{Stmt}
use Rattle.sql_statements.specs.declared.statements.Stmt.TheVariants as stmt
use Rattle.sql_database.specs.declared.replies.SqlReply.{SqlReply}
use Rattle.sql_database.specs.declared.replies.SqlReply.TheVariants as reply
use Rattle.sql_database.specs.Statements.{IsEvaluated, is_select}
use Rattle.question_tree.specs.Questions.{Ask, tells, asks, stops, wanted, after}
use Rattle.range_reader.specs.declared.fetch.Fetch.{Fetch}
use Rattle.statement_reader.specs.declared.asking.Read.{Read}
use Rattle.statement_reader.specs.Kept.{Kept, asking_of}
use Rattle.statement_reader.specs.Reads as statement
use Rattle.statement_work.specs.declared.acts.Act.{Act}
use Rattle.statement_work.specs.declared.acts.Act.TheVariants as act
use Rattle.statement_work.specs.Works as works
use Rattle.statement_work.specs.Works.{Wish, Fetches, FetchesFixed, Releases, Runs, Stamps, Appends, Input, stamp_in}
use Rattle.statement_work.specs.Acting.{Does, Goes, Grants, anew, is_calm, pool_full, waits}
use Rattle.statement_work.specs.Replies.{EndsInReply}
use Rattle.statement_work.proofs.WorkLaws.{does_wish, ends_after, not_anew}
use Rattle.statement_work.proofs.WorkLaws as works_laws
use Rattle.ro_worker.specs.declared.kinds.StatementKind.{StatementKind}
use Rattle.ro_worker.specs.declared.kinds.StatementKind.TheVariants as kind
use Rattle.ro_worker.specs.declared.latching.ReaderWish.{ReaderWish}
use Rattle.ro_worker.specs.declared.serving.Serving.{Serving}
use Rattle.ro_worker.specs.declared.turns.State.{State}
use Rattle.ro_worker.specs.declared.turns.State.TheVariants as state
use Rattle.ro_worker.specs.declared.turns.Turn.{Turn}
use Rattle.ro_worker.specs.Kinds.{kind_of}
use Rattle.ro_worker.specs.Reads.{IsReplyTo}
use Rattle.ro_worker.specs.Wishes.{reads_only, wish_of}
use Rattle.ro_worker.specs.Serving.{ReadWork, freed, latched, reads, ro_undoes}
use Rattle.ro_worker.specs.States.{Comes, serving_of, serving_with, state_of}
use Rattle.ro_worker.specs.WorkerLaws.{latched_ends, reads_end}

nothing : {A : Type 0} {a : A} → None ≡ Some a → ⊥
nothing e = cc

the_same : {A : Type 0} {a b : A} → Some a ≡ Some b → a ≡ b
the_same e = cc

false_true : {A : Type 0} → false ≡ true → A
false_true e = absurd (apart e)
  where
    apart : false ≡ true → ⊥
    apart q = cc

pub answers : (w : ReadWork) (read : Read) (r : SqlReply) → w ≡ tells (works.Found read) → IsReplyTo read r → Does reads_only w (act.Reply r)
answers w read r e h = let P : ReadWork → Type 0 = λ v. Does reads_only v (act.Reply r) in subst P (sym e) (r, refl, h)

pub wishes : (w : ReadWork) (o : Option ReaderWish) (q : ReaderWish) → o ≡ Some q → option_map wish_of o ≡ wanted w → wanted w ≡ Some (wish_of q)
wishes w o q e h = sym h ∙ ap (λ (x : Option ReaderWish). option_map wish_of x) e

pub wants_none : (w : ReadWork) (o : Option ReaderWish) → o ≡ None → option_map wish_of o ≡ wanted w → wanted w ≡ None
wants_none w o e h = sym h ∙ ap (λ (x : Option ReaderWish). option_map wish_of x) e

pub some_wish : (w : ReadWork) (o : Option ReaderWish) → o ≡ None → option_map wish_of o ≡ wanted w → IsSome (wanted w) → ⊥
some_wish w o e h s = false_true (subst IsSome (wants_none w o e h) s)

pub evaluated : (st : Stmt) → is_select st ≡ true → IsEvaluated st
evaluated (stmt.Create s) e = tt
evaluated (stmt.Insert t names tuples) e = tt
evaluated (stmt.Update t sets test) e = tt
evaluated (stmt.Delete t test) e = tt
evaluated (stmt.Select q) e = tt
evaluated stmt.Begin e = false_true e
evaluated stmt.Commit e = false_true e
evaluated stmt.Rollback e = false_true e

abbrev is_select_of : StatementKind → Bool
is_select_of kind.Write = false
is_select_of kind.Select = true
is_select_of kind.Begin = false
is_select_of kind.End = false

select_of : (st : Stmt) → is_select_of (kind_of st) ≡ is_select st
select_of (stmt.Create s) = refl
select_of (stmt.Insert t names tuples) = refl
select_of (stmt.Update t sets test) = refl
select_of (stmt.Delete t test) = refl
select_of (stmt.Select q) = refl
select_of stmt.Begin = refl
select_of stmt.Commit = refl
select_of stmt.Rollback = refl

pub is_select_kind : (st : Stmt) → kind_of st ≡ kind.Select → is_select st ≡ true
is_select_kind st s = sym (select_of st) ∙ ap is_select_of s

pub the_kind : (st : Stmt) (k : StatementKind) → k ≡ kind_of st → k ≡ kind.Select → kind_of st ≡ kind.Select
the_kind st k e s = sym e ∙ s

pub same_work : {E : Type 0} (r : Result Turn E) (v w : ReadWork) → v ≡ w → IfOk r (Comes v) → IfOk r (Comes w)
same_work r v w e h = let P : ReadWork → Type 0 = λ x. IfOk r (Comes x) in subst P e h

pub begun : {E : Type 0} (r : Result Turn E) (k : Kept) (s : Serving) (st : Stmt) (own : Option ℕ) (n : ℕ)
    → asking_of k ≡ statement.reads (record { stamp = n; own = own }) st → serving_of s ≡ latched None (asking_of k)
    → IfOk r (Comes (serving_of s)) → IfOk r (Comes (reads st own n))
begun r k s st own n e g h = same_work r (serving_of s) (reads st own n) (g ∙ ap (latched None) e) h

-- ---- a full pool

pub full_fetch : (w : ReadWork) (q : Fetch) (n : ℕ) → wanted w ≡ Some (Fetches false q) → Does reads_only (pool_full w n) (act.Reply (reply.PoolFull n))
full_fetch (tells a) q n e = absurd (nothing e)
full_fetch (asks p k) q n e =
    let P : Bool → Type 0 = λ b. Does reads_only (waits b (asks p k) n) (act.Reply (reply.PoolFull n)) in
    subst P (sym (ap is_calm (the_same e))) refl
full_fetch stops q n e = absurd (nothing e)

full_calm : (w : ReadWork) (q : Wish ⊥) (n : ℕ) → wanted w ≡ Some q → is_calm q ≡ true → w ≡ pool_full w n
full_calm (tells a) q n e c = refl
full_calm (asks p k) q n e c = ap (λ (b : Bool). waits b (asks p k) n) (sym c ∙ ap is_calm (sym (the_same e)))
full_calm stops q n e c = refl

full_wants : (w : ReadWork) (q : Wish ⊥) (n : ℕ) → wanted w ≡ Some q → is_calm q ≡ true → (w ≡ pool_full w n) × (wanted (pool_full w n) ≡ Some q)
full_wants w q n e c = let same = full_calm w q n e c in (same, ap wanted (sym same) ∙ e)

pub full_release : (w : ReadWork) (p n : ℕ) → wanted w ≡ Some (Releases p) → (w ≡ pool_full w n) × (wanted (pool_full w n) ≡ Some (Releases p))
full_release w p n e = full_wants w (Releases p) n e refl

pub full_stamp : (w : ReadWork) (n : ℕ) → wanted w ≡ Some Stamps → (w ≡ pool_full w n) × (wanted (pool_full w n) ≡ Some Stamps)
full_stamp w n e = full_wants w Stamps n e refl

-- ---- nothing begins anew

freed_ends : (held : Option ℕ) (w : ReadWork) → EndsInReply w → EndsInReply (freed held w)
freed_ends None w h = h
freed_ends (Some p) w h = λ x. h

serving_ends : (s : Serving) → EndsInReply (serving_of s)
unfolding serving_with
serving_ends s = freed_ends s.free _ (latched_ends s.held (asking_of s.asking))

state_ends : (s : State) → EndsInReply (state_of s)
state_ends state.Idle = tt
state_ends state.Beginning = λ x. tt
state_ends (state.Stamping w) = λ x. reads_end w.statement w.own (stamp_in x)
state_ends (state.Reading s) = serving_ends s

pub anew_comes : {E : Type 0} (r : Result Turn E) (s : State) (x : Input) → IfOk r (Comes (after (state_of s) x))
    → IfOk r (Comes (anew ro_undoes (after (state_of s) x)))
anew_comes r s x h =
    same_work r (after (state_of s) x) (anew ro_undoes (after (state_of s) x)) (sym (not_anew ro_undoes (after (state_of s) x) (ends_after (state_of s) x (state_ends s)))) h

pub works_goes : (w : ReadWork) (s : State) → state_of s ≡ w → Goes w (state_of s)
works_goes w s e h = e

pub does_deed : (w : ReadWork) (q : ReaderWish) (x : Act) → wanted w ≡ Some (wish_of q) → Grants reads_only (wish_of q) x → Does reads_only w x
does_deed w q x e g = does_wish reads_only w (wish_of q) x e g

pub replied_goes : (w new : ReadWork) (r : SqlReply) → Does reads_only w (act.Reply r) → Goes w new
replied_goes w new r h = works_laws.replied_goes reads_only w new r h

pub rested_goes : (w new : ReadWork) → Does reads_only w act.Rest → Goes w new
rested_goes w new h = works_laws.rested_goes reads_only w new h
