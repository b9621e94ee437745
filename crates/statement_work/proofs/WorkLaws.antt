-- Laws of work that ends in a reply, and of what an act says of a work.
use Rattle.std.proofs.Common.{◌≡◌, ℕ, true, false, Some, None, refl, sym, subst}
use Rattle.sql_database.specs.declared.replies.SqlReply.{SqlReply}
use Rattle.question_tree.specs.Questions.{tells, asks, stops, wanted, after}
use Rattle.statement_work.specs.declared.acts.Deed.{Deed}
use Rattle.statement_work.specs.declared.acts.Act.{Act}
use Rattle.statement_work.specs.declared.acts.Act.TheVariants as act
use Rattle.statement_work.specs.Terms.{Terms}
use Rattle.statement_work.specs.Works.{Wish, Fetches, FetchesFixed, FetchesSure, Releases, Runs, Stamps, Appends, Input, Found, Replied, Rested, Again, WorkOf, Work}
use Rattle.statement_work.specs.Acting.{Does, Goes, Grants, anew}
use Rattle.statement_work.specs.Replies.{EndsInReply}

pub ends_after : {A F : Type 0} (w : WorkOf A F) (x : Input) → EndsInReply w → EndsInReply (after w x)
ends_after (tells a) x h = h
ends_after (asks q k) x h = h x
ends_after stops x h = h

pub not_anew : {A F : Type 0} (undoes : ℕ → WorkOf A F) (w : WorkOf A F) → EndsInReply w → anew undoes w ≡ w
not_anew undoes (tells (Found a)) h = refl
not_anew undoes (tells (Replied r)) h = refl
not_anew undoes (tells Rested) h = absurd h
not_anew undoes (tells (Again session)) h = absurd h
not_anew undoes (asks q k) h = refl
not_anew undoes stops h = refl

pub do_reply : (d : Deed) (r : SqlReply) → act.Do d ≡ act.Reply r → ⊥
do_reply d r e = cc

pub do_rest : (d : Deed) → act.Do d ≡ act.Rest → ⊥
do_rest d e = cc

pub reply_grants : (t : Terms) (q : Wish t.Aim) (r : SqlReply) → Grants t q (act.Reply r) → ⊥
reply_grants t (Fetches calm q) r e = do_reply _ r (sym e)
reply_grants t (FetchesFixed calm p) r e = do_reply _ r (sym e)
reply_grants t (FetchesSure calm c) r e = do_reply _ r (sym e)
reply_grants t (Releases p) r e = do_reply _ r (sym e)
reply_grants t (Runs calm a) r (plan, e, s) = do_reply _ r (sym e)
reply_grants t Stamps r e = do_reply _ r (sym e)
reply_grants t Appends r e = do_reply _ r (sym e)

pub rest_grants : (t : Terms) (q : Wish t.Aim) → Grants t q act.Rest → ⊥
rest_grants t (Fetches calm q) e = do_rest _ (sym e)
rest_grants t (FetchesFixed calm p) e = do_rest _ (sym e)
rest_grants t (FetchesSure calm c) e = do_rest _ (sym e)
rest_grants t (Releases p) e = do_rest _ (sym e)
rest_grants t (Runs calm a) (plan, e, s) = do_rest _ (sym e)
rest_grants t Stamps e = do_rest _ (sym e)
rest_grants t Appends e = do_rest _ (sym e)

the_same : {A : Type 0} {a b : A} → Some a ≡ Some b → a ≡ b
the_same e = cc

nothing : {A : Type 0} {a : A} → None ≡ Some a → ⊥
nothing e = cc

false_true : {A : Type 0} → false ≡ true → A
false_true e = absurd (apart e)
  where
    apart : false ≡ true → ⊥
    apart q = cc

-- what a wish allows is done for it
pub does_wish : (t : Terms) (w : Work t) (q : Wish t.Aim) (x : Act) → wanted w ≡ Some q → Grants t q x → Does t w x
does_wish t (tells a) q x e g = absurd (nothing e)
does_wish t (asks p k) q x e g = let P : Wish t.Aim → Type 0 = λ r. Grants t r x in subst P (sym (the_same e)) g
does_wish t stops q x e g = absurd (nothing e)

-- behind a reply and behind a rest nothing is wanted
pub replied_goes : (t : Terms) (w new : Work t) (r : SqlReply) → Does t w (act.Reply r) → Goes w new
replied_goes t (tells a) new r h s = false_true s
replied_goes t (asks q k) new r h s = absurd (reply_grants t q r h)
replied_goes t stops new r h s = false_true s

pub rested_goes : (t : Terms) (w new : Work t) → Does t w act.Rest → Goes w new
rested_goes t (tells a) new h s = false_true s
rested_goes t (asks q k) new h s = absurd (rest_grants t q h)
rested_goes t stops new h s = false_true s
