-- A part's work in the words of a worker, step by step.
use Rattle.std.proofs.Common.{◌≡◌, ℕ, Bool, true, false, List, [], ◌∷◌, Option, Some, None, refl, sym, ◌∙◌, ap, subst}
use Rattle.page_image.specs.Image.{Image}
use Rattle.page_image.specs.Meta.{IsMeta, IsSlots}
use Rattle.redo_record.specs.declared.plans.Plan.{Plan}
use Rattle.question_tree.specs.Questions.{Ask, tells, asks, stops, after, told, lift}
use Rattle.row_edits.specs.Wishes as row
use Rattle.row_edits.specs.declared.wishes.Act.{Act as RowAct}
use Rattle.row_edits.specs.declared.wishes.Act.TheVariants as row_act
use Rattle.transaction_edits.specs.Wishes as transaction
use Rattle.transaction_edits.specs.declared.wishes.Act.{Act as TransactionAct}
use Rattle.transaction_edits.specs.declared.wishes.Act.TheVariants as transaction_act
use Rattle.statement_work.specs.declared.acts.Act.TheVariants as act
use Rattle.statement_work.specs.declared.acts.Deed.{Deed}
use Rattle.statement_work.specs.declared.acts.Deed.TheVariants as deed
use Rattle.statement_work.specs.declared.acts.FixedPage.TheVariants as fixed
use Rattle.statement_work.specs.Acting.{Does}
use Rattle.statement_work.specs.Works.{AskedFor, IsFixed, Handed, Made}
use Rattle.rw_worker.specs.Aims.{Work, writer}
use Rattle.rw_worker.specs.Lifting.{row_over, row_deed, transaction_over, transaction_deed}

nothing : {A B : Type 0} {a : A} → None ≡ Some a → B
nothing e = absurd (apart e)
  where
    apart : {A : Type 0} {a : A} → None ≡ Some a → ⊥
    apart q = cc

something : {A B : Type 0} {a : A} → Some a ≡ None → B
something e = nothing (sym e)

the_same : {A : Type 0} {a b : A} → Some a ≡ Some b → a ≡ b
the_same e = cc

meta_is : (im : Image) → IsFixed fixed.Meta im → IsMeta im
meta_is im h = record { kind = h.1; number = h.0 }

slots_is : (im : Image) → IsFixed fixed.Slots im → IsSlots im
slots_is im h = record { kind = h.1; number = h.0 }

-- ---- a change of a leaf

-- it has ended: what follows is left
row_ended : {A : Type 0} (calm : Bool) (m : Ask row.Wish row.Input A) (k : A → Work) (a : A) (w : Work) → Some a ≡ told m → w ≡ k a
    → w ≡ row_over calm m k
unfolding lift
row_ended calm (tells b) k a w e h = h ∙ ap k (the_same e)
row_ended calm (asks q n) k a w e h = something e
row_ended calm stops k a w e h = something e

row_ends_at : {A : Type 0} (calm : Bool) (m : Ask row.Wish row.Input A) (k : A → Work) (o : Option A) (a : A) (w : Work) → o ≡ Some a → o ≡ told m
    → w ≡ k a → w ≡ row_over calm m k
row_ends_at calm m k o a w e t h = row_ended calm m k a w (sym e ∙ t) h

pub row_still : {A : Type 0} (m : Ask row.Wish row.Input A) (o : Option A) → o ≡ None → o ≡ told m → told m ≡ None
row_still m o e t = sym t ∙ e

-- what it wants done, where it wants something
pub row_wants : {A : Type 0} (m : Ask row.Wish row.Input A) (o : Option RowAct) (a : RowAct) → o ≡ Some a → row.Does m o → row.Does m (Some a)
row_wants m o a e h = let P : Option RowAct → Type 0 = λ x. row.Does m x in subst P e h

row_asked_at : {A : Type 0} (calm : Bool) (m : Ask row.Wish row.Input A) (k : A → Work) (im : Image) → told m ≡ None → AskedFor (row_over calm m k) (Handed im)
    → row.Asked m (row.Handed im)
unfolding lift
row_asked_at calm (tells b) k im e h = something e
row_asked_at calm (asks (row.Steps key path page) n) k im e h = h
row_asked_at calm (asks (row.ReadsUndo page) n) k im e h = h
row_asked_at calm (asks row.ReadsSlots n) k im e h = slots_is im h
row_asked_at calm (asks row.ReadsMeta n) k im e h = meta_is im h
row_asked_at calm (asks (row.Runs aim) n) k im e h = absurd h
row_asked_at calm stops k im e h = absurd h

row_ran_at : {A : Type 0} (calm : Bool) (m : Ask row.Wish row.Input A) (k : A → Work) → told m ≡ None → AskedFor (row_over calm m k) Made
    → row.Asked m row.Ran
unfolding lift
row_ran_at calm (tells b) k e h = something e
row_ran_at calm (asks (row.Steps key path page) n) k e h = absurd h
row_ran_at calm (asks (row.ReadsUndo page) n) k e h = absurd h
row_ran_at calm (asks row.ReadsSlots n) k e h = absurd h
row_ran_at calm (asks row.ReadsMeta n) k e h = absurd h
row_ran_at calm (asks (row.Runs aim) n) k e h = tt
row_ran_at calm stops k e h = absurd h

row_went_at : {A : Type 0} (calm : Bool) (m new : Ask row.Wish row.Input A) (k : A → Work) (im : Image) (w : Work) → told m ≡ None
    → new ≡ after m (row.Handed im) → w ≡ row_over calm new k → w ≡ after (row_over calm m k) (Handed im)
unfolding lift
row_went_at calm (tells b) new k im w e n h = something e
row_went_at calm (asks q l) new k im w e n h = h ∙ ap (λ (x : Ask row.Wish row.Input _). row_over calm x k) n
row_went_at calm stops new k im w e n h = h ∙ ap (λ (x : Ask row.Wish row.Input _). row_over calm x k) n

row_goes_on_at : {A : Type 0} (calm : Bool) (m new : Ask row.Wish row.Input A) (k : A → Work) (w : Work) → told m ≡ None
    → new ≡ after m row.Ran → w ≡ row_over calm new k → w ≡ after (row_over calm m k) Made
unfolding lift
row_goes_on_at calm (tells b) new k w e n h = something e
row_goes_on_at calm (asks q l) new k w e n h = h ∙ ap (λ (x : Ask row.Wish row.Input _). row_over calm x k) n
row_goes_on_at calm stops new k w e n h = h ∙ ap (λ (x : Ask row.Wish row.Input _). row_over calm x k) n

-- what it wants done is what is asked for
row_does : {A : Type 0} (calm : Bool) (m : Ask row.Wish row.Input A) (k : A → Work) (a : RowAct) → row.Does m (Some a)
    → Does writer (row_over calm m k) (act.Do (row_deed a))
unfolding lift
row_does calm (tells b) k a h = something h
row_does calm (asks (row.Steps key [] page) n) k a h = ap (λ (x : RowAct). act.Do (row_deed x)) (the_same h)
row_does calm (asks (row.Steps key (im ∷ path) page) n) k a h = ap (λ (x : RowAct). act.Do (row_deed x)) (the_same h)
row_does calm (asks (row.ReadsUndo page) n) k a h = ap (λ (x : RowAct). act.Do (row_deed x)) (the_same h)
row_does calm (asks row.ReadsSlots n) k a h = ap (λ (x : RowAct). act.Do (row_deed x)) (the_same h)
row_does calm (asks row.ReadsMeta n) k a h = ap (λ (x : RowAct). act.Do (row_deed x)) (the_same h)
row_does calm (asks (row.Runs aim) n) k a (plan, e, is) = (plan, ap (λ (x : RowAct). act.Do (row_deed x)) (the_same e), is)
row_does calm stops k a h = something h

row_acts_at : {A : Type 0} (calm : Bool) (m : Ask row.Wish row.Input A) (k : A → Work) (a : RowAct) (d : Deed) → row.Does m (Some a) → d ≡ row_deed a
    → Does writer (row_over calm m k) (act.Do d)
row_acts_at calm m k a d h e = let P : Deed → Type 0 = λ x. Does writer (row_over calm m k) (act.Do x) in subst P (sym e) (row_does calm m k a h)

-- ---- a transaction's begin or end

transaction_same_at : {A : Type 0} (calm : Bool) (m n : Ask transaction.Wish transaction.Input A) (k : A → Work) → m ≡ n
    → transaction_over calm m k ≡ transaction_over calm n k
transaction_same_at calm m n k e = ap (λ (x : Ask transaction.Wish transaction.Input _). transaction_over calm x k) e

transaction_ended : {A : Type 0} (calm : Bool) (m : Ask transaction.Wish transaction.Input A) (k : A → Work) (a : A) (w : Work) → Some a ≡ told m → w ≡ k a
    → w ≡ transaction_over calm m k
unfolding lift
transaction_ended calm (tells b) k a w e h = h ∙ ap k (the_same e)
transaction_ended calm (asks q n) k a w e h = something e
transaction_ended calm stops k a w e h = something e

transaction_ends_at : {A : Type 0} (calm : Bool) (m : Ask transaction.Wish transaction.Input A) (k : A → Work) (o : Option A) (a : A) (w : Work) → o ≡ Some a → o ≡ told m
    → w ≡ k a → w ≡ transaction_over calm m k
transaction_ends_at calm m k o a w e t h = transaction_ended calm m k a w (sym e ∙ t) h

pub transaction_still : {A : Type 0} (m : Ask transaction.Wish transaction.Input A) (o : Option A) → o ≡ None → o ≡ told m → told m ≡ None
transaction_still m o e t = sym t ∙ e

-- what it wants done, where it wants something
pub transaction_wants : {A : Type 0} (m : Ask transaction.Wish transaction.Input A) (o : Option TransactionAct) (a : TransactionAct) → o ≡ Some a → transaction.Does m o → transaction.Does m (Some a)
transaction_wants m o a e h = let P : Option TransactionAct → Type 0 = λ x. transaction.Does m x in subst P e h

transaction_asked_at : {A : Type 0} (calm : Bool) (m : Ask transaction.Wish transaction.Input A) (k : A → Work) (im : Image) → told m ≡ None
    → AskedFor (transaction_over calm m k) (Handed im) → transaction.Asked m (transaction.Handed im)
unfolding lift
transaction_asked_at calm (tells b) k im e h = something e
transaction_asked_at calm (asks transaction.ReadsMeta n) k im e h = meta_is im h
transaction_asked_at calm (asks transaction.ReadsSlots n) k im e h = slots_is im h
transaction_asked_at calm (asks (transaction.ReadsStamps page) n) k im e h = h
transaction_asked_at calm (asks (transaction.Runs aim) n) k im e h = absurd h
transaction_asked_at calm stops k im e h = absurd h

transaction_ran_at : {A : Type 0} (calm : Bool) (m : Ask transaction.Wish transaction.Input A) (k : A → Work) → told m ≡ None
    → AskedFor (transaction_over calm m k) Made → transaction.Asked m transaction.Ran
unfolding lift
transaction_ran_at calm (tells b) k e h = something e
transaction_ran_at calm (asks transaction.ReadsMeta n) k e h = absurd h
transaction_ran_at calm (asks transaction.ReadsSlots n) k e h = absurd h
transaction_ran_at calm (asks (transaction.ReadsStamps page) n) k e h = absurd h
transaction_ran_at calm (asks (transaction.Runs aim) n) k e h = tt
transaction_ran_at calm stops k e h = absurd h

transaction_went_at : {A : Type 0} (calm : Bool) (m new : Ask transaction.Wish transaction.Input A) (k : A → Work) (im : Image) (w : Work) → told m ≡ None
    → new ≡ after m (transaction.Handed im) → w ≡ transaction_over calm new k → w ≡ after (transaction_over calm m k) (Handed im)
unfolding lift
transaction_went_at calm (tells b) new k im w e n h = something e
transaction_went_at calm (asks q l) new k im w e n h = h ∙ ap (λ (x : Ask transaction.Wish transaction.Input _). transaction_over calm x k) n
transaction_went_at calm stops new k im w e n h = h ∙ ap (λ (x : Ask transaction.Wish transaction.Input _). transaction_over calm x k) n

transaction_goes_on_at : {A : Type 0} (calm : Bool) (m new : Ask transaction.Wish transaction.Input A) (k : A → Work) (w : Work) → told m ≡ None
    → new ≡ after m transaction.Ran → w ≡ transaction_over calm new k → w ≡ after (transaction_over calm m k) Made
unfolding lift
transaction_goes_on_at calm (tells b) new k w e n h = something e
transaction_goes_on_at calm (asks q l) new k w e n h = h ∙ ap (λ (x : Ask transaction.Wish transaction.Input _). transaction_over calm x k) n
transaction_goes_on_at calm stops new k w e n h = h ∙ ap (λ (x : Ask transaction.Wish transaction.Input _). transaction_over calm x k) n

transaction_does : {A : Type 0} (calm : Bool) (m : Ask transaction.Wish transaction.Input A) (k : A → Work) (a : TransactionAct) → transaction.Does m (Some a)
    → Does writer (transaction_over calm m k) (act.Do (transaction_deed a))
unfolding lift
transaction_does calm (tells b) k a h = something h
transaction_does calm (asks transaction.ReadsMeta n) k a h = ap (λ (x : TransactionAct). act.Do (transaction_deed x)) (the_same h)
transaction_does calm (asks transaction.ReadsSlots n) k a h = ap (λ (x : TransactionAct). act.Do (transaction_deed x)) (the_same h)
transaction_does calm (asks (transaction.ReadsStamps page) n) k a h = ap (λ (x : TransactionAct). act.Do (transaction_deed x)) (the_same h)
transaction_does calm (asks (transaction.Runs aim) n) k a (plan, e, is) = (plan, ap (λ (x : TransactionAct). act.Do (transaction_deed x)) (the_same e), is)
transaction_does calm stops k a h = something h

transaction_acts_at : {A : Type 0} (calm : Bool) (m : Ask transaction.Wish transaction.Input A) (k : A → Work) (a : TransactionAct) (d : Deed) → transaction.Does m (Some a)
    → d ≡ transaction_deed a → Does writer (transaction_over calm m k) (act.Do d)
transaction_acts_at calm m k a d h e = let P : Deed → Type 0 = λ x. Does writer (transaction_over calm m k) (act.Do x) in subst P (sym e) (transaction_does calm m k a h)

-- ---- each of a statement's changes, which are not calm, and of an undoing, which is

pub row_ends : {A : Type 0} (m : Ask row.Wish row.Input A) (k : A → Work) (o : Option A) (a : A) (w : Work) → o ≡ Some a → o ≡ told m
    → w ≡ k a → w ≡ row_over false m k
row_ends m k o a w h0 h1 h2 = row_ends_at false m k o a w h0 h1 h2

pub row_ends_calm : {A : Type 0} (m : Ask row.Wish row.Input A) (k : A → Work) (o : Option A) (a : A) (w : Work) → o ≡ Some a → o ≡ told m
    → w ≡ k a → w ≡ row_over true m k
row_ends_calm m k o a w h0 h1 h2 = row_ends_at true m k o a w h0 h1 h2

pub row_asked : {A : Type 0} (m : Ask row.Wish row.Input A) (k : A → Work) (im : Image) → told m ≡ None → AskedFor (row_over false m k) (Handed im)
    → row.Asked m (row.Handed im)
row_asked m k im h0 h1 = row_asked_at false m k im h0 h1

pub row_asked_calm : {A : Type 0} (m : Ask row.Wish row.Input A) (k : A → Work) (im : Image) → told m ≡ None → AskedFor (row_over true m k) (Handed im)
    → row.Asked m (row.Handed im)
row_asked_calm m k im h0 h1 = row_asked_at true m k im h0 h1

pub row_ran : {A : Type 0} (m : Ask row.Wish row.Input A) (k : A → Work) → told m ≡ None → AskedFor (row_over false m k) Made
    → row.Asked m row.Ran
row_ran m k h0 h1 = row_ran_at false m k h0 h1

pub row_ran_calm : {A : Type 0} (m : Ask row.Wish row.Input A) (k : A → Work) → told m ≡ None → AskedFor (row_over true m k) Made
    → row.Asked m row.Ran
row_ran_calm m k h0 h1 = row_ran_at true m k h0 h1

pub row_went : {A : Type 0} (m new : Ask row.Wish row.Input A) (k : A → Work) (im : Image) (w : Work) → told m ≡ None
    → new ≡ after m (row.Handed im) → w ≡ row_over false new k → w ≡ after (row_over false m k) (Handed im)
row_went m new k im w h0 h1 h2 = row_went_at false m new k im w h0 h1 h2

pub row_went_calm : {A : Type 0} (m new : Ask row.Wish row.Input A) (k : A → Work) (im : Image) (w : Work) → told m ≡ None
    → new ≡ after m (row.Handed im) → w ≡ row_over true new k → w ≡ after (row_over true m k) (Handed im)
row_went_calm m new k im w h0 h1 h2 = row_went_at true m new k im w h0 h1 h2

pub row_goes_on : {A : Type 0} (m new : Ask row.Wish row.Input A) (k : A → Work) (w : Work) → told m ≡ None
    → new ≡ after m row.Ran → w ≡ row_over false new k → w ≡ after (row_over false m k) Made
row_goes_on m new k w h0 h1 h2 = row_goes_on_at false m new k w h0 h1 h2

pub row_goes_on_calm : {A : Type 0} (m new : Ask row.Wish row.Input A) (k : A → Work) (w : Work) → told m ≡ None
    → new ≡ after m row.Ran → w ≡ row_over true new k → w ≡ after (row_over true m k) Made
row_goes_on_calm m new k w h0 h1 h2 = row_goes_on_at true m new k w h0 h1 h2

pub row_acts : {A : Type 0} (m : Ask row.Wish row.Input A) (k : A → Work) (a : RowAct) (d : Deed) → row.Does m (Some a) → d ≡ row_deed a
    → Does writer (row_over false m k) (act.Do d)
row_acts m k a d h0 h1 = row_acts_at false m k a d h0 h1

pub row_acts_calm : {A : Type 0} (m : Ask row.Wish row.Input A) (k : A → Work) (a : RowAct) (d : Deed) → row.Does m (Some a) → d ≡ row_deed a
    → Does writer (row_over true m k) (act.Do d)
row_acts_calm m k a d h0 h1 = row_acts_at true m k a d h0 h1

pub transaction_ends : {A : Type 0} (m : Ask transaction.Wish transaction.Input A) (k : A → Work) (o : Option A) (a : A) (w : Work) → o ≡ Some a → o ≡ told m
    → w ≡ k a → w ≡ transaction_over false m k
transaction_ends m k o a w h0 h1 h2 = transaction_ends_at false m k o a w h0 h1 h2

pub transaction_ends_calm : {A : Type 0} (m : Ask transaction.Wish transaction.Input A) (k : A → Work) (o : Option A) (a : A) (w : Work) → o ≡ Some a → o ≡ told m
    → w ≡ k a → w ≡ transaction_over true m k
transaction_ends_calm m k o a w h0 h1 h2 = transaction_ends_at true m k o a w h0 h1 h2

pub transaction_asked : {A : Type 0} (m : Ask transaction.Wish transaction.Input A) (k : A → Work) (im : Image) → told m ≡ None
    → AskedFor (transaction_over false m k) (Handed im) → transaction.Asked m (transaction.Handed im)
transaction_asked m k im h0 h1 = transaction_asked_at false m k im h0 h1

pub transaction_asked_calm : {A : Type 0} (m : Ask transaction.Wish transaction.Input A) (k : A → Work) (im : Image) → told m ≡ None
    → AskedFor (transaction_over true m k) (Handed im) → transaction.Asked m (transaction.Handed im)
transaction_asked_calm m k im h0 h1 = transaction_asked_at true m k im h0 h1

pub transaction_ran : {A : Type 0} (m : Ask transaction.Wish transaction.Input A) (k : A → Work) → told m ≡ None
    → AskedFor (transaction_over false m k) Made → transaction.Asked m transaction.Ran
transaction_ran m k h0 h1 = transaction_ran_at false m k h0 h1

pub transaction_ran_calm : {A : Type 0} (m : Ask transaction.Wish transaction.Input A) (k : A → Work) → told m ≡ None
    → AskedFor (transaction_over true m k) Made → transaction.Asked m transaction.Ran
transaction_ran_calm m k h0 h1 = transaction_ran_at true m k h0 h1

pub transaction_went : {A : Type 0} (m new : Ask transaction.Wish transaction.Input A) (k : A → Work) (im : Image) (w : Work) → told m ≡ None
    → new ≡ after m (transaction.Handed im) → w ≡ transaction_over false new k → w ≡ after (transaction_over false m k) (Handed im)
transaction_went m new k im w h0 h1 h2 = transaction_went_at false m new k im w h0 h1 h2

pub transaction_went_calm : {A : Type 0} (m new : Ask transaction.Wish transaction.Input A) (k : A → Work) (im : Image) (w : Work) → told m ≡ None
    → new ≡ after m (transaction.Handed im) → w ≡ transaction_over true new k → w ≡ after (transaction_over true m k) (Handed im)
transaction_went_calm m new k im w h0 h1 h2 = transaction_went_at true m new k im w h0 h1 h2

pub transaction_goes_on : {A : Type 0} (m new : Ask transaction.Wish transaction.Input A) (k : A → Work) (w : Work) → told m ≡ None
    → new ≡ after m transaction.Ran → w ≡ transaction_over false new k → w ≡ after (transaction_over false m k) Made
transaction_goes_on m new k w h0 h1 h2 = transaction_goes_on_at false m new k w h0 h1 h2

pub transaction_goes_on_calm : {A : Type 0} (m new : Ask transaction.Wish transaction.Input A) (k : A → Work) (w : Work) → told m ≡ None
    → new ≡ after m transaction.Ran → w ≡ transaction_over true new k → w ≡ after (transaction_over true m k) Made
transaction_goes_on_calm m new k w h0 h1 h2 = transaction_goes_on_at true m new k w h0 h1 h2

pub transaction_acts : {A : Type 0} (m : Ask transaction.Wish transaction.Input A) (k : A → Work) (a : TransactionAct) (d : Deed) → transaction.Does m (Some a)
    → d ≡ transaction_deed a → Does writer (transaction_over false m k) (act.Do d)
transaction_acts m k a d h0 h1 = transaction_acts_at false m k a d h0 h1

pub transaction_acts_calm : {A : Type 0} (m : Ask transaction.Wish transaction.Input A) (k : A → Work) (a : TransactionAct) (d : Deed) → transaction.Does m (Some a)
    → d ≡ transaction_deed a → Does writer (transaction_over true m k) (act.Do d)
transaction_acts_calm m k a d h0 h1 = transaction_acts_at true m k a d h0 h1

pub transaction_same : {A : Type 0} (m n : Ask transaction.Wish transaction.Input A) (k : A → Work) → m ≡ n
    → transaction_over false m k ≡ transaction_over false n k
transaction_same m n k h0 = transaction_same_at false m n k h0

pub transaction_same_calm : {A : Type 0} (m n : Ask transaction.Wish transaction.Input A) (k : A → Work) → m ≡ n
    → transaction_over true m k ≡ transaction_over true n k
transaction_same_calm m n k h0 = transaction_same_at true m n k h0
