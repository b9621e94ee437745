-- The changes of a statement, one after the other.
use Rattle.std.proofs.Common.{◌≡◌, ◌<◌, ◌^◌, ◌++◌, ℕ, zero, suc, Bool, false, List, [], ◌∷◌, drop, length, Option, Some, None, refl, sym, ◌∙◌, ap, subst, arith}
use Rattle.std.specs.Option.{option_to_list}
use Rattle.page_view.specs.Leaf.{IsLeaf}
use Rattle.question_tree.specs.Questions.{told}
use Rattle.row_edits.specs.declared.changes.RowChange.{RowChange}
use Rattle.row_edits.specs.RowEdits.{RowWork, row, row_work}
use Rattle.row_edits.specs.RowPlans.{IsChange}
use Rattle.row_edits.specs.Ways.{way}
use Rattle.row_edits.specs.declared.row_stages.TheConstants.{MOST_SPLITS}
use Rattle.transaction_edits.specs.Works as transaction
use Rattle.rw_worker.specs.Aims.{Work}
use Rattle.rw_worker.specs.Lifting.{row_over}
use Rattle.rw_worker.specs.Writing.{AreChanges, changing, edited_then, ends, numbered, replied_ok, writing_of}

-- ---- the first of the changes, and the others

gone : {A : Type 0} (old new : List A) → old ≡ new → new ≡ drop 1 old → old ≡ []
gone [] new e d = refl
gone (x ∷ xs) new e d = absurd (longer (ap length (e ∙ d)))
  where
    longer : suc (length xs) ≡ length xs → ⊥
    longer q = omega arith

-- what is taken from the front of the changes
pub first_is : (o : Option RowChange) (old new : List RowChange) (c : RowChange) → o ≡ Some c → old ≡ option_to_list o ++ new → AreChanges old → IsChange c
first_is o old new c s e h =
    let P : List RowChange → Type 0 = λ x. AreChanges x in
    let g : IsChange c × AreChanges new = subst P (e ∙ ap (λ (x : Option RowChange). option_to_list x ++ new) s) h in g.0

pub others_are : (o : Option RowChange) (old new : List RowChange) (c : RowChange) → o ≡ Some c → old ≡ option_to_list o ++ new → AreChanges old → AreChanges new
others_are o old new c s e h =
    let P : List RowChange → Type 0 = λ x. AreChanges x in
    let g : IsChange c × AreChanges new = subst P (e ∙ ap (λ (x : Option RowChange). option_to_list x ++ new) s) h in g.1

none_is : (o : Option RowChange) (old new : List RowChange) → o ≡ None → old ≡ option_to_list o ++ new → new ≡ drop 1 old → old ≡ []
none_is o old new s e d = gone old new (e ∙ ap (λ (x : Option RowChange). option_to_list x ++ new) s) d

some_is : (o : Option RowChange) (old new : List RowChange) (c : RowChange) → o ≡ Some c → old ≡ option_to_list o ++ new → old ≡ c ∷ new
some_is o old new c s e = e ∙ ap (λ (x : Option RowChange). option_to_list x ++ new) s

pub numbered_is : (c new : RowChange) (trx : ℕ) → trx < 2 ^ 64 → IsChange c → new ≡ numbered trx c → IsChange new
numbered_is c new trx small h e =
    let leaf : IsLeaf (numbered trx c).item = record {
      short_key = h.leaf.short_key;
      short = h.leaf.short;
      trx = small;
      older_page = h.leaf.older_page;
      older_slot = h.leaf.older_slot;
    } in
    let change : IsChange (numbered trx c) = record { leaf = leaf; place = h.place } in
    let P : RowChange → Type 0 = λ x. IsChange x in subst P (sym e) change

-- ---- what is left

row_none : (n : ℕ) (c : RowChange) → told (row n c) ≡ None
unfolding row way
row_none zero c = refl
row_none (suc n) c = refl

-- at its begin nothing is told of a change
pub row_untold : (c : RowChange) (m : RowWork) → m ≡ row_work c → told m ≡ None
unfolding row_work
row_untold c m e = ap told e ∙ row_none MOST_SPLITS c

pub changing_first : (lasting : Bool) (s n trx : ℕ) (c new : RowChange) (cs : List RowChange) (m : RowWork) → new ≡ numbered trx c → m ≡ row_work new
    → row_over false m (edited_then (changing lasting s n trx cs)) ≡ changing lasting s n trx (c ∷ cs)
unfolding changing
changing_first lasting s n trx c new cs m e f =
    ap (λ (x : RowWork). row_over false x (edited_then (changing lasting s n trx cs))) (f ∙ ap row_work e)

pub changing_none : (lasting : Bool) (s n trx : ℕ) (o : Option RowChange) (old new : List RowChange) (w : Work) → o ≡ None → old ≡ option_to_list o ++ new
    → new ≡ drop 1 old → w ≡ ends lasting s n → w ≡ changing lasting s n trx old
unfolding changing
changing_none lasting s n trx o old new w e f d h = h ∙ ap (changing lasting s n trx) (sym (none_is o old new e f d))

pub changing_next : (lasting : Bool) (s n trx : ℕ) (o : Option RowChange) (old new : List RowChange) (c : RowChange) (w : Work) → o ≡ Some c
    → old ≡ option_to_list o ++ new → w ≡ changing lasting s n trx (c ∷ new) → w ≡ changing lasting s n trx old
changing_next lasting s n trx o old new c w e f h = h ∙ ap (changing lasting s n trx) (sym (some_is o old new c e f))

pub writing_none : (number : Option ℕ) (lasting : Bool) (s n : ℕ) (o : Option RowChange) (old new : List RowChange) → o ≡ None → old ≡ option_to_list o ++ new
    → new ≡ drop 1 old → replied_ok n ≡ writing_of number lasting s n old
writing_none number lasting s n o old new e f d = ap (writing_of number lasting s n) (sym (none_is o old new e f d))

pub writing_first : (number : Option ℕ) (lasting : Bool) (s n : ℕ) (o : Option RowChange) (old new : List RowChange) (c : RowChange) (w : Work) → o ≡ Some c
    → old ≡ option_to_list o ++ new → w ≡ writing_of number lasting s n (c ∷ new) → w ≡ writing_of number lasting s n old
writing_first number lasting s n o old new c w e f h = h ∙ ap (writing_of number lasting s n) (sym (some_is o old new c e f))

-- ---- at the begin of a transaction's begin or end nothing is told

pub begin_untold : (s : ℕ) (m : transaction.Work) → m ≡ transaction.begin_work s → told m ≡ None
begin_untold s m e = ap told e

pub commit_untold : (s : ℕ) (m : transaction.Work) → m ≡ transaction.commit_work s → told m ≡ None
commit_untold s m e = ap told e

pub free_untold : (s : ℕ) (m : transaction.Work) → m ≡ transaction.free_work s → told m ≡ None
free_untold s m e = ap told e
