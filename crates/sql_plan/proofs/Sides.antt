-- The two sides of an AND.
use Rattle.std.proofs.Common.{◌≡◌, Bool, true, List, ◌++◌, Result, Ok, Err, refl, sym, ◌∙◌, ap}
use Rattle.std.specs.Prelude.{IfOk}
use Rattle.std.specs.Result.{OnOk}
use Rattle.rm_base.specs.declared.errors.WantOfMemory.{WantOfMemory}
use Rattle.sql_plan.specs.Ends.{all_say}
use Rattle.sql_plan.proofs.Leading.{go_says}
use Rattle.sql_statements.specs.declared.expressions.Op.{Op}
use Rattle.sql_statements.specs.declared.expressions.Op.TheVariants.{And}
use Rattle.sql_meaning.specs.declared.resolved.Resolved.{Resolved}
use Rattle.sql_meaning.specs.declared.resolved.Resolved.TheVariants.{Two, rolls-Two}
use Rattle.sql_meaning.specs.declared.resolved.Resolved.TheOpen.{Resolved-F}
use Rattle.sql_meaning.specs.declared.resolved.Resolved.TheFolds.{fold-roll-Resolved}
use Rattle.sql_meaning.specs.Ranges.{KeyPlaces, conjuncts}
use Rattle.sql_meaning.specs.Terms.{Term, term, term_step, two}

two_sides : (op : Op) (left right : Resolved) → term (Two op left right) ≡ two op (term left) (term right)
two_sides op left right = ap term (sym (rolls-Two op left right)) ∙ fold-roll-Resolved Term term_step (Resolved-F.Two op left right)

pub both_sides : (test lent left right : Resolved) (op : Op) → test ≡ Two op left right → op ≡ And → lent ≡ left
    → conjuncts (term test) ≡ conjuncts (term lent) ++ conjuncts (term right)
both_sides test lent left right op e f g =
    ap (λ (t : Resolved). conjuncts (term t)) (e ∙ (ap (λ (o : Op). Two o left right) f ∙ ap (λ (l : Resolved). Two And l right) (sym g)))
    ∙ ap conjuncts (two_sides And lent right)

pub both_lent : (test lent other left right : Resolved) (op : Op) → test ≡ Two op left right → op ≡ And → lent ≡ left → other ≡ right
    → conjuncts (term test) ≡ conjuncts (term lent) ++ conjuncts (term other)
both_lent test lent other left right op e f g h =
    both_sides test lent left right op e f g ∙ ap (λ (r : Resolved). conjuncts (term lent) ++ conjuncts (term r)) (sym h)

pub if_says : (keys : KeyPlaces) (xs ys : List Term) (r : Result Bool WantOfMemory) → all_say keys xs ≡ true → IfOk r (λ b. b ≡ all_say keys ys)
    → IfOk r (λ b. b ≡ all_say keys (xs ++ ys))
if_says keys xs ys (Ok b) e p = go_says keys xs ys b e p
if_says keys xs ys (Err w) e p = p

pub on_ok : {P Q : Type 0} (r : Result Bool WantOfMemory) → (P → Q) → OnOk r P → OnOk r Q
on_ok (Ok b) f p = f p
on_ok (Err w) f p = p
