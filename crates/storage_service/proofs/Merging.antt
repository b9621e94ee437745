-- A log is done to an unmade page whole.
use Rattle.std.proofs.Common.{◌≡◌, ℕ, Bool, List, length, Result, is_ok, IsOk, IsTrue, ◌↔◌, subst, sym, ap, ◌∙◌, arith}
use Rattle.redo_record.specs.declared.redo.Group.{Group}
use Rattle.page_image.specs.Image.{Image, unmade}
use Rattle.redo_record.specs.Effect.{past, CountsFrom, GroupsApply}
use Rattle.redo_record.proofs.Fold.{CountsFrom-up_to, CountsFrom-ascends, Ascends-past, up_to-all, past-all}
use Rattle.materialiser.specs.Merging.{between}

pub whole_log : (groups : List Group) (n : ℕ) → CountsFrom 0 groups → n ≡ length groups → between 0 n groups ≡ groups
whole_log groups n counts size =
    ap (past 0) (up_to-all n groups (CountsFrom-up_to 0 n groups (omega arith) counts)) ∙ past-all 0 groups (Ascends-past 0 groups (CountsFrom-ascends 0 groups counts))

-- a merge of the whole log is no failure where the log applies
pub applies_when : {T E : Type 0} (r : Result T E) (b : Bool) (groups : List Group) (n : ℕ) (blank : Image) (p : ℕ) → b ≡ is_ok r → CountsFrom 0 groups → n ≡ length groups
    → blank ≡ unmade p → IsOk r ↔ GroupsApply (between blank.lsn n groups) blank → IsTrue b ↔ GroupsApply groups (unmade p)
applies_when r b groups n blank p is counts size base h =
    let forth : GroupsApply (between blank.lsn n groups) blank → GroupsApply groups (unmade p) = λ g.
    subst (λ (gs : List Group). GroupsApply gs (unmade p)) (whole_log groups n counts size) (subst (λ (im : Image). GroupsApply (between im.lsn n groups) im) base g) in
    let back : GroupsApply groups (unmade p) → GroupsApply (between blank.lsn n groups) blank = λ g.
    subst (λ (im : Image). GroupsApply (between im.lsn n groups) im) (sym base) (subst (λ (gs : List Group). GroupsApply gs (unmade p)) (sym (whole_log groups n counts size)) g) in
    (λ t. forth (h.0 (sym is ∙ t)), λ g. is ∙ h.1 (back g))
