use Rattle.std.proofs.Common.{◌≡◌, ◌<◌, Bool, length, get_or, MatchBool, refl, sym, subst, ◌∙◌, arith}
use Rattle.std.proofs.lemmas.List.{get_or_default}
use Rattle.mini_transactions.specs.declared.page_work.PageWork.{PageWork}
use Rattle.mini_transactions.specs.Fetching.{Hears}
use Rattle.mini_transactions.specs.Together.{Takes}
use Rattle.mini_transactions.proofs.InTurn.{told_more, rest_more}
use Rattle.mini_transactions.proofs.mini.tell.Goals as goal
use Rattle.mini_transactions.proofs.mini.tell.Goals.{then-is_in, else-is_in}

pub loop-work-preserved : goal.loop-work-preserved
loop-work-preserved c =
    let before = c.args.works.now in
    let works = c.loop-work.works in
    let i = c.loop-work.work-index in
    let x : PageWork = get_or works i c.work-item.result in
    let R : PageWork → PageWork → Type 0 = Takes c.args.page c.args.joint c.args.told.now in
    let within : i < length works = omega arith in
    let at : x ≡ get_or works i x = get_or_default works i c.work-item.result x within in
    elim c.if-is_in.branch [
      | then-is_in w ↦
          let y : PageWork = w.told.new.self in
          let is = sym c.is_in.ensures ∙ w.if-is_in.true in
          let P : Bool → Type 0 = λ b. MatchBool b (Hears x c.args.told.now y) (y ≡ x) in
          let r : R x y = subst P (sym is) w.told.ensures in
          record {
            told = λ k h d. subst (λ now. R (get_or before k d) (get_or now k d)) (sym w.works-is) (told_more R before works i x y within at r c.loop-work.invariant.told c.loop-work.invariant.rest k h d);
            rest = λ k h d. subst (λ now. get_or now k d ≡ get_or before k d) (sym w.works-is) (rest_more before works i y c.loop-work.invariant.rest k h d);
          }
      | else-is_in w ↦
          let is = sym c.is_in.ensures ∙ w.if-is_in.false in
          let P : Bool → Type 0 = λ b. MatchBool b (Hears x c.args.told.now x) (x ≡ x) in
          let r : R x x = subst P (sym is) refl in
          record {
            told = λ k h d. subst (λ now. R (get_or before k d) (get_or now k d)) (sym w.works-is) (told_more R before works i x x within at r c.loop-work.invariant.told c.loop-work.invariant.rest k h d);
            rest = λ k h d. subst (λ now. get_or now k d ≡ get_or before k d) (sym w.works-is) (rest_more before works i x c.loop-work.invariant.rest k h d);
          }
    ]
