use Rattle.std.proofs.Common.{◌≡◌, sym, ap, subst, ◌∙◌}
use Rattle.undo_versions.specs.declared.appending.UndoStep.{UndoStep}
use Rattle.undo_versions.specs.Appending.{begun_with}
use Rattle.undo_versions.specs.Effects.{Appends}
use Rattle.undo_versions.proofs.appending.append_plan.Goals as goal

pub returns-in_ok-begin_page-in-Some-clause-appends : goal.returns-in_ok-begin_page-in-Some-clause-appends
returns-in_ok-begin_page-in-Some-clause-appends c =
    let step : UndoStep = c.in_ok-begin_page-in-Some.field-0 in
    let is : step ≡ begun_with c.in-Some.page c.as_slice.result.now =
    c.in_ok-begin_page-in-Some.ensures ∙ ap (begun_with c.in-Some.page) (sym c.as_slice.ensures) in
    subst (λ (s : UndoStep). Appends c.args.undo.now c.args.item.now s) (sym is) (c.append_changes.ensures.on_new c.in-Some.page)
