use Rattle.std.proofs.Common.{◌≡◌, ◌≤◌, length, Ok, sym, ◌∙◌, subst}
use Rattle.script_text.specs.declared.reading.Draft.{Draft}
use Rattle.script_text.specs.Orders.{order_of}
use Rattle.script_text.specs.Reading as spec
use Rattle.script_text.proofs.OrderLaws.{names-few}
use Rattle.script_text.proofs.reading.with_form.Goals as goal

pub returns-in_ok-draft-in-Ok-clause-few : goal.returns-in_ok-draft-in-Ok-clause-few
returns-in_ok-draft-in-Ok-clause-few c =
    let found : c.in_ok-order.field-0 ≡ order_of c.args.shape.now c.args.draft.names c.args.form.now = c.in_ok-order.ensures in
    let it : c.in_ok-order.field-0 ≡ Ok c.in-Ok.order = c.in-Ok.is in
    let asked : order_of c.args.shape.now c.args.draft.names c.args.form.now ≡ Ok c.in-Ok.order = sym found ∙ it in
    let longer : c.in_ok-draft-in-Ok.draft ≡ spec.with_order c.args.draft c.args.number c.args.form.now c.in-Ok.order = c.in_ok-draft-in-Ok.ensures in
    let P : Draft → Type 0 = λ draft. length draft.names ≤ 64 in
    subst P (sym longer) (names-few c.args.shape.now c.args.draft.names c.args.form.now c.in-Ok.order asked c.requires.sessions)
