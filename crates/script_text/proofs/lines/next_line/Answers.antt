use Rattle.std.proofs.Common.{◌<◌, ◌∷◌, length, ap, ◌∙◌, sym, arith}
use Rattle.std.proofs.lemmas.Bool.Decides.{nat_tests}
use Rattle.script_text.specs.Lines as spec
use Rattle.script_text.proofs.LineLaws.{lines-empty, lines-first, lines-none}
use Rattle.script_text.proofs.lines.next_line.Goals as goal

pub returns-then-is_empty-clause-none : goal.returns-then-is_empty-clause-none
returns-then-is_empty-clause-none c = lines-empty c.args.bytes.now (grind (arith, nat_tests))

pub returns-in-Some-clause-some : goal.returns-in-Some-clause-some
returns-in-Some-clause-some c =
    lines-first c.args.bytes.now c.in-Some.field-0.before.now c.in-Some.field-0.behind.now c.in-Some.ensures.place c.in-Some.ensures.before c.in-Some.ensures.behind
    ∙ ap (λ x. x ∷ spec.lines c.in-Some.field-0.behind.now) (sym c.without_cr.ensures)

pub returns-in-None-clause-some : goal.returns-in-None-clause-some
returns-in-None-clause-some c =
    let some : 0 < length c.args.bytes.now = grind (arith, nat_tests) in
    lines-none c.args.bytes.now c.in-None.ensures.none some
