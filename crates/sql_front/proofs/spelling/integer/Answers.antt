use Rattle.std.proofs.Common.{◌≡◌, IfOk, ◌∙◌, ap, subst, false, true}
use Rattle.std.proofs.Math.Facts.{to_z-of_z}
use Rattle.std.specs.Prelude.{nat_abs, pos}
use lib.Signed.{lt_z}
use Rattle.sql_front.proofs.Writing.{int_below, int_from_zero}
use Rattle.sql_front.proofs.spelling.integer.Goals as goal

pub returns-then-integer-lt0 : goal.returns-then-integer-lt0
returns-then-integer-lt0 c =
    let same = to_z-of_z c.ranges.integer in
    subst (λ z. IfOk c.number.result (λ x. c.number.new.out ≡ z))
    (int_below c.args.integer (subst (λ z. lt_z z (pos 0) ≡ true) same c.if-integer-lt0.true) c.args.out.now c.sign.new.out c.unsigned_abs.result (c.unsigned_abs.ensures.value ∙ ap nat_abs same) (c.in_ok-sign.ensures {u = tt}))
    c.number.ensures

pub returns : goal.returns
returns c =
    let same = to_z-of_z c.ranges.integer in
    subst (λ z. IfOk c.number-2.result (λ x. c.number-2.new.out ≡ z))
    (int_from_zero c.args.integer (subst (λ z. lt_z z (pos 0) ≡ false) same c.if-integer-lt0.false) c.args.out.now c.unsigned_abs-2.result (c.unsigned_abs-2.ensures.value ∙ ap nat_abs same))
    c.number-2.ensures
