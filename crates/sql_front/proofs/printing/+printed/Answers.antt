use Rattle.std.proofs.Common.{◌≡◌, IfOk, subst}
use Rattle.sql_front.proofs.Writing.{lit_text, col_text, neg_text, not_text, null_text, two_text}
use Rattle.sql_front.proofs.printing.+printed.Goals as goal

pub expr-returns-in_ok-sign-in-Neg : goal.expr-returns-in_ok-sign-in-Neg
expr-returns-in_ok-sign-in-Neg t c =
    subst (λ z. IfOk c.enclosed.result (λ x. c.enclosed.new.out ≡ z))
    (neg_text c.args.out.now c.sign.new.out c.args.printed.now c.in-Neg.arg c.get.result.now c.get-in-Neg.result.now c.is_column.result c.in-Neg.is c.get.ensures c.get-in-Neg.ensures c.is_column.ensures (c.in_ok-sign-in-Neg.ensures {u = tt}))
    c.enclosed.ensures

pub expr-returns-in_ok-word-in-Not : goal.expr-returns-in_ok-word-in-Not
expr-returns-in_ok-word-in-Not t c =
    subst (λ z. IfOk c.enclosed-in-Not.result (λ x. c.enclosed-in-Not.new.out ≡ z))
    (not_text c.args.out.now c.word.new.out c.args.printed.now c.in-Not.arg c.get-in-Not.result.now c.get-in-Not-2.result.now c.is_plain.result c.in-Not.is c.get-in-Not.ensures c.get-in-Not-2.ensures c.is_plain.ensures (c.in_ok-word-in-Not.ensures {u = tt}))
    c.enclosed-in-Not.ensures

pub expr-returns-in_ok-enclosed-in-IsNull : goal.expr-returns-in_ok-enclosed-in-IsNull
expr-returns-in_ok-enclosed-in-IsNull t c =
    subst (λ z. IfOk c.null_test.result (λ x. c.null_test.new.out ≡ z))
    (null_text c.args.out.now c.enclosed-in-IsNull.new.out c.args.printed.now c.in-IsNull.arg c.get-in-IsNull.result.now c.get-in-IsNull-2.result.now c.in-IsNull.not c.is_plain-in-IsNull.result c.in-IsNull.is c.get-in-IsNull.ensures c.get-in-IsNull-2.ensures c.is_plain-in-IsNull.ensures (c.in_ok-enclosed-in-IsNull.ensures {u = tt}))
    c.null_test.ensures

pub expr-returns-in_ok-operator-in-Two : goal.expr-returns-in_ok-operator-in-Two
expr-returns-in_ok-operator-in-Two t c =
    subst (λ z. IfOk c.enclosed-in-Two-2.result (λ x. c.enclosed-in-Two-2.new.out ≡ z))
    (two_text c.args.out.now c.enclosed-in-Two.new.out c.operator.new.out c.in-Two.op c.args.printed.now c.in-Two.left c.in-Two.right c.get-in-Two.result.now c.get-in-Two-2.result.now c.is_plain-in-Two.result c.get-in-Two-3.result.now c.get-in-Two-4.result.now c.is_plain-in-Two-2.result
    c.in-Two.is c.get-in-Two.ensures c.get-in-Two-2.ensures c.is_plain-in-Two.ensures c.get-in-Two-3.ensures c.get-in-Two-4.ensures c.is_plain-in-Two-2.ensures (c.in_ok-enclosed-in-Two.ensures {u = tt}) (c.in_ok-operator-in-Two.ensures {u = tt}))
    c.enclosed-in-Two-2.ensures

pub expr-returns-in-Lit : goal.expr-returns-in-Lit
expr-returns-in-Lit t c = subst (λ z. IfOk c.value.result (λ x. c.value.new.out ≡ z)) (lit_text c.args.out.now c.args.printed.now c.in-Lit.literal c.in-Lit.is) c.value.ensures

pub expr-returns-in-Col : goal.expr-returns-in-Col
expr-returns-in-Col t c = subst (λ z. IfOk c.column.result (λ x. c.column.new.out ≡ z)) (col_text c.args.out.now c.args.printed.now c.in-Col.table c.in-Col.name c.in-Col.is) c.column.ensures
