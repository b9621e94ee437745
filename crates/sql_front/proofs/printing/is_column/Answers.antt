use Rattle.sql_front.proofs.Writing.{lit_flags, col_flags, neg_flags, not_flags, null_flags, two_flags}
use Rattle.sql_front.proofs.printing.is_column.Goals as goal

pub returns-in-Col : goal.returns-in-Col
returns-in-Col c = (col_flags c.args.expr.now _ _ c.in-Col.is).0

pub returns-in-Lit : goal.returns-in-Lit
returns-in-Lit c = (lit_flags c.args.expr.now _ c.in-Lit.is).0

pub returns-in-Neg : goal.returns-in-Neg
returns-in-Neg c = (neg_flags c.args.expr.now _ c.in-Neg.is).0

pub returns-in-Not : goal.returns-in-Not
returns-in-Not c = (not_flags c.args.expr.now _ c.in-Not.is).0

pub returns-in-IsNull : goal.returns-in-IsNull
returns-in-IsNull c = (null_flags c.args.expr.now _ _ c.in-IsNull.is).0

pub returns-in-Two : goal.returns-in-Two
returns-in-Two c = (two_flags c.args.expr.now _ _ _ c.in-Two.is).0
