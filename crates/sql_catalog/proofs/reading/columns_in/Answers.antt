use Rattle.std.proofs.Common.{◌<◌, length, take, drop, ◌-◌, ◌∙◌, subst, arith}
use Rattle.sql_catalog.specs.Catalog.{IsColumnOrNone}
use Rattle.sql_catalog.proofs.Spelled.{one_more, none_left, rest_from}
use Rattle.sql_catalog.proofs.reading.columns_in.Goals as goal

pub returns-in_default : goal.returns-in_default
returns-in_default c = λ cs named count spelled.
    let more : length c.loop.columns < length cs = omega (arith, count, c.loop.invariant.0, c.loop-test.true) in
    let m = one_more c.args.bytes.now c.loop.at c.loop.columns cs c.loop.invariant.3 named spelled more in
    subst (IsColumnOrNone (take (length c.args.bytes.now - c.loop.at) (drop c.loop.at c.args.bytes.now))) c.in_default.is c.in_ok-column.ensures
    m.0 m.1 m.2 (rest_from c.loop.at c.args.bytes.now ∙ m.3)

pub returns-then-at-bytes : goal.returns-then-at-bytes
returns-then-at-bytes c = λ cs named count spelled.
    none_left c.args.bytes.now c.loop.at c.loop.columns cs c.loop.invariant.3 spelled
    (omega (arith, count, c.loop.invariant.0, c.loop-test.false, c.loop.auto)) c.if-at-bytes.true
