use Rattle.std.proofs.Common.{◌++◌, arith, sym, ap, ◌∙◌}
use Rattle.sql_engine.specs.Read.{range_rows}
use Rattle.sql_engine.proofs.ListLemmas.{flat_front}
use Rattle.sql_engine.proofs.reading.rows_in.Goals as goal

pub loop-range-preserved : goal.loop-range-preserved
loop-range-preserved g c = λ d t.
    let schema = c.args.schema.now in
    c.in_ok-append.ensures
    ∙ ap (λ more. c.loop-range.rows ++ more) (c.in_ok-more.ensures d t)
    ∙ ap (λ rows. rows ++ range_rows d.tables schema c.range-item.result) (c.loop-range.invariant d t)
    ∙ sym (flat_front (range_rows d.tables schema) c.as_slice-range-items.result.now c.loop-range.range-index c.range-item.result (omega arith) c.range-item.is)
