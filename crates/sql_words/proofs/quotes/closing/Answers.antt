use Rattle.std.proofs.Common.{Some, ◌+◌, sym, ◌∙◌, ap, arith}
use Rattle.std.specs.Option.{option_map}
use Rattle.sql_words.proofs.ClosingQuote.{closing-more, closing-here}
use Rattle.sql_words.proofs.quotes.closing.Goals as goal
use Rattle.sql_words.proofs.quotes.closing.Goals.{else-at-bytes-via-then-at-bytes+else-bytes-at-eq-QUOTE, else-at-bytes-via-else-at-bytes}

pub loop-at-preserved-then-bytes-at-ne-QUOTE : goal.loop-at-preserved-then-bytes-at-ne-QUOTE
loop-at-preserved-then-bytes-at-ne-QUOTE c =
    sym (closing-more c.args.bytes.now c.loop-at.at c.loop-at-test.true c.if-bytes-at-ne-QUOTE.true) ∙ c.loop-at.invariant

pub returns-else-at-bytes-clause-value : goal.returns-else-at-bytes-clause-value
returns-else-at-bytes-clause-value c =
    let here = closing-here c.args.bytes.now c.loop-at.at c.loop-at-test.true c.if-bytes-at-ne-QUOTE.false
    (elim c.else-at-bytes.branch [
      | else-at-bytes-via-then-at-bytes+else-bytes-at-eq-QUOTE w ↦ λ _. w.if-bytes-at-eq-QUOTE.false
      | else-at-bytes-via-else-at-bytes w ↦ λ h. absurd (omega (arith, h, w.if-at-bytes.false))
    ]) in
    ap Some (omega arith) ∙ sym (ap (option_map (λ n. n + c.loop-at.at)) here) ∙ c.loop-at.invariant
