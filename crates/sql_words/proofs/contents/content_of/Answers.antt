use Rattle.std.proofs.Common.{refl, sym, subst, arith}
use Rattle.sql_words.proofs.TextContent.{Left, moved, finished}
use Rattle.sql_words.proofs.contents.content_of.Goals as goal

pub bytes-preserved : goal.bytes-preserved
bytes-preserved c = λ content q.
    subst (λ r. Left c.split_at-in-bytes.result.1.now r content) (sym c.in_ok-push.ensures.ok)
    (moved c.bytes.left.now c.bytes.content content _ c.width.result c.split_at-in-bytes.result.1.now c.bytes-test.true refl c.width.ensures.value
    c.split_at-in-bytes.ensures.back (c.bytes.invariant content q))

pub returns : goal.returns
returns c = λ content q. finished c.bytes.left.now c.bytes.content content (omega arith) (c.bytes.invariant content q)
