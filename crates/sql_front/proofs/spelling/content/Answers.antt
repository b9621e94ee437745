use Rattle.std.proofs.Common.{arith}
use Rattle.sql_front.proofs.Writing.{content_done}
use Rattle.sql_front.proofs.spelling.content.Goals as goal

pub returns : goal.returns
returns c = content_done c.args.out.now c.bytes.out c.args.bytes.now c.bytes.next-index (omega (arith, c.bytes-test.false)) c.bytes.invariant
