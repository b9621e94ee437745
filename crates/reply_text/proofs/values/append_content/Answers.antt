use Rattle.std.proofs.Common.{arith}
use Rattle.reply_text.proofs.TextLaws.{content_done}
use Rattle.reply_text.proofs.values.append_content.Goals as goal

pub returns : goal.returns
returns c = content_done c.args.out.now c.loop-byte.out c.args.bytes.now c.loop-byte.byte-index (omega (arith, c.loop-byte-test.false)) c.loop-byte.invariant
