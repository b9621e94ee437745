use Rattle.std.proofs.Common.{arith, length-take, length-drop}
use Rattle.rm_env.proofs.PieceLemmas.{drop-from_part}
use Rattle.rm_env.proofs.pieces.give.Goals as goal

pub returns-clause-given : goal.returns-clause-given
returns-clause-given c =
    drop-from_part c.min-n.result c.args.at c.args.bytes.now c.copy_from_slice.new.self _ (grind (arith, length-take, length-drop)) c.copy_from_slice.ensures.after
