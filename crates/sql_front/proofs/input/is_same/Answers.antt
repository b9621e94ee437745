use Rattle.std.proofs.Common.{rules}
use Rattle.sql_front.proofs.Classes.{same_if}
use Rattle.sql_front.proofs.input.is_same.Goals as goal

pub returns : goal.returns
returns c = same_if c.eq.result c.args.a c.args.b (search rules)
