use Rattle.sql_front.proofs.CursorLaws.{whole}
use Rattle.sql_front.proofs.input.Input.new.Goals as goal

pub returns : goal.returns
returns c = whole c.args.tokens.now
