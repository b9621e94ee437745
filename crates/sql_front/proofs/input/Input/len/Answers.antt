use Rattle.std.proofs.Common.{length, sym, ◌∙◌, ap}
use Rattle.sql_front.proofs.CursorLaws.{length-symbols_left}
use Rattle.sql_front.proofs.input.Input.len.Goals as goal

pub returns : goal.returns
returns c =
    sym (ap length (sym c.self.view_is) ∙ length-symbols_left c.self.inside.tokens.now c.self.inside.at c.self.inside.end c.self.invariant.within)
