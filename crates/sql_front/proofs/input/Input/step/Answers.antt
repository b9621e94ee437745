use Rattle.std.proofs.Common.{sym, ◌∙◌, ap}
use Rattle.sql_front.specs.Symbols.{behind}
use Rattle.sql_front.proofs.CursorLaws.{behind_next, symbols_left-nil}
use Rattle.sql_front.proofs.input.Input.step.Goals as goal

pub returns-then-self : goal.returns-then-self
returns-then-self c =
    sym (ap behind (sym c.self.view_is) ∙ behind_next c.self.inside.tokens.now c.self.inside.at c.self.inside.end)

pub returns-else-self : goal.returns-else-self
returns-else-self c =
    let none = symbols_left-nil c.self.inside.tokens.now c.self.inside.at c.self.inside.end c.if-self.false in
    sym c.self.view_is ∙ none ∙ sym (ap behind (sym c.self.view_is ∙ none))
