use Rattle.std.proofs.Common.{drop, ◌∙◌, ap}
use Rattle.sql_front.proofs.CursorLaws.{symbols_left-pass, symbols_left-passed}
use Rattle.sql_front.proofs.input.Input.pass.Goals as goal

pub returns-then-count-self : goal.returns-then-count-self
returns-then-count-self c =
    let s = c.self.inside in
    symbols_left-pass s.tokens.now s.at s.end c.args.count ∙ ap (drop c.args.count) c.self.view_is

pub returns-else-count-self : goal.returns-else-count-self
returns-else-count-self c =
    let s = c.self.inside in
    symbols_left-passed s.tokens.now s.at s.end c.args.count c.self.invariant.within c.if-count-self.false ∙ ap (drop c.args.count) c.self.view_is
