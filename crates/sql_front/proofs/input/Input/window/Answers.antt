use Rattle.std.proofs.Common.{take, ◌∙◌, ap, arith}
use Rattle.sql_front.specs.Cursor.{symbols_left}
use Rattle.sql_front.proofs.CursorLaws.{symbols_left-window, symbols_left-all}
use Rattle.sql_front.proofs.input.Input.window.Goals as goal
use Rattle.sql_front.proofs.input.Input.window.Goals.{then-len-self, else-len-self}

pub returns : goal.returns
returns c =
    let s = c.self.inside in
    elim c.if-len-self.branch [
      | then-len-self w ↦ ap (symbols_left s.tokens.now s.at) w.end-is
          ∙ symbols_left-window s.tokens.now s.at s.end c.args.len (omega (arith, w.if-len-self.true)) ∙ ap (take c.args.len) c.self.view_is
      | else-len-self w ↦ ap (symbols_left s.tokens.now s.at) w.end-is
          ∙ symbols_left-all s.tokens.now s.at s.end c.args.len c.self.invariant.within w.if-len-self.false ∙ ap (take c.args.len) c.self.view_is
    ]
