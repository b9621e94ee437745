use Rattle.std.proofs.Common.{sym, ◌∙◌, ap}
use Rattle.sql_words.specs.Lexed.{Lexed}
use Rattle.sql_front.specs.Symbols.{sees, same_class}
use Rattle.sql_front.proofs.CursorLaws.{sees_next, sees_none}
use Rattle.sql_front.proofs.input.Input.sees.Goals as goal

pub returns-then-self : goal.returns-then-self
returns-then-self c =
    c.is_same.ensures ∙ ap (λ (t : Lexed). same_class c.args.class t.class) (c.token.view_is ∙ sym c.index-self-self.is)
    ∙ sym (ap (sees c.args.class) (sym c.self.view_is)
    ∙ sees_next c.args.class c.self.inside.tokens.now c.self.inside.at c.self.inside.end c.index-self-self.result c.if-self.true c.self.invariant.within c.index-self-self.is)

pub returns-else-self : goal.returns-else-self
returns-else-self c =
    sym (ap (sees c.args.class) (sym c.self.view_is) ∙ sees_none c.args.class c.self.inside.tokens.now c.self.inside.at c.self.inside.end c.if-self.false)
