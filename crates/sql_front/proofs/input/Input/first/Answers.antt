use Rattle.std.proofs.Common.{◌≡◌, ◌∷◌, sym, ◌∙◌, ap, subst}
use Rattle.sql_words.specs.Lexed.{Lexed}
use Rattle.sql_front.specs.Good.{IsGood}
use Rattle.sql_front.specs.Symbols.{symbol_of, behind}
use Rattle.sql_front.proofs.CursorLaws.{first_some, first_good, symbols_left-nil}
use Rattle.sql_front.proofs.input.Input.first.Goals as goal

pub returns-then-self-clause-some : goal.returns-then-self-clause-some
returns-then-self-clause-some c =
    let s = c.self in
    let i = c.index-self-self in
    subst (λ (t : Lexed). c.args.self.now ≡ symbol_of t ∷ behind c.args.self.now) i.is
    (sym s.view_is ∙ first_some s.inside.tokens.now s.inside.at s.inside.end i.result c.if-self.true s.invariant.within i.is
    ∙ ap (λ q. symbol_of i.result ∷ behind q) s.view_is)

pub returns-then-self-clause-good : goal.returns-then-self-clause-good
returns-then-self-clause-good c =
    let s = c.self in
    let i = c.index-self-self in
    subst (λ (t : Lexed). IsGood t.class t.text) i.is
    (first_good s.inside.tokens.now s.inside.at s.inside.end i.result s.invariant.good c.if-self.true s.invariant.within i.is)

pub returns-else-self-clause-none : goal.returns-else-self-clause-none
returns-else-self-clause-none c =
    sym c.self.view_is ∙ symbols_left-nil c.self.inside.tokens.now c.self.inside.at c.self.inside.end c.if-self.false
