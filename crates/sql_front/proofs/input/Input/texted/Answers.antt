use Rattle.std.proofs.Common.{sym, ◌∙◌, ap, subst}
use Rattle.sql_words.specs.declared.tokens.Class.{Class}
use Rattle.sql_words.specs.declared.tokens.Class.TheVariants as c
use Rattle.sql_words.specs.Lexed.{Lexed}
use Rattle.sql_front.specs.Good.{IsGood}
use Rattle.sql_front.proofs.Peeking.{reads_value, reads_refusal, sees_text, sees_no_text}
use Rattle.sql_front.proofs.input.Input.texted.Goals as goal

pub returns-in_ok-content_of-in-Text : goal.returns-in_ok-content_of-in-Text
returns-in_ok-content_of-in-Text k =
    let class = sym (ap (λ (t : Lexed). t.class) k.token.view_is) ∙ k.in-Text.is in
    let good : IsGood c.Text k.in-Some.token.now.text = subst (λ (a : Class). IsGood a k.in-Some.token.now.text) class k.in-Some.ensures.good in
    let bytes = ap (λ (t : Lexed). t.text) k.token.view_is in
    reads_value _ good.0 k.args.self.now _ (sees_text k.in-Some.token.now k.args.self.now _ k.in-Some.ensures.some good.0 class good.1)
    (k.in_ok-content_of-in-Text.ensures good.0 (bytes ∙ good.1)) tt

pub returns-in_default-class : goal.returns-in_default-class
returns-in_default-class c =
    reads_refusal _ c.args.self.now (sees_no_text c.in-Some.token.now c.args.self.now _ c.in-Some.ensures.some
    (λ h. c.in_default-class.not-Text (ap (λ (t : Lexed). t.class) c.token.view_is ∙ h)))
