use Rattle.std.proofs.Common.{◌≡◌, IfOk, sym, ◌∙◌, ap, subst}
use Rattle.sql_words.specs.Lexed.{Lexed}
use Rattle.sql_words.specs.Reserved.{lowered}
use Rattle.sql_front.proofs.Peeking.{reads_value, reads_refusal, sees_name, sees_no_name}
use Rattle.sql_front.proofs.input.Input.named.Goals as goal

pub returns-in-Name : goal.returns-in-Name
returns-in-Name c =
    let class = sym (ap (λ (t : Lexed). t.class) c.token.view_is) ∙ c.in-Name.is in
    let text = ap (λ (t : Lexed). lowered t.text) c.token.view_is in
    reads_value _ _ c.args.self.now c.name_of.result (sees_name c.in-Some.token.now c.args.self.now _ c.in-Some.ensures.some class)
    (subst (λ q. IfOk c.name_of.result (λ n. n ≡ q)) text c.name_of.ensures.name) c.name_of.ensures.memory

pub returns-in_default-class : goal.returns-in_default-class
returns-in_default-class c =
    reads_refusal _ c.args.self.now (sees_no_name c.in-Some.token.now c.args.self.now _ c.in-Some.ensures.some
    (λ h. c.in_default-class.not-Name (ap (λ (t : Lexed). t.class) c.token.view_is ∙ h)))
