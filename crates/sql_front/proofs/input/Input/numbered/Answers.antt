use Rattle.std.proofs.Common.{sym, ◌∙◌, ap}
use Rattle.sql_words.specs.Front.{value_of}
use Rattle.sql_words.specs.Lexed.{Lexed}
use Rattle.sql_front.proofs.Peeking.{reads_value, reads_refusal, sees_number, sees_no_number}
use Rattle.sql_front.proofs.input.Input.numbered.Goals as goal

pub returns-in-Some-number_in-clause-number : goal.returns-in-Some-number_in-clause-number
returns-in-Some-number_in-clause-number c =
    let class = sym (ap (λ (t : Lexed). t.class) c.token.view_is) ∙ c.in-Number.is in
    let value = ap (λ (t : Lexed). value_of t.text) c.token.view_is in
    reads_value _ _ c.args.self.now _ (sees_number c.in-Some.token.now c.args.self.now _ c.in-Some.ensures.some class)
    (c.in-Some-number_in.ensures.1 ∙ value) tt

pub returns-in_default-class : goal.returns-in_default-class
returns-in_default-class c = record {
  number = reads_refusal _ c.args.self.now (sees_no_number c.in-Some.token.now c.args.self.now _ c.in-Some.ensures.some
      (λ h. c.in_default-class.not-Number (ap (λ (t : Lexed). t.class) c.token.view_is ∙ h)));
  bound = tt;
}
