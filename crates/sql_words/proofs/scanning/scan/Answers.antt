use Rattle.std.proofs.Common.{◌≡◌, ◌∙◌, ℕ, List, [], ◌++◌, Option, Some, None, length, drop, refl, ◌+◌, sym, ap, subst, arith, append-nil, rules}
use Rattle.std.specs.List.{prefix_len}
use Rattle.std.proofs.lemmas.Bool.{eqb-true}
use Rattle.std.proofs.lemmas.Bool.Decides.{nat_tests}
use Rattle.sql_words.specs.Bytes.{is_space}
use Rattle.sql_words.specs.Lexed.{Lexed}
use Rattle.sql_words.specs.Tokens.{AreTokensOf}
use Rattle.sql_words.proofs.ScanSteps.{turn, fault_turn, done, ascend, pushed}
use Rattle.sql_words.proofs.scanning.scan.Goals as goal
use Rattle.sql_words.proofs.scanning.scan.Goals.{Then-is_empty, In-Err, In_ok-push-in-Ok}

-- with nothing left the tokens are those so far
ended : (text : List ℕ) (ts : List Lexed) (p : Option ℕ) → AreTokensOf text (ts ++ []) p → AreTokensOf text ts p
ended text ts p h = subst (λ q. AreTokensOf text q p) (append-nil ts) h

at_end : (c : Then-is_empty) → AreTokensOf c.args.text.now c.tokens.tokens None
at_end c =
    let none : length (drop (prefix_len is_space c.tokens.rest.now) c.tokens.rest.now) ≡ 0 =
    ap (λ k. length (drop k c.tokens.rest.now)) (sym c.spaces_len.ensures.value) ∙ ap length (sym c.split_at.ensures.back)
    ∙ eqb-true (length c.split_at.result.1.now) 0 (sym c.if-is_empty.ensures) in
    ended c.args.text.now c.tokens.tokens None (c.tokens.invariant.tokens [] None (done c.tokens.before c.tokens.at c.tokens.rest.now none))

pub returns-then-is_empty-clause-tokens : goal.returns-then-is_empty-clause-tokens
returns-then-is_empty-clause-tokens c = at_end c

pub returns-then-is_empty-clause-slices : goal.returns-then-is_empty-clause-slices
returns-then-is_empty-clause-slices c = ascend c.args.text.now c.tokens.tokens None (at_end c)

at_fault : (c : In-Err) → AreTokensOf c.args.text.now c.tokens.tokens (Some (c.tokens.at + length c.split_at.result.0.now + c.in-Err.offset))
at_fault c =
    ended c.args.text.now c.tokens.tokens _ (c.tokens.invariant.tokens [] _
    (fault_turn c.tokens.before c.tokens.at c.tokens.rest.now c.is_minus.result c.is_joined.result c.split_at.result.0.now c.split_at.result.1.now c.in-Err.offset
    (record { front = search rules; back = search rules; minus_is = c.is_minus.ensures; joined_is = c.is_joined.ensures; cut = c.in-Err.ensures.value })
    (let e = c.if-is_empty.ensures in grind (arith, nat_tests))))

pub returns-in-Err-clause-tokens : goal.returns-in-Err-clause-tokens
returns-in-Err-clause-tokens c = at_fault c

pub returns-in-Err-clause-slices : goal.returns-in-Err-clause-slices
returns-in-Err-clause-slices c = ascend c.args.text.now c.tokens.tokens _ (at_fault c)

pub tokens-preserved : goal.tokens-preserved
tokens-preserved c = record {
  within = omega (arith, c.tokens.invariant.within, c.split_at.ensures.front_len, c.split_at.ensures.back_len, c.split_at-in-Ok.ensures.back_len);
  tokens = λ ts p h. subst (λ q. AreTokensOf c.args.text.now q p) (sym (pushed c.tokens.tokens c.push.new.self ts _ c.in_ok-push-in-Ok.ensures.ok))
      (c.tokens.invariant.tokens _ p
      (turn c.tokens.before c.tokens.at c.tokens.rest.now c.is_minus.result c.is_joined.result c.split_at.result.0.now c.split_at.result.1.now c.in-Ok.field-0
      (record { front = search rules; back = search rules; minus_is = c.is_minus.ensures; joined_is = c.is_joined.ensures; cut = c.in-Ok.ensures.value })
      (let e = c.if-is_empty.ensures in grind (arith, nat_tests))
      _ c.split_at-in-Ok.ensures.front refl refl c.split_at-in-Ok.result.1.now c.split_at-in-Ok.ensures.back ts p h));
}
