use Rattle.std.proofs.Common.{◌≢◌, sym, arith, rules}
use Rattle.sql_words.specs.Reserved.{lowered, spelling}
use Rattle.sql_words.proofs.ReservedLemmas.{each, word_of-found, word_of-none}
use Rattle.sql_words.proofs.reserved.reserved.Goals as goal

pub returns-then-eq_ignore_ascii_case-clause-value :
    goal.returns-then-eq_ignore_ascii_case-clause-value
returns-then-eq_ignore_ascii_case-clause-value c =
    sym (word_of-found c.args.text.now _ (search rules))

pub returns-clause-value : goal.returns-clause-value
returns-clause-value c = sym (word_of-none c.args.text.now
    (each (λ w. lowered c.args.text.now ≢ lowered (spelling w)) (λ k h. c.loop-word.invariant k (omega arith))))

pub returns-clause-none : goal.returns-clause-none
returns-clause-none c =
    each (λ w. lowered c.args.text.now ≢ lowered (spelling w)) (λ k h. c.loop-word.invariant k (omega arith))
