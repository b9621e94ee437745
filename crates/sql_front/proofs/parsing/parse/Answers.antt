use Rattle.std.proofs.Common.{None, sym, ◌∙◌, ap, subst, map, length}
use Rattle.sql_words.specs.Tokens.{AreTokensOf}
use Rattle.sql_front.specs.Sentences.{IsSql, IsWrongAt, IsFirst, ReadsAll, limited}
use Rattle.sql_front.specs.Symbols.{symbol_of}
use Rattle.sql_front.proofs.Texts.{tokens_good}
use Rattle.sql_front.proofs.Verdicts.{gives_right, right_refuses, wrong_gives, refuses_wrong, whole_statement, more_behind, stops_before, left_fits, is_none_of, is_some_of, too_many}
use Rattle.sql_front.proofs.parsing.parse.Goals as goal
use Rattle.sql_front.proofs.parsing.parse.Goals.{else-is_none-via-then-is_none+else-text-le-MAX_STATEMENT_BYTES, else-is_none-via-else-is_none}

pub read-requires : goal.read-requires
read-requires c =
    tokens_good None 0 c.args.text.now c.as_slice-tokens.result.now c.in_ok-reading.reading.fault
    (subst (λ z. AreTokensOf c.args.text.now z c.in_ok-reading.reading.fault) (sym c.as_slice-tokens.ensures) c.in_ok-reading.ensures.tokens)

is_sql : (c : goal.After-drop-reading-then-text-le-MAX_STATEMENT_BYTES) → IsSql c.args.text.now c.in-Ok.stmt
is_sql c =
    whole_statement c.one_reading.ensures c.args.text.now c.as_slice-tokens.result.now c.in_ok-reading.reading.fault
    (subst (λ z. AreTokensOf c.args.text.now z c.in_ok-reading.reading.fault) (sym c.as_slice-tokens.ensures) c.in_ok-reading.ensures.tokens)
    c.unwrap_or-end.result c.unwrap_or-end.ensures c.in-Ok.stmt
    (subst (ReadsAll (map symbol_of c.as_slice-tokens.result.now)) c.in-Ok.is c.in_ok-stmt.ensures)
    (is_none_of c.in_ok-reading.reading.fault (c.if-is_none.ensures {u = tt})) c.if-text-le-MAX_STATEMENT_BYTES.true

pub returns-then-text-le-MAX_STATEMENT_BYTES-clause-statement :
    goal.returns-then-text-le-MAX_STATEMENT_BYTES-clause-statement
returns-then-text-le-MAX_STATEMENT_BYTES-clause-statement c = gives_right c.one_reading.ensures c.args.text.now c.in-Ok.stmt (is_sql c)

pub returns-then-text-le-MAX_STATEMENT_BYTES-clause-syntax :
    goal.returns-then-text-le-MAX_STATEMENT_BYTES-clause-syntax
returns-then-text-le-MAX_STATEMENT_BYTES-clause-syntax c = right_refuses c.one_reading.ensures c.args.text.now c.in-Ok.stmt (is_sql c)

first_behind : (c : goal.After-drop-reading-in-Ok) → IsFirst (IsWrongAt c.args.text.now) c.limited.result.at
first_behind c =
    subst (IsFirst (IsWrongAt c.args.text.now)) (sym c.limited.ensures)
    (more_behind c.one_reading.ensures c.args.text.now c.as_slice-tokens.result.now c.in_ok-reading.reading.fault
    (subst (λ z. AreTokensOf c.args.text.now z c.in_ok-reading.reading.fault) (sym c.as_slice-tokens.ensures) c.in_ok-reading.ensures.tokens)
    c.unwrap_or-end.result c.unwrap_or-end.ensures c.in-Ok.stmt
    (subst (ReadsAll (map symbol_of c.as_slice-tokens.result.now)) c.in-Ok.is c.in_ok-stmt.ensures)
    (elim c.else-is_none.branch [
      | else-is_none-via-then-is_none+else-text-le-MAX_STATEMENT_BYTES w ↦ λ e h. too_many (length c.args.text.now) w.if-text-le-MAX_STATEMENT_BYTES.false h
      | else-is_none-via-else-is_none w ↦ λ e h. is_some_of c.in_ok-reading.reading.fault (w.if-is_none.ensures {u = tt}) e
    ]))

pub returns-in-Ok-clause-statement : goal.returns-in-Ok-clause-statement
returns-in-Ok-clause-statement c = wrong_gives c.one_reading.ensures c.args.text.now c.limited.result.at (first_behind c)

pub returns-in-Ok-clause-syntax : goal.returns-in-Ok-clause-syntax
returns-in-Ok-clause-syntax c = refuses_wrong c.one_reading.ensures c.args.text.now c.limited.result.at (first_behind c)

pub place-requires : goal.place-requires
place-requires c = left_fits c.as_slice-tokens.result.now c.in-Err.left (subst (ReadsAll (map symbol_of c.as_slice-tokens.result.now)) c.in-Err.is c.in_ok-stmt.ensures)

first_stop : (c : goal.After-drop-reading-2) → IsFirst (IsWrongAt c.args.text.now) c.limited-in-Err.result.at
first_stop c =
    subst (IsFirst (IsWrongAt c.args.text.now)) (sym (c.limited-in-Err.ensures ∙ ap (limited (length c.args.text.now)) c.place.ensures))
    (stops_before c.one_reading.ensures c.args.text.now c.as_slice-tokens.result.now c.in_ok-reading.reading.fault
    (subst (λ z. AreTokensOf c.args.text.now z c.in_ok-reading.reading.fault) (sym c.as_slice-tokens.ensures) c.in_ok-reading.ensures.tokens)
    c.unwrap_or-end.result c.unwrap_or-end.ensures c.in-Err.left
    (subst (ReadsAll (map symbol_of c.as_slice-tokens.result.now)) c.in-Err.is c.in_ok-stmt.ensures))

pub returns-clause-statement : goal.returns-clause-statement
returns-clause-statement c = wrong_gives c.one_reading.ensures c.args.text.now c.limited-in-Err.result.at (first_stop c)

pub returns-clause-syntax : goal.returns-clause-syntax
returns-clause-syntax c = refuses_wrong c.one_reading.ensures c.args.text.now c.limited-in-Err.result.at (first_stop c)
