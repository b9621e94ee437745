use Rattle.std.proofs.Common.{◌≢◌, ℕ, ◌<◌, get_or}
use Rattle.sql_words.specs.declared.reserved.Word.TheVariants.{And}
use Rattle.sql_words.specs.Reserved.{lowered, spelling}
use Rattle.sql_words.proofs.reserved.reserved.Given as goal

-- no word so far is the text
abbrev pub invariant-loop-word : goal.invariant-loop-word
invariant-loop-word l = (k : ℕ) → k < l.word-index → lowered l.text ≢ lowered (spelling (get_or l.word-items k And))
