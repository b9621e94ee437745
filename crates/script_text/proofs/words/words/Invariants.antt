use Rattle.std.proofs.Common.{◌≡◌, ◌++◌, length}
use Rattle.script_text.specs.Words as spec
use Rattle.script_text.proofs.words.words.Given as goal

-- the words of the rest go on with those so far
abbrev pub invariant-words : goal.invariant-words
invariant-words l = l.words ++ spec.words l.rest ≡ spec.words l.line

abbrev pub decreases-words : goal.decreases-words
decreases-words l = length l.rest
