use Rattle.std.proofs.Common.{◌≡◌, ℕ, List, length}
use Rattle.sql_words.specs.Tokens.{quoted}
use Rattle.sql_words.proofs.TextContent.{Left}
use Rattle.sql_words.proofs.contents.content_of.Given as goal

-- of a text token a content and the closing quote are left
abbrev pub invariant-bytes : goal.invariant-bytes
invariant-bytes l = (content : List ℕ) → l.token ≡ quoted content → Left l.left l.content content

abbrev pub decreases-bytes : goal.decreases-bytes
decreases-bytes l = length l.left
