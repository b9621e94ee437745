use Rattle.std.proofs.Common.{rules}
use Rattle.sql_words.proofs.bytes.spaces_len.Goals as goal

pub returns-clause-within : goal.returns-clause-within
returns-clause-within c = search rules
