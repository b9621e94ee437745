use Rattle.std.proofs.Common.{◌≡◌, ◌++◌, take}
use Rattle.sql_meaning.specs.Names.{all_mentions}
use Rattle.sql_meaning.proofs.mentions.push_all.Given as goal

abbrev pub invariant-loop-expr : goal.invariant-loop-expr
invariant-loop-expr l = l.mentions ≡ l.initial.mentions ++ all_mentions (take l.expr-index l.expr-items)
