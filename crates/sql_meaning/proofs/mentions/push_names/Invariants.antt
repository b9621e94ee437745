use Rattle.std.proofs.Common.{◌≡◌, ◌++◌, take, map, None}
use Rattle.sql_meaning.specs.Names.{mention}
use Rattle.sql_meaning.proofs.mentions.push_names.Given as goal

abbrev pub invariant-loop-name : goal.invariant-loop-name
invariant-loop-name l = l.mentions ≡ l.initial.mentions ++ map (mention None) (take l.name-index l.name-items)
