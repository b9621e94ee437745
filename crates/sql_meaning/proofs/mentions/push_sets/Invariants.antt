use Rattle.std.proofs.Common.{◌≡◌, ◌++◌, take}
use Rattle.std.specs.Prelude.{flat_map}
use Rattle.sql_meaning.specs.Names.{set_mentions}
use Rattle.sql_meaning.proofs.mentions.push_sets.Given as goal

abbrev pub invariant-loop-set : goal.invariant-loop-set
invariant-loop-set l = l.mentions ≡ l.initial.mentions ++ flat_map set_mentions (take l.set-index l.set-items)
