use Rattle.std.proofs.Common.{◌≡◌, ◌++◌, take}
use Rattle.std.specs.Prelude.{flat_map}
use Rattle.sql_meaning.specs.Names.{agg_mentions}
use Rattle.sql_meaning.proofs.mentions.push_aggs.Given as goal

abbrev pub invariant-loop-agg : goal.invariant-loop-agg
invariant-loop-agg l = l.mentions ≡ l.initial.mentions ++ flat_map agg_mentions (take l.agg-index l.agg-items)
