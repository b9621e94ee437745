use Rattle.std.proofs.Common.{◌≡◌, ◌++◌, take}
use Rattle.std.specs.Prelude.{flat_map}
use Rattle.sql_meaning.specs.Names.{all_mentions}
use Rattle.sql_meaning.proofs.mentions.push_rows.Given as goal

abbrev pub invariant-loop-row : goal.invariant-loop-row
invariant-loop-row l = l.mentions ≡ l.initial.mentions ++ flat_map all_mentions (take l.row-index l.row-items)
