use Rattle.std.proofs.Common.{◌≡◌, ◌++◌, take, map}
use Rattle.sql_meaning.specs.Names.{field_of}
use Rattle.sql_meaning.proofs.fields.append_fields.Given as goal

abbrev pub invariant-loop-column : goal.invariant-loop-column
invariant-loop-column l = l.fields ≡ l.initial.fields ++ map (field_of l.schema.table) (take l.column-index l.column-items)
