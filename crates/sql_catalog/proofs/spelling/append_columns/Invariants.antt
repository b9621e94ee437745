use Rattle.std.proofs.Common.{◌≡◌, ◌++◌, take}
use Rattle.sql_catalog.specs.Catalog.{columns_bytes}
use Rattle.sql_catalog.proofs.spelling.append_columns.Given as goal

-- the columns before the one at hand have joined
abbrev pub invariant-loop-column : goal.invariant-loop-column
invariant-loop-column l = l.bytes ≡ l.initial.bytes ++ columns_bytes (take l.column-index l.columns)
