use Rattle.std.proofs.Common.{◌≡◌, ◌≤◌, ◌++◌, length, drop}
use Rattle.std.specs.List.{AllByRecursion}
use Rattle.sql_values.specs.Tables.{IsNamed}
use Rattle.sql_catalog.specs.Catalog.{columns_bytes}
use Rattle.sql_catalog.proofs.reading.columns_in.Given as goal

-- the bytes up to `at` are those of the columns so far
abbrev pub invariant-loop : goal.invariant-loop
invariant-loop l =
    (length l.columns ≡ l.counter) × (l.at ≤ length l.bytes) × AllByRecursion IsNamed l.columns
    × (l.bytes ≡ columns_bytes l.columns ++ drop l.at l.bytes)
