use Rattle.std.proofs.Common.{◌≡◌, take}
use Rattle.sql_database.specs.Database.{Database}
use Rattle.sql_engine.specs.Read.{ranges_rows}
use Rattle.sql_engine.proofs.reading.rows_in.Given as goal

-- the rows of the ranges before the one at hand
abbrev pub invariant-loop-range : goal.invariant-loop-range
invariant-loop-range g l =
    (d : Database) → g.T.TableStore.tables l.store d → l.rows ≡ ranges_rows d.tables l.schema (take l.range-index l.range-items)
