use Rattle.std.proofs.Common.{◌≡◌, take}
use Rattle.sql_database.specs.Database.{Database}
use Rattle.sql_engine.specs.Read as spec
use Rattle.sql_engine.proofs.reading.right_rows.Given as goal

-- the right rows of the left ones before the one at hand
abbrev pub invariant-loop-row : goal.invariant-loop-row
invariant-loop-row g l =
    (d : Database) → g.T.TableStore.tables l.store d
    → l.lists ≡ spec.right_rows d.tables l.planner.schemas l.planner.statement l.table (take l.row-index l.row-items)
