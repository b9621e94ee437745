use Rattle.std.proofs.Common.{fold, take}
use Rattle.std.specs.List.{AllByRecursion}
use Rattle.sql_database.specs.Database.{Database}
use Rattle.sql_database.specs.Applied.{with_row}
use Rattle.sql_engine.specs.Made.{Suits}
use Rattle.sql_engine.proofs.making.make_changes.Given as goal

-- the changes before the one at hand are made
abbrev pub invariant-loop-change : goal.invariant-loop-change
invariant-loop-change g l = record {
  made :
      (d : Database) → g.T.TableStore.tables l.initial.store d → AllByRecursion (Suits d.schemas) l.change-items
      → g.T.TableStore.tables l.store (fold with_row d (take l.change-index l.change-items));
  keeps : (k : Database) → g.T.TableStore.kept l.initial.store k → g.T.TableStore.kept l.store k;
}
