use Rattle.std.proofs.Common.{length}
use Rattle.sql_catalog.proofs.tables.+differ.Given as goal

abbrev pub decreases-differ : goal.decreases-differ
decreases-differ l = length l.columns.now
