use Rattle.std.proofs.Common.{length}
use Rattle.sql_catalog.proofs.tables.+differs.Given as goal

abbrev pub decreases-differs : goal.decreases-differs
decreases-differs l = length l.columns.now
