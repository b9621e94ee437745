use Rattle.std.proofs.Common.{◌≡◌, map}
use Rattle.sql_front.proofs.definitions.schema.Given as goal

-- the columns so far are those of the definitions that were taken
abbrev pub invariant-definitions : goal.invariant-definitions
invariant-definitions l = l.columns ≡ map (λ d. d.column) l.yielded
