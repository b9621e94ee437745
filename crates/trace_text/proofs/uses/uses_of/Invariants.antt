use Rattle.std.proofs.Common.{◌≡◌, [], drop}
use Rattle.trace_text.specs.Uses as spec
use Rattle.trace_text.proofs.uses.uses_of.Given as goal

-- the uses that are left are noted behind those so far
abbrev pub invariant-loop-used : goal.invariant-loop-used
invariant-loop-used l = spec.noted l.answered l.noted (drop l.used-index l.uses) ≡ spec.noted l.answered [] l.uses
