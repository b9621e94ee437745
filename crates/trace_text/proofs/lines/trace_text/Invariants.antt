use Rattle.std.proofs.Common.{◌≡◌, take}
use Rattle.std.specs.List.{flat_map}
use Rattle.trace_text.specs.Texts as spec
use Rattle.trace_text.proofs.lines.trace_text.Given as goal

-- the statements so far have their lines
abbrev pub invariant-loop-answered : goal.invariant-loop-answered
invariant-loop-answered l = l.out ≡ flat_map (spec.statement_text l.names l.trace) (take l.answered-index l.answered-items)
