use Rattle.std.proofs.Common.{◌≡◌, ◌++◌, take}
use Rattle.std.specs.List.{flat_map}
use Rattle.trace_text.specs.Texts as spec
use Rattle.trace_text.proofs.lines.append_lines.Given as goal

-- the uses so far have their lines
abbrev pub invariant-loop-used : goal.invariant-loop-used
invariant-loop-used l = l.out ≡ l.initial.out ++ flat_map (spec.line l.names l.answered) (take l.used-index l.uses)
