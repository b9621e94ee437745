use Rattle.std.proofs.Common.{◌≡◌, ◌++◌, take}
use Rattle.std.specs.List.{flat_map}
use Rattle.reply_text.specs.Texts as spec
use Rattle.reply_text.proofs.values.append_others.Given as goal

-- the values so far stand behind the text
abbrev pub invariant-loop-value : goal.invariant-loop-value
invariant-loop-value l = l.out ≡ l.initial.out ++ flat_map spec.behind_comma (take l.value-index l.values)
