use Rattle.std.proofs.Common.{◌≡◌, ◌++◌, take}
use Rattle.std.specs.List.{flat_map}
use Rattle.reply_text.specs.Texts as spec
use Rattle.reply_text.proofs.replies.append_rows.Given as goal

-- the rows so far have their lines
abbrev pub invariant-loop-row : goal.invariant-loop-row
invariant-loop-row l = l.out ≡ l.initial.out ++ flat_map (spec.row_line l.before) (take l.row-index l.rows)
