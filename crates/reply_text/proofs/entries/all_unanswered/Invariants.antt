use Rattle.std.proofs.Common.{◌≡◌, take}
use Rattle.std.specs.List.{flat_map}
use Rattle.reply_text.specs.Texts as spec
use Rattle.reply_text.proofs.entries.all_unanswered.Given as goal

-- the sessions so far have their lines
abbrev pub invariant-loop-session : goal.invariant-loop-session
invariant-loop-session l = l.out ≡ flat_map (spec.unanswered l.names) (take l.session-index l.sessions)
