use Rattle.std.proofs.Common.{◌≡◌, drop, List}
use Rattle.sql_values.specs.declared.values.Value.{Value}
use Rattle.sql_exec.specs.Changes.{first_repeat}
use Rattle.sql_exec.specs.Seen.{HasKeys}
use Rattle.sql_exec.proofs.keys.repeat_after.Given as goal

abbrev pub invariant-loop-key : goal.invariant-loop-key
invariant-loop-key l = (before : List Value) → HasKeys l.initial.seen before → (now : List Value) × HasKeys l.seen now × (first_repeat now (drop l.key-index l.key-items) ≡ first_repeat before l.key-items)
