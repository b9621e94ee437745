use Rattle.sql_exec.specs.Seen.{HasKeys}
use Rattle.sql_exec.proofs.keys.set_of.Given as goal

abbrev pub invariant-loop-key : goal.invariant-loop-key
invariant-loop-key l = HasKeys l.set l.yielded
