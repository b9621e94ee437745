use Rattle.std.proofs.Common.{rules, ◌≡◌, ◌≤◌, ℕ, List, [], ◌++◌, length, sym, ◌∙◌, ap, subst}
use Rattle.sql_meaning.specs.declared.resolved.Resolved.{Resolved}
use Rattle.sql_plan.proofs.Tuples.{no_range}
use Rattle.sql_plan.proofs.planning.append_range.Goals as goal

pub returns-in-None : goal.returns-in-None
returns-in-None c = no_range c.args.ranges.now c.args.key c.args.tuple.now (subst (λ (xs : List Resolved). length xs ≤ c.args.key) c.as_slice.ensures c.in-None.ensures.lookup.3)
