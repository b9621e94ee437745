use Rattle.std.proofs.Common.{sym, ◌∙◌}
use Rattle.tree_change.proofs.ReadLaws.{children_read}
use Rattle.tree_change.proofs.tests.is_parent.Goals as goal

pub returns-in-Inner : goal.returns-in-Inner
returns-in-Inner c = λ t. children_read c.args.page.now (c.can_be_read.ensures.0 t) (sym c.kind.ensures ∙ c.in-Inner.is)
