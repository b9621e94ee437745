use Rattle.std.proofs.Common.{rules}
use Rattle.page_view.proofs.UndoLaws.{undo_reads, no_undo}
use Rattle.page_view.proofs.undo.UndoRef.read.Goals as goal

pub returns-then-holds_undo : goal.returns-then-holds_undo
returns-then-holds_undo c = undo_reads c.args.item.now (λ k. (c.type_inv.item k).fits) (search rules)

pub returns-else-holds_undo : goal.returns-else-holds_undo
returns-else-holds_undo c = no_undo c.args.item.now (search rules)
