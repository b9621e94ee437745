use Rattle.row_edits.proofs.BackLaws.{undo_found}
use Rattle.row_edits.proofs.back_plans.read_at.Goals as goal

pub returns-clause-undo : goal.returns-clause-undo
returns-clause-undo c =
    undo_found c.args.page.now c.args.at c.args.bytes.now c.older.result c.older.ensures (λ k. (c.type_inv.bytes k).fits) c.requires
