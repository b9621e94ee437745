use Rattle.std.proofs.Common.{◌≡◌, ℕ, List, sym, subst, ◌∙◌}
use Rattle.std.specs.Prelude.{IfOk}
use Rattle.row_edits.specs.BackEdits.{BackWork, back, landed}
use Rattle.row_edits.specs.BackStages.{work_of}
use Rattle.row_edits.specs.Ways.{step_of}
use Rattle.row_edits.proofs.WayLaws.{lands}
use Rattle.row_edits.proofs.back_stages.down.Goals as goal

pub returns-in-Leaf-clause-work : goal.returns-in-Leaf-clause-work
returns-in-Leaf-clause-work c =
    subst (λ (w : BackWork). IfOk c.landed.result (λ next. work_of next ≡ w))
    (lands c.args.walk c.args.task.undo.key (landed (back c.args.task.splits c.args.task.session c.args.task.undo) c.args.task.session c.args.task.undo)
    c.args.page c.in-Leaf.path c.requires.asked
    (sym c.in-Leaf.is ∙ subst (λ (k : List ℕ). c.in_ok-path.field-0 ≡ step_of c.args.walk k c.args.page) c.as_slice.ensures c.in_ok-path.ensures))
    c.landed.ensures.work
