use Rattle.row_edits.proofs.BackLaws.{taken_there}
use Rattle.row_edits.proofs.back_plans.take_new.Goals as goal

pub unwrap-requires : goal.unwrap-requires
unwrap-requires c =
    c.in_ok-take_out.ensures.there.1
    (taken_there c.args.basis.now.undo.key c.args.basis.now.undo.old c.args.basis.now.path c.requires.old c.requires.basis.ready.can)
