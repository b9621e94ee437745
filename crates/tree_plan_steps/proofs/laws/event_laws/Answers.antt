use Rattle.tree_plan_steps.proofs.Following.{begin_follows, commit_follows, free_follows}
use Rattle.tree_plan_steps.proofs.Making.{create_follows}
use Rattle.tree_plan_steps.proofs.Undoing.{undo_follows}
use Rattle.tree_plan_steps.proofs.Widening.{room_follows, root_split_follows, split_follows}
use Rattle.tree_plan_steps.proofs.Writing.{write_follows}
use Rattle.tree_plan_steps.proofs.laws.event_laws.Goals as goal

pub returns-clause-begin : goal.returns-clause-begin
returns-clause-begin g c = begin_follows g.L.Language.language

pub returns-clause-write : goal.returns-clause-write
returns-clause-write g c = write_follows g.L.Language.language

pub returns-clause-create : goal.returns-clause-create
returns-clause-create g c = create_follows g.L.Language.language

pub returns-clause-split : goal.returns-clause-split
returns-clause-split g c = split_follows g.L.Language.language

pub returns-clause-root_split : goal.returns-clause-root_split
returns-clause-root_split g c = root_split_follows g.L.Language.language

pub returns-clause-room : goal.returns-clause-room
returns-clause-room g c = room_follows g.L.Language.language

pub returns-clause-commit : goal.returns-clause-commit
returns-clause-commit g c = commit_follows g.L.Language.language

pub returns-clause-undo : goal.returns-clause-undo
returns-clause-undo g c = undo_follows g.L.Language.language

pub returns-clause-free : goal.returns-clause-free
returns-clause-free g c = free_follows g.L.Language.language
