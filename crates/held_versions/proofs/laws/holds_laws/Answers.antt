use Rattle.held_versions.proofs.Begins.{begin_is_begun}
use Rattle.held_versions.proofs.Commits.{commit_is_stamped}
use Rattle.held_versions.proofs.Frees.{free_is_freed}
use Rattle.held_versions.proofs.laws.holds_laws.Goals as goal

pub returns-clause-begin : goal.returns-clause-begin
returns-clause-begin c = begin_is_begun

pub returns-clause-commit : goal.returns-clause-commit
returns-clause-commit c = commit_is_stamped

pub returns-clause-free : goal.returns-clause-free
returns-clause-free c = free_is_freed
