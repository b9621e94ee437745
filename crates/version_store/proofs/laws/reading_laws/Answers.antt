use Rattle.version_store.proofs.Versions.{seen_commit, seen_later, seen_push, seen_stamped}
use Rattle.version_store.proofs.laws.reading_laws.Goals as goal

pub returns-clause-unseen : goal.returns-clause-unseen
returns-clause-unseen c = seen_push

pub returns-clause-shows : goal.returns-clause-shows
returns-clause-shows c = seen_commit

pub returns-clause-hides : goal.returns-clause-hides
returns-clause-hides c = seen_stamped

pub returns-clause-late : goal.returns-clause-late
returns-clause-late c = seen_later
