use Rattle.home_service.proofs.Moving.{entry_changes, latch_changes, may_share_page, may_exclude_page, reads_slot, write_changes}
use Rattle.home_service.proofs.laws.access_laws.Goals as goal

pub returns-clause-entry : goal.returns-clause-entry
returns-clause-entry c = entry_changes

pub returns-clause-latch : goal.returns-clause-latch
returns-clause-latch c = latch_changes

pub returns-clause-share : goal.returns-clause-share
returns-clause-share c = may_share_page

pub returns-clause-exclude : goal.returns-clause-exclude
returns-clause-exclude c = may_exclude_page

pub returns-clause-read : goal.returns-clause-read
returns-clause-read c = reads_slot

pub returns-clause-write : goal.returns-clause-write
returns-clause-write c = write_changes
