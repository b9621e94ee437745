use Rattle.redo_record.proofs.Fold.{page_at-append, page_at-past, page_at-one_more, page_at-all, CountsFrom-up_to, CountsFrom-ascends, CountsFrom-append, page_at-page, page_at-lsn, page_at-lsn_le, after_groups-other, GroupsApply-append, GroupsApply-first, GroupsApply-rest}
use Rattle.redo_record.proofs.Merging.{merged-page_at}
use Rattle.redo_record.proofs.laws.fold_laws.Goals as goal

pub returns-clause-joined : goal.returns-clause-joined
returns-clause-joined c = page_at-append

pub returns-clause-later : goal.returns-clause-later
returns-clause-later c = page_at-past

pub returns-clause-one_more : goal.returns-clause-one_more
returns-clause-one_more c = page_at-one_more

pub returns-clause-whole : goal.returns-clause-whole
returns-clause-whole c = page_at-all

pub returns-clause-counted : goal.returns-clause-counted
returns-clause-counted c = CountsFrom-up_to

pub returns-clause-ascends : goal.returns-clause-ascends
returns-clause-ascends c = CountsFrom-ascends

pub returns-clause-counts_on : goal.returns-clause-counts_on
returns-clause-counts_on c = CountsFrom-append

pub returns-clause-page : goal.returns-clause-page
returns-clause-page c = page_at-page

pub returns-clause-lsn : goal.returns-clause-lsn
returns-clause-lsn c = page_at-lsn

pub returns-clause-bound : goal.returns-clause-bound
returns-clause-bound c = page_at-lsn_le

pub returns-clause-alone : goal.returns-clause-alone
returns-clause-alone c = after_groups-other

pub returns-clause-apply_both : goal.returns-clause-apply_both
returns-clause-apply_both c = GroupsApply-append

pub returns-clause-apply_first : goal.returns-clause-apply_first
returns-clause-apply_first c = GroupsApply-first

pub returns-clause-apply_rest : goal.returns-clause-apply_rest
returns-clause-apply_rest c = GroupsApply-rest

pub returns-clause-based : goal.returns-clause-based
returns-clause-based c = merged-page_at
