use Rattle.redo_record.proofs.Logs.{one_list, no_prefix, log_begins, log_grows, either_way, refused_none, one_offset}
use Rattle.redo_record.proofs.laws.grammar_laws.Goals as goal

pub returns-clause-one_list : goal.returns-clause-one_list
returns-clause-one_list c = one_list

pub returns-clause-no_prefix : goal.returns-clause-no_prefix
returns-clause-no_prefix c = no_prefix

pub returns-clause-begins : goal.returns-clause-begins
returns-clause-begins c = log_begins

pub returns-clause-grows : goal.returns-clause-grows
returns-clause-grows c = log_grows

pub returns-clause-either_way : goal.returns-clause-either_way
returns-clause-either_way c = either_way

pub returns-clause-not_both : goal.returns-clause-not_both
returns-clause-not_both c = refused_none

pub returns-clause-one_offset : goal.returns-clause-one_offset
returns-clause-one_offset c = one_offset
