use Rattle.table_machine.proofs.CommitReplies.{commit_is_made}
use Rattle.table_machine.proofs.SerialLaws.{one_serial}
use Rattle.table_machine.proofs.OverlapLaws.{forced_stands, share_none_over}
use Rattle.table_machine.proofs.CommitLaws.{queues, settles_changes, stay, waiting_stays}
use Rattle.table_machine.proofs.ReplyLaws.{begin_runs, ok_is_committed}
use Rattle.table_machine.proofs.RunLaws.{fronts, on, serves, serves_on}
use Rattle.table_machine.proofs.StepLaws.{run_once, step_once}
use Rattle.table_machine.proofs.laws.machine_laws.Goals as goal

pub returns-clause-fronts : goal.returns-clause-fronts
returns-clause-fronts g c = fronts g.L.Language.language

pub returns-clause-goes_on : goal.returns-clause-goes_on
returns-clause-goes_on g c = on g.L.Language.language

pub returns-clause-commits_stay : goal.returns-clause-commits_stay
returns-clause-commits_stay g c = stay g.L.Language.language

pub returns-clause-queues : goal.returns-clause-queues
returns-clause-queues g c = queues g.L.Language.language

pub returns-clause-waiting_stays : goal.returns-clause-waiting_stays
returns-clause-waiting_stays g c = waiting_stays g.L.Language.language

pub returns-clause-settles : goal.returns-clause-settles
returns-clause-settles g c = settles_changes g.L.Language.language

pub returns-clause-ok_is_committed : goal.returns-clause-ok_is_committed
returns-clause-ok_is_committed g c = ok_is_committed g.L.Language.language

pub returns-clause-determined : goal.returns-clause-determined
returns-clause-determined g c = step_once g.L.Language.language g.L.Language.answer_rules.one g.L.Language.one_reading

pub returns-clause-runs_determined : goal.returns-clause-runs_determined
returns-clause-runs_determined g c = run_once g.L.Language.language g.L.Language.answer_rules.one g.L.Language.one_reading

pub returns-clause-serving : goal.returns-clause-serving
returns-clause-serving g c = serves g.L.Language.language

pub returns-clause-more_lines : goal.returns-clause-more_lines
returns-clause-more_lines g c = serves_on g.L.Language.language

pub returns-clause-begin : goal.returns-clause-begin
returns-clause-begin g c = begin_runs g.L.Language.language

pub returns-clause-commit_is_made : goal.returns-clause-commit_is_made
returns-clause-commit_is_made g c = commit_is_made g.L.Language.language

pub returns-clause-one_serial : goal.returns-clause-one_serial
returns-clause-one_serial g c = one_serial g.L.Language.language g.L.Language.answer_rules.one g.L.Language.one_reading

pub returns-clause-overlaps : goal.returns-clause-overlaps
returns-clause-overlaps g c = share_none_over g.L.Language.language

pub returns-clause-forced : goal.returns-clause-forced
returns-clause-forced g c = forced_stands g.L.Language.language
