use Rattle.sql_database.proofs.KindLaws.{goes_on}
use Rattle.table_machine.proofs.Alone.{no_conflict}
use Rattle.table_machine.proofs.InTurn.{is_run, more_turns}
use Rattle.table_machine.proofs.ServingLaws.{joins, lines}
use Rattle.table_machine.proofs.TurnLaws.{turns}
use Rattle.table_machine.proofs.laws.serving_laws.Goals as goal

pub returns-clause-joins : goal.returns-clause-joins
returns-clause-joins g c = joins g.L.Language.language

pub returns-clause-turns : goal.returns-clause-turns
returns-clause-turns g c = turns g.L.Language.language g.L.Language.answer_rules.fair

pub returns-clause-lines : goal.returns-clause-lines
returns-clause-lines g c = lines g.L.Language.language g.L.Language.answer_rules.fair

pub returns-clause-is_run : goal.returns-clause-is_run
returns-clause-is_run g c = is_run g.L.Language.language

pub returns-clause-more_turns : goal.returns-clause-more_turns
returns-clause-more_turns g c = more_turns g.L.Language.language

pub returns-clause-no_conflict : goal.returns-clause-no_conflict
returns-clause-no_conflict g c = no_conflict

pub returns-clause-answers : goal.returns-clause-answers
returns-clause-answers g c = λ d st a is. goes_on st a (g.L.Language.answer_rules.fair d st a is)
