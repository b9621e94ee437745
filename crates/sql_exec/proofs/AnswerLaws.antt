-- The answers over databases keep the rules of answers.
use Rattle.sql_database.specs.Rules.{AnswerRules}
use Rattle.sql_exec.specs.Whole.{AnswersOver}
use Rattle.sql_exec.proofs.ContentLaws.{by_content}
use Rattle.sql_exec.proofs.FairLaws.{fair}
use Rattle.sql_exec.proofs.FitLaws.{wants_fit}
use Rattle.sql_exec.proofs.OnceLaws.{answers_once}
use Rattle.sql_exec.proofs.SomeLaws.{answered}

pub rules : AnswerRules AnswersOver
rules = record { one = answers_once; some = answered; fair = fair; by_content = by_content; fits = wants_fit }
