-- For the proofs: a language in which each text is BEGIN and each statement answers no rows: the rules of answers can be kept.
use Rattle.std.proofs.Common.{◌≡◌, [], Ok, refl, sym, subst, ◌∙◌}
use Rattle.sql_statements.specs.declared.statements.Stmt.TheVariants as stmt
use Rattle.sql_database.specs.Answers.{Answer, rows, refused, wants}
use Rattle.sql_database.specs.Rules.{AnswerRules, IsFair}
use Rattle.table_machine.specs.Language.{Language, ReadsOneWay}

abbrev pub silent : Language
silent = record { parses = λ text read. read ≡ Ok stmt.Begin; answers = λ d st a. a ≡ rows []; full = λ d. ⊥ }

abbrev IsRows : Answer → Type 0
IsRows (rows rs) = Unit {0}
IsRows (refused r) = ⊥
IsRows (wants cs n dup) = ⊥

pub silent_rules : AnswerRules silent.answers
silent_rules = record {
  one = λ d st a b p q. p ∙ sym q;
  some = λ d st k. (rows [], refl);
  fair = λ d st a p. subst (IsFair st) (sym p) tt;
  by_content = λ d e st a h p. p;
  fits = λ d st cs n dup free proper p. absurd (subst IsRows (sym p) tt);
}

pub silent_reading : ReadsOneWay silent
silent_reading text a b p q = p ∙ sym q
