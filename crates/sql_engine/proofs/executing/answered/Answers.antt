use Rattle.std.proofs.Common.{List, sym, subst}
use Rattle.std.proofs.lemmas.Result.{IfOk-weaker}
use Rattle.sql_values.specs.declared.schemas.Schema.{Schema}
use Rattle.sql_exec.specs.declared.rows.RangeRows.{RangeRows}
use Rattle.sql_exec.specs.Answer.{Answers, ComesFrom}
use Rattle.sql_engine.specs.Read.{AreOf, mentioned}
use Rattle.sql_engine.proofs.NamedLemmas.{SameNamed, are_of, same_named}
use Rattle.sql_engine.proofs.ReadLemmas.{over_all}
use Rattle.sql_engine.proofs.executing.answered.Goals as goal

pub read-requires : goal.read-requires
read-requires g c =
    let d = c.requires.known.0 in (
      d,
      c.requires.known.1,
      subst (λ (schemas : List Schema). AreOf schemas d.schemas) (sym (c.in_ok-schemas.ensures d c.requires.known.1)) (are_of d.schemas (mentioned c.args.statement.now)),
    )

pub returns : goal.returns
returns g c = λ d t.
    let s = c.args.statement.now in
    let named = c.in_ok-schemas.ensures d t in
    IfOk-weaker c.eval.result _ _
    (λ o from. over_all d c.in_ok-schemas.schemas s o
    (subst (λ (schemas : List Schema). AreOf schemas d.schemas) (sym named) (are_of d.schemas (mentioned s)))
    (subst (λ (schemas : List Schema). SameNamed schemas d.schemas (mentioned s)) (sym named) (same_named d.schemas s))
    (c.rules.ensures d t)
    (subst (λ (rows : RangeRows). ComesFrom (Answers c.in_ok-schemas.schemas rows s) o) (c.in_ok-rows.ensures d t) from))
    c.eval.ensures
