use Rattle.std.proofs.Common.{◌≡◌, refl, sym, ◌∙◌, ap}
use Rattle.std.specs.Prelude.{List}
use Rattle.sql_values.specs.declared.values.Value.{Value}
use Rattle.question_tree.specs.Questions.{tells}
use Rattle.statement_reader.specs.Question.{rows_told}
use Rattle.statement_reader.specs.Machine.{rows_by}
use Rattle.statement_reader.proofs.ProgressLaws.{ok_same, rights_taken_is}
use Rattle.statement_reader.proofs.progress.Progress.take_rights.Goals as goal

pub returns-in-Some-2-clause-same : goal.returns-in-Some-2-clause-same
returns-in-Some-2-clause-same c = λ d h.
    let read : tells c.in-Some-2.rows ≡ rows_by d c.args.self.now.right c.args.self.now.rows c.args.items.now =
    ap rows_told (sym c.in-Some-2.is) ∙ (c.in_ok-rows_in.ensures d h
    ∙ ap (λ (xs : List (List Value)). rows_by d c.args.self.now.right xs c.args.items.now) c.replace-rows.ensures.value) in
    ok_same _ _ d c.args.statement.now c.next_right.new.self c.next_right.result
    (rights_taken_is d c.args.statement.now c.args.self.now record c.args.self.now { rows = c.in-Some-2.rows } c.args.items.now c.in-Some-2.rows read
    refl refl refl refl refl refl refl refl refl refl)
    (c.next_right.ensures.same d)
