-- An entry leads from a state to one state.
use Rattle.std.proofs.Common.{◌≡◌, ℕ, List, [], ◌∷◌, Some, unwrap_or, refl, sym, ap, subst, ◌∙◌}
use Rattle.sql_database.specs.Answers.{Answer}
use Rattle.table_machine.specs.declared.entries.Entry.TheVariants as entry
use Rattle.table_machine.specs.Conflicts.{evaluated}
use Rattle.table_machine.specs.Language.{Language, ReadsOneWay}
use Rattle.table_machine.specs.Machine.{Machine, Transaction, view}
use Rattle.table_machine.specs.Moves.{executed, submitted}
use Rattle.table_machine.specs.Runs.{Leads}
use Rattle.table_machine.specs.Steps.{MayExec}
use Rattle.table_machine.specs.Laws.{RunsAreDetermined, StepsAreDetermined}
use Rattle.sql_database.specs.Rules.{OneAnswer}

some-injective : {A : Type 0} (a b : A) → Some a ≡ Some b → a ≡ b
some-injective a b e = ap (λ o. unwrap_or o a) e

executed_once : (language : Language) → OneAnswer language.answers → (m : Machine) (s : ℕ) (t u : Transaction) (a b : Answer) → MayExec language m s t a → MayExec language m s u b → executed m s (evaluated m s t a) ≡ executed m s (evaluated m s u b)
executed_once language answers m s t u a b p q =
    let trx : t ≡ u = some-injective t u (sym p.has ∙ q.has) in
    let st : p.statement ≡ q.statement = some-injective p.statement q.statement (sym p.runs ∙ q.runs) in
    let over : language.answers (view m u) p.statement a = subst (λ v. language.answers (view m v) p.statement a) trx p.answers in
    let given : language.answers (view m u) q.statement a = subst (λ v. language.answers (view m u) v a) st over in
    ap (λ v. executed m s (evaluated m s v a)) trx
    ∙ ap (λ c. executed m s (evaluated m s u c)) (answers (view m u) q.statement a b given q.answers)

pub step_once : (language : Language) → OneAnswer language.answers → ReadsOneWay language → StepsAreDetermined language
step_once language answers one (entry.Join s name n) old a b p q = p.2 ∙ sym q.2
step_once language answers one (entry.Submit s text) old a b p q = p.5 ∙ (ap (submitted old s) (one text p.0 q.0 p.4 q.4) ∙ sym q.5)
step_once language answers one (entry.Snap s) old a b p q = p.2 ∙ sym q.2
step_once language answers one (entry.Exec s) old a b p q = p.4 ∙ (executed_once language answers old s p.0 q.0 p.1 q.1 p.3 q.3 ∙ sym q.4)
step_once language answers one (entry.Enqueue s) old a b p q = p.2 ∙ sym q.2
step_once language answers one entry.Settle old a b p q = p.3 ∙ sym q.3
step_once language answers one (entry.Forget k) old a b p q = p.3 ∙ sym q.3
step_once language answers one (entry.Reply s r) old a b p q = p.1 ∙ sym q.1
step_once language answers one (entry.Timer s) old a b p q = p.2 ∙ sym q.2
step_once language answers one (entry.Down n ss) old a b p q = p.3 ∙ sym q.3
step_once language answers one (entry.Up n) old a b p q = p.2 ∙ sym q.2
step_once language answers one (entry.Opened n) old a b p q = p.4 ∙ sym q.4
step_once language answers one (entry.Ignored l) old a b p q = p.1 ∙ sym q.1
step_once language answers one (entry.Missed l) old a b p q = p.1 ∙ sym q.1
step_once language answers one (entry.End ss) old a b p q = p.2 ∙ sym q.2

pub run_once : (language : Language) → OneAnswer language.answers → ReadsOneWay language → RunsAreDetermined language
run_once language answers one [] old a b p q = p ∙ sym q
run_once language answers one (e ∷ es) old a b p q =
    run_once language answers one es p.0 a b p.2 (subst (λ m. Leads language m es b) (sym (step_once language answers one e old p.0 q.0 p.1 q.1)) q.2)
