use Rattle.std.proofs.Common.{rules, ◌≡◌, true, false, sym, ◌∙◌, ap, subst, Option, List, ℕ, ◌++◌}
use Rattle.sql_statements.specs.declared.expressions.Op.{Op}
use Rattle.sql_meaning.specs.declared.resolved.Resolved.{Resolved}
use Rattle.sql_meaning.specs.declared.resolved.Resolved.TheVariants.{Two}
use Rattle.sql_meaning.specs.Ranges.{conjuncts, leading}
use Rattle.sql_meaning.specs.Terms.{Term, term}
use Rattle.std.specs.Prelude.{IfOk}
use Rattle.std.specs.Result.{OnOk}
use Rattle.sql_plan.specs.Ends.{low_end, high_end, all_say, raised_by, lowered_by}
use Rattle.sql_plan.proofs.Leading.{stop_says, go_says, stop_low, go_low, stop_high, go_high}
use Rattle.sql_plan.proofs.Sides.{both_sides, both_lent, if_says, on_ok}
use Rattle.sql_plan.proofs.narrowing.+narrow.Goals as goal

pub returns-then-not-branch-clause-says : goal.returns-then-not-branch-clause-says
returns-then-not-branch-clause-says t c =
    subst (λ (xs : List Term). false ≡ all_say c.args.place.now.keys xs) (sym (both_sides c.args.test.now c.get.result.now c.in-Two.left c.in-Two.right c.in-Two.op c.in-Two.is c.in-And.is c.get.ensures))
    (stop_says c.args.place.now.keys (conjuncts (term c.get.result.now)) (conjuncts (term c.in-Two.right)) (sym c.in_ok-narrow-in-And.ensures.says ∙ c.if-not-branch.true))

pub returns-then-not-branch-clause-low : goal.returns-then-not-branch-clause-low
returns-then-not-branch-clause-low t c =
    subst (λ (xs : List Term). c.narrow.new.ends.low ≡ raised_by (low_end c.args.place.now) c.args.ends.now.low (leading c.args.place.now.keys xs))
    (sym (both_sides c.args.test.now c.get.result.now c.in-Two.left c.in-Two.right c.in-Two.op c.in-Two.is c.in-And.is c.get.ensures))
    (stop_low (low_end c.args.place.now) c.args.place.now.keys (conjuncts (term c.get.result.now)) (conjuncts (term c.in-Two.right)) c.args.ends.now.low c.narrow.new.ends.low
    (sym c.in_ok-narrow-in-And.ensures.says ∙ c.if-not-branch.true) c.in_ok-narrow-in-And.ensures.low)

pub returns-then-not-branch-clause-high : goal.returns-then-not-branch-clause-high
returns-then-not-branch-clause-high t c =
    subst (λ (xs : List Term). c.narrow.new.ends.high ≡ lowered_by (high_end c.args.place.now) c.args.ends.now.high (leading c.args.place.now.keys xs))
    (sym (both_sides c.args.test.now c.get.result.now c.in-Two.left c.in-Two.right c.in-Two.op c.in-Two.is c.in-And.is c.get.ensures))
    (stop_high (high_end c.args.place.now) c.args.place.now.keys (conjuncts (term c.get.result.now)) (conjuncts (term c.in-Two.right)) c.args.ends.now.high c.narrow.new.ends.high
    (sym c.in_ok-narrow-in-And.ensures.says ∙ c.if-not-branch.true) c.in_ok-narrow-in-And.ensures.high)

pub returns-else-not-branch-clause-says : goal.returns-else-not-branch-clause-says
returns-else-not-branch-clause-says t c =
    subst (λ (xs : List Term). IfOk c.narrow-in-And.result (λ r. r ≡ all_say c.args.place.now.keys xs))
    (sym (both_lent c.args.test.now c.get.result.now c.get-in-And.result.now c.in-Two.left c.in-Two.right c.in-Two.op c.in-Two.is c.in-And.is c.get.ensures c.get-in-And.ensures))
    (if_says c.args.place.now.keys (conjuncts (term c.get.result.now)) (conjuncts (term c.get-in-And.result.now)) c.narrow-in-And.result
    (sym c.in_ok-narrow-in-And.ensures.says ∙ c.if-not-branch.false) c.narrow-in-And.ensures.says)

pub returns-else-not-branch-clause-low : goal.returns-else-not-branch-clause-low
returns-else-not-branch-clause-low t c =
    subst (λ (xs : List Term). OnOk c.narrow-in-And.result (c.narrow-in-And.new.ends.low ≡ raised_by (low_end c.args.place.now) c.args.ends.now.low (leading c.args.place.now.keys xs)))
    (sym (both_lent c.args.test.now c.get.result.now c.get-in-And.result.now c.in-Two.left c.in-Two.right c.in-Two.op c.in-Two.is c.in-And.is c.get.ensures c.get-in-And.ensures))
    (on_ok c.narrow-in-And.result (go_low (low_end c.args.place.now) c.args.place.now.keys (conjuncts (term c.get.result.now)) (conjuncts (term c.get-in-And.result.now))
    c.args.ends.now.low c.narrow.new.ends.low c.narrow-in-And.new.ends.low
    (sym c.in_ok-narrow-in-And.ensures.says ∙ c.if-not-branch.false) c.in_ok-narrow-in-And.ensures.low) c.narrow-in-And.ensures.low)

pub returns-else-not-branch-clause-high : goal.returns-else-not-branch-clause-high
returns-else-not-branch-clause-high t c =
    subst (λ (xs : List Term). OnOk c.narrow-in-And.result (c.narrow-in-And.new.ends.high ≡ lowered_by (high_end c.args.place.now) c.args.ends.now.high (leading c.args.place.now.keys xs)))
    (sym (both_lent c.args.test.now c.get.result.now c.get-in-And.result.now c.in-Two.left c.in-Two.right c.in-Two.op c.in-Two.is c.in-And.is c.get.ensures c.get-in-And.ensures))
    (on_ok c.narrow-in-And.result (go_high (high_end c.args.place.now) c.args.place.now.keys (conjuncts (term c.get.result.now)) (conjuncts (term c.get-in-And.result.now))
    c.args.ends.now.high c.narrow.new.ends.high c.narrow-in-And.new.ends.high
    (sym c.in_ok-narrow-in-And.ensures.says ∙ c.if-not-branch.false) c.in_ok-narrow-in-And.ensures.high) c.narrow-in-And.ensures.high)
