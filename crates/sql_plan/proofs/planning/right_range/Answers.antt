use Rattle.std.proofs.Common.{◌≡◌, ℕ, ◌+◌, Some, ◌∙◌, ap}
use Rattle.sql_meaning.specs.Ranges as spec
use Rattle.sql_meaning.specs.Ranges.{KeyPlaces}
use Rattle.sql_plan.specs.Ends.{action_range}
use Rattle.sql_plan.proofs.Statements.{same}
use Rattle.sql_plan.proofs.planning.right_range.Goals as goal

pub returns : goal.returns
returns c =
    same c.range_of.result (action_range c.of-keys.result (c.width_of.result + c.key_place.result) (Some c.args.row.now) c.args.action.now)
    (action_range (spec.key_places c.args.schemas.now c.args.left.now (Some c.args.right.now))
    (spec.width_of c.args.schemas.now c.args.left.now + spec.key_place c.args.schemas.now c.args.right.now) (Some c.args.row.now) c.args.action.now)
    (ap (λ (ks : KeyPlaces). action_range ks (c.width_of.result + c.key_place.result) (Some c.args.row.now) c.args.action.now) c.of-keys.ensures
    ∙ (ap (λ (w : ℕ). action_range (spec.key_places c.args.schemas.now c.args.left.now (Some c.args.right.now)) (w + c.key_place.result) (Some c.args.row.now) c.args.action.now) c.width_of.ensures.width
    ∙ ap (λ (k : ℕ). action_range (spec.key_places c.args.schemas.now c.args.left.now (Some c.args.right.now)) (spec.width_of c.args.schemas.now c.args.left.now + k) (Some c.args.row.now) c.args.action.now) c.key_place.ensures.place))
    c.range_of.ensures
