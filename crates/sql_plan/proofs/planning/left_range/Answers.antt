use Rattle.std.proofs.Common.{◌≡◌, ℕ, None, ◌∙◌, ap}
use Rattle.std.specs.Prelude.{option_map}
use Rattle.sql_meaning.specs.Ranges as spec
use Rattle.sql_meaning.specs.Ranges.{KeyPlaces}
use Rattle.sql_plan.specs.Ends.{action_range}
use Rattle.sql_plan.proofs.Statements.{same}
use Rattle.sql_plan.proofs.planning.left_range.Goals as goal

pub returns : goal.returns
returns c =
    same c.range_of.result (action_range c.of-keys.result c.key_place-key.result None c.args.action.now)
    (action_range (spec.key_places c.args.schemas.now c.args.left.now (option_map (λ t. t.now) c.args.right)) (spec.key_place c.args.schemas.now c.args.left.now) None c.args.action.now)
    (ap (λ (ks : KeyPlaces). action_range ks c.key_place-key.result None c.args.action.now) c.of-keys.ensures
    ∙ ap (λ (k : ℕ). action_range (spec.key_places c.args.schemas.now c.args.left.now (option_map (λ t. t.now) c.args.right)) k None c.args.action.now) c.key_place-key.ensures.place)
    c.range_of.ensures
