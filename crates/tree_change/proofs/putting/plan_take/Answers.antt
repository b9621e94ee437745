use Rattle.std.proofs.Common.{◌≡◌, ℕ, List, true, false, sym, subst, ◌∙◌}
use Rattle.tree_change.specs.Places.{HasKey, leaf_on}
use Rattle.tree_change.specs.Pages.{HasRows}
use Rattle.tree_change.proofs.WayLaws.{leaf_rows}
use Rattle.tree_change.proofs.ChangeLaws.{absent_stays}
use Rattle.tree_change.proofs.putting.plan_take.Goals as goal

pub has_key-requires : goal.has_key-requires
has_key-requires c = subst HasRows (sym c.leaf_of.ensures) (leaf_rows c.args.item.now.key c.args.path.now c.requires)

pub returns-then-not-has_key-clause-absent : goal.returns-then-not-has_key-clause-absent
returns-then-not-has_key-clause-absent c =
    let absent : ¬ HasKey c.args.item.now.key (leaf_on c.args.path.now) =
    λ there. (let found : false ≡ true = sym c.if-not-has_key.true ∙ c.has_key.ensures.1 (subst (λ (k : List ℕ). HasKey k c.leaf_of.result.now) (sym c.as_slice.ensures)
    (subst (HasKey c.args.item.now.key) (sym c.leaf_of.ensures) there)) in cc) in
    λ _ w. absent_stays c.args.item.now.key c.args.path.now (leaf_rows c.args.item.now.key c.args.path.now c.requires) absent w
