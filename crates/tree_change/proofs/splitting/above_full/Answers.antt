use Rattle.std.proofs.Common.{◌≡◌, ◌+◌, ◌-◌, ℕ, Some, arith, sym, subst, ◌∙◌}
use Rattle.std.proofs.lemmas.Option.{same_Some}
use Rattle.tree_change.specs.Splits.{IsFirstFull}
use Rattle.tree_change.proofs.FullLaws.{first_found}
use Rattle.tree_change.proofs.splitting.above_full.Goals as goal

pub returns : goal.returns
returns c =
    let found : c.first_full.result ≡ Some (c.requires.full.0 + 1) =
    first_found c.args.item.now c.args.path.now c.first_full.result (c.requires.full.0 + 1) c.first_full.ensures c.requires.full.1 in
    let same : c.unwrap-at.result ≡ c.requires.full.0 + 1 = same_Some c.unwrap-at.result (c.requires.full.0 + 1) (sym c.unwrap-at.ensures ∙ found) in
    let next : c.requires.full.0 + 1 ≡ c.unwrap-at.result - 1 + 1 = omega arith in
    subst (λ (n : ℕ). IsFirstFull c.args.item.now c.args.path.now n) next c.requires.full.1
