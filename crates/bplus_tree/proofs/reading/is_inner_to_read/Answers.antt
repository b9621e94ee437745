use Rattle.std.proofs.Common.{◌≡◌, true, false}
use Rattle.bplus_tree.proofs.Readable.{inner_spells}
use Rattle.bplus_tree.proofs.reading.is_inner_to_read.Goals as goal

nothing : {A : Type 0} → false ≡ true → A
nothing e = absurd (apart e)
  where
    apart : false ≡ true → ⊥
    apart q = cc

pub returns-then-not-spells_inners : goal.returns-then-not-spells_inners
returns-then-not-spells_inners c =
    (λ t. nothing t, λ inner. let spelled : c.spells_inners.result ≡ true = c.spells_inners.ensures.1 (inner_spells c.args.page.now inner) in cc)
