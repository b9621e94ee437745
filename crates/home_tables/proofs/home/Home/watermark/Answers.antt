use Rattle.std.proofs.Common.{◌≡◌, None, subst}
use Rattle.home_tables.specs.Home.{HomeState, kept}
use Rattle.home_tables.proofs.home.Home.watermark.Goals as goal

pub returns-clause-pages : goal.returns-clause-pages
returns-clause-pages c = λ p far. subst (λ (H : HomeState). kept H p ≡ None) c.self.view_is (c.self.invariant.few p far)
