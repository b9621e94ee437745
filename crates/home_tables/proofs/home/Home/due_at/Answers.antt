use Rattle.std.proofs.Common.{◌≡◌, ◌<◌, ◌∙◌, ℕ, Some, subst, sym, arith}
use Rattle.home_tables.specs.Home.{HomeState, home_of}
use Rattle.home_tables.specs.Order.{due_at}
use Rattle.home_tables.specs.Pairs.{IsFirst}
use Rattle.home_tables.proofs.Order.{first_due}
use Rattle.home_tables.proofs.home.Home.due_at.Goals as goal

pub returns : goal.returns
returns c =
    let n : ℕ = c.from-set.result in
    let x : ℕ = c.in_ok-x.x in
    let es = c.self.inside.entries.entries in
    let same : n ≡ c.args.node = c.from-set.ensures ∙ c.number.ensures.value in
    let bound = c.number.ensures.bound in
    let small : n < 16 = omega arith in
    let first = first_due es c.self.inside.idle c.self.inside.due n x c.self.invariant small c.in_ok-x.ensures.least in
    let at_page : IsFirst (due_at (home_of es c.self.inside.watermark) n) (Some (c.page_of-page.result, n)) = subst (λ (q : ℕ). IsFirst (due_at (home_of es c.self.inside.watermark) n) (Some (q, n))) (sym c.page_of-page.ensures) first in
    let at_node : IsFirst (due_at (home_of es c.self.inside.watermark) c.args.node) (Some (c.page_of-page.result, c.args.node)) = subst (λ (k : ℕ). IsFirst (due_at (home_of es c.self.inside.watermark) k) (Some (c.page_of-page.result, k))) same at_page in
    subst (λ (H : HomeState). IsFirst (due_at H c.args.node) (Some (c.page_of-page.result, c.args.node))) c.self.view_is at_node
