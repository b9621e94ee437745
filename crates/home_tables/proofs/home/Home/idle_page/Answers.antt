use Rattle.std.proofs.Common.{◌≡◌, ◌<◌, ◌∙◌, ℕ, Some, subst, sym, arith}
use Rattle.home_tables.specs.Home.{HomeState, home_of}
use Rattle.home_tables.specs.Order.{IsFirstIdle}
use Rattle.home_tables.proofs.Order.{first_idle}
use Rattle.home_tables.proofs.home.Home.idle_page.Goals as goal

pub returns : goal.returns
returns c =
    let n : ℕ = c.from-set.result in
    let x : ℕ = c.in_ok-x.x in
    let es = c.self.inside.entries.entries in
    let same : n ≡ c.args.slab = c.from-set.ensures ∙ c.number.ensures.value in
    let bound = c.number.ensures.bound in
    let small : n < 16 = omega arith in
    let first = first_idle es c.self.inside.idle c.self.inside.due c.self.inside.watermark n x c.self.invariant small c.in_ok-x.ensures.least in
    let at_page : IsFirstIdle (home_of es c.self.inside.watermark) n (Some c.page_of-page.result) = subst (λ (q : ℕ). IsFirstIdle (home_of es c.self.inside.watermark) n (Some q)) (sym c.page_of-page.ensures) first in
    let at_slab : IsFirstIdle (home_of es c.self.inside.watermark) c.args.slab (Some c.page_of-page.result) = subst (λ (k : ℕ). IsFirstIdle (home_of es c.self.inside.watermark) k (Some c.page_of-page.result)) same at_page in
    subst (λ (H : HomeState). IsFirstIdle H c.args.slab (Some c.page_of-page.result)) c.self.view_is at_slab
