use Rattle.std.proofs.Common.{◌≡◌, ◌+◌, ◌-◌, ℕ, length, nat_eq, refl, subst, arith}
use Rattle.std.specs.List.{IsDistinct}
use Rattle.home_tables.specs.Losing.{swept_to}
use Rattle.home_tables.specs.Home.{HomeState}
use Rattle.home_tables.specs.Places.{pages_in}
use Rattle.home_tables.proofs.Passing.{BecomeFrom, from_end, not_passed, one_less}
use Rattle.home_tables.proofs.home.Home.sweep.Goals as goal

pub loop-place-init : goal.loop-place-init
loop-place-init c =
    let count : c.len-count.result ≡ length c.args.self.now.entries = subst (λ (H : HomeState). c.len-count.result ≡ length H.entries) c.self.view_is c.len-count.ensures.len in
    from_end c.args.self.now (swept_to c.args.tail) c.len-count.result refl (omega (arith, count))

pub page_at-page-requires : goal.page_at-page-requires
page_at-page-requires c =
    let count : c.len-count.result ≡ length c.args.self.now.entries = subst (λ (H : HomeState). c.len-count.result ≡ length H.entries) c.self.view_is c.len-count.ensures.len in
    not_passed c.args.self.now c.loop-place.self (swept_to c.args.tail) c.loop-place.place (c.loop-place.place - 1) c.loop-place.invariant (omega (arith, count, c.loop-place.auto.place)) (omega (arith, c.loop-place-test.true))

pub loop-place-preserved : goal.loop-place-preserved
loop-place-preserved c =
    let apart : IsDistinct nat_eq (pages_in c.args.self.now) = subst (λ (H : HomeState). IsDistinct nat_eq (pages_in H)) c.self.view_is c.len-count.ensures.unique in
    let i : ℕ = c.loop-place.place - 1 in
    let next : c.loop-place.place ≡ i + 1 = omega (arith, c.loop-place-test.true) in
    let old : BecomeFrom c.args.self.now c.loop-place.self (swept_to c.args.tail) (i + 1) = subst (λ (n : ℕ). BecomeFrom c.args.self.now c.loop-place.self (swept_to c.args.tail) n) next c.loop-place.invariant in
    one_less c.args.self.now c.loop-place.self c.sweep_at.new.self (swept_to c.args.tail) i c.page_at-page.result apart old c.page_at-page.ensures c.sweep_at.ensures.entry c.sweep_at.ensures.pages
