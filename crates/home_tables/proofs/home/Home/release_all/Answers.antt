use Rattle.std.proofs.Common.{◌≡◌, length, nat_eq, subst, arith}
use Rattle.std.specs.List.{IsDistinct}
use Rattle.home_tables.specs.Losing.{kept_from}
use Rattle.home_tables.specs.Home.{HomeState}
use Rattle.home_tables.specs.Places.{pages_in}
use Rattle.home_tables.proofs.Losing.{kick_none}
use Rattle.home_tables.proofs.Passing.{become_more, become_all}
use Rattle.home_tables.proofs.home.Home.release_all.Goals as goal

pub loop-place-preserved : goal.loop-place-preserved
loop-place-preserved c =
    let apart : IsDistinct nat_eq (pages_in c.args.self.now) = subst (λ (H : HomeState). IsDistinct nat_eq (pages_in H)) c.self.view_is c.len-count.ensures.unique in
    become_more c.args.self.now c.loop-place.self c.kick_at.new.self (kept_from c.args.node) c.loop-place.place c.page_at-page.result apart c.loop-place.invariant c.page_at-page.ensures c.kick_at.ensures.entry c.kick_at.ensures.pages

pub returns : goal.returns
returns c =
    let count : c.len-count.result ≡ length c.args.self.now.entries = subst (λ (H : HomeState). c.len-count.result ≡ length H.entries) c.self.view_is c.len-count.ensures.len in
    become_all c.args.self.now c.loop-place.self (kept_from c.args.node) c.loop-place.place (kick_none c.args.node) (omega (arith, count)) c.loop-place.invariant
