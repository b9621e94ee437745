use Rattle.std.proofs.Common.{◌≡◌, List, Some, None, sym, subst}
use Rattle.coherent_pool.specs.declared.works.FetchWork.{FetchWork}
use Rattle.coherent_pool.specs.Works.{work_at, SetsWork}
use Rattle.coherent_pool.proofs.Fetches.{sets_more}
use Rattle.coherent_pool.proofs.works.Works.begin.Goals as goal

pub returns-clause-ok : goal.returns-clause-ok
returns-clause-ok c =
    let ws = c.self.inside.items.items in
    let w = c.args.work in
    let none : work_at ws w.step.page ≡ None = subst (λ (xs : List FetchWork). work_at xs w.step.page ≡ None) (sym c.self.view_is) c.requires in
    let sets : SetsWork w.step.page (Some w) ws c.push.new.self.items = subst (λ (xs : List FetchWork). SetsWork w.step.page (Some w) ws xs) (sym c.in_ok-push.ensures.items) (sets_more ws w none) in
    subst (λ (xs : List FetchWork). SetsWork w.step.page (Some w) xs c.push.new.self.items) c.self.view_is sets
