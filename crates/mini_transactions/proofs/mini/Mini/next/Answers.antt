use Rattle.std.proofs.Common.{◌≡◌, true, Some, sym, subst}
use Rattle.mini_transactions.specs.declared.page_work.PageWork.{PageWork}
use Rattle.mini_transactions.specs.Work.{next_of}
use Rattle.mini_transactions.specs.Progress.{Progress, is_installed}
use Rattle.mini_transactions.specs.Told.{AllInstall, AllEnded}
use Rattle.mini_transactions.proofs.Ending.{all_install, all_ended, installed_at}
use Rattle.mini_transactions.proofs.mini.Mini.next.Goals as goal

pub returns-in-Some-clause-installs : goal.returns-in-Some-clause-installs
returns-in-Some-clause-installs c =
    let m : Progress = record { plan = c.self.inside.plan; lsn = c.self.inside.lsn; works = c.self.inside.works.items } in
    let t : PageWork = c.in-Some.work.now in
    let is : next_of m.works ≡ Some t = cc in
    λ e. subst (λ old. AllInstall old) c.self.view_is (all_install m c.self.invariant t is (c.act.ensures.installs e))

pub returns-in-Some-clause-ends : goal.returns-in-Some-clause-ends
returns-in-Some-clause-ends c =
    let m : Progress = record { plan = c.self.inside.plan; lsn = c.self.inside.lsn; works = c.self.inside.works.items } in
    let t : PageWork = c.in-Some.work.now in
    let is : next_of m.works ≡ Some t = cc in
    λ i e.
    let here : is_installed m ≡ true = subst (λ old. is_installed old ≡ true) (sym c.self.view_is) i in
    subst (λ old. AllEnded old) c.self.view_is (all_ended m c.self.invariant t is (c.act.ensures.ends (installed_at m t is here) e))
