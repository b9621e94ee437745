use Rattle.std.proofs.Common.{length, List, sym, subst}
use Rattle.std.specs.List.{refill}
use Rattle.mini_transactions.specs.declared.page_work.PageWork.{PageWork}
use Rattle.mini_transactions.specs.Progress.{Progress}
use Rattle.mini_transactions.specs.Together.{IsProgress, Turns}
use Rattle.mini_transactions.specs.Told.{Tells}
use Rattle.mini_transactions.proofs.InTurn.{refill_all}
use Rattle.mini_transactions.proofs.Joint.{progress_told}
use Rattle.mini_transactions.proofs.WholePlan.{plan_told}
use Rattle.mini_transactions.proofs.mini.Mini.told.Goals as goal

pub invariant_of-self : goal.invariant_of-self
invariant_of-self c =
    let told = c.args.told.now in
    let before : List PageWork = c.self.inside.works.items in
    let now : List PageWork = c.tell_next.new.works in
    let m : Progress = record { plan = c.self.inside.plan; lsn = c.self.inside.lsn; works = before } in
    let t : Turns told before now = subst (λ ws. Turns told ws now) c.as_mut_slice.ensures.value c.tell_next.ensures in
    subst (λ ws. IsProgress (record m { works = ws })) (sym (refill_all before now t.long)) (progress_told m c.self.invariant told now t)

pub returns : goal.returns
returns c =
    let told = c.args.told.now in
    let before : List PageWork = c.self.inside.works.items in
    let now : List PageWork = c.tell_next.new.works in
    let m : Progress = record { plan = c.self.inside.plan; lsn = c.self.inside.lsn; works = before } in
    let t : Turns told before now = subst (λ ws. Turns told ws now) c.as_mut_slice.ensures.value c.tell_next.ensures in
    let all : Tells m told (record m { works = now }) = plan_told m c.self.invariant told now t in
    let later : Progress = record m { works = refill (length before) before now } in
    subst (λ old. Tells old told later) c.self.view_is (subst (λ ws. Tells m told (record m { works = ws })) (sym (refill_all before now t.long)) all)
