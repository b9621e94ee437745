use Rattle.std.proofs.Common.{◌≡◌, length, List, sym, subst, ap, ◌∙◌}
use Rattle.std.specs.List.{refill}
use Rattle.mini_transactions.specs.declared.page_work.PageWork.{PageWork}
use Rattle.mini_transactions.specs.Progress.{Progress}
use Rattle.mini_transactions.specs.Together.{IsProgress, AllQuit}
use Rattle.mini_transactions.specs.Told.{GivesUp}
use Rattle.mini_transactions.proofs.InTurn.{refill_all}
use Rattle.mini_transactions.proofs.Ending.{progress_quit, plan_quit}
use Rattle.mini_transactions.proofs.mini.Mini.give_up.Goals as goal

pub invariant_of-self : goal.invariant_of-self
invariant_of-self c =
    let before : List PageWork = c.self.inside.works.items in
    let now : List PageWork = c.quit.new.works in
    let m : Progress = record { plan = c.self.inside.plan; lsn = c.self.inside.lsn; works = before } in
    let long : length now ≡ length before = c.quit.ensures.length ∙ ap (λ (ws : List PageWork). length ws) c.as_mut_slice.ensures.value in
    let each : AllQuit before now = subst (λ ws. AllQuit ws now) c.as_mut_slice.ensures.value c.quit.ensures.each in
    subst (λ ws. IsProgress (record m { works = ws })) (sym (refill_all before now long)) (progress_quit m c.self.invariant now long each)

pub returns : goal.returns
returns c =
    let before : List PageWork = c.self.inside.works.items in
    let now : List PageWork = c.quit.new.works in
    let m : Progress = record { plan = c.self.inside.plan; lsn = c.self.inside.lsn; works = before } in
    let long : length now ≡ length before = c.quit.ensures.length ∙ ap (λ (ws : List PageWork). length ws) c.as_mut_slice.ensures.value in
    let each : AllQuit before now = subst (λ ws. AllQuit ws now) c.as_mut_slice.ensures.value c.quit.ensures.each in
    let all : GivesUp m (record m { works = now }) = plan_quit m now long each in
    let later : Progress = record m { works = refill (length before) before now } in
    subst (λ old. GivesUp old later) c.self.view_is (subst (λ ws. GivesUp m (record m { works = ws })) (sym (refill_all before now long)) all)
