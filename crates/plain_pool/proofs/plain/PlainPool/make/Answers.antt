use Rattle.std.proofs.Common.{◌≡◌, ℕ, Some, sym, ◌∙◌, ap, subst, sum_by}
use Rattle.fetch_steps.specs.declared.acts.Action.{Action}
use Rattle.fetch_steps.specs.declared.acts.Action.TheVariants as action
use Rattle.page_pool.specs.declared.events.How.TheVariants as how
use Rattle.page_pool.specs.declared.events.PoolEvent.TheVariants.{Act}
use Rattle.page_pool.specs.declared.answers.Outcome.TheVariants.{Went, Installed, Kept}
use Rattle.page_pool.specs.declared.answers.PoolAnswer.TheVariants.{Did}
use Rattle.page_pool.specs.State.{MayAct, bytes_of}
use Rattle.page_pool.specs.Steps.{Steps}
use Rattle.page_store.specs.Stored.{groups_of}
use Rattle.plain_pool.specs.declared.work.PlainAct.{PlainAct}
use Rattle.plain_pool.specs.Acts.{plain_act}
use Rattle.plain_pool.specs.Plain.{Plain, kept, installed, released}
use Rattle.plain_pool.specs.Seen.{state_of}
use Rattle.plain_pool.proofs.Moving.{install_act, install_made, append_made, release_made, may_plain}
use Rattle.plain_pool.proofs.plain.PlainPool.make.Goals as goal

pub unreachable-requires : goal.unreachable-requires
unreachable-requires c = may_plain c.args.self.now c.args.action.now c.requires.may (sym c.plain_act.ensures ∙ c.in_default.is)

pub install-requires : goal.install-requires
install-requires c =
    install_act c.args.self.now c.args.action.now (sym c.plain_act.ensures ∙ c.in-Some.is ∙ ap (λ (x : PlainAct). Some x) c.in-Install.is) c.requires.may

pub returns-in_ok-end-in-Install-clause-steps : goal.returns-in_ok-end-in-Install-clause-steps
returns-in_ok-end-in-Install-clause-steps c =
    install_made c.args.self.now c.install.new.self c.args.action.now c.in_ok-end-in-Install.end
    (sym c.plain_act.ensures ∙ c.in-Some.is ∙ ap (λ (x : PlainAct). Some x) c.in-Install.is) c.requires.may c.in_ok-end-in-Install.ensures.ok c.in_ok-end-in-Install.ensures.end

pub returns-in-Append-clause-steps : goal.returns-in-Append-clause-steps
returns-in-Append-clause-steps c =
    append_made c.args.self.now c.append-tail.new.self c.args.action.now c.append-tail.result
    (sym c.plain_act.ensures ∙ c.in-Some.is ∙ ap (λ (x : PlainAct). Some x) c.in-Append.is) c.requires.may c.append-tail.ensures.kept c.append-tail.ensures.end

pub returns-in-Release-clause-steps : goal.returns-in-Release-clause-steps
returns-in-Release-clause-steps c =
    release_made c.args.self.now c.release.new.self c.args.action.now
    (sym c.plain_act.ensures ∙ c.in-Some.is ∙ ap (λ (x : PlainAct). Some x) c.in-Release.is) c.release.ensures
