-- Stated: the acts of a plain pool.
use Rattle.std.specs.Prelude.{Option, Some, None}
use Rattle.fetch_steps.specs.declared.acts.Action.{Action}
use Rattle.fetch_steps.specs.declared.acts.Action.TheVariants as action
use Rattle.plain_pool.specs.declared.work.PlainAct.{PlainAct}
use Rattle.plain_pool.specs.declared.work.PlainAct.TheVariants as act

abbrev pub plain_act : Action → Option PlainAct
plain_act (action.Look page) = Some (act.Look page)
plain_act action.Install = Some act.Install
plain_act action.Append = Some act.Append
plain_act (action.Release page) = Some act.Release
plain_act _ = None
