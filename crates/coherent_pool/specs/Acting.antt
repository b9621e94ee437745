-- For the proofs: the act of a fetch of a node.
use Rattle.std.specs.Prelude.{◌≡◌}
use Rattle.node_model.specs.Call.{Call.Quiet}
use Rattle.std.specs.Prelude.{Some}
use Rattle.fetch_steps.specs.declared.acts.Action.{Action}
use Rattle.fetch_steps.specs.Fetch.{HasImage}
use Rattle.fetch_steps.specs.Acts.{act_of}
use Rattle.coherent_pool.specs.declared.works.FetchWork.{FetchWork}
use Rattle.coherent_pool.specs.declared.works.Stage.TheVariants.{Fetching}
use Rattle.coherent_pool.specs.Node.{image_of, step_in}

abbrev pub act_of_work : FetchWork → Action
act_of_work w = act_of w.step.page w.step.address (step_in (Some w) Quiet)

-- the image that storage gave is the one whose LSN the home is told
abbrev pub HasOwnImage : FetchWork → Type 0
HasOwnImage w = w.stage ≡ Fetching → HasImage w.step (image_of w)
