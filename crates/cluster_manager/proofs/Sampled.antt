-- The sample is a run.
use Rattle.std.proofs.Common.{[], ◌∷◌, refl, arith}
use Rattle.cluster_manager.specs.declared.steps.Step.TheVariants.{Fence, Tail, Ship, Sweep, Rejoin, Work}
use Rattle.cluster_manager.specs.Takeover.{first_manager, no_manager, after}
use Rattle.cluster_manager.specs.Order.{Run, to_sweep}
use Rattle.cluster_manager.specs.Samples.{takeover_events, takeover_steps, takeover_end}

pub takeover_runs : Run takeover_events first_manager [] takeover_end takeover_steps
takeover_runs = (
  no_manager,
  [],
  (refl, refl),
  (
    after 1 Fence,
    Fence ∷ [],
    (refl, refl, refl),
    (
      after 1 Tail,
      Tail ∷ Fence ∷ [],
      ((refl, refl), refl, refl),
      (
        after 1 Ship,
        Ship ∷ Tail ∷ Fence ∷ [],
        ((refl, refl), refl, refl),
        (
          after 1 Sweep,
          to_sweep,
          ((refl, refl), refl, refl),
          (
            after 1 (Rejoin 1),
            Rejoin 1 ∷ to_sweep,
            ((refl, (0, refl, omega arith)), refl, refl),
            (
              after 1 (Rejoin 2),
              Rejoin 2 ∷ Rejoin 1 ∷ to_sweep,
              ((refl, (2, refl, omega arith)), refl, refl),
              (
                after 1 Work,
                takeover_steps,
                ((refl, (3, refl)), refl, refl),
                (refl, refl),
              ),
            ),
          ),
        ),
      ),
    ),
  ),
)
