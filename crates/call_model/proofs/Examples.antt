-- For the proofs: the examples, each step by computation.
use Rattle.std.proofs.Common.{ℕ, ◌≤◌, false, arith, refl, inl, inr}
use Rattle.call_model.specs.Servers.{fenced}
use Rattle.call_model.specs.Stages.{Effect.Nothing, Effect.Asks, Effect.Handles, Effect.Accepts, Effect.Ends, Effect.EndsAll}
use Rattle.call_model.specs.Network.{Message.answer, Message.refusal, Network, new_network, with_ask, with_message, with_handling, with_answer, with_up, kicked, rejoined, with_server}
use Rattle.call_model.specs.Examples.{of_three, RepeatedIsHandledOnce, OrphanedIsHandledOnce, RefusedIsNotHandled}

-- node 3 has asked, and its call was handled
abbrev asked : Network ℕ ℕ
asked = with_ask new_network 3 70

abbrev handled : Network ℕ ℕ
handled = with_handling asked (of_three 1 1 1) 70 9

abbrev again : Network ℕ ℕ
again = with_message handled (answer (of_three 1 1 1) 9)

pub repeated_is_handled_once : RepeatedIsHandledOnce
repeated_is_handled_once = (
  with_answer again 3,
  (
    asked,
    Asks 3 70,
    (refl, refl, inl (refl, refl), refl),
    (
      handled,
      Handles 3 70 9,
      ((0, omega arith, refl), inr (refl, (9, refl, refl))),
      (
        again,
        Nothing,
        ((1, omega arith, refl), inr (refl, (9, refl, refl, refl))),
        (
          with_answer again 3,
          Accepts 3 70 9,
          ((0, omega arith, refl), inr (inl ((refl, refl), refl, (70, refl, refl), refl))),
          (
            with_answer again 3,
            Nothing,
            ((0, omega arith, refl), inl (inr refl, refl, refl)),
            refl,
          ),
        ),
      ),
    ),
  ),
  refl,
  refl,
)

abbrev down : Network ℕ ℕ
down = with_up asked 3 false

abbrev orphan : Network ℕ ℕ
orphan = with_handling down (of_three 1 1 1) 70 9

abbrev back : Network ℕ ℕ
back = rejoined (kicked orphan 3) 3 1

abbrev asked_again : Network ℕ ℕ
asked_again = with_ask back 3 71

abbrev handled_again : Network ℕ ℕ
handled_again = with_handling asked_again (of_three 2 1 2) 71 8

pub orphaned_is_handled_once : OrphanedIsHandledOnce
orphaned_is_handled_once = (
  with_answer handled_again 3,
  (
    asked,
    Asks 3 70,
    (refl, refl, inl (refl, refl), refl),
    (
      down,
      Nothing,
      (refl, refl, refl),
      (
        orphan,
        Handles 3 70 9,
        ((0, omega arith, refl), inr (refl, (9, refl, refl))),
        (
          kicked orphan 3,
          Ends 3,
          (refl, refl, omega arith, refl, refl),
          (
            kicked orphan 3,
            Nothing,
            ((1, omega arith, refl), inr (refl, (refl, refl))),
            (
              back,
              Nothing,
              (refl, inl (omega arith), (omega arith, omega arith), refl, refl),
              (
                back,
                Nothing,
                ((0, omega arith, refl), inl (inr refl, refl, refl)),
                (
                  asked_again,
                  Asks 3 71,
                  (refl, refl, inl (refl, refl), refl),
                  (
                    handled_again,
                    Handles 3 71 8,
                    ((0, omega arith, refl), inr (refl, (8, refl, refl))),
                    (
                      with_answer handled_again 3,
                      Accepts 3 71 8,
                      ((0, omega arith, refl), inr (inl ((refl, refl), refl, (71, refl, refl), refl))),
                      refl,
                    ),
                  ),
                ),
              ),
            ),
          ),
        ),
      ),
    ),
  ),
  refl,
  refl,
)

abbrev past : Network ℕ ℕ
past = with_server asked (fenced asked.server 2)

abbrev told : Network ℕ ℕ
told = with_message past (refusal (of_three 1 1 1) 2)

older : (n : ℕ) → (asked.caller n).epoch ≤ 1
older n = grind arith

pub refused_is_not_handled : RefusedIsNotHandled
refused_is_not_handled = (
  rejoined (with_answer told 3) 3 2,
  (
    asked,
    Asks 3 70,
    (refl, refl, inl (refl, refl), refl),
    (
      past,
      EndsAll,
      (refl, (omega arith, λ n. let a = older n in omega (arith, a)), refl, refl),
      (
        told,
        Nothing,
        ((0, omega arith, refl), inr (refl, (refl, refl))),
        (
          with_answer told 3,
          Nothing,
          ((0, omega arith, refl), inr ((refl, refl), refl, refl)),
          (
            rejoined (with_answer told 3) 3 2,
            Nothing,
            (refl, omega arith, (omega arith, omega arith), refl, refl),
            refl,
          ),
        ),
      ),
    ),
  ),
  refl,
  refl,
)
