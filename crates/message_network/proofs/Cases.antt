-- For the proofs: the two lists of events, each step by computation.
use Rattle.std.proofs.Common.{ℕ, ◌<◌, arith, refl}
use Rattle.call_model.specs.Servers.{fenced}
use Rattle.call_model.specs.Stages.{Effect.EndsAll}
use Rattle.call_model.specs.Network.{with_server}
use Rattle.message_network.specs.declared.calls.Ask.TheVariants.{Register}
use Rattle.message_network.specs.declared.calls.Reply.TheVariants.{PoolFull, Fenced}
use Rattle.message_network.specs.declared.messages.Party.TheVariants.{Home}
use Rattle.message_network.specs.declared.messages.Draft.{Draft}
use Rattle.call_model.specs.Callers.{asking}
use Rattle.message_network.specs.Service.{Service, new_service, network_of, asking_draft, answering_draft, sending, with_call, with_handling, with_answer, turned}
use Rattle.message_network.specs.Samples.{RepeatedIsHandledOnce, LateIsRefused}

abbrev asked : Service
asked = with_call Home new_service 3 (Register 7)

abbrev sent : Draft
sent = asking_draft Home 3 (asking (new_service.caller 3)) (Register 7)

abbrev answer : Draft
answer = answering_draft Home sent (PoolFull 8)

abbrev handled : Service
handled = with_handling Home asked sent (Register 7) (PoolFull 8)

abbrev again : Service
again = sending handled answer

abbrev told : Service
told = with_answer again 3

pub repeated_is_handled_once : RepeatedIsHandledOnce
repeated_is_handled_once = (
  told,
  (
    asked,
    (refl, refl, refl),
    (
      handled,
      (sent, refl, (PoolFull 8, tt, refl)),
      (
        again,
        (sent, refl, (PoolFull 8, refl, refl)),
        (
          told,
          (answer, refl, refl),
          (
            told,
            (answer, refl, refl),
            refl,
          ),
        ),
      ),
    ),
  ),
  refl,
  refl,
)

abbrev after_fence : Service
after_fence = turned asked (with_server (network_of Home asked) (fenced asked.server 2))

abbrev refusal : Draft
refusal = answering_draft Home sent (Fenced 2)

abbrev refused : Service
refused = sending after_fence refusal

pub late_is_refused : LateIsRefused
late_is_refused = (
  with_answer refused 3,
  (
    asked,
    (refl, refl, refl),
    (
      after_fence,
      (tt, (with_server (network_of Home asked) (fenced asked.server 2), EndsAll, (refl, (omega arith, λ n. lower n), refl, refl), refl)),
      (
        refused,
        (sent, refl, refl),
        (
          with_answer refused 3,
          (refusal, refl, refl),
          refl,
        ),
      ),
    ),
  ),
  refl,
  refl,
)
  where
    lower : (n : ℕ) → (asked.caller n).epoch < 2
    lower n = grind arith
