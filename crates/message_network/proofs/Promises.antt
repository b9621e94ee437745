-- For the proofs: at most once, from the model of calls.
use Rattle.std.proofs.Common.{◌≡◌, Some, List, [], ◌∷◌, length, refl, sym, ◌∙◌, ap, subst, Contains, inl, inr}
use Rattle.std.proofs.lemmas.Option.{slice_get_read}
use Rattle.call_model.specs.Callers.{Label}
use Rattle.call_model.specs.Stages.{Effect.Nothing}
use Rattle.call_model.specs.Network.{Network, new_network, Event as SeenEvent, Run as CallsRun}
use Rattle.call_model.specs.Laws.{stage_of}
use Rattle.call_model.proofs.Laws.{handled_once, answers_are_kept, handled_were_asked, refused_are_older, events_are_call_steps}
use Rattle.message_network.specs.declared.calls.Ask.{Ask}
use Rattle.message_network.specs.declared.calls.Reply.{Reply}
use Rattle.message_network.specs.declared.calls.Reply.TheVariants.{Registered, PoolFull, Unregistered, Started, Done, Appended, Got, Fenced}
use Rattle.message_network.specs.declared.messages.Party.{Party}
use Rattle.message_network.specs.Labels.{label_of, answer_of, seen_body, message_of, messages_of}
use Rattle.message_network.specs.Service.{Service, new_service, network_of, Event, Run}
use Rattle.message_network.specs.Runs.{AreRunsOfCalls, AreCallSteps, HandledOnce, HandledWereAsked, IsRight, RepliesAreRight}
use Rattle.message_network.proofs.Sending.{sent_in}
use Rattle.message_network.proofs.Kept.{Sound, sound-new, stays_sound}
use Rattle.message_network.proofs.Simulation.{follows, when}

sound_along : (s : Party) (S : Service) (events : List Event) (T : Service) → Sound s S → Run s S events T → Sound s T
sound_along s S [] T sound h = subst (Sound s) (sym h) sound
sound_along s S (e ∷ es) T sound h = sound_along s h.0 es T (stays_sound s S h.0 e h.1 sound) h.2

seen_along : (s : Party) (S : Service) (events : List Event) (T : Service) → Sound s S → Run s S events T
    → (seen : List (SeenEvent Ask Reply)) × CallsRun (network_of s S) seen (network_of s T)
seen_along s S [] T sound h = ([], ap (network_of s) h)
seen_along s S (e ∷ es) T sound h =
    let rest = seen_along s h.0 es T (stays_sound s S h.0 e h.1 sound) h.2 in
    elim (follows s S h.0 e sound h.1) [
      | inl same ↦ (rest.0, subst (λ (N : Network Ask Reply). CallsRun N rest.0 (network_of s T)) same rest.1)
      | inr g ↦ (g.0 ∷ rest.0, (network_of s h.0, g.1, g.2, rest.1))
    ]

pub are_runs_of_calls : AreRunsOfCalls
are_runs_of_calls s events S h = seen_along s new_service events S (sound-new s) h

pub are_call_steps : AreCallSteps
are_call_steps s events S T e h d =
    let run = are_runs_of_calls s events S h in
    elim (follows s S T e (sound_along s new_service events S (sound-new s) h) d) [
      | inl same ↦ (Nothing, λ m. ap (λ (N : Network Ask Reply). stage_of N m) same)
      | inr g ↦ (g.1, events_are_call_steps run.0 (network_of s S) (network_of s T) g.0 g.1 run.1 g.2)
    ]

pub each_handled_once : HandledOnce
each_handled_once s events S h = let run = are_runs_of_calls s events S h in handled_once run.0 (network_of s S) run.1

pub each_was_asked : HandledWereAsked
each_was_asked s events S h = let run = are_runs_of_calls s events S h in handled_were_asked run.0 (network_of s S) run.1

right : (s : Party) (S : Service) (seen : List (SeenEvent Ask Reply)) → CallsRun new_network seen (network_of s S)
    → (l : Label) (r : Reply) → Contains (messages_of s S.drafts) (answer_of l r) → IsRight S l r
right s S seen run l (Registered a b f) c = answers_are_kept seen (network_of s S) run l (Registered a b f) c
right s S seen run l (PoolFull n) c = answers_are_kept seen (network_of s S) run l (PoolFull n) c
right s S seen run l Unregistered c = answers_are_kept seen (network_of s S) run l Unregistered c
right s S seen run l (Started n) c = answers_are_kept seen (network_of s S) run l (Started n) c
right s S seen run l Done c = answers_are_kept seen (network_of s S) run l Done c
right s S seen run l (Appended a) c = answers_are_kept seen (network_of s S) run l (Appended a) c
right s S seen run l (Got g) c = answers_are_kept seen (network_of s S) run l (Got g) c
right s S seen run l (Fenced e) c = refused_are_older seen (network_of s S) run l e c

pub replies_are_right : RepliesAreRight
replies_are_right s events S h d r c is from =
    let run = are_runs_of_calls s events S h in
    let m = answer_of (label_of d) r in
    let seen : message_of s d ≡ Some m = ap (seen_body s d.from d.to (label_of d)) is ∙ ap (when m) from in
    let at = slice_get_read S.drafts (length S.drafts) c.0 d refl c.1 (sym c.2) in
    right s S run.0 run.1 (label_of d) r (sent_in (message_of s) S.drafts c.0 d m at seen)
