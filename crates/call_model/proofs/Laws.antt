-- For the proofs: the laws, from what holds in every state.
use Rattle.std.proofs.Common.{List}
use Rattle.call_model.specs.Network.{Message.refusal, Network, new_network, Event}
use Rattle.call_model.specs.Laws.{Reaches, HandledOnce, AnswersAreKept, HandledWereAsked, LabelsAreOfOneCall, RefusedAreOlder, EventsAreCallSteps}
use Rattle.call_model.proofs.Steps.{Delivered, delivered-new, happens, reached}

module _ {Q R : Type 0} where
  holds : (events : List (Event Q R)) (N : Network Q R) → Reaches events N → Delivered N
  holds events N r = reached new_network N events delivered-new r

  pub handled_once : HandledOnce Q R
  handled_once events N r = (holds events N r).past.rising

  pub answers_are_kept : AnswersAreKept Q R
  answers_are_kept events N r = (holds events N r).past.answers

  pub handled_were_asked : HandledWereAsked Q R
  handled_were_asked events N r = (holds events N r).past.asked

  pub labels_are_of_one_call : LabelsAreOfOneCall Q R
  labels_are_of_one_call events N r = (holds events N r).past.labels

  pub refused_are_older : RefusedAreOlder Q R
  refused_are_older events N r l e c = (holds events N r).once.sound (refusal l e) c

  pub events_are_call_steps : EventsAreCallSteps Q R
  events_are_call_steps events N M e f r h = (happens e N M f (holds events N r) h).1
