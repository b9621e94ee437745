-- Stated: at most once, over every list of events.
use Rattle.std.specs.Prelude.{◌≡◌, ℕ, ◌<◌, ◌≤◌, Bool, true, false, Option, Some, None, List, [], ◌∷◌, nat_eq, ◌&&◌, Contains, ◌⊎◌}
use Rattle.call_model.specs.Callers.{Label, Caller}
use Rattle.call_model.specs.Stages.{Stage, Stage.Quiet, Stage.Asked, Stage.Handled, Effect, After}
use Rattle.call_model.specs.Network.{Message.ask, Message.answer, Message.refusal, Handling, Network, new_network, is_live, Event, Happens, Run}

-- g's call comes before h's: of an older incarnation, or of a smaller number in the same
abbrev pub IsBefore : Label → Label → Type 0
IsBefore g h = (g.incarnation < h.incarnation) ⊎ ((g.incarnation ≡ h.incarnation) × (g.number < h.number))

-- the calls of each node were handled in rising order, each once (the newest first)
abbrev pub AreRising : {Q R : Type 0} → List (Handling Q R) → Type 0
AreRising [] = Unit {0}
AreRising {Q = Q} {R = R} (h ∷ hs) =
    ((g : Handling Q R) → Contains hs g → g.label.node ≡ h.label.node → IsBefore g.label h.label) × AreRising hs

-- the stage of a call: by whether the node waits, whether the server would take it, and whether it was handled
abbrev pub stage : {Q R : Type 0} → Option Q → (waits live handled : Bool) → Option R → Stage Q R
stage (Some q) true true true (Some r) = Handled q r
stage (Some q) true true true None = Quiet
stage (Some q) true true false o = Asked q
stage (Some q) true false h o = Quiet
stage (Some q) false l h o = Quiet
stage None w l h o = Quiet

-- the call is the last one that the server handled
abbrev pub is_handled : Caller → (incarnation number : ℕ) → Bool
is_handled c i k = nat_eq i c.incarnation && nat_eq k c.last

abbrev pub stage_of : {Q R : Type 0} → Network Q R → ℕ → Stage Q R
stage_of N n =
    let m = N.server.memory n in
    stage (N.asked n) (N.caller n).waits (is_live N n) (is_handled (N.caller n) m.incarnation m.number) m.reply

-- a list of events leads from the new network to N
abbrev pub Reaches : {Q R : Type 0} → List (Event Q R) → Network Q R → Type 0
Reaches events N = Run new_network events N

-- each call number of a node's incarnation is handled at most once, in rising order
abbrev pub HandledOnce : (Q R : Type 0) → Type 0
HandledOnce Q R = (events : List (Event Q R)) (N : Network Q R) → Reaches events N → AreRising N.handled

-- each answer that was ever sent has the reply of the handling of its call
abbrev pub AnswersAreKept : (Q R : Type 0) → Type 0
AnswersAreKept Q R = (events : List (Event Q R)) (N : Network Q R) → Reaches events N
    → (l : Label) (r : R) → Contains N.sent (answer l r)
    → (q : Q) × Contains N.handled (record { label = l; call = q; reply = r })

-- what is handled is a call that was asked, and no label is that of two calls
abbrev pub HandledWereAsked : (Q R : Type 0) → Type 0
HandledWereAsked Q R = (events : List (Event Q R)) (N : Network Q R) → Reaches events N
    → (h : Handling Q R) → Contains N.handled h → Contains N.sent (ask h.label h.call)

abbrev pub LabelsAreOfOneCall : (Q R : Type 0) → Type 0
LabelsAreOfOneCall Q R = (events : List (Event Q R)) (N : Network Q R) → Reaches events N
    → (l : Label) (p q : Q) → Contains N.sent (ask l p) → Contains N.sent (ask l q) → p ≡ q

-- a refusal is from a server whose epoch is past the call's
abbrev pub RefusedAreOlder : (Q R : Type 0) → Type 0
RefusedAreOlder Q R = (events : List (Event Q R)) (N : Network Q R) → Reaches events N
    → (l : Label) (e : ℕ) → Contains N.sent (refusal l e) → (l.epoch < e) × (e ≤ N.server.epoch)

-- each event is one step of one call's stages or none, or ends calls: a kick its node's, a fence and a renewal all
abbrev pub EventsAreCallSteps : (Q R : Type 0) → Type 0
EventsAreCallSteps Q R = (events : List (Event Q R)) (N M : Network Q R) (e : Event Q R) (f : Effect Q R)
    → Reaches events N → Happens e N f M → After f (stage_of N) (stage_of M)
