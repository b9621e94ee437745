-- Stated: one server and the callers of its nodes over a network that may bring a message late, again or never; nodes
-- and the server go down and come back. What each call does is said in the words of the contracts of `Caller`,
-- `Server` and `Network`.
use Rattle.std.specs.Prelude.{◌≡◌, ℕ, Bool, true, false, Option, Some, None, List, [], ◌∷◌, ◌++◌}
use Rattle.call_model.specs.Callers.{Caller, new_caller, asking, answered}
use Rattle.call_model.specs.Servers.{put, Server, Admission, Admission.Fenced as FencedCall, Admission.Old, Admission.Again, Admission.New, admit, new_server, keeping}
use Rattle.call_model.specs.Network.{Handling, Network, Event as Seen, Event.Ask as AskSeen, Event.Deliver as DeliverSeen, Event.Crash, Event.Kick, Event.Restart, Event.Rejoin, Event.Fence, Event.CrashServer, Event.RenewServer, Happens}
use Rattle.call_model.specs.Stages.{Effect}
use Rattle.message_network.specs.declared.calls.Ask.{Ask}
use Rattle.message_network.specs.declared.calls.Reply.{Reply}
use Rattle.message_network.specs.declared.calls.Reply.TheVariants.{Fenced}
use Rattle.message_network.specs.declared.messages.Party.{Party}
use Rattle.message_network.specs.declared.messages.Party.TheVariants.{Node, Home, Storage}
use Rattle.message_network.specs.declared.messages.Body.{Body}
use Rattle.message_network.specs.declared.messages.Body.TheVariants.{Ask as Asked, Reply as Replied}
use Rattle.message_network.specs.declared.messages.Draft.{Draft}
use Rattle.message_network.specs.Labels.{label_of, messages_of, same_party, IsServed}
use Rattle.message_network.specs.Post.{draft_at}
use Rattle.message_network.specs.CallerView.{accepted}

pub record Service : Type 0 where
  -- each node's caller of the server
  pub caller : ℕ → Caller
  pub up : ℕ → Bool
  pub server : Server Reply
  -- the server is up
  pub serves : Bool
  -- what was sent over the network, to and from all parts
  pub drafts : List Draft
  -- for the laws alone: the call that each node asked last, and each call that was handled, the newest first
  pub asked : ℕ → Option Ask
  pub handled : List (Handling Ask Reply)

abbrev pub new_service : Service
new_service = record {
  caller = λ n. new_caller 1 1;
  up = λ n. true;
  server = new_server 1;
  serves = true;
  drafts = [];
  asked = λ n. None;
  handled = [];
}

-- the service of server s as the model of calls sees it
abbrev pub network_of : (s : Party) → Service → Network Ask Reply
network_of s S = record {
  caller = S.caller;
  asked = S.asked;
  up = S.up;
  server = S.server;
  serves = S.serves;
  sent = messages_of s S.drafts;
  handled = S.handled;
}

-- the message by which node n asks server s
abbrev pub asking_draft : (s : Party) → ℕ → Caller → Ask → Draft
asking_draft s n c q = record {
  from = Node n;
  to = s;
  token = record { node = n; incarnation = c.incarnation; epoch = c.epoch };
  call = c.last;
  body = Asked q;
}

-- the message by which server s answers the call
abbrev pub answering_draft : (s : Party) → Draft → Reply → Draft
answering_draft s d r = record { from = s; to = Node d.token.node; token = d.token; call = d.call; body = Replied r }

abbrev pub sending : Service → Draft → Service
sending S d = record S { drafts = S.drafts ++ d ∷ [] }

-- node n asks
abbrev pub with_call : Party → Service → ℕ → Ask → Service
with_call s S n q = record S {
  caller = put S.caller n (asking (S.caller n));
  asked = put S.asked n (Some q);
  drafts = S.drafts ++ asking_draft s n (asking (S.caller n)) q ∷ [];
}

-- the server handles a call with that reply
abbrev pub with_handling : Party → Service → Draft → Ask → Reply → Service
with_handling s S d q r = record S {
  server = keeping S.server (label_of d) r;
  drafts = S.drafts ++ answering_draft s d r ∷ [];
  handled = record { label = label_of d; call = q; reply = r } ∷ S.handled;
}

abbrev pub with_answer : Service → ℕ → Service
with_answer S n = record S { caller = put S.caller n (answered (S.caller n)) }

-- what a server does with a call, by what it says to it; what it replies to a new call is free here
abbrev pub Receives : Party → Admission → Service → Draft → Ask → Service → Type 0
Receives s (FencedCall e) S d q T = T ≡ sending S (answering_draft s d (Fenced e))
Receives s Old S d q T = T ≡ S
Receives s Again S d q T =
    (r : Reply) × ((S.server.memory d.token.node).reply ≡ Some r) × (T ≡ sending S (answering_draft s d r))
Receives s New S d q T = (r : Reply) × IsServed r × (T ≡ with_handling s S d q r)

-- the server gets a call, where it is up
abbrev pub Serves : Party → Bool → Service → Draft → Ask → Service → Type 0
Serves s true S d q T = Receives s (admit S.server (label_of d)) S d q T
Serves s false S d q T = T ≡ S

-- a node that is up gets what its caller accepts of the message
abbrev pub Takes : (accepted : Option Reply) → (up : Bool) → Service → ℕ → Service → Type 0
Takes (Some r) true S n T = T ≡ with_answer S n
Takes (Some r) false S n T = T ≡ S
Takes None b S n T = T ≡ S

-- a message from server s comes to a party
abbrev pub Reaches : Party → Service → Draft → Service → Type 0
Reaches (Node n) S d T = Takes (accepted (S.caller n) d) (S.up n) S n T
Reaches Home S d T = T ≡ S
Reaches Storage S d T = T ≡ S

-- a message is delivered; one of another server does nothing here
abbrev pub Comes : Party → Bool → Body → Service → Draft → Service → Type 0
Comes s true (Asked q) S d T = Serves s S.serves S d q T
Comes s true (Replied r) S d T = Reaches d.to S d T
Comes s false b S d T = T ≡ S

-- the message is to or from server s
abbrev pub is_of : Party → Body → Draft → Bool
is_of s (Asked q) d = same_party d.to s
is_of s (Replied r) d = same_party d.from s

-- what goes down and comes back is what the model of calls says of it: a crash, kick, restart or rejoin of a node, a
-- fence, a crash or a renewal of the server
abbrev pub IsTurn : Seen Ask Reply → Type 0
IsTurn (AskSeen n q) = ⊥
IsTurn (DeliverSeen m) = ⊥
IsTurn (Crash n) = Unit {0}
IsTurn (Kick n) = Unit {0}
IsTurn (Restart n e) = Unit {0}
IsTurn (Rejoin n e) = Unit {0}
IsTurn (Fence e) = Unit {0}
IsTurn CrashServer = Unit {0}
IsTurn (RenewServer e) = Unit {0}

-- the service with the callers and the server of N
abbrev pub turned : Service → Network Ask Reply → Service
turned S N = record S { caller = N.caller; up = N.up; server = N.server; serves = N.serves }

pub data Event : Type 0 where
  -- node n asks
  Asks : (n : ℕ) → Ask → Event
  -- message number k is delivered
  Delivers : (k : ℕ) → Event
  -- a part sends a message that is neither to nor from the server
  Sends : Draft → Event
  -- a part goes down, comes back or is fenced
  Turns : Seen Ask Reply → Event

-- an event leads from S to T
abbrev pub Does : Party → Event → Service → Service → Type 0
Does s (Asks n q) S T = (S.up n ≡ true) × ((S.caller n).waits ≡ false) × (T ≡ with_call s S n q)
Does s (Delivers k) S T = (d : Draft) × (draft_at S.drafts k ≡ Some d) × Comes s (is_of s d.body d) d.body S d T
Does s (Sends d) S T = (is_of s d.body d ≡ false) × (T ≡ sending S d)
Does s (Turns e) S T =
    IsTurn e × ((N : Network Ask Reply) × (f : Effect Ask Reply) × Happens e (network_of s S) f N × (T ≡ turned S N))

-- a list of events leads from S to T
abbrev pub Run : Party → Service → List Event → Service → Type 0
Run s S [] T = T ≡ S
Run s S (e ∷ es) T = (mid : Service) × Does s e S mid × Run s mid es T
