-- Stated: callers and a server over a network that loses messages, repeats them and brings them late; nodes and the
-- server crash and come back.
use Rattle.std.specs.Prelude.{◌≡◌, ℕ, ◌+◌, ◌<◌, ◌≤◌, Bool, true, false, Option, Some, None, List, [], ◌∷◌, nat_le, ◌&&◌, Contains, ◌⊎◌}
use Rattle.call_model.specs.Callers.{Label, Caller, new_caller, asking, answered, renewed, awaits, label_of}
use Rattle.call_model.specs.Servers.{put, Server, Admission, Admission.Fenced, Admission.Old, Admission.Again, Admission.New, admit, new_server, keeping, fenced, forgetting}
use Rattle.call_model.specs.Stages.{Effect, Effect.Nothing, Effect.Asks, Effect.Handles, Effect.Accepts, Effect.Ends, Effect.EndsAll}

-- a call, the answer to it, or the answer that the server's epoch is past the call's
pub data Message (Q R : Type 0) : Type 0 where
  ask : Label → Q → Message Q R
  answer : Label → R → Message Q R
  refusal : Label → (epoch : ℕ) → Message Q R

-- a call that the server handled, with its reply
pub record Handling (Q R : Type 0) : Type 0 where
  pub label : Label
  pub call : Q
  pub reply : R

pub record Network (Q R : Type 0) : Type 0 where
  pub caller : ℕ → Caller
  -- the call that each node asked last
  pub asked : ℕ → Option Q
  pub up : ℕ → Bool
  pub server : Server R
  -- the server is up
  pub serves : Bool
  -- each message that was ever sent
  pub sent : List (Message Q R)
  -- each call that was ever handled, the newest first
  pub handled : List (Handling Q R)

abbrev pub new_network : {Q R : Type 0} → Network Q R
new_network = record {
  caller = λ n. new_caller 1 1;
  asked = λ n. None;
  up = λ n. true;
  server = new_server 1;
  serves = true;
  sent = [];
  handled = [];
}

-- the server would still take a call of the node's incarnation and epoch
abbrev pub is_live : {Q R : Type 0} → Network Q R → ℕ → Bool
is_live N n =
    nat_le N.server.epoch (N.caller n).epoch && nat_le (N.server.memory n).incarnation (N.caller n).incarnation

abbrev pub with_ask : {Q R : Type 0} → Network Q R → ℕ → Q → Network Q R
with_ask N n q = record N {
  caller = put N.caller n (asking (N.caller n));
  asked = put N.asked n (Some q);
  sent = ask (label_of n (asking (N.caller n))) q ∷ N.sent;
}

abbrev pub with_message : {Q R : Type 0} → Network Q R → Message Q R → Network Q R
with_message N m = record N { sent = m ∷ N.sent }

abbrev pub with_handling : {Q R : Type 0} → Network Q R → Label → Q → R → Network Q R
with_handling N l q r = record N {
  server = keeping N.server l r;
  sent = answer l r ∷ N.sent;
  handled = record { label = l; call = q; reply = r } ∷ N.handled;
}

abbrev pub with_answer : {Q R : Type 0} → Network Q R → ℕ → Network Q R
with_answer N n = record N { caller = put N.caller n (answered (N.caller n)) }

abbrev pub with_up : {Q R : Type 0} → Network Q R → ℕ → Bool → Network Q R
with_up N n b = record N { up = put N.up n b }

-- from then on the node's incarnation is an older one to the server
abbrev pub kicked : {Q R : Type 0} → Network Q R → ℕ → Network Q R
kicked N n = record N { server = forgetting N.server n ((N.caller n).incarnation + 1) }

-- the node is up, of its next incarnation and of epoch e
abbrev pub rejoined : {Q R : Type 0} → Network Q R → (n e : ℕ) → Network Q R
rejoined N n e =
    record N { caller = put N.caller n (renewed ((N.caller n).incarnation + 1) e (N.caller n)); up = put N.up n true }

-- the server is up and serves epoch e
abbrev pub with_server : {Q R : Type 0} → Network Q R → Server R → Network Q R
with_server N s = record N { server = s; serves = true }

pub data Event (Q R : Type 0) : Type 0 where
  -- node n sends a call
  Ask : (n : ℕ) → Q → Event Q R
  -- a message reaches the part that it is for
  Deliver : Message Q R → Event Q R
  Crash : (n : ℕ) → Event Q R
  Kick : (n : ℕ) → Event Q R
  Restart : (n epoch : ℕ) → Event Q R
  Rejoin : (n epoch : ℕ) → Event Q R
  Fence : (epoch : ℕ) → Event Q R
  CrashServer : Event Q R
  RenewServer : (epoch : ℕ) → Event Q R

-- what a server does with a call, by what it says to it; what it replies to a new call is free here
abbrev pub Receives : {Q R : Type 0} → Admission → Network Q R → Label → Q → Effect Q R → Network Q R → Type 0
Receives (Fenced e) N l q f M = (f ≡ Nothing) × (M ≡ with_message N (refusal l e))
Receives Old N l q f M = (f ≡ Nothing) × (M ≡ N)
Receives {R = R} Again N l q f M =
    (r : R) × ((N.server.memory l.node).reply ≡ Some r) × (f ≡ Nothing) × (M ≡ with_message N (answer l r))
Receives {R = R} New N l q f M = (r : R) × (f ≡ Handles l.node q r) × (M ≡ with_handling N l q r)

-- a reply is for nobody: the node is down or does not wait for it
abbrev pub IsIgnored : {Q R : Type 0} → Network Q R → Label → Type 0
IsIgnored N l = (N.up l.node ≡ false) ⊎ (awaits (N.caller l.node) l ≡ false)

abbrev pub IsAwaited : {Q R : Type 0} → Network Q R → Label → Type 0
IsAwaited N l = (N.up l.node ≡ true) × (awaits (N.caller l.node) l ≡ true)

-- what a delivery does
abbrev pub Delivers : {Q R : Type 0} → Message Q R → Network Q R → Effect Q R → Network Q R → Type 0
Delivers (ask l q) N f M =
    ((N.serves ≡ false) × (f ≡ Nothing) × (M ≡ N))
    ⊎ ((N.serves ≡ true) × Receives (admit N.server l) N l q f M)
Delivers {Q = Q} (answer l r) N f M =
    (IsIgnored N l × (f ≡ Nothing) × (M ≡ N))
    ⊎ ((IsAwaited N l × (is_live N l.node ≡ true) × ((q : Q) × (N.asked l.node ≡ Some q) × (f ≡ Accepts l.node q r))
    × (M ≡ with_answer N l.node))
    ⊎ (IsAwaited N l × (is_live N l.node ≡ false) × (f ≡ Nothing) × (M ≡ with_answer N l.node)))
Delivers (refusal l e) N f M =
    (IsIgnored N l × (f ≡ Nothing) × (M ≡ N))
    ⊎ (IsAwaited N l × (f ≡ Nothing) × (M ≡ with_answer N l.node))

-- the node was kicked, or a fence has made its epoch an older one
abbrev pub IsReleased : {Q R : Type 0} → Network Q R → ℕ → Type 0
IsReleased N n = ((N.caller n).incarnation < (N.server.memory n).incarnation) ⊎ ((N.caller n).epoch < N.server.epoch)

-- epoch e is past the server's and each node's
abbrev pub IsNext : {Q R : Type 0} → Network Q R → ℕ → Type 0
IsNext N e = (N.server.epoch < e) × ((n : ℕ) → (N.caller n).epoch < e)

-- a node comes back to the server's epoch or a later one; its epoch never falls
abbrev pub IsNewer : {Q R : Type 0} → Network Q R → (n e : ℕ) → Type 0
IsNewer N n e = (N.server.epoch ≤ e) × ((N.caller n).epoch ≤ e)

-- an event leads from N to M, with that effect on the calls
abbrev pub Happens : {Q R : Type 0} → Event Q R → Network Q R → Effect Q R → Network Q R → Type 0
Happens (Ask n q) N f M =
    (N.up n ≡ true) × ((N.caller n).waits ≡ false)
    × (((is_live N n ≡ true) × (f ≡ Asks n q)) ⊎ ((is_live N n ≡ false) × (f ≡ Nothing)))
    × (M ≡ with_ask N n q)
Happens (Deliver m) N f M = Contains N.sent m × Delivers m N f M
Happens (Crash n) N f M = (N.up n ≡ true) × (f ≡ Nothing) × (M ≡ with_up N n false)
Happens (Kick n) N f M =
    (N.serves ≡ true) × (N.up n ≡ false) × ((N.server.memory n).incarnation ≤ (N.caller n).incarnation)
    × (f ≡ Ends n) × (M ≡ kicked N n)
Happens (Restart n e) N f M = (N.up n ≡ false) × IsReleased N n × IsNewer N n e × (f ≡ Nothing) × (M ≡ rejoined N n e)
Happens (Rejoin n e) N f M =
    (N.up n ≡ true) × ((N.caller n).epoch < N.server.epoch) × IsNewer N n e × (f ≡ Nothing) × (M ≡ rejoined N n e)
Happens (Fence e) N f M = (N.serves ≡ true) × IsNext N e × (f ≡ EndsAll) × (M ≡ with_server N (fenced N.server e))
Happens CrashServer N f M = (N.serves ≡ true) × (f ≡ Nothing) × (M ≡ record N { serves = false })
Happens (RenewServer e) N f M = (N.serves ≡ false) × IsNext N e × (f ≡ EndsAll) × (M ≡ with_server N (new_server e))

-- a list of events leads from N to M
abbrev pub Run : {Q R : Type 0} → Network Q R → List (Event Q R) → Network Q R → Type 0
Run N [] M = M ≡ N
Run {Q = Q} {R = R} N (e ∷ es) M = (mid : Network Q R) × (f : Effect Q R) × Happens e N f mid × Run mid es M
