-- Stated: what a line asks for, or what is wrong with it. Of more than one thing that is wrong the first is
-- said: a number outside its range, then a node, then a slab, then a session that is not there, then one that is.
use Rattle.std.specs.Prelude.{ℕ, ◌-◌, ◌&&◌, nat_le, nat_lt, Some, None, Result, Ok, Err, List, [], ◌∷◌, ◌++◌, length, if◌then◌else◌}
use Rattle.std.specs.List.{position}
use Rattle.std.specs.Str.{bytes_eq}
use Rattle.cluster_model.specs.declared.events.ActKind.{ActKind}
use Rattle.cluster_model.specs.declared.events.Event.{Event}
use Rattle.cluster_model.specs.declared.events.Event.TheVariants as event
use Rattle.cluster_model.specs.declared.scripts.Order.{Order}
use Rattle.cluster_model.specs.declared.scripts.Order.TheVariants as order
use Rattle.cluster_model.specs.declared.shape.Shape.{Shape}
use Rattle.script_text.specs.declared.forms.Form.{Form}
use Rattle.script_text.specs.declared.forms.Form.TheVariants as form
use Rattle.script_text.specs.declared.verbs.LoneVerb.{LoneVerb}
use Rattle.script_text.specs.declared.verbs.LoneVerb.TheVariants as verb_lone
use Rattle.script_text.specs.declared.verbs.NumberVerb.{NumberVerb}
use Rattle.script_text.specs.declared.verbs.NumberVerb.TheVariants as verb_number
use Rattle.script_text.specs.declared.verbs.NodeVerb.{NodeVerb}
use Rattle.script_text.specs.declared.verbs.NodeVerb.TheVariants as verb_node
use Rattle.script_text.specs.declared.verbs.SlabVerb.{SlabVerb}
use Rattle.script_text.specs.declared.verbs.SlabVerb.TheVariants as verb_slab
use Rattle.script_text.specs.declared.whys.Why.{Why}
use Rattle.script_text.specs.declared.whys.Why.TheVariants as why

infixl 10 ◌>>=◌
abbrev pub ◌>>=◌ : {A B : Type 0} → Result A Why → (A → Result B Why) → Result B Why
Ok x >>= f = f x
Err w >>= f = Err w

-- the node, the slab and the message of a number are counted from 1
unfoldable pub node_in : Shape → ℕ → Result ℕ Why
node_in shape n = if nat_le 1 n && nat_le n shape.nodes then Ok (n - 1) else Err why.Node

unfoldable pub slab_in : Shape → ℕ → Result ℕ Why
slab_in shape n = if nat_le 1 n && nat_le n shape.slabs then Ok (n - 1) else Err why.Slab

unfoldable pub message_in : ℕ → Result ℕ Why
message_in n = if nat_le 1 n then Ok n else Err why.Number

unfoldable pub chunk_in : ℕ → Result ℕ Why
chunk_in n = if nat_lt n 128 then Ok n else Err why.Number

unfoldable pub page_in : ℕ → Result ℕ Why
page_in n = if nat_lt n 32768 then Ok n else Err why.Number

unfoldable pub rounds_in : ℕ → Result ℕ Why
rounds_in n = if nat_le 1 n && nat_le n 100000 then Ok n else Err why.Number

-- a session has the number of its place among those that were declared
unfoldable pub session_in : List (List ℕ) → List ℕ → Result ℕ Why
session_in names name = elim (position (λ n. bytes_eq n name) names) [ Some place ↦ Ok place | None ↦ Err why.Session ]

-- a new one gets the next number, and there are at most 64
unfoldable pub new_in : List (List ℕ) → List ℕ → Result ℕ Why
new_in names name = elim (position (λ n. bytes_eq n name) names) [
  | Some place ↦ Err why.Twice
  | None ↦ (if nat_lt (length names) 64 then Ok (length names) else Err why.Twice)
]

abbrev pub lone : LoneVerb → Result Order Why
lone verb_lone.DeliverLast = Ok (order.One event.DeliverLast)
lone verb_lone.DeliverAll = Ok (order.One event.DeliverAll)
lone verb_lone.Home = Ok (order.One event.Home)
lone verb_lone.CrashHome = Ok (order.One event.CrashHome)
lone verb_lone.Renew = Ok (order.One event.Renew)

unfoldable pub numbered : NumberVerb → ℕ → Result Order Why
numbered verb_number.Deliver n = do
  message ← message_in n
  Ok (order.One (event.Deliver message))
numbered verb_number.Ship n = do
  chunk ← chunk_in n
  Ok (order.One (event.Ship chunk))
numbered verb_number.Fold n = do
  page ← page_in n
  Ok (order.One (event.Fold page))
numbered verb_number.Drain n = do
  rounds ← rounds_in n
  Ok (order.Drain rounds)

abbrev pub node_event : NodeVerb → ℕ → Event
node_event verb_node.Turn n = event.Turn n
node_event verb_node.TurnLost n = event.TurnLost n
node_event verb_node.TurnUnseen n = event.TurnUnseen n
node_event verb_node.Crash n = event.CrashNode n
node_event verb_node.Kick n = event.Kick n
node_event verb_node.Restart n = event.Restart n
node_event verb_node.Takeover n = event.Takeover n

unfoldable pub of_node : Shape → NodeVerb → ℕ → Result Order Why
of_node shape verb n = do
  node ← node_in shape n
  Ok (order.One (node_event verb node))

abbrev pub slab_event : SlabVerb → ℕ → Event
slab_event verb_slab.Crash k = event.CrashSlab k
slab_event verb_slab.Drop k = event.DropSlab k
slab_event verb_slab.Restart k = event.RestartSlab k

unfoldable pub of_slab : Shape → SlabVerb → ℕ → Result Order Why
of_slab shape verb k = do
  slab ← slab_in shape k
  Ok (order.One (slab_event verb slab))

unfoldable pub evict : Shape → ℕ → ℕ → Result Order Why
evict shape n p = do
  page ← page_in p
  node ← node_in shape n
  Ok (order.One (event.Evict node page))

unfoldable pub timeout : List (List ℕ) → List ℕ → Result Order Why
timeout names name = do
  s ← session_in names name
  Ok (order.One (event.Timeout s))

unfoldable pub until : Shape → ℕ → ActKind → ℕ → Result Order Why
until shape n kind r = do
  rounds ← rounds_in r
  node ← node_in shape n
  Ok (order.Until node kind rounds)

unfoldable pub session : Shape → List (List ℕ) → List ℕ → ℕ → Result Order Why
session shape names name n = do
  node ← node_in shape n
  s ← new_in names name
  Ok (order.One (event.Session s name node))

unfoldable pub submit : List (List ℕ) → List ℕ → List ℕ → Result Order Why
submit names name text = do
  s ← session_in names name
  Ok (order.One (event.Submit s text))

-- what a line asks for of a cluster of this shape, in which the sessions of these names were declared
abbrev pub order_of : Shape → List (List ℕ) → Form → Result Order Why
order_of shape names (form.Lone verb) = lone verb
order_of shape names (form.Numbered verb n) = numbered verb n
order_of shape names (form.OfNode verb n) = of_node shape verb n
order_of shape names (form.OfSlab verb k) = of_slab shape verb k
order_of shape names (form.Evict n p) = evict shape n p
order_of shape names (form.Timeout name) = timeout names name
order_of shape names (form.Until n kind r) = until shape n kind r
order_of shape names (form.Session name n) = session shape names name n
order_of shape names (form.Submit name text) = submit names name text

-- the sessions with the one that a line declares
abbrev pub names_after : List (List ℕ) → Form → List (List ℕ)
names_after names (form.Session name n) = names ++ name ∷ []
names_after names _ = names
