-- Stated: the label of a message, and what the model of calls sees of a message.
use Rattle.std.specs.Prelude.{ℕ, Bool, true, false, Option, Some, None, List, if◌then◌else◌, nat_eq, reverse}
use Rattle.std.specs.List.{filter_map}
use Rattle.rm_base.specs.declared.places.Token.{Token}
use Rattle.call_model.specs.Callers.{Label}
use Rattle.call_model.specs.Network.{Message as Seen, Message.ask, Message.answer, Message.refusal}
use Rattle.message_network.specs.declared.calls.Ask.{Ask}
use Rattle.message_network.specs.declared.calls.Reply.{Reply}
use Rattle.message_network.specs.declared.calls.Reply.TheVariants.{Registered, PoolFull, Unregistered, Started, Done, Appended, Got, Fenced}
use Rattle.message_network.specs.declared.messages.Party.{Party}
use Rattle.message_network.specs.declared.messages.Party.TheVariants.{Node, Home, Storage}
use Rattle.message_network.specs.declared.messages.Body.{Body}
use Rattle.message_network.specs.declared.messages.Body.TheVariants.{Ask as Asked, Reply as Replied}
use Rattle.message_network.specs.declared.messages.Draft.{Draft}

-- the label of the call with that number
abbrev pub labelled : Token → ℕ → Label
labelled t k = record { node = t.node; incarnation = t.incarnation; epoch = t.epoch; number = k }

-- the label that a message carries
abbrev pub label_of : Draft → Label
label_of d = labelled d.token d.call

-- an answer, or the answer that the server's epoch is past the call's
abbrev pub answer_of : Label → Reply → Seen Ask Reply
answer_of l (Registered a b f) = answer l (Registered a b f)
answer_of l (PoolFull n) = answer l (PoolFull n)
answer_of l Unregistered = answer l Unregistered
answer_of l (Started n) = answer l (Started n)
answer_of l Done = answer l Done
answer_of l (Appended a) = answer l (Appended a)
answer_of l (Got g) = answer l (Got g)
answer_of l (Fenced e) = refusal l e

-- a server handles a call with any reply but this one
abbrev pub IsServed : Reply → Type 0
IsServed (Registered a b f) = Unit {0}
IsServed (PoolFull n) = Unit {0}
IsServed Unregistered = Unit {0}
IsServed (Started n) = Unit {0}
IsServed Done = Unit {0}
IsServed (Appended a) = Unit {0}
IsServed (Got g) = Unit {0}
IsServed (Fenced e) = ⊥

abbrev pub same_party : Party → Party → Bool
same_party (Node n) (Node m) = nat_eq n m
same_party (Node n) Home = false
same_party (Node n) Storage = false
same_party Home (Node n) = false
same_party Home Home = true
same_party Home Storage = false
same_party Storage (Node n) = false
same_party Storage Home = false
same_party Storage Storage = true

-- what is seen by the party that serves: the calls to it and the answers from it
abbrev pub seen_body : (server from to : Party) → Label → Body → Option (Seen Ask Reply)
seen_body s from to l (Asked q) = if same_party to s then Some (ask l q) else None
seen_body s from to l (Replied r) = if same_party from s then Some (answer_of l r) else None

abbrev pub message_of : (server : Party) → Draft → Option (Seen Ask Reply)
message_of s d = seen_body s d.from d.to (label_of d) d.body

-- the messages of a server among those that were sent, the newest first
abbrev pub messages_of : (server : Party) → List Draft → List (Seen Ask Reply)
messages_of s drafts = reverse (filter_map (message_of s) drafts)
