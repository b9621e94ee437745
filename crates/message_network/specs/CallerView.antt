-- Stated: what the model of calls sees of a caller, and which message is its answer.
use Rattle.std.specs.Prelude.{Option, Some, None, ℕ, if◌then◌else◌}
use Rattle.rm_base.specs.declared.places.Token.{Token}
use Rattle.call_model.specs.Callers.{Caller as Asking, awaits}
use Rattle.message_network.specs.declared.asking.Caller.{Caller}
use Rattle.message_network.specs.declared.calls.Reply.{Reply}
use Rattle.message_network.specs.declared.messages.Body.{Body}
use Rattle.message_network.specs.declared.messages.Body.TheVariants.{Ask as Asked, Reply as Replied}
use Rattle.message_network.specs.declared.messages.Draft.{Draft}
use Rattle.message_network.specs.Labels.{label_of}

abbrev pub caller_of : Caller → Asking
caller_of c = record { incarnation = c.token.incarnation; epoch = c.token.epoch; last = c.last; waits = c.waits }

-- the node that asks, in which incarnation and epoch
abbrev pub token_of : Caller → Token
token_of c = c.token

-- the number of the unanswered call
abbrev pub awaited : Asking → Option ℕ
awaited c = if c.waits then Some c.last else None

abbrev pub reply_of : Body → Option Reply
reply_of (Asked q) = None
reply_of (Replied r) = Some r

-- the reply in a message that the caller waits for
abbrev pub accepted : Asking → Draft → Option Reply
accepted c d = if awaits c (label_of d) then reply_of d.body else None
