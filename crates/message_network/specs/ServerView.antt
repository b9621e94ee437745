-- Stated: what the model of calls sees of a server, and of what it says to a call.
use Rattle.std.specs.Prelude.{ℕ, None, List, slice_index_or}
use Rattle.call_model.specs.Servers.{Memory as Kept, Server as Serving, Admission, Admission.Fenced as FencedCall, Admission.Old as OldCall, Admission.Again as AgainCall, Admission.New as NewCall}
use Rattle.message_network.specs.declared.calls.Reply.{Reply}
use Rattle.message_network.specs.declared.serving.Memory.{Memory}
use Rattle.message_network.specs.declared.serving.Server.{Server}
use Rattle.message_network.specs.declared.serving.Admit.{Admit}
use Rattle.message_network.specs.declared.serving.Admit.TheVariants.{New, Again, Old, Fenced}

-- what is kept of a node that never called
abbrev pub blank : Memory
blank = record { incarnation = 0; number = 0; reply = None }

abbrev pub memory_of : Memory → Kept Reply
memory_of m = record { incarnation = m.incarnation; number = m.number; reply = m.reply }

-- what is kept of node n
abbrev pub kept_at : List Memory → ℕ → Kept Reply
kept_at memories n = memory_of (slice_index_or memories n blank)

abbrev pub server_of : Server → Serving Reply
server_of s = record { epoch = s.epoch; memory = kept_at s.memories }

-- the newest incarnation of node n that the server knows
abbrev pub known_of : Serving Reply → ℕ → ℕ
known_of s n = (s.memory n).incarnation

abbrev pub admission_of : Admit → Admission
admission_of New = NewCall
admission_of Again = AgainCall
admission_of Old = OldCall
admission_of (Fenced e) = FencedCall e
