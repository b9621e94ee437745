-- Stated: a call that is served once, and what storage does with a call that it handles.
use Rattle.std.specs.Prelude.{◌≡◌, ℕ, true, List, length, Option, Some, None}
use Rattle.call_model.specs.Callers.{Label}
use Rattle.call_model.specs.Servers.{Admission, Admission.Fenced as FencedCall, Admission.Old, Admission.Again, Admission.New, admit, keeping, fenced, forgetting}
use Rattle.message_network.specs.declared.calls.Reply.{Reply}
use Rattle.message_network.specs.declared.calls.Reply.TheVariants.{Fenced, Appended as AppendedReply, Got as GotReply}
use Rattle.log_chunks.specs.Log.{answer_to, is_kept, Appends}
use Rattle.storage_service.specs.Storage.{Storage, Brings, get_answer}

-- by what the server says to the call: of an older epoch it answers so; an older call has no answer; the last one that was
-- handled has its answer again; a new one is handled with a reply
abbrev pub ServedBy : Admission → (handles : Storage → Reply → Storage → Type 0) → Label → Storage → Option Reply → Storage → Type 0
ServedBy (FencedCall e) handles l S reply T = (reply ≡ Some (Fenced e)) × (T ≡ S)
ServedBy Old handles l S reply T = (reply ≡ None) × (T ≡ S)
ServedBy Again handles l S reply T = (reply ≡ (S.server.memory l.node).reply) × (T ≡ S)
ServedBy New handles l S reply T = (r : Reply) × (reply ≡ Some r) × handles S r T

abbrev pub Served : (handles : Storage → Reply → Storage → Type 0) → Label → Storage → Option Reply → Storage → Type 0
Served handles l S reply T = ServedBy (admit S.server l) handles l S reply T

-- an append of the bytes: the log store's answer by the call's epoch, and what it keeps; no chunk gets anything yet
pub record HandlesAppend (l : Label) (offset : ℕ) (bytes : List ℕ) (S : Storage) (r : Reply) (T : Storage) : Type 0 where
  pub reply : r ≡ AppendedReply (answer_to S.log l.epoch offset (length bytes))
  pub log : Appends S.log bytes T.log (answer_to S.log l.epoch offset (length bytes))
  pub server : T.server ≡ keeping S.server l r
  pub applied : T.applied ≡ S.applied
  pub waiting : T.waiting ≡ S.waiting

-- a request for page p at a floor: the answer is kept, and nothing else changes
pub record HandlesGet (l : Label) (p floor : ℕ) (S : Storage) (r : Reply) (T : Storage) : Type 0 where
  pub reply : r ≡ GotReply (get_answer S p floor)
  pub after : T ≡ record S { server = keeping S.server l r }

-- a new append that is kept brings whole groups that apply
abbrev pub MayAppend : Storage → Label → ℕ → List ℕ → Type 0
MayAppend S l offset bytes =
    admit S.server l ≡ New → is_kept (answer_to S.log l.epoch offset (length bytes)) ≡ true → Brings S.log.groups bytes

-- from now on calls of an epoch before e are fenced
abbrev pub fenced_to : Storage → ℕ → Storage
fenced_to S e = record S { server = fenced S.server e; log = record S.log { epoch = e } }

-- a newer incarnation of node n is known, of which nothing was handled
abbrev pub renewed : Storage → (n incarnation : ℕ) → Storage
renewed S n i = record S { server = forgetting S.server n i }
