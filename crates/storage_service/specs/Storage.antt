-- Stated: what storage has, and what it answers.
use Rattle.std.specs.Prelude.{◌<◌, ◌/◌, ℕ, List, [], ◌++◌, length, nat_lt, slice_index_or, if◌then◌else◌}
use Rattle.rm_base.specs.declared.limits.TheConstants.{PAGES_PER_CHUNK, MAX_PAGES}
use Rattle.page_image.specs.Image.{unmade}
use Rattle.redo_record.specs.declared.redo.Group.{Group}
use Rattle.redo_record.specs.Effect.{page_at, GroupsApply}
use Rattle.message_model.specs.declared.Got.{Got}
use Rattle.message_model.specs.declared.Got.TheVariants as got
use Rattle.call_model.specs.Servers.{Server}
use Rattle.log_chunks.specs.Log.{Log, AreNext}
use Rattle.page_chunks.specs.Chunk.{Chunk, waiting}
use Rattle.message_network.specs.declared.calls.Reply.{Reply}
use Rattle.message_network.specs.declared.serving.Server.{Server as ServerParts}
use Rattle.message_network.specs.ServerView.{server_of}

-- the server of calls; the log that was kept; of each chunk the LSN that was shipped last; of each page the records that
-- its chunk has got and not folded
pub record Storage : Type 0 where
  pub server : Server Reply
  pub log : Log
  pub applied : ℕ → ℕ
  pub waiting : ℕ → List Group

-- the number of a page's chunk
abbrev pub chunk_of : ℕ → ℕ
chunk_of p = p / PAGES_PER_CHUNK

-- chunk c has not got the whole log
abbrev pub IsBehind : Storage → ℕ → Type 0
IsBehind S c = S.applied c < length S.log.groups

-- the answer to a request for page p: the page that the groups up to the LSN n leave, unless this is below the floor
abbrev pub answer_at : List Group → (n p floor : ℕ) → Got
answer_at groups n p floor = if nat_lt n floor then got.NotYet n else got.Image (page_at groups p n)

abbrev pub get_answer : Storage → (p floor : ℕ) → Got
get_answer S p floor = answer_at S.log.groups (S.applied (chunk_of p)) p floor

-- the records for each page apply in order
abbrev pub AllApply : List Group → Type 0
AllApply groups = (p : ℕ) → p < MAX_PAGES → GroupsApply groups (unmade p)

-- the bytes bring whole groups that go on behind these, and all apply
abbrev pub Brings : List Group → List ℕ → Type 0
Brings groups bytes = (more : List Group) × AreNext (length groups) bytes more × AllApply (groups ++ more)

-- ---- storage as its chunks make it

-- where no chunk is
abbrev pub no_chunk : Chunk
no_chunk = record { number = 0; applied = 0; entries = [] }

abbrev pub chunk_at : List Chunk → ℕ → Chunk
chunk_at chunks c = slice_index_or chunks c no_chunk

abbrev pub applied_in : List Chunk → ℕ → ℕ
applied_in chunks c = (chunk_at chunks c).applied

abbrev pub waiting_in : List Chunk → ℕ → List Group
waiting_in chunks p = waiting (chunk_at chunks (chunk_of p)) p

abbrev pub storage_with : Server Reply → Log → List Chunk → Storage
storage_with server log chunks =
    record { server = server; log = log; applied = applied_in chunks; waiting = waiting_in chunks }

-- the server, the log store and the chunks
pub record Parts : Type 0 where
  pub server : ServerParts
  pub log : Log
  pub chunks : List Chunk

abbrev pub storage_of : Parts → Storage
storage_of parts = storage_with (server_of parts.server) parts.log parts.chunks
