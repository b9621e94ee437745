-- For the proofs: what storage keeps of its log and its chunks.
use Rattle.std.specs.Prelude.{◌≡◌, ◌≤◌, ◌<◌, ℕ, List, [], ◌++◌, length, take, nat_lt, count_by}
use Rattle.redo_record.specs.declared.redo.Group.{Group}
use Rattle.log_chunks.specs.Log.{Log, AreLog}
use Rattle.page_chunks.specs.Chunk.{Chunk, InChunk, HasGot, waiting}
use Rattle.storage_service.specs.Storage.{AllApply, chunk_at}
use Rattle.storage_service.specs.Shipping.{records_between}

-- a chunk with that number has got a front of the log
pub record IsFront (groups : List Group) (c : ℕ) (chunk : Chunk) : Type 0 where
  pub number : chunk.number ≡ c
  pub got : HasGot chunk (take chunk.applied groups)

-- a chunk with that number has got no group
pub record IsBlank (c : ℕ) (chunk : Chunk) : Type 0 where
  pub number : chunk.number ≡ c
  pub got : HasGot chunk []
  pub none : (p : ℕ) → InChunk chunk p → waiting chunk p ≡ []

-- how many chunks have not got n groups
abbrev pub count_behind : ℕ → List Chunk → ℕ
count_behind n chunks = count_by (λ chunk. nat_lt chunk.applied n) chunks

-- the server's epoch is that of the log, each chunk has got a front of it, and the count of those that are behind is right
pub record IsKept (epoch : ℕ) (log : Log) (chunks : List Chunk) (behind : ℕ) : Type 0 where
  pub epochs : epoch ≡ log.epoch
  pub are : AreLog log.groups
  pub applies : AllApply log.groups
  pub all : length chunks ≡ 128
  pub each : (c : ℕ) → c < 128 → IsFront log.groups c (chunk_at chunks c)
  pub count : behind ≡ count_behind (length log.groups) chunks

-- a chunk has got the groups of the log up to that LSN
pub record IsBrought (groups : List Group) (old : Chunk) (to : ℕ) (new : Chunk) : Type 0 where
  pub number : new.number ≡ old.number
  pub applied : new.applied ≡ to
  pub from : old.applied ≤ to
  pub upto : to ≤ length groups
  pub got : HasGot new (take to groups)
  pub waits : (p : ℕ) → InChunk old p → waiting new p ≡ waiting old p ++ records_between groups old.applied to p
