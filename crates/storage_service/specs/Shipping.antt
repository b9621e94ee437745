-- Stated: what it is that chunks get more of the log, and that a page is folded.
use Rattle.std.specs.Prelude.{◌≡◌, ◌≤◌, ◌+◌, ℕ, List, [], ◌++◌, length, take, drop}
use Rattle.std.specs.List.{flat_map}
use Rattle.call_model.specs.Servers.{put}
use Rattle.redo_record.specs.declared.redo.Group.{Group}
use Rattle.page_chunks.specs.Entries.{records_for}
use Rattle.storage_service.specs.Storage.{Storage, chunk_of}

-- the records for page p in the groups past LSN n up to LSN m
abbrev pub records_between : List Group → (n m p : ℕ) → List Group
records_between groups n m p = flat_map (records_for p) (drop n (take m groups))

-- each chunk c has got the groups up to LSN `to c`: their records wait behind those that did
abbrev pub shipped : Storage → (to : ℕ → ℕ) → Storage
shipped S to = record S {
  applied = to;
  waiting = λ p. S.waiting p ++ records_between S.log.groups (S.applied (chunk_of p)) (to (chunk_of p)) p;
}

-- chunk c gets the next group
abbrev pub one_more : Storage → ℕ → ℕ → ℕ
one_more S c = put S.applied c (S.applied c + 1)

-- chunk c has got some of what it had not
pub record ShipsAt (c : ℕ) (S T : Storage) : Type 0 where
  pub after : T ≡ shipped S (put S.applied c (T.applied c))
  pub from : S.applied c ≤ T.applied c
  pub upto : T.applied c ≤ length S.log.groups

-- chunks have got some of what they had not
pub record IsForward (S T : Storage) : Type 0 where
  pub after : T ≡ shipped S T.applied
  pub from : (c : ℕ) → S.applied c ≤ T.applied c
  pub upto : (c : ℕ) → T.applied c ≤ length S.log.groups

-- no record waits for page p
abbrev pub folded : Storage → ℕ → Storage
folded S p = record S { waiting = put S.waiting p [] }
