-- For the proofs: of each chunk the LSN of the last group that has a record for one of its pages.
use Rattle.std.specs.Prelude.{◌≡◌, ◌<◌, ℕ, Bool, List, [], ◌∷◌, length, slice_index_or, nat_eq, if◌then◌else◌}
use Rattle.std.specs.List.{list_any}
use Rattle.redo_record.specs.declared.redo.Record.{Record}
use Rattle.redo_record.specs.declared.redo.Group.{Group}
use Rattle.redo_record.specs.Effect.{page_of}
use Rattle.storage_service.specs.Storage.{chunk_of}

-- some record is for a page of chunk c
abbrev pub some_for : ℕ → List Record → Bool
some_for c records = list_any (λ r. nat_eq (chunk_of (page_of r)) c) records

-- the LSN of the last group with a record for chunk c, or `before` where there is none
abbrev pub last_for : ℕ → ℕ → List Group → ℕ
last_for c before [] = before
last_for c before (g ∷ groups) = last_for c (if some_for c g.records then g.lsn else before) groups

abbrev pub noted_at : List ℕ → ℕ → ℕ
noted_at noted c = slice_index_or noted c 0

pub record AreNoted (groups : List Group) (noted : List ℕ) : Type 0 where
  pub all : length noted ≡ 128
  pub each : (c : ℕ) → c < 128 → noted_at noted c ≡ last_for c 0 groups
