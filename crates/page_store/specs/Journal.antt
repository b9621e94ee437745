-- Stated: A log as bytes, of which the first are kept.
use Rattle.std.specs.Prelude.{◌≡◌, ℕ, zero, suc, List, [], ◌∷◌, ◌++◌, length, drop, Result, Ok, Err}
use Rattle.redo_record.specs.declared.redo.Group.{Group}
use Rattle.redo_record.specs.Spelling.{Spells}
use Rattle.redo_record.specs.Decoding.{group_at}
use Rattle.redo_record.specs.Effect.{CountsFrom}

-- a group that was read, and then those behind it
abbrev pub read_on : Result (Group × ℕ) ℕ → (List ℕ → List Group) → List ℕ → List Group
read_on (Ok (g, size)) others bytes = g ∷ others (drop size bytes)
read_on (Err at) others bytes = []

-- at most n groups, as they are read from the front of the bytes
abbrev pub groups_from : ℕ → List ℕ → List Group
groups_from zero bytes = []
groups_from (suc n) bytes = read_on (group_at bytes) (groups_from n) bytes

-- the groups that the bytes spell: no more than there are bytes
unfoldable pub groups_in : List ℕ → List Group
groups_in bytes = groups_from (length bytes) bytes

-- the kept bytes and the others each spell the groups that are read there; `kept_last` and `last` are the LSNs of the last kept group and the last one
pub record IsJournal (kept own : List ℕ) (kept_last last : ℕ) : Type 0 where
  pub kept_spelled : Spells kept (groups_in kept)
  pub own_spelled : Spells own (groups_in own)
  pub counted : CountsFrom 0 (groups_in kept ++ groups_in own)
  pub kept_last_is : kept_last ≡ length (groups_in kept)
  pub last_is : last ≡ length (groups_in kept ++ groups_in own)
