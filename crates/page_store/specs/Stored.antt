-- Stated: the groups of a log, of which the last can still be given back, and the pages that they leave.
use Rattle.std.specs.Prelude.{◌+◌, ℕ, List, [], ◌∷◌, ◌++◌, length}
use Rattle.page_image.specs.Image.{Image, unmade}
use Rattle.redo_record.specs.declared.redo.Record.{Record}
use Rattle.redo_record.specs.declared.redo.Group.{Group}
use Rattle.redo_record.specs.Effect.{after_groups}

-- the groups that are kept, and those that came since
pub record Stored : Type 0 where
  pub kept : List Group
  pub own : List Group

-- all of the groups, in the order of the log
abbrev pub groups_of : Stored → List Group
groups_of s = s.kept ++ s.own

-- page p as the groups leave it
abbrev pub pages_of : Stored → ℕ → Image
pages_of s p = after_groups (groups_of s) (unmade p)

-- the LSN of the group that comes next
abbrev pub next_lsn : Stored → ℕ
next_lsn s = 1 + length (groups_of s)

-- one group more, of these records
abbrev pub with_group : Stored → List Record → Stored
with_group s records = record s { own = s.own ++ record { lsn = next_lsn s; records = records } ∷ [] }

-- all of the groups are kept
abbrev pub all_kept : Stored → Stored
all_kept s = record { kept = groups_of s; own = [] }

-- only the kept groups are left
abbrev pub given_back : Stored → Stored
given_back s = record s { own = [] }
