-- Stated: A log with its epoch, and what an append to it does.
use Rattle.std.specs.Prelude.{◌≡◌, ◌+◌, ℕ, Bool, true, false, List, ◌++◌, length, nat_lt, ◌==◌, if◌then◌else◌}
use Rattle.message_model.specs.declared.Appended.{Appended}
use Rattle.message_model.specs.declared.Appended.TheVariants.{Kept, WrongOffset, Fenced}
use Rattle.redo_record.specs.declared.redo.Group.{Group}
use Rattle.redo_record.specs.Spelling.{group_bytes, log_bytes, IsGroup, IsLog, Spells, BeginsWith}
use Rattle.redo_record.specs.Effect.{CountsFrom}

-- the least epoch that may append, and the groups that were kept
pub record Log : Type 0 where
  pub epoch : ℕ
  pub groups : List Group

-- how many bytes the groups have
abbrev pub tail_of : Log → ℕ
tail_of log = length (log_bytes log.groups)

-- the bytes are the spelling of these groups, whose LSNs are n + 1, n + 2 and so on
pub record AreNext (n : ℕ) (bytes : List ℕ) (groups : List Group) : Type 0 where
  pub spelled : Spells bytes groups
  pub counted : CountsFrom n groups

-- the bytes are whole groups with the LSNs after n
abbrev pub GoesOn : ℕ → List ℕ → Type 0
GoesOn n bytes = (groups : List Group) × AreNext n bytes groups

-- the bytes begin with the group, which has n of them, and its LSN is the one after `last`
pub record BeginsNext (last : ℕ) (bytes : List ℕ) (g : Group) (n : ℕ) : Type 0 where
  pub begins : BeginsWith bytes g n
  pub next : g.lsn ≡ last + 1

-- no group with the LSN after `last` begins the bytes
abbrev pub BeginsNoNext : ℕ → List ℕ → Type 0
BeginsNoNext last bytes = (g : Group) (rest : List ℕ) → IsGroup g → g.lsn ≡ last + 1 → bytes ≡ group_bytes g ++ rest → ⊥

-- the groups of a log: each is one that is read, and the LSNs are 1, 2 and so on
pub record AreLog (groups : List Group) : Type 0 where
  pub each : IsLog groups
  pub counted : CountsFrom 0 groups

-- what a store keeps beside the groups: their bytes, and how many these are
pub record IsStored (groups : List Group) (bytes : List ℕ) (tail : ℕ) : Type 0 where
  pub log : AreLog groups
  pub spelled : bytes ≡ log_bytes groups
  pub counted : tail ≡ length (log_bytes groups)

-- the answer to an append of so many bytes: first the epoch is looked at, then the offset
abbrev pub answer_to : Log → ℕ → ℕ → ℕ → Appended
answer_to log epoch offset count =
    if nat_lt epoch log.epoch then Fenced log.epoch
    else (if offset == tail_of log then Kept (tail_of log + count) else WrongOffset (tail_of log))

abbrev pub is_kept : Appended → Bool
is_kept (Kept tail) = true
is_kept (WrongOffset tail) = false
is_kept (Fenced epoch) = false

-- the log with these groups at its end
abbrev pub longer : Log → List Group → Log
longer log groups = record log { groups = log.groups ++ groups }

-- where the bytes were kept, their groups are at the end; else the log is as it was
abbrev pub Appends : Log → List ℕ → Log → Appended → Type 0
Appends old bytes new (Kept tail) = (groups : List Group) → Spells bytes groups → new ≡ longer old groups
Appends old bytes new (WrongOffset tail) = new ≡ old
Appends old bytes new (Fenced epoch) = new ≡ old
