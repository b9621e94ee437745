-- Stated: the log store, and what it answers to an append. Groups are of any type, and `size` says how many bytes one
-- takes.
use Rattle.std.specs.Prelude.{ℕ, ◌+◌, Bool, true, false, List, ◌++◌, if◌then◌else◌, nat_eq, nat_lt, sum_by}

-- the least epoch that may append, and the groups that were kept, in order
pub record Store (G : Type 0) : Type 0 where
  pub epoch : ℕ
  pub groups : List G

-- where the log ends, in bytes
abbrev pub tail_of : {G : Type 0} → (G → ℕ) → Store G → ℕ
tail_of size s = sum_by size s.groups

pub data Answer : Type 0 where
  Kept : (tail : ℕ) → Answer
  WrongOffset : (tail : ℕ) → Answer
  Fenced : (epoch : ℕ) → Answer

-- the epoch is looked at first, then the offset
abbrev pub answer_to : {G : Type 0} → (G → ℕ) → Store G → (epoch offset : ℕ) → List G → Answer
answer_to size s epoch offset groups =
    if nat_lt epoch s.epoch then Fenced s.epoch
    else (if nat_eq offset (tail_of size s) then Kept (tail_of size s + sum_by size groups)
    else WrongOffset (tail_of size s))

abbrev pub is_kept : Answer → Bool
is_kept (Kept t) = true
is_kept (WrongOffset t) = false
is_kept (Fenced e) = false

-- the store after an append: its groups are at the end where the answer is Kept, and nothing is changed else
abbrev pub received : {G : Type 0} → (G → ℕ) → Store G → (epoch offset : ℕ) → List G → Store G
received size s epoch offset groups =
    if is_kept (answer_to size s epoch offset groups) then record s { groups = s.groups ++ groups } else s
