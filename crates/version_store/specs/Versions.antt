-- Stated: the versions of a row, newest first, and what a reader sees of them.
use Rattle.std.specs.Prelude.{ℕ, Bool, false, Option, Some, None, List, [], ◌∷◌, if◌then◌else◌, nat_eq, nat_le, not, ◌&&◌, ◌||◌}
use Rattle.sql_values.specs.declared.values.Value.{Value}

abbrev pub Row : Type 0
Row = List Value

-- a row that a transaction wrote, or none where it deleted it; in the catalog's tree with the table's root
pub record Version : Type 0 where
  pub trx : ℕ
  pub row : Option Row
  pub root : ℕ

abbrev pub is_own : Option ℕ → ℕ → Bool
is_own None t = false
is_own (Some u) t = nat_eq u t

-- a transaction has a stamp once it is committed, and a reader sees the stamps up to its number
abbrev pub visible : ℕ → ℕ → Bool
visible stamp n = not (nat_eq stamp 0) && nat_le stamp n

-- what is seen of a row: its newest version that is the reader's own or has a stamp up to the number
abbrev pub seen : List Version → (ℕ → ℕ) → ℕ → Option ℕ → Option Row
seen [] stamp n own = None
seen (v ∷ vs) stamp n own = if is_own own v.trx || visible (stamp v.trx) n then v.row else seen vs stamp n own

-- the root in that version
abbrev pub seen_root : List Version → (ℕ → ℕ) → ℕ → Option ℕ → Option ℕ
seen_root [] stamp n own = None
seen_root (v ∷ vs) stamp n own =
    if is_own own v.trx || visible (stamp v.trx) n then Some v.root else seen_root vs stamp n own

-- the stamp of the newest version that has one
abbrev pub newest_stamp : List Version → (ℕ → ℕ) → ℕ
newest_stamp [] stamp = 0
newest_stamp (v ∷ vs) stamp = if nat_eq (stamp v.trx) 0 then newest_stamp vs stamp else stamp v.trx

-- the versions without the newest
abbrev pub older : List Version → List Version
older [] = []
older (v ∷ vs) = vs
