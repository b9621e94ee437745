-- Stated: where bytes are refused, by the grammar alone.
use Rattle.std.specs.Prelude.{◌≡◌, ◌≢◌, ◌<◌, ◌+◌, ◌⊎◌, ℕ, List, [], ◌++◌, length}
use Rattle.std.specs.List.{AllByRecursion}
use Rattle.redo_record.specs.declared.redo.Record.{Record}
use Rattle.redo_record.specs.declared.redo.Group.{Group}
use Rattle.redo_record.specs.Spelling.{record_bytes, records_bytes, group_bytes, IsRecord, IsGroup}
use Rattle.redo_record.specs.Header.{header_of, body_of, HasHeader}

-- no record begins the bytes
abbrev pub BeginsNoRecord : List ℕ → Type 0
BeginsNoRecord bytes = (r : Record) (rest : List ℕ) → IsRecord r → bytes ≡ record_bytes r ++ rest → ⊥

-- no group begins the bytes
abbrev pub BeginsNoGroup : List ℕ → Type 0
BeginsNoGroup bytes = (g : Group) (rest : List ℕ) → IsGroup g → bytes ≡ group_bytes g ++ rest → ⊥

-- behind its header the group has these records, and then the rest of it
pub record StartsWith (bytes : List ℕ) (records : List Record) (rest : List ℕ) : Type 0 where
  pub header : HasHeader bytes
  pub each : AllByRecursion IsRecord records
  pub body : body_of bytes ≡ records_bytes records ++ rest

-- fewer records than the header says, and then none: refused where the next would begin
pub record HasBadRecord (bytes : List ℕ) (at : ℕ) : Type 0 where
  pub records : List Record
  pub rest : List ℕ
  pub starts : StartsWith bytes records rest
  pub fewer : length records < (header_of bytes).count
  pub none : BeginsNoRecord rest
  pub there : at ≡ 14 + length (records_bytes records)

-- all the records, and bytes left over: refused at the group's start
pub record HasLeftOver (bytes : List ℕ) (at : ℕ) : Type 0 where
  pub records : List Record
  pub rest : List ℕ
  pub starts : StartsWith bytes records rest
  pub all : length records ≡ (header_of bytes).count
  pub some : rest ≢ []
  pub there : at ≡ 0

-- no group: refused at its start
pub record LacksHeader (bytes : List ℕ) (at : ℕ) : Type 0 where
  pub none : HasHeader bytes → ⊥
  pub there : at ≡ 0

-- the bytes are refused at this offset
abbrev pub IsRefusedAt : List ℕ → ℕ → Type 0
IsRefusedAt bytes at = LacksHeader bytes at ⊎ (HasBadRecord bytes at ⊎ HasLeftOver bytes at)
