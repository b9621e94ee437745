-- Stated: what stands before a group's records.
use Rattle.std.specs.Prelude.{◌≤◌, ◌-◌, ℕ, List, length, take, drop}
use Rattle.rm_base.specs.Fields.{number}

-- the length of the whole group, its LSN, and how many records it has
pub record Header : Type 0 where
  pub size : ℕ
  pub lsn : ℕ
  pub count : ℕ

abbrev pub header_of : List ℕ → Header
header_of bytes = record { size = number 4 bytes; lsn = number 8 (drop 4 bytes); count = number 2 (drop 12 bytes) }

-- the bytes of the group behind its header
abbrev pub body_of : List ℕ → List ℕ
body_of bytes = take ((header_of bytes).size - 14) (drop 14 bytes)

-- a whole header is there, and as many bytes as it says, which are enough for itself; LSN and count are not 0
pub record HasHeader (bytes : List ℕ) : Type 0 where
  pub whole : 14 ≤ length bytes
  pub long : 14 ≤ (header_of bytes).size
  pub there : (header_of bytes).size ≤ length bytes
  pub first : 1 ≤ (header_of bytes).lsn
  pub some : 1 ≤ (header_of bytes).count
