-- Stated: what is known of a source and a sink in memory.
use Rattle.std.specs.Prelude.{ℕ, List}

-- A source: the bytes to come, the numbers of the calls that fail, from 1, how many calls there were,
-- how many of them failed, and the most bytes that one call gives.
pub record MemoryLeft : Type 0 where
  pub left : List ℕ
  pub fails : List ℕ
  pub calls : ℕ
  pub faults : ℕ
  pub piece : ℕ

-- A sink: the bytes taken, the numbers of the calls that fail, from 1, how many calls there were, how
-- many of them failed, and the most bytes that one call takes.
pub record MemoryTaken : Type 0 where
  pub taken : List ℕ
  pub fails : List ℕ
  pub calls : ℕ
  pub faults : ℕ
  pub piece : ℕ

-- A quiet source: the bytes to come, and the most that one call gives.
pub record QuietLeft : Type 0 where
  pub left : List ℕ
  pub piece : ℕ
