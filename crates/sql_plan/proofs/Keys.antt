-- The bytes of a key.
use Rattle.std.proofs.Common.{◌≡◌, ◌≤◌, ℕ, List, length, sym, subst, arith}
use Rattle.std.specs.Prelude.{ℤ}
use Rattle.rm_base.proofs.FieldLaws.{length-field}
use Rattle.row_codec.specs.Keys.{key_bytes, rank}
use Rattle.sql_values.specs.declared.values.Value.TheVariants.{Int}

-- those of an INT are 8
pub int_key_is_short : (n : ℤ) → length (key_bytes (Int n)) ≤ 64
int_key_is_short n = omega (arith, length-field 8 (rank n))
