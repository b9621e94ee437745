use Rattle.std.proofs.Common.{Result, Ok, Err, refl, arith}
use Rattle.std.specs.Prelude.{IsOk}
use Rattle.std.specs.Result.{OkIff}
use Rattle.rm_base.proofs.FieldLaws.{length-field}
use Rattle.paged_tables.proofs.tests.key.Goals as goal

is_ok_where : {T E : Type 0} (r : Result T E) (P : Type 0) (v : T) → OkIff r P v → P → IsOk r
is_ok_where (Ok x) P v h p = refl
is_ok_where (Err e) P v h p = absurd (h p)

pub unwrap-requires : goal.unwrap-requires
unwrap-requires c = is_ok_where c.in_ok-key_of.field-0 _ _ c.in_ok-key_of.ensures (omega (arith, length-field))
