-- Facts about the bytes of cells.
use Rattle.std.proofs.Common.{◌≡◌, ◌+◌, ℕ, List, ◌++◌, length, arith, length-append}
use Rattle.rm_base.specs.Fields.{field}
use Rattle.rm_base.proofs.FieldLaws.{length-field}

-- a field has as many bytes as it is to have
pub field_length : (n x : ℕ) → length (field n x) ≡ n
field_length n x = length-field n x

-- a TEXT's cell has three bytes before its text
pub text_length : (t : List ℕ) → length (field 2 (length t) ++ t) ≡ length t + 2
text_length t = simp length-append (let n = length-field 2 (length t) in omega (arith, n))
