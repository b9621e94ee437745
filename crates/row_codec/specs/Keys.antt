-- Stated: the bytes of a key.
use Rattle.std.specs.Prelude.{◌≡◌, ℕ, ℤ, negsuc, ◌-ℤ◌, unsigned_abs, List, [], Some, FitsSigned}
use Rattle.std.specs.Int.{w64}
use Rattle.rm_base.specs.Fields.{field}
use Rattle.sql_values.specs.declared.values.Value.{Value}
use Rattle.sql_values.specs.declared.values.Value.TheVariants.{Null, Int, Text}
use Rattle.sql_values.specs.Order.{HaveOneSort, comparison, text_cmp}

-- how far an INT lies above the least i64
abbrev pub rank : ℤ → ℕ
rank n = unsigned_abs (n -ℤ negsuc 9223372036854775807)

-- an INT's rank in 8 bytes, or the bytes of a TEXT
abbrev pub key_bytes : Value → List ℕ
key_bytes Null = []
key_bytes (Int n) = field 8 (rank n)
key_bytes (Text t) = t

-- an INT of a key is an i64
abbrev pub IsKey : Value → Type 0
IsKey Null = ⊥
IsKey (Int n) = FitsSigned w64 n
IsKey (Text t) = Unit {0}

-- the bytes of two keys of one sort are ordered as the keys are
abbrev pub OrderedAsKeys : Type 0
OrderedAsKeys =
    (a b : Value) → IsKey a → IsKey b → HaveOneSort a b → comparison a b ≡ Some (text_cmp (key_bytes a) (key_bytes b))

-- keys of one sort with equal bytes are equal
abbrev pub TellKeysApart : Type 0
TellKeysApart = (a b : Value) → IsKey a → IsKey b → HaveOneSort a b → key_bytes a ≡ key_bytes b → a ≡ b
