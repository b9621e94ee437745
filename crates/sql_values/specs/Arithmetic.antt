-- Stated: sums, differences and products of values, exact or refused.
use Rattle.std.specs.Prelude.{◌≡◌, Bool, ◌&&◌, if◌then◌else◌, Result, Ok, Err, ℤ, pos, negsuc, int_le, FitsSigned}
use Rattle.std.specs.Int.{w64}
use Rattle.std.specs.Result.{OkIff}
use Rattle.sql_values.specs.declared.arithmetic.Overflow.{Overflow}
use Rattle.sql_values.specs.declared.values.Value.{Value}
use Rattle.sql_values.specs.declared.values.Value.TheVariants.{Null, Int, Text}

-- what arithmetic takes: NULL or an INT
abbrev pub IsNumber : Value → Type 0
IsNumber Null = Unit {0}
IsNumber (Int n) = Unit {0}
IsNumber (Text t) = ⊥

-- Two INTs give the exact result where i64 has it, and Overflow exactly where it has not. Else the result is NULL.
abbrev pub Calculates : (ℤ → ℤ → ℤ) → Value → Value → Result Value Overflow → Type 0
Calculates f (Int a) (Int b) r = OkIff r (FitsSigned w64 (f a b)) (Int (f a b))
Calculates f Null b r = r ≡ Ok Null
Calculates f (Int a) Null r = r ≡ Ok Null
Calculates f (Int a) (Text t) r = r ≡ Ok Null
Calculates f (Text t) b r = r ≡ Ok Null

-- whether i64 has the number
abbrev pub fits_i64 : ℤ → Bool
fits_i64 z = int_le (negsuc 9223372036854775807) z && int_le z (pos 9223372036854775807)

-- the result as an INT, or Overflow
abbrev pub int_of : ℤ → Result Value Overflow
int_of z = if fits_i64 z then Ok (Int z) else Err (record {})

-- the same as one function of the two values
abbrev pub calculated : (ℤ → ℤ → ℤ) → Value → Value → Result Value Overflow
calculated f (Int a) (Int b) = int_of (f a b)
calculated f Null b = Ok Null
calculated f (Int a) Null = Ok Null
calculated f (Int a) (Text t) = Ok Null
calculated f (Text t) b = Ok Null
