-- Stated: the order of values.
use Rattle.std.specs.Prelude.{◌≡◌, ℕ, List, [], Option, Some, None, ℤ, pos}
use Rattle.std.specs.declared.cmp.Ordering.{Ordering}
use Rattle.std.specs.Ordering.{nat_cmp, int_cmp, on, then_cmp}
use Rattle.std.specs.Cmp.Lexicographic.{slice_cmp}
use Rattle.sql_values.specs.declared.values.Sort.{Sort}
use Rattle.sql_values.specs.declared.values.Sort.TheVariants as sort
use Rattle.sql_values.specs.declared.values.Value.{Value}
use Rattle.sql_values.specs.declared.values.Value.TheVariants.{Null, Int, Text}

-- a value that a column of the sort may hold
abbrev pub Fits : Value → Sort → Type 0
Fits Null s = Unit {0}
Fits (Int n) sort.Int = Unit {0}
Fits (Int n) sort.Text = ⊥
Fits (Text t) sort.Int = ⊥
Fits (Text t) sort.Text = Unit {0}

-- two values that one column may hold
abbrev pub HaveOneSort : Value → Value → Type 0
HaveOneSort (Int n) (Text t) = ⊥
HaveOneSort (Text t) (Int n) = ⊥
HaveOneSort Null b = Unit {0}
HaveOneSort (Int m) Null = Unit {0}
HaveOneSort (Int m) (Int n) = Unit {0}
HaveOneSort (Text s) Null = Unit {0}
HaveOneSort (Text s) (Text t) = Unit {0}

-- bytes by the first that differs, and a text before what extends it
abbrev pub text_cmp : List ℕ → List ℕ → Ordering
text_cmp = slice_cmp nat_cmp

-- INTs by value, TEXTs by bytes, and nothing where a side is NULL
abbrev pub comparison : Value → Value → Option Ordering
comparison (Int m) (Int n) = Some (int_cmp m n)
comparison (Text s) (Text t) = Some (text_cmp s t)
comparison Null b = None
comparison (Int m) Null = None
comparison (Int m) (Text t) = None
comparison (Text s) Null = None
comparison (Text s) (Int n) = None

-- NULL, then INTs, then TEXTs
abbrev pub class : Value → ℕ
class Null = 0
class (Int n) = 1
class (Text t) = 2

abbrev pub number : Value → ℤ
number Null = pos 0
number (Int n) = n
number (Text t) = pos 0

abbrev pub bytes : Value → List ℕ
bytes Null = []
bytes (Int n) = []
bytes (Text t) = t

-- the order of ORDER BY: NULL first, INTs by value, TEXTs by bytes
abbrev pub value_cmp : Value → Value → Ordering
value_cmp = then_cmp (on class nat_cmp) (then_cmp (on number int_cmp) (on bytes text_cmp))

-- values that the order does not tell apart are one
abbrev pub TellsApart : Type 0
TellsApart = (a b : Value) → value_cmp a b ≡ Ordering.Equal → a ≡ b

-- where the comparison speaks, the order says the same
abbrev pub AgreesWithComparison : Type 0
AgreesWithComparison = (a b : Value) (o : Ordering) → comparison a b ≡ Some o → value_cmp a b ≡ o
