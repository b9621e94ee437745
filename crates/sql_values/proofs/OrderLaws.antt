-- The laws of the order of values.
use Rattle.std.proofs.Common.{◌≡◌, Some, refl, sym, ◌∙◌, ap}
use Rattle.std.specs.declared.cmp.Ordering.{Ordering}
use Rattle.std.specs.Ordering.{ordering_then, int_cmp}
use Rattle.std.specs.Cmp.{IsTotalOrder, nat_cmp_total, int_cmp_total}
use Rattle.std.proofs.lemmas.Cmp.{nat_list_cmp_total, on_total, then_total}
use Rattle.std.proofs.lemmas.Map.Lookups.{exact_signed, exact_bytes}
use Rattle.sql_values.specs.declared.values.Value.TheVariants.{Null, Int, Text}
use Rattle.sql_values.specs.Order.{text_cmp, class, number, bytes, value_cmp, TellsApart, AgreesWithComparison}

-- what two Somes hold is equal if they are
inside : (o p : Ordering) → Some o ≡ Some p → o ≡ p
inside o p h = cc

pub total : IsTotalOrder value_cmp
total = then_total (on_total class nat_cmp_total) (then_total (on_total number int_cmp_total) (on_total bytes nat_list_cmp_total))

-- an equal tie-break decides nothing
then-Equal : (o : Ordering) → ordering_then o Ordering.Equal ≡ o
then-Equal Ordering.Less = refl
then-Equal Ordering.Equal = refl
then-Equal Ordering.Greater = refl

pub tells_apart : TellsApart
tells_apart Null Null h = refl
tells_apart Null (Int n) h = cc
tells_apart Null (Text t) h = cc
tells_apart (Int m) Null h = cc
tells_apart (Int m) (Int n) h = ap Int (exact_signed m n (sym (then-Equal (int_cmp m n)) ∙ h))
tells_apart (Int m) (Text t) h = cc
tells_apart (Text s) Null h = cc
tells_apart (Text s) (Int n) h = cc
tells_apart (Text s) (Text t) h = ap Text (exact_bytes s t h)

pub agrees : AgreesWithComparison
agrees Null b o h = cc
agrees (Int m) Null o h = cc
agrees (Int m) (Int n) o h = then-Equal (int_cmp m n) ∙ inside (int_cmp m n) o h
agrees (Int m) (Text t) o h = cc
agrees (Text s) Null o h = cc
agrees (Text s) (Int n) o h = cc
agrees (Text s) (Text t) o h = inside (text_cmp s t) o h
