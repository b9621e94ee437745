-- Key bytes are ordered as keys.
use Rattle.std.proofs.Common.{◌≡◌, ◌<◌, ◌^◌, ℕ, ℤ, ◌<ℤ◌, FitsSigned, [], Some, refl, sym, ◌∙◌, ap, arith, append-nil}
use Rattle.std.specs.declared.cmp.Ordering.{Ordering}
use Rattle.std.specs.declared.cmp.Ordering.TheVariants.{Less, Equal, Greater}
use Rattle.std.specs.Ordering.{nat_cmp, int_cmp, MatchOrdering}
use Rattle.std.specs.Cmp.{nat_cmp_is}
use Rattle.std.proofs.lemmas.Cmp.{int_ranked}
use Rattle.std.proofs.lemmas.Int.{ints}
use Rattle.std.specs.Int.{w64}
use Rattle.rm_base.specs.Fields.{field, number}
use Rattle.rm_base.proofs.FieldLaws.{number-field}
use Rattle.rm_base.proofs.FieldOrder.{ordered_as_numbers}
use Rattle.sql_values.specs.declared.values.Value.TheVariants.{Null, Int, Text}
use Rattle.row_codec.specs.Keys.{rank, OrderedAsKeys, TellKeysApart}

rank-lt : (n : ℤ) → FitsSigned w64 n → rank n < 256 ^ 8
rank-lt n h = omega (arith, ints)

ranks_by : (o : Ordering) (m n : ℤ) → FitsSigned w64 m → FitsSigned w64 n → MatchOrdering o (m <ℤ n) (m ≡ n) (n <ℤ m)
    → MatchOrdering o (rank m < rank n) (rank m ≡ rank n) (rank n < rank m)
ranks_by Less m n hm hn h = omega (arith, ints)
ranks_by Equal m n hm hn h = ap rank h
ranks_by Greater m n hm hn h = omega (arith, ints)

ranks : (m n : ℤ) → FitsSigned w64 m → FitsSigned w64 n → int_cmp m n ≡ nat_cmp (rank m) (rank n)
ranks m n hm hn = nat_cmp_is (rank m) (rank n) (int_cmp m n) (ranks_by (int_cmp m n) m n hm hn (int_ranked m n (int_cmp m n) refl))

pub ordered : OrderedAsKeys
ordered Null b ka kb one = absurd ka
ordered (Int m) Null ka kb one = absurd kb
ordered (Int m) (Text t) ka kb one = absurd one
ordered (Text s) Null ka kb one = absurd kb
ordered (Text s) (Int n) ka kb one = absurd one
ordered (Text s) (Text t) ka kb one = refl
ordered (Int m) (Int n) ka kb one =
    ap Some (ranks m n ka kb ∙ sym (ordered_as_numbers 8 (rank m) (rank n) (rank-lt m ka) (rank-lt n kb)))

rank_apart : (m n : ℤ) → FitsSigned w64 m → FitsSigned w64 n → rank m ≡ rank n → m ≡ n
rank_apart m n hm hn e = omega (arith, ints)

pub apart : TellKeysApart
apart Null b ka kb one e = absurd ka
apart (Int m) Null ka kb one e = absurd kb
apart (Int m) (Text t) ka kb one e = absurd one
apart (Text s) Null ka kb one e = absurd kb
apart (Text s) (Int n) ka kb one e = absurd one
apart (Text s) (Text t) ka kb one e = ap Text e
apart (Int m) (Int n) ka kb one e =
    let numbers : rank m ≡ rank n =
    sym (back (rank m) (rank-lt m ka)) ∙ ap (number 8) e ∙ back (rank n) (rank-lt n kb) in
    ap Int (rank_apart m n ka kb numbers)
  where
    back : (z : ℕ) → z < 256 ^ 8 → number 8 (field 8 z) ≡ z
    back z h = ap (number 8) (sym (append-nil (field 8 z))) ∙ number-field 8 z [] h
