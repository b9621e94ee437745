use Rattle.std.proofs.Common.{◌≡◌, ℤ, [], ◌∷◌, Option, Some, None, Result, Ok, Err, refl, sym, ap, subst, ◌∙◌, arith}
use Rattle.std.specs.Prelude.{codes, FitsSigned, IfSome, IsOk}
use Rattle.std.specs.Int.{w64}
use Rattle.std.proofs.Math.Facts.{to_z-of_z}
use Rattle.rm_base.proofs.FieldLaws.{length-field}
use Rattle.sql_values.specs.declared.schemas.Schema.{Schema}
use Rattle.sql_values.specs.declared.values.Sort.TheVariants as sort
use Rattle.sql_values.specs.declared.values.Value.TheVariants.{Int}
use Rattle.row_codec.specs.Keys.{key_bytes, rank}
use Rattle.sql_database.specs.declared.changes.Change.{Change}
use Rattle.sql_database.specs.Database.{empty}
use Rattle.sql_database.specs.Applied.{with_table, with_row}
use Rattle.sql_engine.specs.Sound.{CanChange}
use Rattle.paged_tables.specs.Content.{HoldsNow}
use Rattle.paged_tables.proofs.tests.with_row.Goals as goal

abbrev sample : Schema
sample = record { table = codes "t"; columns = record { name = codes "t"; sort = sort.Int } ∷ []; key = 0 }

abbrev placing : ℤ → Change
placing n = record { table = codes "t"; key = key_bytes (Int n); row = Some (Int n ∷ []) }

some_at : {T : Type 0} (o : Option T) (P : T → Type 0) (x : T) → o ≡ Some x → IfSome o P → P x
some_at None P x is h = absurd cc
some_at (Some y) P x is h = let same : y ≡ x = cc in subst P same h

can_change : (n : ℤ) → FitsSigned w64 n → CanChange (with_table empty sample).schemas (placing n)
can_change n fits =
    let size = length-field 8 (rank n) in
    record {
      schema = sample;
      named = refl;
      short = omega arith;
      placed = record {
        fits = record { cells = (tt, tt); key = λ e. cc };
        ints = (fits, tt);
        key_is = refl;
        value_is = refl;
        short_key = omega arith;
        short_record = omega arith;
      };
    }

changes : (c : Change) (n : ℤ) → FitsSigned w64 n → c ≡ placing n → CanChange (with_table empty sample).schemas c
changes c n fits is = subst (λ (x : Change). CanChange (with_table empty sample).schemas x) (sym is) (can_change n fits)

pub change-requires-2 : goal.change-requires-2
change-requires-2 c =
    let now = some_at c.in_ok-tables.field-0 (λ t. HoldsNow t (with_table empty sample)) c.in-Some.tables c.in-Some.is c.in_ok-tables.ensures.now in
    (with_table empty sample, now, changes c.in_ok-change.field-0 c.args.number c.ranges.number (c.in_ok-change.ensures ∙ ap placing (to_z-of_z {w = w64} c.ranges.number)))

ok_is : {T E : Type 0} (r : Result T E) (x : T) → r ≡ Ok x → IsOk r
ok_is (Ok y) x is = refl
ok_is (Err e) x is = absurd cc

pub returns-in-Ok-clause-now : goal.returns-in-Ok-clause-now
returns-in-Ok-clause-now c =
    let now = some_at c.in_ok-tables.field-0 (λ t. HoldsNow t (with_table empty sample)) c.in-Some.tables c.in-Some.is c.in_ok-tables.ensures.now in
    let can = changes c.in_ok-change.field-0 c.args.number c.ranges.number (c.in_ok-change.ensures ∙ ap placing (to_z-of_z {w = w64} c.ranges.number)) in
    (with_row (with_table empty sample) c.in_ok-change.field-0, c.in_ok-change-2.ensures.made (with_table empty sample) now can (ok_is c.in_ok-change-2.field-0 c.in-Ok.field-0 c.in-Ok.is))
