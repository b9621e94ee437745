-- Stated: what MIN and MAX answer.
use Rattle.std.specs.Prelude.{◌≡◌, false, List, Ok, IsOkAnd}
use Rattle.std.specs.Bool.{MatchBool}
use Rattle.std.specs.List.{Contains, list_all}
use Rattle.std.specs.Ordering.{is_lt, is_gt}
use Rattle.sql_values.specs.declared.values.Value.{Value}
use Rattle.sql_values.specs.declared.values.Value.TheVariants.{Null}
use Rattle.sql_values.specs.Order.{value_cmp}
use Rattle.sql_meaning.specs.declared.resolved.Resolved.{Resolved}
use Rattle.sql_meaning.specs.declared.actions.Total.TheVariants.{Min, Max}
use Rattle.sql_exec.specs.Totals.{is_null, column_of, total_of}

-- v is one of the cells and not NULL, and no cell that is not NULL is less
pub record IsLeast (cells : List Value) (v : Value) : Type 0 where
  pub among : Contains cells v
  pub known : is_null v ≡ false
  pub none_less : (w : Value) → Contains cells w → is_null w ≡ false → is_lt (value_cmp w v) ≡ false

-- v is one of the cells and not NULL, and no cell that is not NULL is greater
pub record IsGreatest (cells : List Value) (v : Value) : Type 0 where
  pub among : Contains cells v
  pub known : is_null v ≡ false
  pub none_greater : (w : Value) → Contains cells w → is_null w ≡ false → is_gt (value_cmp w v) ≡ false

-- MIN is NULL where all cells are NULL, and else the least of them
abbrev pub MinIsLeast : Type 0
MinIsLeast = (rows : List (List Value)) (e : Resolved) (cells : List Value) → column_of rows e ≡ Ok cells
    → IsOkAnd (total_of rows (Min e)) (λ v. MatchBool (list_all is_null cells) (v ≡ Null) (IsLeast cells v))

-- MAX is NULL where all cells are NULL, and else the greatest of them
abbrev pub MaxIsGreatest : Type 0
MaxIsGreatest = (rows : List (List Value)) (e : Resolved) (cells : List Value) → column_of rows e ≡ Ok cells
    → IsOkAnd (total_of rows (Max e)) (λ v. MatchBool (list_all is_null cells) (v ≡ Null) (IsGreatest cells v))
