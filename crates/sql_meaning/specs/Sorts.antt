-- Stated: what a place takes is what it gets.
use Rattle.std.specs.Prelude.{◌≡◌, true, List, [], ◌∷◌, Ok}
use Rattle.sql_values.specs.declared.values.Sort.{Sort}
use Rattle.sql_values.specs.declared.values.Value.{Value}
use Rattle.sql_values.specs.Order.{Fits}
use Rattle.sql_meaning.specs.declared.fields.Field.{Field}
use Rattle.sql_meaning.specs.declared.resolved.Resolved.{Resolved}
use Rattle.sql_meaning.specs.Evaluation.{value_in}
use Rattle.sql_meaning.specs.Kinds.{takes}
use Rattle.sql_meaning.specs.Refusals.{suits}
use Rattle.sql_meaning.specs.Terms.{term}

-- the cells of a row have the sorts of its fields, one for one
abbrev pub FitFields : List Field → List Value → Type 0
FitFields [] [] = Unit {0}
FitFields [] (v ∷ vs) = ⊥
FitFields (f ∷ fs) [] = ⊥
FitFields (f ∷ fs) (v ∷ vs) = Fits v f.sort × FitFields fs vs

-- where an expression suits a column, each value of it fits the column
abbrev pub SuitsMeansFits : Type 0
SuitsMeansFits =
    (fields : List Field) (row : List Value) (e : Resolved) (s : Sort) (v : Value)
    → FitFields fields row → suits fields (takes s) e ≡ true → value_in row (term e) ≡ Ok v → Fits v s
