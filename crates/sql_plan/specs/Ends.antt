-- Stated: the ends of a range of keys, as conjuncts of a test narrow it one after the other.
use Rattle.std.specs.Prelude.{ℕ, Bool, true, false, ◌&&◌, List, [], ◌∷◌, Option, Some, None, is_some, option_map}
use Rattle.sql_values.specs.declared.values.Value.{Value}
use Rattle.sql_statements.specs.declared.expressions.Op.{Op}
use Rattle.sql_meaning.specs.Ranges.{range_at, bounds_of, test_of_action, KeyPlaces, Bound, bound, end_of, is_low, is_high, greater, lesser}
use Rattle.sql_meaning.specs.Terms.{Term, term}
use Rattle.sql_meaning.specs.declared.actions.Action.{Action}
use Rattle.rm_base.specs.declared.key_range.KeyRange.{KeyRange}

-- the greater of two low ends and the lesser of two high ends, where there are any
abbrev pub raised : Option (List ℕ) → Option (List ℕ) → Option (List ℕ)
raised None b = b
raised (Some a) b = Some (greater a b)

abbrev pub lowered : Option (List ℕ) → Option (List ℕ) → Option (List ℕ)
lowered None b = b
lowered (Some a) b = Some (lesser a b)

-- the ends after what the conjuncts say
abbrev pub raised_by : (Bound → Option (List ℕ)) → Option (List ℕ) → List Bound → Option (List ℕ)
raised_by end low [] = low
raised_by end low (b ∷ bs) = raised_by end (raised low (end b)) bs

abbrev pub lowered_by : (Bound → Option (List ℕ)) → Option (List ℕ) → List Bound → Option (List ℕ)
lowered_by end high [] = high
lowered_by end high (b ∷ bs) = lowered_by end (lowered high (end b)) bs

-- whether each of the conjuncts says something of a key
abbrev pub all_say : KeyPlaces → List Term → Bool
all_say keys [] = true
all_say keys (t ∷ ts) = is_some (bound keys t) && all_say keys ts

-- what one conjunct may say
abbrev pub one : Option Bound → List Bound
one None = []
one (Some b) = b ∷ []

-- where a range is sought: of the key at a place, and for a left row, where there is one
pub record Sought : Type 0 where
  pub keys : KeyPlaces
  pub key : ℕ
  pub row : Option (List Value)

abbrev pub low_end : Sought → Bound → Option (List ℕ)
low_end at b = end_of is_low at.key at.row b

abbrev pub high_end : Sought → Bound → Option (List ℕ)
high_end at b = end_of is_high at.key at.row b

-- the range that the test of what a statement does leaves for the key at a place
abbrev pub action_range : KeyPlaces → ℕ → Option (List Value) → Action → List KeyRange
action_range keys key row action = range_at key row (bounds_of keys (option_map term (test_of_action action)))
