-- Stated: keys in a set.
use Rattle.std.specs.Prelude.{◌≡◌, List}
use Rattle.std.specs.declared.cmp.Ordering.{Ordering}
use Rattle.std.specs.Ordering.{on}
use Rattle.std.specs.List.{list_any}
use Rattle.std.specs.BTreeSet.{BTreeSet, contains}
use Rattle.sql_values.specs.declared.values.Value.{Value}
use Rattle.sql_values.specs.Order.{value_cmp}
use Rattle.sql_exec.specs.declared.keys.Key.{Key}
use Rattle.sql_exec.specs.Changes.{is_same}

-- the order of keys is that of their values
abbrev pub key_cmp : Key → Key → Ordering
key_cmp = on (λ k. k.0) value_cmp

-- the set has the keys of a list, and no others
abbrev pub HasKeys : BTreeSet Key → List Value → Type 0
HasKeys set keys = (k : Key) → contains key_cmp set k ≡ list_any (is_same k.0) keys
