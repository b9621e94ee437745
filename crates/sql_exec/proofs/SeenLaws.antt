-- What a set has after one key more.
use Rattle.std.proofs.Common.{◌≡◌, ℕ, ◌<◌, ◌+◌, Bool, true, false, cond, if◌then◌else◌, ◌||◌, List, [], ◌∷◌, ◌++◌, length, drop, get_or, Some, refl, sym, ap, ◌∙◌}
use Rattle.std.specs.List.{list_any}
use Rattle.std.specs.BTreeSet.{BTreeSet, Updates}
use Rattle.std.proofs.lemmas.Cmp.{eq_by_cmp_equiv}
use Rattle.std.proofs.lemmas.List.Folds.{list_any-append}
use Rattle.sql_values.specs.declared.values.Value.{Value}
use Rattle.sql_values.proofs.OrderLaws.{total}
use Rattle.sql_exec.specs.declared.keys.Key.{Key}
use Rattle.sql_exec.specs.Changes.{first_repeat, is_same}
use Rattle.sql_exec.specs.Seen.{HasKeys, key_cmp}
use Rattle.sql_exec.proofs.KeptLaws.{drop_at}

or_last : (b c : Bool) → cond b true c ≡ (c || (b || false))
or_last true true = refl
or_last true false = refl
or_last false true = refl
or_last false false = refl

pub one_more : (set grown : BTreeSet Key) (key : Key) (keys : List Value) → Updates key_cmp set grown key true → HasKeys set keys → HasKeys grown (keys ++ key.0 ∷ [])
one_more set grown key keys updates has k =
    updates.0 k
    ∙ ap (λ b. cond (is_same key.0 k.0) true b) (has k)
    ∙ ap (λ b. cond b true (list_any (is_same k.0) keys)) ((eq_by_cmp_equiv total).symm key.0 k.0)
    ∙ or_last (is_same k.0 key.0) (list_any (is_same k.0) keys)
    ∙ sym (list_any-append (is_same k.0) keys (key.0 ∷ []))

pub repeated : (before keys : List Value) (i : ℕ) (k : Value) → i < length keys → k ≡ get_or keys i k → true ≡ list_any (is_same k) before → first_repeat before (drop i keys) ≡ Some k
repeated before keys i k h is among =
    ap (first_repeat before) (drop_at keys i k h is)
    ∙ ap (λ b. if b then Some k else first_repeat (before ++ k ∷ []) (drop (i + 1) keys)) (sym among)

pub onward : (before keys : List Value) (i : ℕ) (k : Value) → i < length keys → k ≡ get_or keys i k → false ≡ list_any (is_same k) before → first_repeat before (drop i keys) ≡ first_repeat (before ++ k ∷ []) (drop (i + 1) keys)
onward before keys i k h is among =
    ap (first_repeat before) (drop_at keys i k h is)
    ∙ ap (λ b. if b then Some k else first_repeat (before ++ k ∷ []) (drop (i + 1) keys)) (sym among)
