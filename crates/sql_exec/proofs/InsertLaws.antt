-- A row outside the ranges of an INSERT has the key of no tuple.
use Rattle.std.proofs.Common.{◌≡◌, ◌≢◌, ℕ, zero, suc, Bool, true, false, ◌&&◌, ◌||◌, List, [], ◌∷◌, Some, Result, Ok, Err, refl, sym, ap, subst, ◌∙◌}
use Rattle.std.specs.List.{list_any}
use Rattle.std.specs.Prelude.{flat_map}
use Rattle.std.specs.declared.cmp.Ordering.{Ordering}
use Rattle.std.specs.Ordering.{is_eq, is_le, ordering_reverse}
use Rattle.std.proofs.lemmas.Cmp.{nat_list_cmp_total}
use Rattle.std.proofs.lemmas.List.Folds.{list_any-append}
use Rattle.sql_values.specs.declared.arithmetic.Overflow.{Overflow}
use Rattle.sql_values.specs.declared.values.Value.{Value}
use Rattle.sql_values.specs.declared.values.Value.TheVariants.{Null, Int, Text}
use Rattle.sql_values.specs.Order.{value_cmp, text_cmp}
use Rattle.sql_values.proofs.OrderLaws.{tells_apart}
use Rattle.row_codec.specs.Keys.{key_bytes}
use Rattle.row_codec.specs.Records.{key_cell}
use Rattle.sql_meaning.specs.declared.resolved.Resolved.{Resolved}
use Rattle.sql_meaning.specs.Evaluation.{value_in}
use Rattle.sql_meaning.specs.Ranges.{in_range, in_ranges, own_range, tuple_range}
use Rattle.sql_meaning.specs.Terms.{term}
use Rattle.sql_exec.specs.Changes.{is_same, keys_of}
use Rattle.sql_exec.specs.Whole.{HasOtherKey}
use Rattle.sql_exec.specs.Kept.{each, values_in, with_both}

self_equal : (o : Ordering) → o ≡ ordering_reverse o → o ≡ Ordering.Equal
self_equal Ordering.Less h = cc
self_equal Ordering.Equal h = refl
self_equal Ordering.Greater h = cc

same_text : (k : List ℕ) → text_cmp k k ≡ Ordering.Equal
same_text k = self_equal (text_cmp k k) (nat_list_cmp_total.antisymm k k)

-- a key lies in its own range
in_own : (k : List ℕ) → in_range k (record { low = Some k; high = Some k }) ≡ true
in_own k = ap (λ o. is_le o && is_le o) (same_text k)

equal_is : (o : Ordering) → is_eq o ≡ true → o ≡ Ordering.Equal
equal_is Ordering.Less h = cc
equal_is Ordering.Equal h = refl
equal_is Ordering.Greater h = cc

null_other : (c : Value) → c ≢ Null → is_same Null c ≡ false
null_other Null h = absurd (h refl)
null_other (Int n) h = refl
null_other (Text t) h = refl

-- what lies outside the range of a key is not that key
outside : (w c : Value) (b : Bool) → is_same w c ≡ b → in_range (key_bytes c) (record { low = Some (key_bytes w); high = Some (key_bytes w) }) ≡ false → b ≡ false
outside w c true e h =
    let one : w ≡ c = tells_apart w c (equal_is (value_cmp w c) e) in
    let own : in_range (key_bytes c) (record { low = Some (key_bytes w); high = Some (key_bytes w) }) ≡ true = subst (λ (x : Value). in_range (key_bytes c) (record { low = Some (key_bytes x); high = Some (key_bytes x) }) ≡ true) (sym one) (in_own (key_bytes c)) in
    sym own ∙ h
outside w c false e h = refl

or_left : (a : Bool) → (a || false) ≡ false → a ≡ false
or_left true h = h
or_left false h = refl

value_other : (w c : Value) → c ≢ Null → in_ranges (key_bytes c) (own_range (Ok w)) ≡ false → is_same w c ≡ false
value_other Null c n h = null_other c n
value_other (Int m) c n h = outside (Int m) c (is_same (Int m) c) refl (or_left (in_range (key_bytes c) (record { low = Some (key_bytes (Int m)); high = Some (key_bytes (Int m)) })) h)
value_other (Text t) c n h = outside (Text t) c (is_same (Text t) c) refl (or_left (in_range (key_bytes c) (record { low = Some t; high = Some t })) h)

-- the parts of a list that was made
record Made {A B E : Type 0} (f : A → Result B E) (x : A) (xs : List A) (ys : List B) : Type 0 where
  pub first : B
  pub rest : List B
  pub first_is : f x ≡ Ok first
  pub rest_is : each f xs ≡ Ok rest
  pub all : ys ≡ first ∷ rest

made : {A B E : Type 0} (f : A → Result B E) (x : A) (xs : List A) (ys : List B) (r : Result B E) (s : Result (List B) E) → f x ≡ r → each f xs ≡ s → with_both (λ z zs. z ∷ zs) r s ≡ Ok ys → Made f x xs ys
made f x xs ys (Ok a) (Ok as_) p q h = record { first = a; rest = as_; first_is = p; rest_is = q; all = cc }
made f x xs ys (Ok a) (Err e) p q h = cc
made f x xs ys (Err e) s p q h = cc

nothing_made : (A : Type 0) (ys : List A) → (let r : Result (List A) Overflow = Ok [] in r) ≡ Ok ys → ys ≡ []
nothing_made A ys h = cc

tuple_other : (key : ℕ) (tuple : List Resolved) (vs : List Value) (c : Value) → c ≢ Null → values_in [] tuple ≡ Ok vs → in_ranges (key_bytes c) (tuple_range key tuple) ≡ false → is_same (key_cell key vs) c ≡ false
tuple_other key [] vs c n h o = ap (λ q. is_same (key_cell key q) c) (nothing_made Value vs h) ∙ null_other c n
tuple_other zero (e ∷ es) vs c n h o =
    let m = made (λ q. value_in [] (term q)) e es vs (value_in [] (term e)) (values_in [] es) refl refl h in
    ap (λ q. is_same (key_cell zero q) c) m.all
    ∙ value_other m.first c n (ap (λ r. in_ranges (key_bytes c) (own_range r)) (sym m.first_is) ∙ o)
tuple_other (suc key) (e ∷ es) vs c n h o =
    let m = made (λ q. value_in [] (term q)) e es vs (value_in [] (term e)) (values_in [] es) refl refl h in
    ap (λ q. is_same (key_cell (suc key) q) c) m.all ∙ tuple_other key es m.rest c n m.rest_is o

left_false : (a b : Bool) → (a || b) ≡ false → a ≡ false
left_false true b h = h
left_false false b h = refl

right_false : (a b : Bool) → (a || b) ≡ false → b ≡ false
right_false true b h = cc
right_false false b h = h

both_false : (a b : Bool) → a ≡ false → b ≡ false → (a || b) ≡ false
both_false a b p q = ap (λ x. x || b) p ∙ q

pub outside_is_needless : (key : ℕ) (tuples : List (List Resolved)) (row : List Value) → key_cell key row ≢ Null → in_ranges (key_bytes (key_cell key row)) (flat_map (tuple_range key) tuples) ≡ false → HasOtherKey key tuples row
outside_is_needless key [] row n o news h = ap (λ q. list_any (λ k. is_same k (key_cell key row)) (keys_of key q)) (nothing_made (List Value) news h)
outside_is_needless key (t ∷ ts) row n o news h =
    let c = key_cell key row in
    let m = made (λ q. values_in [] q) t ts news (values_in [] t) (each (λ q. values_in [] q) ts) refl refl h in
    let split = sym (list_any-append (in_range (key_bytes c)) (tuple_range key t) (flat_map (tuple_range key) ts)) ∙ o in
    let here = left_false (in_ranges (key_bytes c) (tuple_range key t)) (in_ranges (key_bytes c) (flat_map (tuple_range key) ts)) split in
    let there = right_false (in_ranges (key_bytes c) (tuple_range key t)) (in_ranges (key_bytes c) (flat_map (tuple_range key) ts)) split in
    ap (λ q. list_any (λ k. is_same k c) (keys_of key q)) m.all
    ∙ both_false (is_same (key_cell key m.first) c) (list_any (λ k. is_same k c) (keys_of key m.rest))
    (tuple_other key t m.first c n m.first_is here)
    (outside_is_needless key ts row n there m.rest m.rest_is)
