-- An INSERT needs only to know which of its keys are there: rows that are read range after range tell it.
use Rattle.std.proofs.Common.{◌≡◌, ◌≢◌, ℕ, Bool, true, false, ◌||◌, ◌&&◌, if◌then◌else◌, List, [], ◌∷◌, ◌++◌, length, Some, Result, Ok, Err, refl, sym, ap, ◌∙◌}
use Rattle.std.specs.Prelude.{filter, flat_map}
use Rattle.std.specs.List.{AllByRecursion, list_any}
use Rattle.std.proofs.lemmas.List.{map-append}
use Rattle.std.proofs.lemmas.List.Folds.{list_any-append}
use Rattle.rm_base.specs.declared.key_range.KeyRange.{KeyRange}
use Rattle.sql_values.specs.declared.arithmetic.Overflow.{Overflow}
use Rattle.sql_values.specs.declared.schemas.Schema.{Schema}
use Rattle.sql_values.specs.declared.values.Value.{Value}
use Rattle.sql_values.specs.declared.values.Value.TheVariants.{Null}
use Rattle.row_codec.specs.Keys.{key_bytes}
use Rattle.row_codec.specs.Records.{key_cell}
use Rattle.sql_meaning.specs.declared.resolved.Resolved.{Resolved}
use Rattle.sql_meaning.specs.Ranges.{in_range, tuple_range}
use Rattle.sql_database.specs.declared.replies.SqlReply.TheVariants as reply
use Rattle.sql_exec.specs.Answer.{inserted, inserts, of_rows, wanted}
use Rattle.sql_database.specs.Answers.{refused}
use Rattle.sql_exec.specs.Changes.{first_repeat, is_same, keys_of, placing}
use Rattle.sql_database.specs.Database.{Tables}
use Rattle.sql_exec.specs.Kept.{each, values_in}
use Rattle.sql_exec.specs.Totals.{is_null}
use Rattle.sql_exec.proofs.InsertLaws.{outside_is_needless}
use Rattle.sql_engine.specs.Read.{range_rows, ranges_rows}
use Rattle.sql_engine.proofs.RangeLemmas.{lies_in}

-- whether a row has the key
abbrev has_key : ℕ → Value → List Value → Bool
has_key key k r = is_same k (key_cell key r)

any_filtered : (key : ℕ) (k : Value) (p : List Value → Bool) (rows : List (List Value)) → list_any (is_same k) (keys_of key (filter p rows)) ≡ list_any (λ r. has_key key k r && p r) rows
any_filtered key k p [] = refl
any_filtered key k p (r ∷ rs) = one (p r) ∙ ap (λ b. (has_key key k r && p r) || b) (any_filtered key k p rs)
  where
    one : (b : Bool) → list_any (is_same k) (keys_of key (if b then r ∷ filter p rs else filter p rs)) ≡ ((has_key key k r && b) || list_any (is_same k) (keys_of key (filter p rs)))
    one true = both (has_key key k r)
      where
        both : (a : Bool) → (a || list_any (is_same k) (keys_of key (filter p rs))) ≡ ((a && true) || list_any (is_same k) (keys_of key (filter p rs)))
        both true = refl
        both false = refl
    one false = both (has_key key k r)
      where
        both : (a : Bool) → list_any (is_same k) (keys_of key (filter p rs)) ≡ ((a && false) || list_any (is_same k) (keys_of key (filter p rs)))
        both true = refl
        both false = refl

spread : (h a b x y : Bool) → ((h && a) || x) || ((h && b) || y) ≡ (h && (a || b)) || (x || y)
spread true true b x y = refl
spread true false true true y = refl
spread true false true false y = refl
spread true false false x y = refl
spread false a b x y = refl

-- a row passes one of two tests
either_passes : (h p q : List Value → Bool) (rows : List (List Value)) → (list_any (λ r. h r && p r) rows || list_any (λ r. h r && q r) rows) ≡ list_any (λ r. h r && (p r || q r)) rows
either_passes h p q [] = refl
either_passes h p q (r ∷ rs) =
    spread (h r) (p r) (q r) (list_any (λ x. h x && p x) rs) (list_any (λ x. h x && q x) rs)
    ∙ ap (λ b. (h r && (p r || q r)) || b) (either_passes h p q rs)

none_passes : (h : List Value → Bool) (rows : List (List Value)) → list_any (λ r. h r && false) rows ≡ false
none_passes h [] = refl
none_passes h (r ∷ rs) = none (h r) ∙ none_passes h rs
  where
    none : (b : Bool) → ((b && false) || list_any (λ x. h x && false) rs) ≡ list_any (λ x. h x && false) rs
    none true = refl
    none false = refl

-- a key is among the rows that are read exactly where a row that lies in the ranges has it
any_read : (tables : Tables) (v : Schema) (k : Value) (rs : List KeyRange) → list_any (is_same k) (keys_of v.key (ranges_rows tables v rs)) ≡ list_any (λ r. has_key v.key k r && lies_in v rs r) (tables v.table)
any_read tables v k [] = sym (none_passes (has_key v.key k) (tables v.table))
any_read tables v k (a ∷ rs) =
    ap (λ ks. list_any (is_same k) ks) (map-append (key_cell v.key) (range_rows tables v a) (ranges_rows tables v rs))
    ∙ list_any-append (is_same k) (keys_of v.key (range_rows tables v a)) (keys_of v.key (ranges_rows tables v rs))
    ∙ ap (λ b. b || list_any (is_same k) (keys_of v.key (ranges_rows tables v rs))) (any_filtered v.key k (λ r. in_range (key_bytes (key_cell v.key r)) a) (tables v.table))
    ∙ ap (λ b. list_any (λ r. has_key v.key k r && in_range (key_bytes (key_cell v.key r)) a) (tables v.table) || b) (any_read tables v k rs)
    ∙ either_passes (has_key v.key k) (λ r. in_range (key_bytes (key_cell v.key r)) a) (lies_in v rs) (tables v.table)

-- each row that does not pass a test has another key
abbrev OthersElse : ℕ → Value → (List Value → Bool) → List (List Value) → Type 0
OthersElse key k q rows = AllByRecursion (λ r. q r ≡ false → has_key key k r ≡ false) rows

any_needed : (key : ℕ) (k : Value) (q : List Value → Bool) (rows : List (List Value)) → OthersElse key k q rows → list_any (λ r. has_key key k r && q r) rows ≡ list_any (is_same k) (keys_of key rows)
any_needed key k q [] h = refl
any_needed key k q (r ∷ rs) h =
    ap (λ b. b || list_any (λ x. has_key key k x && q x) rs) (here (q r) (has_key key k r) h.0)
    ∙ ap (λ b. has_key key k r || b) (any_needed key k q rs h.1)
  where
    here : (b c : Bool) → (b ≡ false → c ≡ false) → (c && b) ≡ c
    here true true f = refl
    here true false f = refl
    here false c f = ap (λ x. x && false) (f refl) ∙ sym (f refl)

-- two lists of keys in which each of these is found, or not, alike
abbrev FindAlike : List Value → List Value → List Value → Type 0
FindAlike as_ bs ks = AllByRecursion (λ k. list_any (is_same k) as_ ≡ list_any (is_same k) bs) ks

alike_more : (q : Value) (as_ bs ks : List Value) → FindAlike as_ bs ks → FindAlike (as_ ++ q ∷ []) (bs ++ q ∷ []) ks
alike_more q as_ bs [] h = tt
alike_more q as_ bs (k ∷ ks) h =
    (list_any-append (is_same k) as_ (q ∷ []) ∙ ap (λ b. b || list_any (is_same k) (q ∷ [])) h.0 ∙ sym (list_any-append (is_same k) bs (q ∷ [])), alike_more q as_ bs ks h.1)

repeat_alike : (as_ bs ks : List Value) → FindAlike as_ bs ks → first_repeat as_ ks ≡ first_repeat bs ks
repeat_alike as_ bs [] h = refl
repeat_alike as_ bs (k ∷ ks) h =
    ap (λ b. if b then Some k else first_repeat (as_ ++ k ∷ []) ks) h.0
    ∙ ap (λ m. if list_any (is_same k) bs then Some k else m) (repeat_alike (as_ ++ k ∷ []) (bs ++ k ∷ []) ks (alike_more k as_ bs ks h.1))

left_false : (a b : Bool) → (a || b) ≡ false → a ≡ false
left_false true b h = h
left_false false b h = refl

right_false : (a b : Bool) → (a || b) ≡ false → b ≡ false
right_false true b h = cc
right_false false b h = h

-- each row that does not pass the test has none of the keys
abbrev OthersHaveNone : ℕ → List Value → (List Value → Bool) → List (List Value) → Type 0
OthersHaveNone key ks q rows = AllByRecursion (λ r. q r ≡ false → list_any (λ k. is_same k (key_cell key r)) ks ≡ false) rows

others_first : (key : ℕ) (k : Value) (ks : List Value) (q : List Value → Bool) (rows : List (List Value)) → OthersHaveNone key (k ∷ ks) q rows → OthersElse key k q rows × OthersHaveNone key ks q rows
others_first key k ks q [] h = (tt, tt)
others_first key k ks q (r ∷ rs) h =
    let more = others_first key k ks q rs h.1 in (
      (λ e. left_false (has_key key k r) (list_any (λ x. is_same x (key_cell key r)) ks) (h.0 e), more.0),
      (λ e. right_false (has_key key k r) (list_any (λ x. is_same x (key_cell key r)) ks) (h.0 e), more.1),
    )

found_alike : (tables : Tables) (v : Schema) (rs : List KeyRange) (ks : List Value) → OthersHaveNone v.key ks (lies_in v rs) (tables v.table) → FindAlike (keys_of v.key (ranges_rows tables v rs)) (keys_of v.key (tables v.table)) ks
found_alike tables v rs [] h = tt
found_alike tables v rs (k ∷ ks) h =
    let split = others_first v.key k ks (lies_in v rs) (tables v.table) h in
    (any_read tables v k rs ∙ any_needed v.key k (lies_in v rs) (tables v.table) split.0, found_alike tables v rs ks split.1)

-- each row has a key
abbrev pub HaveKeys : Schema → List (List Value) → Type 0
HaveKeys v rows = AllByRecursion (λ r. key_cell v.key r ≢ Null) rows

others : (v : Schema) (tuples : List (List Resolved)) (news rows : List (List Value)) → HaveKeys v rows → each (λ t. values_in [] t) tuples ≡ Ok news
    → OthersHaveNone v.key (keys_of v.key news) (lies_in v (flat_map (tuple_range v.key) tuples)) rows
others v tuples news [] h e = tt
others v tuples news (r ∷ rs) h e = (λ out. outside_is_needless v.key tuples r h.0 out news e, others v tuples news rs h.1 e)

by_values : (tables : Tables) (v : Schema) (tuples : List (List Resolved)) → HaveKeys v (tables v.table) → (values : Result (List (List Value)) Overflow) → each (λ t. values_in [] t) tuples ≡ values
    → of_rows (inserted v (ranges_rows tables v (flat_map (tuple_range v.key) tuples))) values ≡ of_rows (inserted v (tables v.table)) values
by_values tables v tuples h (Err x) e = refl
by_values tables v tuples h (Ok news) e =
    let rs = flat_map (tuple_range v.key) tuples in
    ap (λ dup. if list_any (λ r. is_null (key_cell v.key r)) news then refused reply.NullKey else wanted (length news) dup (each (placing v) news))
    (repeat_alike (keys_of v.key (ranges_rows tables v rs)) (keys_of v.key (tables v.table)) (keys_of v.key news) (found_alike tables v rs (keys_of v.key news) (others v tuples news (tables v.table) h e)))

pub inserts_alike : (tables : Tables) (v : Schema) (tuples : List (List Resolved)) → HaveKeys v (tables v.table)
    → inserts v (ranges_rows tables v (flat_map (tuple_range v.key) tuples)) tuples ≡ inserts v (tables v.table) tuples
inserts_alike tables v tuples h = by_values tables v tuples h (each (λ t. values_in [] t) tuples) refl
