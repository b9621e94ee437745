-- Rows that a statement does not need change no answer.
use Rattle.std.proofs.Common.{◌≡◌, ℕ, Bool, true, false, ◌||◌, if◌then◌else◌, List, [], ◌∷◌, ◌++◌, Option, Some, None, option_map, Result, Ok, Err, MatchOption, refl, sym, ap, subst, ◌∙◌, inl, inr, length}
use Rattle.std.specs.List.{list_any}
use Rattle.std.proofs.lemmas.List.Folds.{list_any-append}
use Rattle.sql_values.specs.declared.arithmetic.Overflow.{Overflow}
use Rattle.sql_values.specs.declared.logic.Truth.{Truth}
use Rattle.sql_values.specs.declared.logic.Truth.TheVariants.{No}
use Rattle.sql_values.specs.declared.schemas.Schema.{Schema}
use Rattle.sql_values.specs.declared.values.Value.{Value}
use Rattle.row_codec.specs.Records.{key_cell}
use Rattle.sql_meaning.specs.declared.resolved.Resolved.{Resolved}
use Rattle.sql_meaning.specs.declared.actions.Action.{Action}
use Rattle.sql_meaning.specs.declared.actions.Action.TheVariants as action
use Rattle.sql_meaning.specs.declared.refusals.Refusal.{Refusal}
use Rattle.sql_meaning.specs.Evaluation.{test_in}
use Rattle.sql_meaning.specs.Names.{scope}
use Rattle.sql_meaning.specs.Places.{placed_action}
use Rattle.sql_meaning.specs.Refusals.{refusal}
use Rattle.sql_meaning.specs.Terms.{Term, term}
use Rattle.sql_database.specs.Answers.{Answer, refused}
use Rattle.sql_exec.specs.Answer.{Does, GivesKept, inserted, of_rows, placed_rows, removed_rows, wanted, reply_of, source, target}
use Rattle.sql_database.specs.declared.replies.SqlReply.TheVariants as reply
use Rattle.sql_exec.specs.Changes.{first_repeat, is_same, keys_of, placing}
use Rattle.sql_exec.specs.Totals.{is_null}
use Rattle.sql_exec.specs.Whole.{HasOtherKey, IsNeedless, IsWhole, Without, whole}
use Rattle.sql_exec.specs.Kept.{each, if_kept, kept, set_all, values_in, with_both}

unkept : (row : List Value) (r : Result Truth Overflow) (more : Result (List (List Value)) Overflow) → r ≡ Ok No → with_both (λ t ms. if_kept row t ++ ms) r more ≡ more
unkept row r more e = ap (λ q. with_both (λ t ms. if_kept row t ++ ms) q more) e ∙ alone more
  where
    alone : (m : Result (List (List Value)) Overflow) → with_both (λ t ms. if_kept row t ++ ms) (Ok No) m ≡ m
    alone (Ok ms) = refl
    alone (Err f) = refl

-- a row whose test is No is as if it were not there
kept_without : (test : Option Term) (xs ys : List (List Value)) → Without (λ r. test_in r test ≡ Ok No) xs ys → kept test xs ≡ kept test ys
kept_without test [] [] w = refl
kept_without test [] (y ∷ ys) w = absurd w
kept_without test (x ∷ xs) [] w = unkept x (test_in x test) (kept test xs) w.0 ∙ kept_without test xs [] w.1
kept_without test (x ∷ xs) (y ∷ ys) (inl w) =
    ap (λ m. with_both (λ t ms. if_kept x t ++ ms) (test_in x test) m) (kept_without test xs ys w.1)
    ∙ ap (λ z. with_both (λ t ms. if_kept z t ++ ms) (test_in z test) (kept test ys)) w.0
kept_without test (x ∷ xs) (y ∷ ys) (inr w) = unkept x (test_in x test) (kept test xs) w.0 ∙ kept_without test xs (y ∷ ys) w.1

weaker : (P Q : List Value → Type 0) → ((r : List Value) → P r → Q r) → (xs ys : List (List Value)) → Without P xs ys → Without Q xs ys
weaker P Q f [] [] w = tt
weaker P Q f [] (y ∷ ys) w = absurd w
weaker P Q f (x ∷ xs) [] w = (f x w.0, weaker P Q f xs [] w.1)
weaker P Q f (x ∷ xs) (y ∷ ys) (inl w) = inl (w.0, weaker P Q f xs ys w.1)
weaker P Q f (x ∷ xs) (y ∷ ys) (inr w) = inr (f x w.0, weaker P Q f xs (y ∷ ys) w.1)

-- a row with another key is not found by the key
found_without : (key : ℕ) (k : Value) (xs ys : List (List Value)) → Without (λ r. is_same k (key_cell key r) ≡ false) xs ys → list_any (is_same k) (keys_of key xs) ≡ list_any (is_same k) (keys_of key ys)
found_without key k [] [] w = refl
found_without key k [] (y ∷ ys) w = absurd w
found_without key k (x ∷ xs) [] w = ap (λ b. b || list_any (is_same k) (keys_of key xs)) w.0 ∙ found_without key k xs [] w.1
found_without key k (x ∷ xs) (y ∷ ys) (inl w) =
    ap (λ b. is_same k (key_cell key x) || b) (found_without key k xs ys w.1)
    ∙ ap (λ z. is_same k (key_cell key z) || list_any (is_same k) (keys_of key ys)) w.0
found_without key k (x ∷ xs) (y ∷ ys) (inr w) = ap (λ b. b || list_any (is_same k) (keys_of key xs)) w.0 ∙ found_without key k xs (y ∷ ys) w.1

-- two lists in which each of these keys is found, or not, alike
abbrev FindAlike : List Value → List Value → List Value → Type 0
FindAlike as_ bs [] = Unit {0}
FindAlike as_ bs (k ∷ ks) = (list_any (is_same k) as_ ≡ list_any (is_same k) bs) × FindAlike as_ bs ks

alike_more : (q : Value) (as_ bs ks : List Value) → FindAlike as_ bs ks → FindAlike (as_ ++ q ∷ []) (bs ++ q ∷ []) ks
alike_more q as_ bs [] h = tt
alike_more q as_ bs (k ∷ ks) h =
    (list_any-append (is_same k) as_ (q ∷ []) ∙ ap (λ b. b || list_any (is_same k) (q ∷ [])) h.0 ∙ sym (list_any-append (is_same k) bs (q ∷ [])), alike_more q as_ bs ks h.1)

repeat_alike : (as_ bs ks : List Value) → FindAlike as_ bs ks → first_repeat as_ ks ≡ first_repeat bs ks
repeat_alike as_ bs [] h = refl
repeat_alike as_ bs (k ∷ ks) h =
    ap (λ b. if b then Some k else first_repeat (as_ ++ k ∷ []) ks) h.0
    ∙ ap (λ m. if list_any (is_same k) bs then Some k else m) (repeat_alike (as_ ++ k ∷ []) (bs ++ k ∷ []) ks (alike_more k as_ bs ks h.1))

left_false : (a b : Bool) → (a || b) ≡ false → a ≡ false
left_false true b h = h
left_false false b h = refl

right_false : (a b : Bool) → (a || b) ≡ false → b ≡ false
right_false true b h = cc
right_false false b h = h

alike : (key : ℕ) (xs ys : List (List Value)) (ks : List Value) → Without (λ r. list_any (λ k. is_same k (key_cell key r)) ks ≡ false) xs ys → FindAlike (keys_of key xs) (keys_of key ys) ks
alike key xs ys [] w = tt
alike key xs ys (k ∷ ks) w = (
  found_without key k xs ys (weaker _ _ (λ r h. left_false (is_same k (key_cell key r)) (list_any (λ q. is_same q (key_cell key r)) ks) h) xs ys w),
  alike key xs ys ks (weaker _ _ (λ r h. right_false (is_same k (key_cell key r)) (list_any (λ q. is_same q (key_cell key r)) ks) h) xs ys w),
)

insert_rows : (schema : Schema) (tuples : List (List Resolved)) (xs ys : List (List Value)) (r : Result (List (List Value)) Overflow) → each (λ t. values_in [] t) tuples ≡ r → Without (HasOtherKey schema.key tuples) xs ys → of_rows (inserted schema xs) r ≡ of_rows (inserted schema ys) r
insert_rows schema tuples xs ys (Err e) h w = refl
insert_rows schema tuples xs ys (Ok news) h w =
    let keys = keys_of schema.key news in
    let other = weaker (HasOtherKey schema.key tuples) (λ r. list_any (λ k. is_same k (key_cell schema.key r)) keys ≡ false) (λ r f. f news h) xs ys w in
    ap (λ d. if list_any (λ r. is_null (key_cell schema.key r)) news then refused reply.NullKey else wanted (length news) d (each (placing schema) news)) (repeat_alike (keys_of schema.key xs) (keys_of schema.key ys) keys (alike schema.key xs ys keys other))

does_alike : (schema : Option Schema) (act : Action) (xs ys : List (List Value)) (a : Answer) → Without (IsNeedless schema act) xs ys → Does schema ys act a → Does schema xs act a
does_alike schema action.Create xs ys a w h = h
does_alike None (action.Insert tuples) xs ys a w h = h
does_alike (Some s) (action.Insert tuples) xs ys a w h = h ∙ sym (insert_rows s tuples xs ys (each (λ t. values_in [] t) tuples) refl w)
does_alike None (action.Update sets test) xs ys a w h = h
does_alike (Some s) (action.Update sets test) xs ys a w h =
    h ∙ ap (λ r. of_rows (λ olds. of_rows (placed_rows s) (each (λ q. set_all q q sets) olds)) r) (sym (kept_without (option_map term test) xs ys w))
does_alike None (action.Delete test) xs ys a w h = h
does_alike (Some s) (action.Delete test) xs ys a w h = h ∙ ap (λ r. of_rows (removed_rows s) r) (sym (kept_without (option_map term test) xs ys w))
does_alike schema (action.Select output test order limit) xs ys a w h =
    subst (λ (k : Result (List (List Value)) Overflow). GivesKept output order limit k a) (sym (kept_without (option_map term test) xs ys w)) h
does_alike schema action.Control xs ys a w h = h

lift : (r : Option Refusal) (schema : Option Schema) (act : Action) (xs ys : List (List Value)) (a : Answer) → Without (IsNeedless schema act) xs ys → MatchOption r (Does schema ys act a) (λ q. a ≡ refused (reply_of q)) → MatchOption r (Does schema xs act a) (λ q. a ≡ refused (reply_of q))
lift None schema act xs ys a w h = does_alike schema act xs ys a w h
lift (Some q) schema act xs ys a w h = h

pub over_whole : IsWhole
over_whole schemas s tables given o w from = record {
  answer = from.answer;
  is = lift (refusal schemas s) (target schemas s) (placed_action (scope schemas s) s) (source s (whole tables s)) (source s given) from.answer w from.is;
  gives = from.gives;
}
