-- A token at the front of bytes is what is found there, so it is the only one.
use Rattle.std.proofs.Common.{◌≡◌, ℕ, ◌+◌, ◌-◌, ◌<◌, ◌==◌, ◌||◌, inl, inr, Bool, true, false, cond, List, [], ◌∷◌, ◌++◌, length, take, slice_index, nat_le, Option, Some, None, Result, Ok, Err, refl, sym, ◌∙◌, ap, arith, eq-eqb, append_assoc, length-append, le-leb, add-one}
use Rattle.std.proofs.lemmas.Bool.{eqb-true}
use Rattle.std.specs.List.{list_all, prefix_len}
use Rattle.std.specs.Str.{IsUtf8}
use Rattle.std.specs.Str.Lossy.{utf8_valid_len}
use Rattle.std.proofs.Math.Seq.{take-append_seam}
use Rattle.std.proofs.lemmas.Bool.Decides.{nat_tests}
use Rattle.std.proofs.lemmas.List.{take_at}
use Rattle.std.proofs.lemmas.Str.{utf8_valid_len-IsUtf8}
use Rattle.sql_words.specs.declared.cutting.Front.{Front}
use Rattle.sql_words.specs.declared.reserved.Word.{Word}
use Rattle.sql_words.specs.declared.signs.Sign.{Sign}
use Rattle.sql_words.specs.declared.signs.Sign.TheVariants as sign
use Rattle.sql_words.specs.declared.tokens.Class.{Class}
use Rattle.sql_words.specs.declared.tokens.Class.TheVariants as class
use Rattle.sql_words.specs.Bytes.{is_letter, is_digit, is_quote, is_word_byte, BeginsNot}
use Rattle.sql_words.specs.Front.{found, word_or_name, word_at, value_of, is_allowed, number_at, closing, text_until, text_at, sign_at, front_of}
use Rattle.sql_words.specs.Reserved.{word_of}
use Rattle.sql_words.specs.Signs.{IsSign, lengthens}
use Rattle.sql_words.specs.Tokens.{IsWholeWord, IsWholeNumber, doubled, quoted, IsToken, IsClosed, HasFaultAt, BeginsNone}
use Rattle.sql_words.proofs.Runs.{prefix_len-run}
use Rattle.sql_words.proofs.ReservedLemmas.{word_of-found, word_of-none}
use Rattle.sql_words.proofs.FrontLaws.{letter_is, sign_by, closing-quoted, closing-found, chosen}

-- a whole word is found as the reserved word that it is, or as a name
word_front : (minus : Bool) (b : ℕ) (t rest : List ℕ) (o : Option Word) → IsWholeWord (b ∷ t) rest → word_of (b ∷ t) ≡ o
    → front_of minus false (b ∷ t ++ rest) ≡ word_or_name o (length (b ∷ t))
unfolding front_of word_at
word_front minus b t rest o w e =
    let all : list_all is_word_byte (b ∷ t) ≡ true = rw (letter_is b w.0) w.1 in
    let n : prefix_len is_word_byte ((b ∷ t) ++ rest) ≡ length (b ∷ t) = prefix_len-run is_word_byte (b ∷ t) rest all w.2 in
    let bytes : List ℕ = b ∷ t ++ rest in
    ap (λ q. cond q (word_at false bytes) (cond (is_digit b) (number_at minus bytes) (cond (is_quote b) (text_at bytes) (sign_at b (slice_index bytes 1))))) w.0
    ∙ ap (λ k. word_or_name (word_of (take k bytes)) k) n
    ∙ ap (λ q. word_or_name (word_of q) (length (b ∷ t))) (take-append_seam (b ∷ t) rest)
    ∙ ap (λ q. word_or_name q (length (b ∷ t))) e

digit_not_letter : (b : ℕ) → is_digit b ≡ true → is_letter b ≡ false
unfolding is_digit is_letter
digit_not_letter b h = grind (arith, nat_tests)

number_front : (minus joined : Bool) (b : ℕ) (t rest : List ℕ) → IsWholeNumber (b ∷ t) rest → is_allowed minus (value_of (b ∷ t)) ≡ true
    → front_of minus joined (b ∷ t ++ rest) ≡ found class.Number (length (b ∷ t))
unfolding front_of number_at
number_front minus joined b t rest w e =
    let all : list_all is_digit (b ∷ t) ≡ true = rw w.0 w.1 in
    let n : prefix_len is_digit ((b ∷ t) ++ rest) ≡ length (b ∷ t) = prefix_len-run is_digit (b ∷ t) rest all w.2 in
    let bytes : List ℕ = b ∷ t ++ rest in
    ap (λ q. cond q (word_at joined bytes) (cond (is_digit b) (number_at minus bytes) (cond (is_quote b) (text_at bytes) (sign_at b (slice_index bytes 1))))) (digit_not_letter b w.0)
    ∙ ap (λ q. cond q (number_at minus bytes) (cond (is_quote b) (text_at bytes) (sign_at b (slice_index bytes 1)))) w.0
    ∙ ap (λ k. cond (is_allowed minus (value_of (take k bytes))) (found class.Number k) (Err 0)) n
    ∙ ap (λ q. cond (is_allowed minus (value_of q)) (found class.Number (length (b ∷ t))) (Err 0)) (take-append_seam (b ∷ t) rest)
    ∙ ap (λ q. cond q (found class.Number (length (b ∷ t))) (Err 0)) e

-- a closed text is found by its closing quote
quote_front : (minus joined : Bool) (content rest : List ℕ) → BeginsNot is_quote rest
    → front_of minus joined (quoted content ++ rest)
    ≡ cond (utf8_valid_len (doubled content) == length (doubled content)) (found class.Text (length (quoted content))) (Err (utf8_valid_len (doubled content) + 1))
unfolding front_of text_at is_letter is_digit
quote_front minus joined content rest ends =
    let regroup : (doubled content ++ (39 ∷ [])) ++ rest ≡ doubled content ++ (39 ∷ rest) = append_assoc (doubled content) (39 ∷ []) rest in
    let size : length (doubled content) + 1 + 1 ≡ length (quoted content) = omega (arith, length-append (doubled content) (39 ∷ [])) in
    let inner : take (length (doubled content) + 1 - 1) (doubled content ++ (39 ∷ rest)) ≡ doubled content = take_at (doubled content) (39 ∷ rest) _ (omega arith) in
    ap (λ q. text_until (closing q) q) regroup
    ∙ ap (λ o. text_until o (doubled content ++ (39 ∷ rest))) (closing-quoted content rest ends)
    ∙ ap (λ q. cond (utf8_valid_len q == length q) (found class.Text (length (doubled content) + 1 + 1)) (Err (utf8_valid_len q + 1))) inner
    ∙ ap (λ k. cond (utf8_valid_len (doubled content) == length (doubled content)) (found class.Text k) (Err (utf8_valid_len (doubled content) + 1))) size

text_front : (minus joined : Bool) (content rest : List ℕ) → BeginsNot is_quote rest → IsUtf8 (doubled content)
    → front_of minus joined (quoted content ++ rest) ≡ found class.Text (length (quoted content))
text_front minus joined content rest ends utf8 =
    quote_front minus joined content rest ends
    ∙ ap (λ q. cond q (found class.Text (length (quoted content))) (Err (utf8_valid_len (doubled content) + 1))) (eq-eqb _ _ (utf8_valid_len-IsUtf8 (doubled content) utf8))

or_false : (a b : Bool) → (a || b) ≡ false → (a ≡ false) × (b ≡ false)
or_false true b h = cc
or_false false b h = (refl, h)

less_front : (rest : List ℕ) → BeginsNot (lengthens sign.Lt) rest → sign_at 60 (slice_index rest 0) ≡ found (class.Sign sign.Lt) 1
unfolding sign_at
less_front [] h = refl
less_front (b ∷ rest) h = let t = or_false (b == 61) (b == 62) h in rw (t.0, t.1) refl

greater_front : (rest : List ℕ) → BeginsNot (lengthens sign.Gt) rest → sign_at 62 (slice_index rest 0) ≡ found (class.Sign sign.Gt) 1
unfolding sign_at
greater_front [] h = refl
greater_front (b ∷ rest) h = rw h refl

sign_front : (minus joined : Bool) (s : Sign) (text rest : List ℕ) → IsSign s text → BeginsNot (lengthens s) rest
    → front_of minus joined (text ++ rest) ≡ found (class.Sign s) (length text)
unfolding front_of is_letter is_digit sign_at
sign_front minus joined sign.Ne text rest (inl e) h = ap (λ q. front_of minus joined (q ++ rest)) e ∙ ap (λ q. found (class.Sign sign.Ne) (length q)) (sym e)
sign_front minus joined sign.Ne text rest (inr e) h = ap (λ q. front_of minus joined (q ++ rest)) e ∙ ap (λ q. found (class.Sign sign.Ne) (length q)) (sym e)
sign_front minus joined sign.Lt text rest e h = ap (λ q. front_of minus joined (q ++ rest)) e ∙ less_front rest h ∙ ap (λ q. found (class.Sign sign.Lt) (length q)) (sym e)
sign_front minus joined sign.Gt text rest e h = ap (λ q. front_of minus joined (q ++ rest)) e ∙ greater_front rest h ∙ ap (λ q. found (class.Sign sign.Gt) (length q)) (sym e)
sign_front minus joined sign.Open text rest e h = ap (λ q. front_of minus joined (q ++ rest)) e ∙ ap (λ q. found (class.Sign sign.Open) (length q)) (sym e)
sign_front minus joined sign.Close text rest e h = ap (λ q. front_of minus joined (q ++ rest)) e ∙ ap (λ q. found (class.Sign sign.Close) (length q)) (sym e)
sign_front minus joined sign.Comma text rest e h = ap (λ q. front_of minus joined (q ++ rest)) e ∙ ap (λ q. found (class.Sign sign.Comma) (length q)) (sym e)
sign_front minus joined sign.Dot text rest e h = ap (λ q. front_of minus joined (q ++ rest)) e ∙ ap (λ q. found (class.Sign sign.Dot) (length q)) (sym e)
sign_front minus joined sign.Semicolon text rest e h = ap (λ q. front_of minus joined (q ++ rest)) e ∙ ap (λ q. found (class.Sign sign.Semicolon) (length q)) (sym e)
sign_front minus joined sign.Star text rest e h = ap (λ q. front_of minus joined (q ++ rest)) e ∙ ap (λ q. found (class.Sign sign.Star) (length q)) (sym e)
sign_front minus joined sign.Plus text rest e h = ap (λ q. front_of minus joined (q ++ rest)) e ∙ ap (λ q. found (class.Sign sign.Plus) (length q)) (sym e)
sign_front minus joined sign.Minus text rest e h = ap (λ q. front_of minus joined (q ++ rest)) e ∙ ap (λ q. found (class.Sign sign.Minus) (length q)) (sym e)
sign_front minus joined sign.Eq text rest e h = ap (λ q. front_of minus joined (q ++ rest)) e ∙ ap (λ q. found (class.Sign sign.Eq) (length q)) (sym e)
sign_front minus joined sign.Le text rest e h = ap (λ q. front_of minus joined (q ++ rest)) e ∙ ap (λ q. found (class.Sign sign.Le) (length q)) (sym e)
sign_front minus joined sign.Ge text rest e h = ap (λ q. front_of minus joined (q ++ rest)) e ∙ ap (λ q. found (class.Sign sign.Ge) (length q)) (sym e)

-- a token at the front is found
pub token_front : (minus joined : Bool) (text : List ℕ) (c : Class) (rest : List ℕ) → IsToken minus joined text c rest
    → front_of minus joined (text ++ rest) ≡ found c (length text)
token_front minus joined [] (class.Reserved w) rest h = absurd h.0
token_front minus joined (b ∷ t) (class.Reserved w) rest h =
    ap (λ q. front_of minus q (b ∷ t ++ rest)) h.1 ∙ word_front minus b t rest (Some w) h.0 (word_of-found (b ∷ t) w h.2)
token_front minus joined [] class.Name rest h = absurd h.0
token_front minus joined (b ∷ t) class.Name rest h =
    let short : nat_le (length (b ∷ t)) 32 ≡ true = le-leb _ _ h.3 in
    ap (λ q. front_of minus q (b ∷ t ++ rest)) h.1 ∙ word_front minus b t rest None h.0 (word_of-none (b ∷ t) h.2)
    ∙ ap (λ q. cond q (found class.Name (length (b ∷ t))) (Err 0)) short
token_front minus joined [] class.Number rest h = absurd h.0
token_front minus joined (b ∷ t) class.Number rest h = number_front minus joined b t rest h.0 h.1
token_front minus joined text class.Text rest h =
    ap (λ q. front_of minus joined (q ++ rest)) h.1 ∙ text_front minus joined h.0 rest h.2 h.3 ∙ ap (λ q. found class.Text (length q)) (sym h.1)
token_front minus joined text (class.Sign s) rest h = sign_front minus joined s text rest h.0 h.1

-- where a fault is found, no token begins
pub fault_front : (minus joined : Bool) (bytes : List ℕ) (n : ℕ) → front_of minus joined bytes ≡ Err n → BeginsNone minus joined bytes
fault_front minus joined bytes n h front rest c e t =
    let two : front_of minus joined bytes ≡ found c (length front) = ap (front_of minus joined) e ∙ token_front minus joined front c rest t in
    absurd (apart (found c (length front)) (record { class = c; len = length front }) n refl (sym two ∙ h)) where
      apart : (r : Result Front ℕ) (f : Front) (n : ℕ) → r ≡ Ok f → r ≡ Err n → ⊥
      apart r f n e g = cc

-- ---- where a fault is

not_quote_first : (b : ℕ) (bytes content rest : List ℕ) → is_quote b ≡ false → IsClosed (b ∷ bytes) content rest → ⊥
not_quote_first b bytes content rest h c =
    let same : b ≡ 39 = first c.0 in
    let two : (b == 39) ≡ true = eq-eqb b 39 same in
    absurd (apart (b == 39) two h) where
      first : b ∷ bytes ≡ 39 ∷ ((doubled content ++ 39 ∷ []) ++ rest) → b ≡ 39
      first e = cc

      apart : (t : Bool) → t ≡ true → t ≡ false → ⊥
      apart t e g = cc

word_zero : (joined : Bool) (bytes : List ℕ) (n : ℕ) → word_at joined bytes ≡ Err n → n ≡ 0
unfolding word_at
word_zero true bytes n h = cc
word_zero false bytes n h = by_word (word_of (take (prefix_len is_word_byte bytes) bytes)) (prefix_len is_word_byte bytes) h where
  by_word : (o : Option Word) (k : ℕ) → word_or_name o k ≡ Err n → n ≡ 0
  by_word (Some w) k e = cc
  by_word None k e = elim (chosen (nat_le k 32) (found class.Name k) (Err 0) (Err n) e) [ inl j ↦ let e = j.1 in cc | inr j ↦ let e = j.1 in cc ]

number_zero : (minus : Bool) (bytes : List ℕ) (n : ℕ) → number_at minus bytes ≡ Err n → n ≡ 0
unfolding number_at
number_zero minus bytes n h =
    let k = prefix_len is_digit bytes in
    elim (chosen (is_allowed minus (value_of (take k bytes))) (found class.Number k) (Err 0) (Err n) h) [ inl j ↦ let e = j.1 in cc | inr j ↦ let e = j.1 in cc ]

sign_zero : (b c n : ℕ) → sign_at b c ≡ Err n → n ≡ 0
unfolding sign_at
sign_zero b c n h = by_tests (b == 40) (b == 41) (b == 44) (b == 46) (b == 59) (b == 42) (b == 43) (b == 45) (b == 61) (b == 33) (b == 60) (b == 62) (c == 61) (c == 62) h where
  by_tests : (a40 a41 a44 a46 a59 a42 a43 a45 a61 a33 a60 a62 c61 c62 : Bool) → sign_by a40 a41 a44 a46 a59 a42 a43 a45 a61 a33 a60 a62 c61 c62 ≡ Err n → n ≡ 0
  by_tests true a41 a44 a46 a59 a42 a43 a45 a61 a33 a60 a62 c61 c62 e = cc
  by_tests false true a44 a46 a59 a42 a43 a45 a61 a33 a60 a62 c61 c62 e = cc
  by_tests false false true a46 a59 a42 a43 a45 a61 a33 a60 a62 c61 c62 e = cc
  by_tests false false false true a59 a42 a43 a45 a61 a33 a60 a62 c61 c62 e = cc
  by_tests false false false false true a42 a43 a45 a61 a33 a60 a62 c61 c62 e = cc
  by_tests false false false false false true a43 a45 a61 a33 a60 a62 c61 c62 e = cc
  by_tests false false false false false false true a45 a61 a33 a60 a62 c61 c62 e = cc
  by_tests false false false false false false false true a61 a33 a60 a62 c61 c62 e = cc
  by_tests false false false false false false false false true a33 a60 a62 c61 c62 e = cc
  by_tests false false false false false false false false false true a60 a62 true c62 e = cc
  by_tests false false false false false false false false false true a60 a62 false c62 e = cc
  by_tests false false false false false false false false false false true a62 true c62 e = cc
  by_tests false false false false false false false false false false true a62 false true e = cc
  by_tests false false false false false false false false false false true a62 false false e = cc
  by_tests false false false false false false false false false false false true true c62 e = cc
  by_tests false false false false false false false false false false false true false c62 e = cc
  by_tests false false false false false false false false false false false false c61 c62 e = cc

quote_fault : (b : ℕ) (bytes : List ℕ) (n : ℕ) (o : Option ℕ) → b ≡ 39 → closing bytes ≡ o → text_until o bytes ≡ Err n → HasFaultAt (b ∷ bytes) n
quote_fault b bytes n None q e h = inr (unclosed, cc) where
  unclosed : (content rest : List ℕ) → IsClosed (b ∷ bytes) content rest → ⊥
  unclosed content rest c =
      let behind : bytes ≡ (doubled content ++ 39 ∷ []) ++ rest = tails c.0 in
      let found_it : closing bytes ≡ Some (length (doubled content) + 1) =
      ap closing (behind ∙ append_assoc (doubled content) (39 ∷ []) rest) ∙ closing-quoted content rest c.1 in
      absurd (apart (closing bytes) (length (doubled content) + 1) found_it e) where
        tails : b ∷ bytes ≡ 39 ∷ ((doubled content ++ 39 ∷ []) ++ rest) → bytes ≡ (doubled content ++ 39 ∷ []) ++ rest
        tails e = cc

        apart : (o : Option ℕ) (k : ℕ) → o ≡ Some k → o ≡ None → ⊥
        apart o k e g = cc
quote_fault b bytes n (Some m) q e h =
    let c = closing-found bytes m e in
    let inner : take (m - 1) bytes ≡ doubled c.content =
    ap (take (m - 1)) c.whole ∙ take_at (doubled c.content) (39 ∷ c.rest) (m - 1) (omega (arith, c.size)) in
    elim (chosen (utf8_valid_len (take (m - 1) bytes) == length (take (m - 1) bytes)) (found class.Text (m + 1)) (Err (utf8_valid_len (take (m - 1) bytes) + 1)) (Err n) h) [
      | inl k ↦ absurd (let e = k.1 in cc)
      | inr k ↦ inl (
        c.content,
        c.rest,
        (ap (λ x. x ∷ bytes) q ∙ ap (λ x. 39 ∷ x) (c.whole ∙ sym (append_assoc (doubled c.content) (39 ∷ []) c.rest)), c.ends),
        (sym (err_is k.1) ∙ ap (λ x. utf8_valid_len x + 1) inner ∙ add-one (utf8_valid_len (doubled c.content))),
      )
    ] where
      err_is : {m n : ℕ} → ◌≡◌ {A = Result Front ℕ} (Err m) (Err n) → m ≡ n
      err_is e = cc

letter_no_quote : (b : ℕ) → is_letter b ≡ true → is_quote b ≡ false
unfolding is_letter
letter_no_quote b h = grind (arith, nat_tests)

digit_no_quote : (b : ℕ) → is_digit b ≡ true → is_quote b ≡ false
unfolding is_digit
digit_no_quote b h = grind (arith, nat_tests)

fault_by : (minus joined : Bool) (b : ℕ) (bytes : List ℕ) (n : ℕ) (letter digit quote : Bool) → is_quote b ≡ quote
    → cond letter (word_at joined (b ∷ bytes)) (cond digit (number_at minus (b ∷ bytes)) (cond quote (text_until (closing bytes) bytes) (sign_at b (slice_index bytes 0)))) ≡ Err n
    → (is_letter b ≡ letter) → (is_digit b ≡ digit) → HasFaultAt (b ∷ bytes) n
fault_by minus joined b bytes n true digit quote eq h el ed = inr (λ content rest. not_quote_first b bytes content rest (letter_no_quote b el), word_zero joined (b ∷ bytes) n h)
fault_by minus joined b bytes n false true quote eq h el ed = inr (λ content rest. not_quote_first b bytes content rest (digit_no_quote b ed), number_zero minus (b ∷ bytes) n h)
fault_by minus joined b bytes n false false true eq h el ed = quote_fault b bytes n (closing bytes) (eqb-true b 39 eq) refl h
fault_by minus joined b bytes n false false false eq h el ed = inr (λ content rest. not_quote_first b bytes content rest eq, sign_zero b (slice_index bytes 0) n h)

-- where a fault is found, it is the fault of the bytes
pub fault_at : (minus joined : Bool) (bytes : List ℕ) (n : ℕ) → 0 < length bytes → front_of minus joined bytes ≡ Err n → HasFaultAt bytes n
unfolding front_of text_at
fault_at minus joined [] n some h = absurd (omega arith)
fault_at minus joined (b ∷ bytes) n some h = fault_by minus joined b bytes n (is_letter b) (is_digit b) (is_quote b) refl h refl refl
