-- What is found at the front of bytes is a token there, and a token there is found.
use Rattle.std.proofs.Common.{◌≡◌, ℕ, zero, suc, ◌+◌, ◌-◌, ◌<◌, ◌≤◌, ◌==◌, ◌⊎◌, inl, inr, Bool, true, false, cond, List, [], ◌∷◌, ◌++◌, length, take, drop, slice_index, nat_le, Option, Some, None, Result, Ok, Err, refl, sym, ◌∙◌, ap, subst, arith, length-take, take-append-drop, append_assoc, length-append, lit<}
use Rattle.std.proofs.Math.Seq.{take-length}
use Rattle.std.proofs.lemmas.List.{take_at}
use Rattle.std.proofs.lemmas.Bool.{eqb-true}
use Rattle.std.specs.List.{prefix_len}
use Rattle.std.specs.Option.{option_map}
use Rattle.std.specs.Str.{IsUtf8, is_utf8}
use Rattle.std.specs.Str.Lossy.{utf8_valid_len, valid_len_up_to}
use Rattle.std.proofs.lemmas.Bool.Decides.{nat_tests}
use Rattle.std.proofs.lemmas.List.Sums.{prefix_len-le-length}
use Rattle.std.proofs.lemmas.Str.{IsUtf8-from_is_utf8, is_utf8-from_IsUtf8, IsUtf8-nil}
use Rattle.sql_words.specs.declared.cutting.Front.{Front}
use Rattle.sql_words.specs.declared.reserved.Word.{Word}
use Rattle.sql_words.specs.declared.signs.Sign.{Sign}
use Rattle.sql_words.specs.declared.signs.Sign.TheVariants as sign
use Rattle.sql_words.specs.declared.tokens.Class.{Class}
use Rattle.sql_words.specs.declared.tokens.Class.TheVariants as class
use Rattle.sql_words.specs.Bytes.{is_letter, is_digit, is_quote, is_word_byte, BeginsNot}
use Rattle.sql_words.specs.Front.{found, word_or_name, word_at, value_of, is_allowed, number_at, closing, behind_quote, text_until, text_at, sign_at, front_of}
use Rattle.sql_words.specs.Reserved.{word_of}
use Rattle.sql_words.specs.Signs.{IsSign, lengthens}
use Rattle.sql_words.specs.Tokens.{IsWholeWord, IsWholeNumber, doubled, quoted, IsToken}
use Rattle.sql_words.proofs.Runs.{prefix_passes, prefix_ends}
use Rattle.sql_words.proofs.ReservedLemmas.{word_of-found, word_of-is}

-- a token of that class and length stands at the front
pub record Found (minus joined : Bool) (bytes : List ℕ) (f : Front) : Type 0 where
  pub front : List ℕ
  pub rest : List ℕ
  pub whole : bytes ≡ front ++ rest
  pub size : f.len ≡ length front
  pub positive : 0 < f.len
  pub token : IsToken minus joined front f.class rest

inside : {A E : Type 0} {x y : A} → ◌≡◌ {A = Result A E} (Ok x) (Ok y) → x ≡ y
inside h = cc

pub chosen : {A : Type 0} (b : Bool) (x y z : A) → cond b x y ≡ z → ((b ≡ true) × (x ≡ z)) ⊎ ((b ≡ false) × (y ≡ z))
chosen true x y z h = inl (refl, h)
chosen false x y z h = inr (refl, h)

run_front : (p : ℕ → Bool) (b : ℕ) (bs : List ℕ) → p b ≡ true → prefix_len p (b ∷ bs) ≡ suc (prefix_len p bs)
run_front p b bs h = rw h (omega arith)

pub letter_is : (b : ℕ) → is_letter b ≡ true → is_word_byte b ≡ true
unfolding is_word_byte
letter_is b h = rw h refl

-- a run of word bytes behind a letter is a whole word
whole_word : (b : ℕ) (bs : List ℕ) → is_letter b ≡ true → IsWholeWord (take (prefix_len is_word_byte (b ∷ bs)) (b ∷ bs)) (drop (prefix_len is_word_byte (b ∷ bs)) (b ∷ bs))
whole_word b bs h =
    let n = run_front is_word_byte b bs (letter_is b h) in
    rw n (h, prefix_passes is_word_byte bs, prefix_ends is_word_byte bs)

whole_number : (b : ℕ) (bs : List ℕ) → is_digit b ≡ true → IsWholeNumber (take (prefix_len is_digit (b ∷ bs)) (b ∷ bs)) (drop (prefix_len is_digit (b ∷ bs)) (b ∷ bs))
whole_number b bs h =
    let n = run_front is_digit b bs h in
    rw n (h, prefix_passes is_digit bs, prefix_ends is_digit bs)

-- what is found is a token, where its length and bytes are right
made : (minus joined : Bool) (bytes front rest : List ℕ) (n : ℕ) (c : Class) (f : Front) → bytes ≡ front ++ rest → n ≡ length front
    → 0 < n → IsToken minus joined front c rest → found c n ≡ Ok f → Found minus joined bytes f
made minus joined bytes front rest n c f whole size positive token h =
    subst (Found minus joined bytes) (inside h) (record { front = front; rest = rest; whole = whole; size = size; positive = positive; token = token })

cut : (minus joined : Bool) (bytes : List ℕ) (n : ℕ) (c : Class) (f : Front) → 0 < n → n ≤ length bytes
    → IsToken minus joined (take n bytes) c (drop n bytes) → found c n ≡ Ok f → Found minus joined bytes f
cut minus joined bytes n c f positive within token h =
    made minus joined bytes (take n bytes) (drop n bytes) n c f (sym (take-append-drop n bytes)) (omega (arith, length-take n bytes)) positive token h

short_enough : (n : ℕ) (bytes : List ℕ) → n ≤ length bytes → nat_le n 32 ≡ true → length (take n bytes) ≤ 32
short_enough n bytes within t = grind (arith, nat_tests, length-take n bytes)

named_word : (minus : Bool) (bytes : List ℕ) (n : ℕ) (f : Front) (o : Option Word) → 0 < n → n ≤ length bytes
    → IsWholeWord (take n bytes) (drop n bytes) → word_of (take n bytes) ≡ o → word_or_name o n ≡ Ok f → Found minus false bytes f
named_word minus bytes n f (Some w) positive within whole e h =
    cut minus false bytes n (class.Reserved w) f positive within (whole, refl, word_of-is (take n bytes) w e) h
named_word minus bytes n f None positive within whole e h =
    elim (chosen (nat_le n 32) (found class.Name n) (Err 0) (Ok f) h) [
      | inl k ↦ cut minus false bytes n class.Name f positive within
          (whole, refl, (λ w same. let two : word_of (take n bytes) ≡ Some w = word_of-found (take n bytes) w same in cc), short_enough n bytes within k.0) k.1
      | inr k ↦ let e = k.1 in cc
    ]

found_word : (minus joined : Bool) (b : ℕ) (bs : List ℕ) (f : Front) → is_letter b ≡ true → word_at joined (b ∷ bs) ≡ Ok f → Found minus joined (b ∷ bs) f
unfolding word_at
found_word minus true b bs f l h = cc
found_word minus false b bs f l h =
    named_word minus (b ∷ bs) (prefix_len is_word_byte (b ∷ bs)) f (word_of (take (prefix_len is_word_byte (b ∷ bs)) (b ∷ bs)))
    (rw (run_front is_word_byte b bs (letter_is b l)) (omega arith)) (prefix_len-le-length is_word_byte (b ∷ bs)) (whole_word b bs l) refl h

found_number : (minus joined : Bool) (b : ℕ) (bs : List ℕ) (f : Front) → is_digit b ≡ true → number_at minus (b ∷ bs) ≡ Ok f → Found minus joined (b ∷ bs) f
unfolding number_at
found_number minus joined b bs f d h =
    let n = prefix_len is_digit (b ∷ bs) in
    elim (chosen (is_allowed minus (value_of (take n (b ∷ bs)))) (found class.Number n) (Err 0) (Ok f) h) [
      | inl k ↦ cut minus joined (b ∷ bs) n class.Number f
          (rw (run_front is_digit b bs d) (omega arith)) (prefix_len-le-length is_digit (b ∷ bs)) (whole_number b bs d, k.0) k.1
      | inr k ↦ let e = k.1 in cc
    ]

-- ---- texts

-- the bytes up to the closing quote are the content with each quote twice, and that quote
pub record Closes (bytes : List ℕ) (n : ℕ) : Type 0 where
  pub content : List ℕ
  pub rest : List ℕ
  pub whole : bytes ≡ doubled content ++ (39 ∷ rest)
  pub ends : BeginsNot is_quote rest
  pub size : n ≡ length (doubled content) + 1

mapped : (f : ℕ → ℕ) (o : Option ℕ) (n : ℕ) → option_map f o ≡ Some n → (m : ℕ) × (o ≡ Some m) × (n ≡ f m)
mapped f None n h = cc
mapped f (Some m) n h = (m, refl, cc)

quote_byte : (b : ℕ) → is_quote b ≡ true → b ≡ 39
quote_byte b h = grind (arith, nat_tests)

closes_one_more : (b n : ℕ) (bytes : List ℕ) → is_quote b ≡ false → Closes bytes n → Closes (b ∷ bytes) (n + 1)
closes_one_more b n bytes other c =
    let same : doubled (b ∷ c.content) ≡ b ∷ doubled c.content = ap (λ t. cond t (39 ∷ 39 ∷ doubled c.content) (b ∷ doubled c.content)) other in
    record {
      content = b ∷ c.content;
      rest = c.rest;
      whole = ap (λ q. b ∷ q) c.whole ∙ ap (λ q. q ++ (39 ∷ c.rest)) (sym same);
      ends = c.ends;
      size = ap (λ k. k + 1) c.size ∙ rw same (omega arith);
    }

closes_two_more : (b d n : ℕ) (bytes : List ℕ) → b ≡ 39 → d ≡ 39 → Closes bytes n → Closes (b ∷ d ∷ bytes) (n + 2)
closes_two_more b d n bytes q r c = record {
  content = 39 ∷ c.content;
  rest = c.rest;
  whole = ap (λ x. x ∷ d ∷ bytes) q ∙ ap (λ x. 39 ∷ x ∷ bytes) r ∙ ap (λ x. 39 ∷ 39 ∷ x) c.whole;
  ends = c.ends;
  size = ap (λ k. k + 2) c.size ∙ omega arith;
}

closes_here : (b n : ℕ) (rest : List ℕ) → b ≡ 39 → BeginsNot is_quote rest → 1 ≡ n → Closes (b ∷ rest) n
closes_here b n rest q ends size = record { content = []; rest = rest; whole = ap (λ x. x ∷ rest) q; ends = ends; size = sym size ∙ omega arith }

some_is : {m n : ℕ} → Some m ≡ Some n → m ≡ n
some_is h = cc

mutual
  pub closing-found : (bytes : List ℕ) (n : ℕ) → closing bytes ≡ Some n → Closes bytes n
  closing-found [] n h = cc
  closing-found (b ∷ bytes) n h = elim (chosen (is_quote b) (behind_quote bytes) (option_map (λ k. k + 1) (closing bytes)) (Some n) h) [
    | inl k ↦ behind-found b bytes n (quote_byte b k.0) k.1
    | inr k ↦
        let m = mapped (λ k. k + 1) (closing bytes) n k.1 in
        subst (Closes (b ∷ bytes)) (sym m.2) (closes_one_more b m.0 bytes k.0 (closing-found bytes m.0 m.1))
  ]

  behind-found : (b : ℕ) (bytes : List ℕ) (n : ℕ) → b ≡ 39 → behind_quote bytes ≡ Some n → Closes (b ∷ bytes) n
  behind-found b [] n e h = closes_here b n [] e tt (some_is h)
  behind-found b (c ∷ bytes) n e h = elim (chosen (is_quote c) (option_map (λ k. k + 2) (closing bytes)) (Some 1) (Some n) h) [
    | inl k ↦
        let m = mapped (λ k. k + 2) (closing bytes) n k.1 in
        subst (Closes (b ∷ c ∷ bytes)) (sym m.2) (closes_two_more b c m.0 bytes e (quote_byte c k.0) (closing-found bytes m.0 m.1))
    | inr k ↦ closes_here b n (c ∷ bytes) e k.0 (some_is k.1)
  ]

shifted_by : (k m n : ℕ) (o : Option ℕ) → o ≡ Some m → m + k ≡ n → option_map (λ j. j + k) o ≡ Some n
shifted_by k m n o h e = rw h (ap Some e)

-- a closing quote behind the content is found
pub closing-quoted : (content rest : List ℕ) → BeginsNot is_quote rest → closing (doubled content ++ (39 ∷ rest)) ≡ Some (length (doubled content) + 1)
closing-quoted [] rest ends = behind rest ends where
  behind : (rest : List ℕ) → BeginsNot is_quote rest → behind_quote rest ≡ Some 1
  behind [] e = refl
  behind (b ∷ rest) e = ap (λ t. cond t (option_map (λ n. n + 2) (closing rest)) (Some 1)) e
closing-quoted (b ∷ content) rest ends = by_test (is_quote b) refl (closing-quoted content rest ends) where
  by_test : (t : Bool) → is_quote b ≡ t → closing (doubled content ++ (39 ∷ rest)) ≡ Some (length (doubled content) + 1)
      → closing (cond t (39 ∷ 39 ∷ doubled content) (b ∷ doubled content) ++ (39 ∷ rest)) ≡ Some (length (cond t (39 ∷ 39 ∷ doubled content) (b ∷ doubled content)) + 1)
  by_test true e h = shifted_by 2 (length (doubled content) + 1) _ _ h (omega arith)
  by_test false e h = ap (λ t. cond t (behind_quote (doubled content ++ (39 ∷ rest))) (option_map (λ n. n + 1) (closing (doubled content ++ (39 ∷ rest))))) e
      ∙ shifted_by 1 (length (doubled content) + 1) _ _ h (omega arith)

-- bytes whose longest front that is UTF-8 is whole are UTF-8
valid_front : (bytes : List ℕ) (n : ℕ) → is_utf8 (take (valid_len_up_to bytes n) bytes) ≡ true
valid_front bytes zero = is_utf8-from_IsUtf8 [] IsUtf8-nil
valid_front bytes (suc n) = by_test (is_utf8 (take (suc n) bytes)) refl (valid_front bytes n) where
  by_test : (t : Bool) → is_utf8 (take (suc n) bytes) ≡ t → is_utf8 (take (valid_len_up_to bytes n) bytes) ≡ true
      → is_utf8 (take (cond t (suc n) (valid_len_up_to bytes n)) bytes) ≡ true
  by_test true e h = e
  by_test false e h = h

IsUtf8-from_valid_len : (bytes : List ℕ) → utf8_valid_len bytes ≡ length bytes → IsUtf8 bytes
unfolding utf8_valid_len
IsUtf8-from_valid_len bytes h =
    IsUtf8-from_is_utf8 bytes (ap is_utf8 (sym (take-length bytes) ∙ ap (λ n. take n bytes) (sym h)) ∙ valid_front bytes (length bytes))

-- the text that closes with so many bytes behind its first quote is found
found_text : (minus joined : Bool) (b : ℕ) (bytes : List ℕ) (n : ℕ) (f : Front) → b ≡ 39 → Closes bytes n
    → text_until (Some n) bytes ≡ Ok f → Found minus joined (b ∷ bytes) f
found_text minus joined b bytes n f q c h =
    let inner : take (n - 1) bytes ≡ doubled c.content =
    ap (take (n - 1)) c.whole ∙ take_at (doubled c.content) (39 ∷ c.rest) (n - 1) (omega (arith, c.size)) in
    elim (chosen (utf8_valid_len (take (n - 1) bytes) == length (take (n - 1) bytes)) (found class.Text (n + 1)) (Err (utf8_valid_len (take (n - 1) bytes) + 1)) (Ok f) h) [
      | inl k ↦
          let valid : utf8_valid_len (doubled c.content) ≡ length (doubled c.content) = rw inner at (eqb-true _ _ k.0) in
          made minus joined (b ∷ bytes) (quoted c.content) c.rest (n + 1) class.Text f
          (ap (λ x. x ∷ bytes) q ∙ ap (λ x. 39 ∷ x) (c.whole ∙ sym (append_assoc (doubled c.content) (39 ∷ []) c.rest)))
          (omega (arith, c.size, length-append (doubled c.content) (39 ∷ [])))
          (omega arith)
          (c.content, refl, c.ends, IsUtf8-from_valid_len (doubled c.content) valid) k.1
      | inr k ↦ let e = k.1 in cc
    ]

-- ---- signs

never : (p : ℕ → Bool) (bytes : List ℕ) → ((b : ℕ) → p b ≡ false) → BeginsNot p bytes
never p [] h = tt
never p (b ∷ bytes) h = h b

single : (minus joined : Bool) (b code : ℕ) (bytes : List ℕ) (s : Sign) (f : Front) → IsSign s (code ∷ []) → BeginsNot (lengthens s) bytes
    → (b == code) ≡ true → found (class.Sign s) 1 ≡ Ok f → Found minus joined (b ∷ bytes) f
single minus joined b code bytes s f spelled ends e h =
    made minus joined (b ∷ bytes) (code ∷ []) bytes 1 (class.Sign s) f (ap (λ x. x ∷ bytes) (eqb-true b code e)) refl (lit< tt) (spelled, ends) h

double : (minus joined : Bool) (b code next : ℕ) (bytes : List ℕ) (s : Sign) (f : Front) → IsSign s (code ∷ suc next ∷ []) → ((x : ℕ) → lengthens s x ≡ false)
    → (b == code) ≡ true → (slice_index bytes 0 == suc next) ≡ true → found (class.Sign s) 2 ≡ Ok f → Found minus joined (b ∷ bytes) f
double minus joined b code next [] s f spelled ends e g h = absurd (let none : 0 ≡ suc next = eqb-true 0 (suc next) g in omega arith)
double minus joined b code next (d ∷ bytes) s f spelled ends e g h =
    made minus joined (b ∷ d ∷ bytes) (code ∷ suc next ∷ []) bytes 2 (class.Sign s) f
    (ap (λ x. x ∷ d ∷ bytes) (eqb-true b code e) ∙ ap (λ x. code ∷ x ∷ bytes) (eqb-true d (suc next) g)) refl (lit< tt) (spelled, never (lengthens s) bytes ends) h

less_ends : (bytes : List ℕ) → (slice_index bytes 0 == 61) ≡ false → (slice_index bytes 0 == 62) ≡ false → BeginsNot (lengthens sign.Lt) bytes
less_ends [] e g = tt
less_ends (b ∷ bytes) e g = rw (e, g) refl

greater_ends : (bytes : List ℕ) → (slice_index bytes 0 == 61) ≡ false → BeginsNot (lengthens sign.Gt) bytes
greater_ends [] e = tt
greater_ends (b ∷ bytes) e = e

-- the same by what the tests of the two bytes answer
abbrev pub sign_by : (a40 a41 a44 a46 a59 a42 a43 a45 a61 a33 a60 a62 c61 c62 : Bool) → Result Front ℕ
sign_by a40 a41 a44 a46 a59 a42 a43 a45 a61 a33 a60 a62 c61 c62 =
    cond a40 (found (class.Sign sign.Open) 1) (cond a41 (found (class.Sign sign.Close) 1) (cond a44 (found (class.Sign sign.Comma) 1) (cond a46 (found (class.Sign sign.Dot) 1) (cond a59 (found (class.Sign sign.Semicolon) 1) (cond a42 (found (class.Sign sign.Star) 1) (cond a43 (found (class.Sign sign.Plus) 1) (cond a45 (found (class.Sign sign.Minus) 1) (cond a61 (found (class.Sign sign.Eq) 1) (cond a33 (cond c61 (found (class.Sign sign.Ne) 2) (Err 0)) (cond a60 (cond c61 (found (class.Sign sign.Le) 2) (cond c62 (found (class.Sign sign.Ne) 2) (found (class.Sign sign.Lt) 1))) (cond a62 (cond c61 (found (class.Sign sign.Ge) 2) (found (class.Sign sign.Gt) 1)) (Err 0))))))))))))

module _ (minus joined : Bool) (b : ℕ) (bytes : List ℕ) (f : Front) where
  found_by : (a40 a41 a44 a46 a59 a42 a43 a45 a61 a33 a60 a62 c61 c62 : Bool)
      → (b == 40) ≡ a40 → (b == 41) ≡ a41 → (b == 44) ≡ a44 → (b == 46) ≡ a46 → (b == 59) ≡ a59 → (b == 42) ≡ a42 → (b == 43) ≡ a43 → (b == 45) ≡ a45 → (b == 61) ≡ a61 → (b == 33) ≡ a33 → (b == 60) ≡ a60 → (b == 62) ≡ a62 → (slice_index bytes 0 == 61) ≡ c61 → (slice_index bytes 0 == 62) ≡ c62
      → sign_by a40 a41 a44 a46 a59 a42 a43 a45 a61 a33 a60 a62 c61 c62 ≡ Ok f → Found minus joined (b ∷ bytes) f
  found_by true a41 a44 a46 a59 a42 a43 a45 a61 a33 a60 a62 c61 c62 ea40 ea41 ea44 ea46 ea59 ea42 ea43 ea45 ea61 ea33 ea60 ea62 ec61 ec62 h = single minus joined b 40 bytes sign.Open f refl (never _ bytes (λ x. refl)) ea40 h
  found_by false true a44 a46 a59 a42 a43 a45 a61 a33 a60 a62 c61 c62 ea40 ea41 ea44 ea46 ea59 ea42 ea43 ea45 ea61 ea33 ea60 ea62 ec61 ec62 h = single minus joined b 41 bytes sign.Close f refl (never _ bytes (λ x. refl)) ea41 h
  found_by false false true a46 a59 a42 a43 a45 a61 a33 a60 a62 c61 c62 ea40 ea41 ea44 ea46 ea59 ea42 ea43 ea45 ea61 ea33 ea60 ea62 ec61 ec62 h = single minus joined b 44 bytes sign.Comma f refl (never _ bytes (λ x. refl)) ea44 h
  found_by false false false true a59 a42 a43 a45 a61 a33 a60 a62 c61 c62 ea40 ea41 ea44 ea46 ea59 ea42 ea43 ea45 ea61 ea33 ea60 ea62 ec61 ec62 h = single minus joined b 46 bytes sign.Dot f refl (never _ bytes (λ x. refl)) ea46 h
  found_by false false false false true a42 a43 a45 a61 a33 a60 a62 c61 c62 ea40 ea41 ea44 ea46 ea59 ea42 ea43 ea45 ea61 ea33 ea60 ea62 ec61 ec62 h = single minus joined b 59 bytes sign.Semicolon f refl (never _ bytes (λ x. refl)) ea59 h
  found_by false false false false false true a43 a45 a61 a33 a60 a62 c61 c62 ea40 ea41 ea44 ea46 ea59 ea42 ea43 ea45 ea61 ea33 ea60 ea62 ec61 ec62 h = single minus joined b 42 bytes sign.Star f refl (never _ bytes (λ x. refl)) ea42 h
  found_by false false false false false false true a45 a61 a33 a60 a62 c61 c62 ea40 ea41 ea44 ea46 ea59 ea42 ea43 ea45 ea61 ea33 ea60 ea62 ec61 ec62 h = single minus joined b 43 bytes sign.Plus f refl (never _ bytes (λ x. refl)) ea43 h
  found_by false false false false false false false true a61 a33 a60 a62 c61 c62 ea40 ea41 ea44 ea46 ea59 ea42 ea43 ea45 ea61 ea33 ea60 ea62 ec61 ec62 h = single minus joined b 45 bytes sign.Minus f refl (never _ bytes (λ x. refl)) ea45 h
  found_by false false false false false false false false true a33 a60 a62 c61 c62 ea40 ea41 ea44 ea46 ea59 ea42 ea43 ea45 ea61 ea33 ea60 ea62 ec61 ec62 h = single minus joined b 61 bytes sign.Eq f refl (never _ bytes (λ x. refl)) ea61 h
  found_by false false false false false false false false false true a60 a62 true c62 ea40 ea41 ea44 ea46 ea59 ea42 ea43 ea45 ea61 ea33 ea60 ea62 ec61 ec62 h = double minus joined b 33 60 bytes sign.Ne f (inr refl) (λ x. refl) ea33 ec61 h
  found_by false false false false false false false false false true a60 a62 false c62 ea40 ea41 ea44 ea46 ea59 ea42 ea43 ea45 ea61 ea33 ea60 ea62 ec61 ec62 h = absurd cc
  found_by false false false false false false false false false false true a62 true c62 ea40 ea41 ea44 ea46 ea59 ea42 ea43 ea45 ea61 ea33 ea60 ea62 ec61 ec62 h = double minus joined b 60 60 bytes sign.Le f refl (λ x. refl) ea60 ec61 h
  found_by false false false false false false false false false false true a62 false true ea40 ea41 ea44 ea46 ea59 ea42 ea43 ea45 ea61 ea33 ea60 ea62 ec61 ec62 h = double minus joined b 60 61 bytes sign.Ne f (inl refl) (λ x. refl) ea60 ec62 h
  found_by false false false false false false false false false false true a62 false false ea40 ea41 ea44 ea46 ea59 ea42 ea43 ea45 ea61 ea33 ea60 ea62 ec61 ec62 h = single minus joined b 60 bytes sign.Lt f refl (less_ends bytes ec61 ec62) ea60 h
  found_by false false false false false false false false false false false true true c62 ea40 ea41 ea44 ea46 ea59 ea42 ea43 ea45 ea61 ea33 ea60 ea62 ec61 ec62 h = double minus joined b 62 60 bytes sign.Ge f refl (λ x. refl) ea62 ec61 h
  found_by false false false false false false false false false false false true false c62 ea40 ea41 ea44 ea46 ea59 ea42 ea43 ea45 ea61 ea33 ea60 ea62 ec61 ec62 h = single minus joined b 62 bytes sign.Gt f refl (greater_ends bytes ec61) ea62 h
  found_by false false false false false false false false false false false false c61 c62 ea40 ea41 ea44 ea46 ea59 ea42 ea43 ea45 ea61 ea33 ea60 ea62 ec61 ec62 h = absurd cc

found_sign : (minus joined : Bool) (b : ℕ) (bytes : List ℕ) (f : Front) → sign_at b (slice_index bytes 0) ≡ Ok f → Found minus joined (b ∷ bytes) f
unfolding sign_at
found_sign minus joined b bytes f h =
    found_by minus joined b bytes f (b == 40) (b == 41) (b == 44) (b == 46) (b == 59) (b == 42) (b == 43) (b == 45) (b == 61) (b == 33) (b == 60) (b == 62) (slice_index bytes 0 == 61) (slice_index bytes 0 == 62)
    refl refl refl refl refl refl refl refl refl refl refl refl refl refl h

-- what is found at the front of bytes is a token there
front_by : (minus joined : Bool) (b : ℕ) (bytes : List ℕ) (f : Front) (letter digit quote : Bool)
    → is_letter b ≡ letter → is_digit b ≡ digit → is_quote b ≡ quote
    → cond letter (word_at joined (b ∷ bytes)) (cond digit (number_at minus (b ∷ bytes)) (cond quote (text_until (closing bytes) bytes) (sign_at b (slice_index bytes 0)))) ≡ Ok f
    → Found minus joined (b ∷ bytes) f
front_by minus joined b bytes f true digit quote el ed eq h = found_word minus joined b bytes f el h
front_by minus joined b bytes f false true quote el ed eq h = found_number minus joined b bytes f ed h
front_by minus joined b bytes f false false true el ed eq h = by_end (closing bytes) refl h where
  by_end : (o : Option ℕ) → closing bytes ≡ o → text_until o bytes ≡ Ok f → Found minus joined (b ∷ bytes) f
  by_end None e g = absurd cc
  by_end (Some n) e g = found_text minus joined b bytes n f (quote_byte b eq) (closing-found bytes n e) g
front_by minus joined b bytes f false false false el ed eq h = found_sign minus joined b bytes f h

pub found_front : (minus joined : Bool) (bytes : List ℕ) (f : Front) → 0 < length bytes → front_of minus joined bytes ≡ Ok f → Found minus joined bytes f
unfolding front_of text_at
found_front minus joined [] f some h = absurd (omega arith)
found_front minus joined (b ∷ bytes) f some h =
    front_by minus joined b bytes f (is_letter b) (is_digit b) (is_quote b) refl refl refl h
