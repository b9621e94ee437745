-- What each turn of the scan adds to the reading of a text.
use Rattle.std.proofs.Common.{◌≡◌, ℕ, suc, ◌+◌, ◌<◌, ◌≤◌, inl, inr, Bool, true, List, [], ◌∷◌, ◌++◌, length, take, drop, Option, Some, None, Result, Ok, Err, IfOk, IfErr, sym, ◌∙◌, ap, subst, arith, length-append, length-drop, take-append-drop, take_all, append_assoc}
use Rattle.std.specs.List.{list_all, prefix_len}
use Rattle.std.proofs.lemmas.Str.{utf8_valid_len_le}
use Rattle.std.proofs.Math.Seq.{take-append_seam, drop-append_seam}
use Rattle.std.proofs.lemmas.List.{take_at, drop_at, drop-drop}
use Rattle.std.proofs.lemmas.List.Folds.{length-prefix_len}
use Rattle.sql_words.specs.declared.cutting.Front.{Front}
use Rattle.sql_words.specs.declared.tokens.Class.{Class}
use Rattle.sql_words.specs.Bytes.{is_space}
use Rattle.sql_words.specs.Front.{front_of}
use Rattle.sql_words.specs.Lexed.{Lexed}
use Rattle.sql_words.specs.Tokens.{doubled, quoted, IsToken, is_minus, is_joined, HasFaultAt, AreTokens, AreTokensOf, AscendIn}
use Rattle.sql_words.proofs.Runs.{prefix_passes, prefix_ends}
use Rattle.sql_words.proofs.FrontLaws.{found_front}
use Rattle.sql_words.proofs.TokenLaws.{fault_front, fault_at}

-- a token that is found lies inside the bytes
pub token_within : (minus joined : Bool) (bytes : List ℕ) (r : Result Front ℕ) → 0 < length bytes → r ≡ front_of minus joined bytes
    → IfOk r (λ f. (0 < f.len) × (f.len ≤ length bytes))
token_within minus joined bytes (Ok f) some e =
    let found = found_front minus joined bytes f some (sym e) in
    let whole : length bytes ≡ length found.front + length found.rest = ap length found.whole ∙ length-append found.front found.rest in
    (found.positive, omega (arith, whole, found.size))
token_within minus joined bytes (Err n) some e = tt

-- and so does a fault
pub fault_within : (minus joined : Bool) (bytes : List ℕ) (r : Result Front ℕ) → 0 < length bytes → r ≡ front_of minus joined bytes
    → IfErr r (λ n. n ≤ length bytes)
fault_within minus joined bytes (Ok f) some e = tt
fault_within minus joined bytes (Err n) some e = inside (fault_at minus joined bytes n some (sym e)) where
  inside : HasFaultAt bytes n → n ≤ length bytes
  inside (inl h) =
      let whole : length bytes ≡ suc (length (doubled h.0 ++ 39 ∷ [])) + length h.1 = ap length (h.2).0 ∙ length-append (quoted h.0) h.1 in
      omega (arith, whole, h.3, utf8_valid_len_le (doubled h.0), length-append (doubled h.0) (39 ∷ []))
  inside (inr h) = omega (arith, h.1)

module _ (before : Option Class) (at : ℕ) (bytes : List ℕ) where
  -- a token behind white space is the first one from there on
  pub step : (f : Front) → 0 < length (drop (prefix_len is_space bytes) bytes)
      → front_of (is_minus before) (is_joined before (take (prefix_len is_space bytes) bytes)) (drop (prefix_len is_space bytes) bytes) ≡ Ok f
      → (t : Lexed) → t.text ≡ take f.len (drop (prefix_len is_space bytes) bytes) → t.at ≡ at + prefix_len is_space bytes → t.class ≡ f.class
      → (ts : List Lexed) (p : Option ℕ)
      → AreTokens (Some f.class) (at + prefix_len is_space bytes + f.len) (drop f.len (drop (prefix_len is_space bytes) bytes)) ts p
      → AreTokens before at bytes (t ∷ ts) p
  step f some e t text_is at_is class_is ts p more =
      let k = prefix_len is_space bytes in
      let rest : List ℕ = drop k bytes in
      let spaces : List ℕ = take k bytes in
      let found = found_front (is_minus before) (is_joined before spaces) rest f some e in
      let cut : t.text ≡ found.front = text_is ∙ ap (take f.len) found.whole ∙ take_at found.front found.rest f.len (sym found.size) in
      let left : drop f.len rest ≡ found.rest = ap (drop f.len) found.whole ∙ drop_at found.front found.rest f.len (sym found.size) in
      let size : length t.text ≡ f.len = ap length cut ∙ sym found.size in
      let blank_len : length spaces ≡ k = length-prefix_len is_space bytes in
      let same_at : at + k + f.len ≡ t.at + length t.text = omega (arith, at_is, size) in
      let token : IsToken (is_minus before) (is_joined before spaces) t.text t.class found.rest =
      subst (λ c. IsToken (is_minus before) (is_joined before spaces) t.text c found.rest) (sym class_is)
      (subst (λ q. IsToken (is_minus before) (is_joined before spaces) q f.class found.rest) (sym cut) found.token) in (
        record {
          spaces = spaces;
          rest = found.rest;
          whole = sym (take-append-drop k bytes) ∙ ap (λ q. spaces ++ q) (found.whole ∙ ap (λ q. q ++ found.rest) (sym cut));
          blank = prefix_passes is_space bytes;
          place = at_is ∙ ap (λ q. at + q) (sym blank_len);
          token = token;
        },
        subst (λ (c : Class). AreTokens (Some c) (t.at + length t.text) found.rest ts p) (sym class_is)
            (subst (λ q. AreTokens (Some f.class) q found.rest ts p) same_at
            (subst (λ q. AreTokens (Some f.class) (at + k + f.len) q ts p) left more)),
      )

  -- white space to the end ends the tokens
  pub done : length (drop (prefix_len is_space bytes) bytes) ≡ 0 → AreTokens before at bytes [] None
  done h =
      let k = prefix_len is_space bytes in
      let none : length bytes ≤ k = omega (arith, length-drop k bytes) in
      subst (λ q. list_all is_space q ≡ true) (take_all k bytes none) (prefix_passes is_space bytes)

  -- a fault behind white space ends them too
  pub stop : (n : ℕ) → 0 < length (drop (prefix_len is_space bytes) bytes)
      → front_of (is_minus before) (is_joined before (take (prefix_len is_space bytes) bytes)) (drop (prefix_len is_space bytes) bytes) ≡ Err n
      → AreTokens before at bytes [] (Some (at + prefix_len is_space bytes + n))
  stop n some e =
      let k = prefix_len is_space bytes in
      let rest : List ℕ = drop k bytes in
      let spaces : List ℕ = take k bytes in
      let blank_len : length spaces ≡ k = length-prefix_len is_space bytes in
      record {
        spaces = spaces;
        rest = rest;
        offset = n;
        whole = sym (take-append-drop k bytes);
        blank = prefix_passes is_space bytes;
        some = λ none. absurd (omega (arith, ap length none, some));
        visible = prefix_ends is_space bytes;
        none = fault_front (is_minus before) (is_joined before spaces) rest n e;
        fault = fault_at (is_minus before) (is_joined before spaces) rest n some e;
        place = ap (λ q. at + q + n) (sym blank_len);
      }

-- the same for a turn of the loop, by what its calls answer
pub record Turn (before : Option Class) (bytes : List ℕ) (minus joined : Bool) (blanks visible : List ℕ) (r : Result Front ℕ) : Type 0 where
  pub front : blanks ≡ take (prefix_len is_space bytes) bytes
  pub back : visible ≡ drop (prefix_len is_space bytes) bytes
  pub minus_is : minus ≡ is_minus before
  pub joined_is : joined ≡ is_joined before blanks
  pub cut : r ≡ front_of minus joined visible

module _ (before : Option Class) (at : ℕ) (bytes : List ℕ) (minus joined : Bool) (blanks visible : List ℕ) where
  size_of : (r : Result Front ℕ) → Turn before bytes minus joined blanks visible r → length blanks ≡ prefix_len is_space bytes
  size_of r u = ap length u.front ∙ length-prefix_len is_space bytes

  cut_of : (r : Result Front ℕ) → Turn before bytes minus joined blanks visible r
      → front_of (is_minus before) (is_joined before (take (prefix_len is_space bytes) bytes)) (drop (prefix_len is_space bytes) bytes) ≡ r
  cut_of r u =
      ap (λ q. front_of (is_minus before) (is_joined before q) (drop (prefix_len is_space bytes) bytes)) (sym u.front)
      ∙ ap (λ q. front_of q (is_joined before blanks) (drop (prefix_len is_space bytes) bytes)) (sym u.minus_is)
      ∙ ap (λ q. front_of minus q (drop (prefix_len is_space bytes) bytes)) (sym u.joined_is)
      ∙ ap (front_of minus joined) (sym u.back) ∙ sym u.cut

  pub turn : (f : Front) → Turn before bytes minus joined blanks visible (Ok f) → 0 < length visible
      → (t : Lexed) → t.text ≡ take f.len visible → t.at ≡ at + length blanks → t.class ≡ f.class
      → (behind : List ℕ) → behind ≡ drop f.len visible → (ts : List Lexed) (p : Option ℕ)
      → AreTokens (Some f.class) (at + length blanks + f.len) behind ts p → AreTokens before at bytes (t ∷ ts) p
  turn f u some t text_is at_is class_is behind behind_is ts p more =
      let size = size_of (Ok f) u in
      step before at bytes f (subst (λ q. 0 < length q) u.back some) (cut_of (Ok f) u) t
      (text_is ∙ ap (take f.len) u.back) (at_is ∙ ap (λ q. at + q) size) class_is ts p
      (subst (λ q. AreTokens (Some f.class) (at + q + f.len) (drop f.len (drop (prefix_len is_space bytes) bytes)) ts p) size
      (subst (λ q. AreTokens (Some f.class) (at + length blanks + f.len) q ts p) (behind_is ∙ ap (drop f.len) u.back) more))

  pub fault_turn : (n : ℕ) → Turn before bytes minus joined blanks visible (Err n) → 0 < length visible → AreTokens before at bytes [] (Some (at + length blanks + n))
  fault_turn n u some =
      subst (λ q. AreTokens before at bytes [] (Some (at + q + n))) (sym (size_of (Err n) u))
      (stop before at bytes n (subst (λ q. 0 < length q) u.back some) (cut_of (Err n) u))

-- the tokens of a text are slices of it, one behind another
ascend_from : (text : List ℕ) (before : Option Class) (at : ℕ) (ts : List Lexed) (p : Option ℕ) → at ≤ length text
    → AreTokens before at (drop at text) ts p → AscendIn text at ts
ascend_from text before at [] p within h = within
ascend_from text before at (t ∷ ts) p within h =
    let c = h.0 in
    let whole : length text ≡ at + (length c.spaces + (length t.text + length c.rest)) =
    omega (arith, length-drop at text, ap length c.whole, length-append c.spaces (t.text ++ c.rest), length-append t.text c.rest) in
    let there : drop t.at text ≡ t.text ++ c.rest =
    ap (λ q. drop q text) c.place ∙ sym (drop-drop (length c.spaces) at text) ∙ ap (drop (length c.spaces)) c.whole ∙ drop-append_seam c.spaces (t.text ++ c.rest) in
    let behind : drop (t.at + length t.text) text ≡ c.rest =
    sym (drop-drop (length t.text) t.at text) ∙ ap (drop (length t.text)) there ∙ drop-append_seam t.text c.rest in (
      omega (arith, c.place),
      sym (ap (take (length t.text)) there ∙ take-append_seam t.text c.rest),
      ascend_from text (Some t.class) (t.at + length t.text) ts p (omega (arith, whole, c.place))
          (subst (λ q. AreTokens (Some t.class) (t.at + length t.text) q ts p) (sym behind) h.1),
    )

pub ascend : (text : List ℕ) (ts : List Lexed) (p : Option ℕ) → AreTokensOf text ts p → AscendIn text 0 ts
ascend text ts p h = ascend_from text None 0 ts p (omega arith) h

-- one token more
pub pushed : (ts us vs : List Lexed) (t : Lexed) → us ≡ ts ++ t ∷ [] → us ++ vs ≡ ts ++ (t ∷ vs)
pushed ts us vs t h = ap (λ q. q ++ vs) h ∙ append_assoc ts (t ∷ []) vs
