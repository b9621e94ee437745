-- What is left of a text token while its content is read.
use Rattle.std.proofs.Common.{◌≡◌, ℕ, ◌<◌, ◌≤◌, Bool, true, false, cond, List, [], ◌∷◌, ◌++◌, length, drop, get_or, refl, sym, ◌∙◌, ap, arith, append_assoc, append-nil, length-append}
use Rattle.std.proofs.lemmas.Bool.{eqb-true}
use Rattle.sql_words.specs.Bytes.{is_quote}
use Rattle.sql_words.specs.Tokens.{doubled, quoted}

-- these bytes and the closing quote are left, and those that were read are the others
pub record Left (left read content : List ℕ) : Type 0 where
  pub rest : List ℕ
  pub bytes : left ≡ doubled rest ++ (39 ∷ [])
  pub whole : read ++ rest ≡ content

pub started : (token left content : List ℕ) (n : ℕ) → n ≡ 1 → left ≡ drop n token → token ≡ quoted content → Left left [] content
started token left content n one h q = record { rest = content; bytes = h ∙ ap (λ k. drop k token) one ∙ ap (drop 1) q; whole = refl }

pub moved : (left read content : List ℕ) (b : ℕ) (w : ℕ) (behind : List ℕ) → 1 < length left → b ≡ get_or left 0 0 → w ≡ cond (is_quote b) 2 1
    → behind ≡ drop w left → Left left read content → Left behind (read ++ b ∷ []) content
moved left read content b w behind more b_is w_is behind_is h = go h.rest h.bytes h.whole where
  go : (rest : List ℕ) → left ≡ doubled rest ++ (39 ∷ []) → read ++ rest ≡ content → Left behind (read ++ b ∷ []) content
  go [] bytes whole = absurd (omega (arith, ap length bytes))
  go (d ∷ rest) bytes whole = by_test (is_quote d) refl bytes where
    by_test : (t : Bool) → is_quote d ≡ t → left ≡ cond t (39 ∷ 39 ∷ doubled rest) (d ∷ doubled rest) ++ (39 ∷ []) → Left behind (read ++ b ∷ []) content
    by_test true e bytes =
        let b39 : b ≡ 39 = b_is ∙ ap (λ q. get_or q 0 0) bytes in
        let d39 : d ≡ 39 = eqb-true d 39 e in
        let two : w ≡ 2 = w_is ∙ ap (λ q. cond (is_quote q) 2 1) b39 in
        record {
          rest = rest;
          bytes = behind_is ∙ ap (λ q. drop q left) two ∙ ap (drop 2) bytes;
          whole = append_assoc read (b ∷ []) rest ∙ ap (λ q. read ++ (q ∷ rest)) (b39 ∙ sym d39) ∙ whole;
        }
    by_test false e bytes =
        let same : b ≡ d = b_is ∙ ap (λ q. get_or q 0 0) bytes in
        let one : w ≡ 1 = w_is ∙ ap (λ q. cond (is_quote q) 2 1) same ∙ ap (λ q. cond q 2 1) e in
        record {
          rest = rest;
          bytes = behind_is ∙ ap (λ q. drop q left) one ∙ ap (drop 1) bytes;
          whole = append_assoc read (b ∷ []) rest ∙ ap (λ q. read ++ (q ∷ rest)) same ∙ whole;
        }

pub finished : (left read content : List ℕ) → length left ≤ 1 → Left left read content → read ≡ content
finished left read content few h = go h.rest h.bytes h.whole where
  go : (rest : List ℕ) → left ≡ doubled rest ++ (39 ∷ []) → read ++ rest ≡ content → read ≡ content
  go [] bytes whole = sym (append-nil read) ∙ whole
  go (d ∷ rest) bytes whole = by_test (is_quote d) bytes where
    by_test : (t : Bool) → left ≡ cond t (39 ∷ 39 ∷ doubled rest) (d ∷ doubled rest) ++ (39 ∷ []) → read ≡ content
    by_test true e = absurd (omega (arith, ap length e))
    by_test false e = absurd (omega (arith, ap length e, length-append (doubled rest) (39 ∷ [])))
