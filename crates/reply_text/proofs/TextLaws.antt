-- Texts in quotes, byte by byte.
use Rattle.std.proofs.lemmas.List.{take_all}
use Rattle.std.proofs.Common.{◌≡◌, refl, sym, ◌∙◌, ap, ℕ, ◌≤◌, length, take, Bool, true, false, cond, List, [], ◌∷◌, ◌++◌}
use Rattle.std.specs.List.{flat_map}
use Rattle.sql_words.specs.Bytes.{is_quote}
use Rattle.sql_words.specs.Tokens.{doubled}

-- each byte is written for itself
pub doubled_each : (bytes : List ℕ) → doubled bytes ≡ flat_map (λ b. doubled (b ∷ [])) bytes
doubled_each [] = refl
doubled_each (b ∷ bytes) = by_test (is_quote b) (doubled_each bytes) where
  by_test : (q : Bool) → doubled bytes ≡ flat_map (λ b. doubled (b ∷ [])) bytes → cond q (39 ∷ 39 ∷ doubled bytes) (b ∷ doubled bytes) ≡ cond q (39 ∷ 39 ∷ []) (b ∷ []) ++ flat_map (λ b. doubled (b ∷ [])) bytes
  by_test true e = ap (λ z. 39 ∷ 39 ∷ z) e
  by_test false e = ap (λ z. b ∷ z) e

-- a text is written once all its bytes are
pub content_done : (out o bytes : List ℕ) (i : ℕ) → length bytes ≤ i → o ≡ out ++ flat_map (λ b. doubled (b ∷ [])) (take i bytes) → o ≡ out ++ doubled bytes
content_done out o bytes i less e =
    e ∙ ap (λ z. out ++ flat_map (λ b. doubled (b ∷ [])) z) (take_all i bytes less) ∙ ap (λ z. out ++ z) (sym (doubled_each bytes))
