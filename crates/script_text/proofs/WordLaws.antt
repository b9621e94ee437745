-- For the proofs: words as they are cut off one by one.
use Rattle.std.proofs.Common.{◌≡◌, ℕ, ◌<◌, ◌≤◌, ◌==◌, List, [], ◌∷◌, ◌++◌, length, sym, ap, ◌∙◌, arith, append_assoc}
use Rattle.std.specs.List.{position_or_len, before_first, after_first}
use Rattle.std.proofs.lemmas.List.Splits.{slice_split_first, slice_split_none}
use Rattle.std.proofs.lemmas.List.Sums.{fails_before_first}
use Rattle.script_text.specs.Words.{words}

-- the first word, and the others behind its space
pub words-first : (line : List ℕ) → position_or_len (λ b. b == 32) line < length line → words line ≡ before_first (λ b. b == 32) line ∷ words (after_first (λ b. b == 32) line)
unfolding words
words-first line h = slice_split_first (λ b. b == 32) line 0 h

-- a line without spaces is one word
pub words-none : (line : List ℕ) → length line ≤ position_or_len (λ b. b == 32) line → words line ≡ line ∷ []
unfolding words
words-none line h = slice_split_none (λ b. b == 32) line (λ k d below. fails_before_first (λ b. b == 32) line k d (omega arith))

-- one word more
pub words-pushed : (ws ws' all : List (List ℕ)) (rest before behind : List ℕ)
    → ws ++ words rest ≡ all → ws' ≡ ws ++ before ∷ []
    → position_or_len (λ b. b == 32) rest < length rest → before ≡ before_first (λ b. b == 32) rest → behind ≡ after_first (λ b. b == 32) rest
    → ws' ++ words behind ≡ all
words-pushed ws ws' all rest before behind so_far push place front back =
    ap (λ (q : List (List ℕ)). q ++ words behind) push ∙ append_assoc ws (before ∷ []) (words behind)
    ∙ ap (λ (q : List ℕ). ws ++ q ∷ words behind) front
    ∙ ap (λ (q : List ℕ). ws ++ before_first (λ b. b == 32) rest ∷ words q) back
    ∙ ap (λ (q : List (List ℕ)). ws ++ q) (sym (words-first rest place)) ∙ so_far

-- the last word
pub words-ended : (ws ws' all : List (List ℕ)) (rest : List ℕ)
    → ws ++ words rest ≡ all → ws' ≡ ws ++ rest ∷ [] → length rest ≤ position_or_len (λ b. b == 32) rest → ws' ≡ all
words-ended ws ws' all rest so_far push none = push ∙ ap (λ (q : List (List ℕ)). ws ++ q) (sym (words-none rest none)) ∙ so_far
