-- The laws of a text's lines.
use Rattle.std.proofs.Common.{◌≡◌, ◌-◌, ℕ, false, eqb, List, [], ◌∷◌, ◌++◌, length, take, get_or, refl, sym, ap, ◌∙◌, arith, append_assoc, length-append, All, flat_map}
use Rattle.std.proofs.lemmas.Bool.{ne_eqb}
use Rattle.std.proofs.lemmas.List.{get_or_default}
use Rattle.std.proofs.lemmas.List.Splits.{slice_split_none, slice_split_at}
use Rattle.std.proofs.Math.Seq.{take-append_seam}
use Rattle.std.specs.List.{AllByRecursion}
use Rattle.rmem_db.specs.Lines.{lines, whole_lines}
use Rattle.rmem_db.specs.Reading.{HasNoLf}
use Rattle.rmem_db.specs.Texts.{ended}

none_is_lf : (xs : List ℕ) → HasNoLf xs → All (λ (b : ℕ). eqb b 10 ≡ false) xs
none_is_lf xs h = λ k d below. ne_eqb (get_or xs k d) 10 (λ e. h k below (sym (get_or_default xs k d 0 below) ∙ e))

-- a text without LF is one line
pub lines-none : (text : List ℕ) → HasNoLf text → lines text ≡ text ∷ []
unfolding lines
lines-none text h = slice_split_none (λ (b : ℕ). eqb b 10) text (none_is_lf text h)

pub lines-at : (line rest : List ℕ) → HasNoLf line → lines (line ++ 10 ∷ rest) ≡ line ∷ lines rest
unfolding lines
lines-at line rest h = slice_split_at (λ (b : ℕ). eqb b 10) line 10 rest (none_is_lf line h) refl

regroup : (line others rest : List ℕ) → (ended line ++ others) ++ rest ≡ line ++ 10 ∷ (others ++ rest)
regroup line others rest = append_assoc (ended line) others rest ∙ append_assoc line (10 ∷ []) (others ++ rest)

-- the lines that LFs end come first
pub lines-ended : (whole : List (List ℕ)) (rest : List ℕ) → AllByRecursion HasNoLf whole → lines (flat_map ended whole ++ rest) ≡ whole ++ lines rest
lines-ended [] rest h = refl
lines-ended (line ∷ others) rest h =
    ap lines (regroup line (flat_map ended others) rest) ∙ lines-at line (flat_map ended others ++ rest) h.0
    ∙ ap (λ (q : List (List ℕ)). line ∷ q) (lines-ended others rest h.1)

-- all lines, and the whole ones, where what is left has no LF
pub lines-split : (whole : List (List ℕ)) (rest : List ℕ) → AllByRecursion HasNoLf whole → HasNoLf rest → lines (flat_map ended whole ++ rest) ≡ whole ++ rest ∷ []
lines-split whole rest h none = lines-ended whole rest h ∙ ap (λ (q : List (List ℕ)). whole ++ q) (lines-none rest none)

pub whole_lines-split : (whole : List (List ℕ)) (rest : List ℕ) → AllByRecursion HasNoLf whole → HasNoLf rest → whole_lines (flat_map ended whole ++ rest) ≡ whole
unfolding whole_lines
whole_lines-split whole rest h none =
    let long : length (whole ++ rest ∷ []) - 1 ≡ length whole = omega (arith, length-append whole (rest ∷ [])) in
    ap (λ (q : List (List ℕ)). take (length q - 1) q) (lines-split whole rest h none)
    ∙ ap (λ (n : ℕ). take n (whole ++ rest ∷ [])) long
    ∙ take-append_seam whole (rest ∷ [])

-- one more line
pub AllByRecursion-push : (whole : List (List ℕ)) (line : List ℕ) → AllByRecursion HasNoLf whole → HasNoLf line → AllByRecursion HasNoLf (whole ++ line ∷ [])
AllByRecursion-push [] line h none = (none, tt)
AllByRecursion-push (first ∷ others) line h none = (h.0, AllByRecursion-push others line h.1 none)
