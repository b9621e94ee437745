-- For the proofs: lines as they are cut off one by one.
use Rattle.std.proofs.Common.{◌≡◌, ℕ, ◌<◌, ◌≤◌, ◌==◌, Bool, List, [], ◌∷◌, length, refl, sym, ap, ◌∙◌, arith, cond}
use Rattle.std.specs.List.{position_or_len, before_first, after_first, slice_split}
use Rattle.std.specs.Str.Lines.{lines_of_parts, strip_carriage_return}
use Rattle.std.proofs.lemmas.Bool.{ne_eqb}
use Rattle.std.proofs.lemmas.List.Splits.{slice_split_first, slice_split_none, length-slice_split}
use Rattle.std.proofs.lemmas.List.Sums.{fails_before_first}
use Rattle.script_text.specs.Lines.{lines}

more_parts : (x : List ℕ) (parts : List (List ℕ)) → 0 < length parts → lines_of_parts (x ∷ parts) ≡ strip_carriage_return x ∷ lines_of_parts parts
more_parts x [] h = absurd (omega arith)
more_parts x (y ∷ more) h = refl

last_part : (x : List ℕ) → 0 < length x → lines_of_parts (x ∷ []) ≡ x ∷ []
last_part [] h = absurd (omega arith)
last_part (b ∷ x) h = ap (λ (t : Bool). cond t [] ((b ∷ x) ∷ [])) (ne_eqb (length (b ∷ x)) 0 (λ e. absurd (omega (arith, e))))

-- no bytes are no line
pub lines-empty : (bytes : List ℕ) → length bytes ≡ 0 → lines bytes ≡ []
unfolding lines
lines-empty [] h = refl
lines-empty (b ∷ bytes) h = absurd (omega arith)

-- the first line, and the others behind its LF
pub lines-first : (bytes before behind : List ℕ)
    → position_or_len (λ b. b == 10) bytes < length bytes → before ≡ before_first (λ b. b == 10) bytes → behind ≡ after_first (λ b. b == 10) bytes
    → lines bytes ≡ strip_carriage_return before ∷ lines behind
unfolding lines
lines-first bytes before behind place front back =
    ap lines_of_parts (slice_split_first (λ b. b == 10) bytes 0 place)
    ∙ more_parts (before_first (λ b. b == 10) bytes) (slice_split (λ b. b == 10) (after_first (λ b. b == 10) bytes)) (omega (arith, length-slice_split (λ b. b == 10) (after_first (λ b. b == 10) bytes)))
    ∙ ap (λ (q : List ℕ). strip_carriage_return q ∷ lines (after_first (λ b. b == 10) bytes)) (sym front)
    ∙ ap (λ (q : List ℕ). strip_carriage_return before ∷ lines q) (sym back)

-- bytes without LF are one line
pub lines-none : (bytes : List ℕ) → length bytes ≤ position_or_len (λ b. b == 10) bytes → 0 < length bytes → lines bytes ≡ bytes ∷ lines []
unfolding lines
lines-none bytes none some =
    ap lines_of_parts (slice_split_none (λ b. b == 10) bytes (λ k d below. fails_before_first (λ b. b == 10) bytes k d (omega arith)))
    ∙ last_part bytes some
