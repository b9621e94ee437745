-- Lemmas on where the first LF stands.
use Rattle.std.proofs.Common.{◌≡◌, ◌≢◌, ◌≤◌, ◌<◌, ◌+◌, ◌-◌, ℕ, List, length, take, drop, get_or, sym, ap, ◌∙◌, arith, length-drop, get_or-drop, inl, inr}
use Rattle.std.proofs.lemmas.Slice.{between_to_end}
use Rattle.std.proofs.lemmas.Bool.{cases_lt}
use Rattle.rmem_db.specs.Reading.{HasNoLf, IsLineEnd}

module _ (bytes : List ℕ) (clear : ℕ) (inside : clear ≤ length bytes) (none : (k : ℕ) → k < clear → get_or bytes k 0 ≢ 10) where
  to_end : take (length bytes - clear) (drop clear bytes) ≡ drop clear bytes
  to_end = between_to_end bytes clear (length bytes) (omega arith)

  behind : (k : ℕ) → get_or (drop clear bytes) k 0 ≡ get_or bytes (clear + k) 0
  behind k = get_or-drop clear bytes k 0

  first_of : (n : ℕ) → IsLineEnd (drop clear bytes) n → (k : ℕ) → k < clear + n → get_or bytes k 0 ≢ 10
  first_of n h k below =
      elim (cases_lt k clear) [
        | inl less ↦ none k less
        | inr more ↦ λ e. h.first (k - clear) (omega arith) (behind (k - clear) ∙ ap (λ (i : ℕ). get_or bytes i 0) (omega arith) ∙ e)
      ]

  -- an LF behind the bytes that have none
  pub IsLineEnd-from_behind : (n : ℕ) → IsLineEnd (take (length bytes - clear) (drop clear bytes)) n → IsLineEnd bytes (clear + n)
  IsLineEnd-from_behind n there =
      let h : IsLineEnd (drop clear bytes) n = rw to_end at there in
      let long : n < length bytes - clear = rw length-drop at h.inside in
      record { inside = omega arith; lf = sym (behind n) ∙ h.lf; first = first_of n h }

  -- no LF behind the bytes that have none
  pub HasNoLf-from_behind : HasNoLf (take (length bytes - clear) (drop clear bytes)) → HasNoLf bytes
  HasNoLf-from_behind there = λ k below.
      elim (cases_lt k clear) [
        | inl less ↦ none k less
        | inr more ↦ λ e.
            let h : HasNoLf (drop clear bytes) = rw to_end at there in
            let at_k : get_or (drop clear bytes) (k - clear) 0 ≡ 10 = behind (k - clear) ∙ ap (λ (i : ℕ). get_or bytes i 0) (omega arith) ∙ e in
            h (k - clear) (rw length-drop (omega arith)) at_k
      ]

module _ (bytes : List ℕ) (at : ℕ) (inside : at ≤ length bytes) where
  whole : take (length bytes - at) (drop at bytes) ≡ drop at bytes
  whole = between_to_end bytes at (length bytes) (omega arith)

  at_place : (k : ℕ) → at ≤ k → get_or (drop at bytes) (k - at) 0 ≡ get_or bytes k 0
  at_place k low = get_or-drop at bytes (k - at) 0 ∙ ap (λ (i : ℕ). get_or bytes i 0) (omega arith)

  -- no LF stands before the line's end
  pub none_before_end : (n : ℕ) → IsLineEnd (take (length bytes - at) (drop at bytes)) n → (k : ℕ) → at ≤ k → k < at + n → get_or bytes k 0 ≢ 10
  none_before_end n there k low high =
      let h : IsLineEnd (drop at bytes) n = rw whole at there in
      λ e. h.first (k - at) (omega arith) (at_place k low ∙ e)

  -- the line ends inside
  pub end_inside : (n : ℕ) → IsLineEnd (take (length bytes - at) (drop at bytes)) n → at + n < length bytes
  end_inside n there =
      let h : IsLineEnd (drop at bytes) n = rw whole at there in
      let long : n < length bytes - at = rw length-drop at h.inside in
      omega arith

  -- no LF stands anywhere
  pub none_to_end : HasNoLf (take (length bytes - at) (drop at bytes)) → (k : ℕ) → at ≤ k → k < length bytes → get_or bytes k 0 ≢ 10
  none_to_end there k low high =
      let h : HasNoLf (drop at bytes) = rw whole at there in
      λ e. h (k - at) (rw length-drop (omega arith)) (at_place k low ∙ e)
