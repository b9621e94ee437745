-- A lemma on the bytes that one read gives.
use Rattle.std.proofs.Common.{◌≡◌, ◌≤◌, ◌+◌, ◌-◌, ◌++◌, length, take, drop, ℕ, List, sym, ap, ◌∙◌, arith, length-take, length-drop}
use Rattle.std.proofs.lemmas.List.{take-append-drop, drop-drop}
use Rattle.std.proofs.lemmas.Slice.{between_to_end}
use Rattle.std.proofs.Math.Seq.{take-append_seam}

-- the part that was copied to the buffer's front, and what stands behind it, are the bytes from `at` on
pub drop-from_part : (n at : ℕ) (bytes part rest : List ℕ) → at + n ≤ length bytes → part ≡ take n (take (length bytes - at) (drop at bytes))
    → drop at bytes ≡ take n (part ++ rest) ++ drop (at + n) bytes
drop-from_part n at bytes part rest h e =
    let whole : take (length bytes - at) (drop at bytes) ≡ drop at bytes =
    between_to_end bytes at (length bytes) (omega arith) in
    let front : part ≡ take n (drop at bytes) = e ∙ ap (take n) whole in
    let long : length part ≡ n = ap length front ∙ simp (length-take, length-drop) (omega arith) in
    let taken : take n (part ++ rest) ≡ part =
    ap (λ (k : ℕ). take k (part ++ rest)) (sym long) ∙ take-append_seam part rest in
    sym (take-append-drop n (drop at bytes)) ∙ ap (λ (q : List ℕ). q ++ drop n (drop at bytes)) (sym (taken ∙ front))
    ∙ ap (λ (q : List ℕ). take n (part ++ rest) ++ q) (drop-drop n at bytes)
