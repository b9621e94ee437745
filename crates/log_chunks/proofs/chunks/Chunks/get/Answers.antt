use Rattle.std.proofs.Common.{◌≡◌, ◌≤◌, ◌++◌, ◌*◌, [], List, ℕ, length, take, drop, sym, ap, subst, ◌∙◌, arith, Some}
use Rattle.rm_base.specs.declared.limits.TheConstants.{LOG_CHUNK_BYTES}
use Rattle.std.specs.List.{concat, slice_get}
use Rattle.log_chunks.proofs.ChunkLaws.{chunk_at, open_at, none_at, past_end}
use Rattle.log_chunks.proofs.chunks.Chunks.get.Goals as goal
use Rattle.log_chunks.proofs.chunks.Chunks.get.Goals.{else-i-len-via-then-i-len+else-not-is_empty, else-i-len-via-else-i-len}

pub returns-in-Some : goal.returns-in-Some
returns-in-Some c =
    let full : List (List ℕ) = c.self.inside.full.items in
    let o : List ℕ = c.self.inside.«open» in
    let found : slice_get full c.args.i ≡ Some c.in-Some.chunk.now =
    ap (λ (q : List (List ℕ)). slice_get q c.args.i) (sym c.as_slice.ensures.value) ∙ sym c.in-Some.ensures in
    c.as_slice-in-Some.ensures
    ∙ sym (chunk_at LOG_CHUNK_BYTES c.args.i full o c.in-Some.chunk.now c.self.invariant.each found)
    ∙ ap (λ (q : List ℕ). take LOG_CHUNK_BYTES (drop (LOG_CHUNK_BYTES * c.args.i) q)) c.self.view_is

pub returns-then-not-is_empty : goal.returns-then-not-is_empty
returns-then-not-is_empty c =
    let full : List (List ℕ) = c.self.inside.full.items in
    let o : List ℕ = c.self.inside.«open» in
    let here : length full ≡ c.args.i = omega arith in
    c.as_slice-then-not-is_empty.ensures
    ∙ sym (open_at LOG_CHUNK_BYTES full o c.self.invariant.each (omega (arith, c.self.invariant.room)))
    ∙ ap (λ (k : ℕ). take LOG_CHUNK_BYTES (drop (LOG_CHUNK_BYTES * k) (concat full ++ o))) here
    ∙ ap (λ (q : List ℕ). take LOG_CHUNK_BYTES (drop (LOG_CHUNK_BYTES * c.args.i) q)) c.self.view_is

pub returns : goal.returns
returns c =
    let full : List (List ℕ) = c.self.inside.full.items in
    let o : List ℕ = c.self.inside.«open» in
    let past : length full ≤ c.args.i =
    past_end c.args.i full (ap (λ (q : List (List ℕ)). slice_get q c.args.i) (sym c.as_slice.ensures.value) ∙ sym c.in_default.ensures) in
    let none : c.args.i ≡ length full → o ≡ [] =
    λ same. elim c.else-i-len.branch [
      | else-i-len-via-then-i-len+else-not-is_empty w ↦ w.is_empty.ensures.0 w.if-not-is_empty.false
      | else-i-len-via-else-i-len w ↦ absurd (w.if-i-len.false (omega arith))
    ] in
    subst (λ (q : List ℕ). length q ≤ LOG_CHUNK_BYTES * c.args.i) c.self.view_is
    (none_at LOG_CHUNK_BYTES c.args.i full o c.self.invariant.each (omega (arith, c.self.invariant.room)) past none)
