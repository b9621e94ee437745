-- A chunk over ships and folds.
use Rattle.std.proofs.Common.{◌≡◌, ◌≤◌, ◌+◌, ℕ, List, [], ◌∷◌, ◌++◌, length, length-append, sym, ap, subst, ◌∙◌, append-nil, append_assoc, arith}
use Rattle.redo_record.specs.declared.redo.Group.{Group}
use Rattle.redo_record.specs.Effect.{after_records, page_at, CountsFrom}
use Rattle.redo_record.proofs.Fold.{CountsFrom-up_to, CountsFrom-append, page_at-all, page_at-one_more}
use Rattle.page_chunks.specs.Chunk.{Chunk, InChunk, IsShipped, AnswersSame, HasGot}
use Rattle.page_chunks.specs.Moves.{Move, ship, fold, Runs, shipped}

-- the chunk's pages stay
pub in_old : (old new : Chunk) (p : ℕ) → new.number ≡ old.number → InChunk new p → InChunk old p
in_old old new p is h = record { from = (let from = h.from in omega arith); within = (let within = h.within in omega arith) }

-- from its end on a log leaves the same page
stays : (gs : List Group) (p n : ℕ) → CountsFrom 0 gs → length gs ≤ n → page_at gs p n ≡ page_at gs p (length gs)
stays gs p n h le =
    page_at-all gs p n (CountsFrom-up_to 0 n gs (omega arith) h) ∙ sym (page_at-all gs p (length gs) (CountsFrom-up_to 0 (length gs) gs (omega arith) h))

-- a group more
pub got_more : (old new : Chunk) (g : Group) (groups : List Group) → HasGot old groups → g.lsn ≡ old.applied + 1 → IsShipped old g new → HasGot new (groups ++ g ∷ [])
got_more old new g groups has next s =
    let lsn : g.lsn ≡ length groups + 1 = omega (arith, has.applied) in
    let first : g.lsn ≡ (0 + length groups) + 1 = omega arith in
    let count : length (groups ++ g ∷ []) ≡ length groups + 1 = length-append groups (g ∷ []) in
    let fits : g.lsn ≤ length (groups ++ g ∷ []) = omega arith in
    let longer : length groups ≤ length (groups ++ g ∷ []) = omega arith in
    record {
      counted = CountsFrom-append 0 groups (g ∷ []) has.counted (first, tt);
      applied = omega (arith, s.applied);
      images = λ p h.
          let old_page : InChunk old p = in_old old new p s.number h in
          s.images p old_page
          ∙ ap (after_records g.lsn g.records) (has.images p old_page ∙ sym (stays groups p (length (groups ++ g ∷ [])) has.counted longer))
          ∙ sym (page_at-one_more groups g p (length (groups ++ g ∷ [])) fits);
    }

-- the same answers
pub got_same : (old new : Chunk) (groups : List Group) → HasGot old groups → AnswersSame old new → HasGot new groups
got_same old new groups has s = record {
  counted = has.counted;
  applied = s.applied ∙ has.applied;
  images = λ p h. let old_page : InChunk old p = in_old old new p s.number h in s.images p old_page ∙ has.images p old_page;
}

pub got_all : (start end : Chunk) (groups : List Group) (moves : List Move) → HasGot start groups → Runs start moves end → HasGot end (groups ++ shipped moves)
got_all start end groups [] has runs =
    subst (λ (gs : List Group). HasGot end gs) (sym (append-nil groups)) (subst (λ (c : Chunk). HasGot c groups) (sym runs) has)
got_all start end groups (ship g ∷ moves) has runs =
    subst (λ (gs : List Group). HasGot end gs) (append_assoc groups (g ∷ []) (shipped moves))
    (got_all runs.0 end (groups ++ g ∷ []) moves (got_more start runs.0 g groups has runs.1.0.next runs.1.1) runs.2)
got_all start end groups (fold p ∷ moves) has runs =
    got_all runs.0 end groups moves (got_same start runs.0 groups has runs.1.1) runs.2
