-- The answer to a request for a page.
use Rattle.std.proofs.Common.{◌≡◌, ◌≤◌, ◌<◌, ◌+◌, ℕ, zero, suc, add-zero, cond, nat_lt, List, [], ◌∷◌, length, take, drop, Result, Ok, Err, IfOk, sym, ap, subst, ◌∙◌, arith}
use Rattle.std.proofs.lemmas.List.{length-take-le, take-append-drop}
use Rattle.page_image.specs.Image.{Image}
use Rattle.message_model.specs.declared.Got.{Got}
use Rattle.message_model.specs.declared.Got.TheVariants as got
use Rattle.redo_record.specs.declared.redo.Group.{Group}
use Rattle.redo_record.specs.Effect.{page_at, ArePast, CountsFrom}
use Rattle.redo_record.proofs.Fold.{page_at-past, Ascends-past, CountsFrom-ascends}
use Rattle.page_chunks.specs.Chunk.{Chunk, HasGot, answer_by}
use Rattle.log_chunks.specs.Log.{Log}
use Rattle.storage_service.specs.Storage.{Parts, storage_of, chunk_of, chunk_at, answer_at, get_answer}
use Rattle.storage_service.specs.Keeping.{IsKept}
use Rattle.storage_service.proofs.Views.{fits}

-- the page at an LSN is that of the groups up to it
pub page_of_front : (groups : List Group) (n p : ℕ) → CountsFrom 0 groups → n ≤ length groups → page_at (take n groups) p n ≡ page_at groups p n
page_of_front groups n p counts fits =
    let sum : 0 + n ≡ n = omega arith in
    let past : ArePast n (drop n groups) = subst (λ (k : ℕ). ArePast k (drop n groups)) sum (past_front 0 n groups counts) in
    sym (page_at-past (take n groups) (drop n groups) p n past) ∙ ap (λ (gs : List Group). page_at gs p n) (take-append-drop n groups)
  where
    past_front : (m k : ℕ) (gs : List Group) → CountsFrom m gs → ArePast (m + k) (drop k gs)
    past_front m zero gs h = subst (λ (j : ℕ). ArePast j gs) (sym (add-zero m)) (Ascends-past m gs (CountsFrom-ascends m gs h))
    past_front m (suc k) [] h = tt
    past_front m (suc k) (g ∷ gs) h =
        let sum : (m + 1) + k ≡ m + suc k = omega arith in
        subst (λ (j : ℕ). ArePast j (drop k gs)) sum (past_front (m + 1) k gs h.1)

-- the answer by the groups that a chunk has got
pub answers : (groups : List Group) (n p floor : ℕ) → CountsFrom 0 groups → n ≤ length groups → answer_by (take n groups) p floor ≡ answer_at groups n p floor
answers groups n p floor counts fits =
    ap (λ (k : ℕ). let x : Got = cond (nat_lt k floor) (got.NotYet k) (got.Image (page_at (take n groups) p k)) in x) (length-take-le n groups fits)
    ∙ ap (λ (im : Image). let x : Got = cond (nat_lt n floor) (got.NotYet n) (got.Image im) in x) (page_of_front groups n p counts fits)

if_ok : {T E : Type 0} (r : Result T E) (P Q : T → Type 0) → ((x : T) → P x → Q x) → IfOk r P → IfOk r Q
if_ok (Ok x) P Q f h = f x h
if_ok (Err e) P Q f h = tt

pub image_answer : {E : Type 0} (r : Result Got E) (S : Parts) (log : Log) (cs : List Chunk) (e behind place p floor : ℕ) (chunk : Chunk) → S.log ≡ log → S.chunks ≡ cs
    → IsKept e log cs behind → place < 128 → place ≡ chunk_of p → chunk ≡ chunk_at cs place
    → IfOk r (λ x. (groups : List Group) → HasGot chunk groups → x ≡ answer_by groups p floor) → IfOk r (λ x. x ≡ get_answer (storage_of S) p floor)
image_answer r S log cs e behind place p floor chunk log_is cs_is is within at read h =
    let n : ℕ = (chunk_at cs place).applied in
    let fits_log : n ≤ length log.groups = fits e log cs behind place is within in
    if_ok r (λ x. (groups : List Group) → HasGot chunk groups → x ≡ answer_by groups p floor) (λ x. x ≡ get_answer (storage_of S) p floor)
    (λ x got. got (take n log.groups) (subst (λ (k : Chunk). HasGot k (take n log.groups)) (sym read) (is.each place within).got)
    ∙ answers log.groups n p floor is.are.counted fits_log
    ∙ ap (λ (d : ℕ). answer_at log.groups (chunk_at cs d).applied p floor) at
    ∙ ap (λ (ks : List Chunk). answer_at log.groups (chunk_at ks (chunk_of p)).applied p floor) (sym cs_is)
    ∙ ap (λ (l : Log). answer_at l.groups (chunk_at S.chunks (chunk_of p)).applied p floor) (sym log_is)) h
