-- Storage in the words of the laws of the log and of the pool.
use Rattle.std.proofs.Common.{◌≡◌, ◌≤◌, ◌+◌, ◌++◌, ℕ, Bool, true, false, cond, nat_eq, nat_lt, nat_le, List, length, sum_by, refl, sym, ap, subst, ◌∙◌, arith}
use Rattle.std.proofs.lemmas.List.Concat.{length-flat_map}
use Rattle.page_image.specs.Image.{Image}
use Rattle.message_model.specs.declared.Appended.{Appended}
use Rattle.message_model.specs.declared.Appended.TheVariants.{Kept, WrongOffset, Fenced}
use Rattle.redo_record.specs.declared.redo.Group.{Group}
use Rattle.redo_record.specs.Spelling.{group_bytes, log_bytes, Spells}
use Rattle.redo_record.specs.Effect.{page_at, Ascends, CountsFrom}
use Rattle.redo_record.proofs.Fold.{CountsFrom-append, CountsFrom-ascends, page_at-past, Ascends-past, ArePast-weaker}
use Rattle.redo_durability.specs.Store.{Store, Answer, Answer.Kept as KeptAt, Answer.WrongOffset as WrongAt, Answer.Fenced as FencedAt, answer_to as answer_by_law, is_kept as is_kept_by_law, received}
use Rattle.redo_durability.specs.Machine.{State as LogState, handling}
use Rattle.call_model.specs.Callers.{Label}
use Rattle.call_model.specs.Stages.{Effect.Handles as HandlesCall}
use Rattle.message_network.specs.declared.calls.Reply.{Reply}
use Rattle.log_chunks.specs.Log.{Log, tail_of, answer_to, Appends}
use Rattle.page_coherence.specs.History.{image_at}
use Rattle.page_coherence.specs.Page.{Page}
use Rattle.page_coherence.specs.Cluster.{State as Pages}
use Rattle.page_coherence.proofs.Folding.{folds_at}
use Rattle.pool_laws.specs.Calls.{StorageCall.GetPage, StorageCall.AppendGroups, StorageAnswer.GotImage, StorageAnswer.Appended as AppendedAs}
use Rattle.pool_laws.specs.Serving.{Stores, got}
use Rattle.storage_service.specs.Storage.{Storage, chunk_of, get_answer, answer_at}
use Rattle.storage_service.specs.Serving.{HandlesAppend}
use Rattle.storage_service.specs.Joining.{byte_count, store_of, said, got_as, HasLog}

bytes_of : (groups : List Group) → length (log_bytes groups) ≡ sum_by byte_count groups
bytes_of groups = length-flat_map group_bytes groups

said_choice : (b c : Bool) (epoch tail more : ℕ) → said (cond b (Fenced epoch) (cond c (Kept (tail + more)) (WrongOffset tail))) ≡ cond b (FencedAt epoch) (cond c (KeptAt (tail + more)) (WrongAt tail))
said_choice true c epoch tail more = refl
said_choice false true epoch tail more = refl
said_choice false false epoch tail more = refl

pub answer_is : (S : Storage) (epoch offset : ℕ) (bytes : List ℕ) (groups : List Group) → Spells bytes groups
    → said (answer_to S.log epoch offset (length bytes)) ≡ answer_by_law byte_count (store_of S.log) epoch offset groups
answer_is S epoch offset bytes groups spells =
    let size : length bytes ≡ sum_by byte_count groups = ap length spells.bytes_are ∙ bytes_of groups in
    said_choice (nat_lt epoch S.log.epoch) (nat_eq offset (tail_of S.log)) S.log.epoch (tail_of S.log) (length bytes)
    ∙ ap (λ (t : ℕ). let a : Answer = cond (nat_lt epoch S.log.epoch) (FencedAt S.log.epoch) (cond (nat_eq offset t) (KeptAt (t + length bytes)) (WrongAt t)) in a) (bytes_of S.log.groups)
    ∙ ap (λ (n : ℕ). let t : ℕ = sum_by byte_count S.log.groups in let a : Answer = cond (nat_lt epoch S.log.epoch) (FencedAt S.log.epoch) (cond (nat_eq offset t) (KeptAt (t + n)) (WrongAt t)) in a) size

kept_store : (old new : Log) (bytes : List ℕ) (groups : List Group) (a : Appended) → Spells bytes groups → Appends old bytes new a
    → store_of new ≡ cond (is_kept_by_law (said a)) (record (store_of old) { groups = old.groups ++ groups }) (store_of old)
kept_store old new bytes groups (Kept tail) spells h = ap store_of (h groups spells)
kept_store old new bytes groups (WrongOffset tail) spells h = ap store_of h
kept_store old new bytes groups (Fenced epoch) spells h = ap store_of h

pub store_is : (S T : Storage) (l : Label) (offset : ℕ) (bytes : List ℕ) (groups : List Group) (r : Reply) → Spells bytes groups → HandlesAppend l offset bytes S r T
    → store_of T.log ≡ received byte_count (store_of S.log) l.epoch offset groups
store_is S T l offset bytes groups r spells h =
    kept_store S.log T.log bytes groups (answer_to S.log l.epoch offset (length bytes)) spells h.log
    ∙ ap (λ (a : Answer). let s : Store Group = cond (is_kept_by_law a) (record (store_of S.log) { groups = S.log.groups ++ groups }) (store_of S.log) in s)
    (answer_is S l.epoch offset bytes groups spells)

pub append_stores : (S T : Storage) (l : Label) (offset : ℕ) (bytes : List ℕ) (groups : List Group) (r : Reply) (pages : Pages) (log : LogState Group)
    → Spells bytes groups → HandlesAppend l offset bytes S r T → log.store ≡ store_of S.log → log.epoch ≡ l.epoch
    → Stores byte_count (HandlesCall l.node (AppendGroups offset groups) (AppendedAs (said (answer_to S.log l.epoch offset (length bytes)))))
    pages log pages (handling byte_count log log.epoch offset groups)
append_stores S T l offset bytes groups r pages log spells h store epoch = (
  answer_is S l.epoch offset bytes groups spells
      ∙ ap (λ (s : Store Group). answer_by_law byte_count s l.epoch offset groups) (sym store)
      ∙ ap (λ (e : ℕ). answer_by_law byte_count log.store e offset groups) (sym epoch),
  refl,
  refl,
)

reach : (n floor : ℕ) → nat_lt n floor ≡ false → nat_le floor n ≡ true
reach n floor h = grind arith

short : (n floor : ℕ) → nat_lt n floor ≡ true → nat_le floor n ≡ false
short n floor h = grind arith

-- the page's image at an LSN that the log has
image_is : (P : Page) (p n : ℕ) (groups rest : List Group) → HasLog P p groups rest → CountsFrom 0 groups → CountsFrom (length groups) rest → n ≤ length groups
    → image_at P.number P.log n ≡ page_at groups p n
image_is P p n groups rest has counts more fits =
    let all : Ascends 0 (groups ++ rest) = CountsFrom-ascends 0 (groups ++ rest) (CountsFrom-append 0 groups rest counts (subst (λ (k : ℕ). CountsFrom k rest) (omega arith) more)) in
    ap (λ (q : ℕ). image_at q P.log n) has.number ∙ ap (λ (h : List Image). image_at p h n) has.history
    ∙ folds_at p n (groups ++ rest) all
    ∙ page_at-past groups rest p n (ArePast-weaker n (length groups) rest fits (Ascends-past (length groups) rest (CountsFrom-ascends (length groups) rest more)))

pub get_stores : (S : Storage) (n p floor : ℕ) (rest : List Group) (pages : Pages) (log : LogState Group) → HasLog (pages.page p) p S.log.groups rest
    → CountsFrom 0 S.log.groups → CountsFrom (length S.log.groups) rest → S.applied (chunk_of p) ≤ length S.log.groups → log.store ≡ store_of S.log
    → Stores byte_count (HandlesCall n (GetPage p floor) (got_as (get_answer S p floor))) pages log pages log
get_stores S n p floor rest pages log has counts more fits store =
    let at : ℕ = S.applied (chunk_of p) in
    (at, subst (λ (s : Store Group). at ≤ length s.groups) (sym store) fits, by (nat_lt at floor) refl, refl, refl)
  where
    by : (b : Bool) → nat_lt (S.applied (chunk_of p)) floor ≡ b → got_as (answer_at S.log.groups (S.applied (chunk_of p)) p floor) ≡ got (pages.page p) floor (S.applied (chunk_of p))
    by true h = rw (h, short (S.applied (chunk_of p)) floor h) refl
    by false h =
        rw (h, reach (S.applied (chunk_of p)) floor h)
        (ap (λ (im : Image). GotImage im) (sym (image_is (pages.page p) p (S.applied (chunk_of p)) S.log.groups rest has counts more fits)))
