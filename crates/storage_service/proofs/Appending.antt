-- The log grows.
use Rattle.std.proofs.Common.{◌≡◌, ◌≤◌, ◌<◌, ℕ, Bool, true, false, cond, nat_lt, List, [], ◌++◌, length, length-append, take, refl, sym, ap, subst, ◌∙◌, arith}
use Rattle.std.proofs.lemmas.Bool.{ltb-true, ltb-false}
use Rattle.std.proofs.lemmas.List.{take-append-le, get_or_past}
use Rattle.message_model.specs.declared.Appended.{Appended}
use Rattle.message_model.specs.declared.Appended.TheVariants.{Kept, WrongOffset, Fenced}
use Rattle.redo_record.specs.declared.redo.Group.{Group}
use Rattle.redo_record.specs.Spelling.{Spells}
use Rattle.redo_record.proofs.Logs.{one_list}
use Rattle.log_chunks.specs.Log.{Log, AreNext, GoesOn, AreLog, is_kept, longer, Appends}
use Rattle.log_chunks.proofs.StoreLaws.{grown}
use Rattle.page_chunks.specs.Chunk.{Chunk, HasGot, waiting}
use Rattle.storage_service.specs.Storage.{Brings, AllApply, no_chunk, chunk_at, chunk_of, applied_in, waiting_in}
use Rattle.storage_service.specs.Keeping.{IsFront, IsBlank, IsKept, count_behind}
use Rattle.storage_service.proofs.Rows.{count_all, count_none}
use Rattle.storage_service.proofs.Views.{front_fits, in_its_chunk}

pub goes_on : (n : ℕ) (groups : List Group) (bytes : List ℕ) → length groups ≡ n → Brings groups bytes → GoesOn n bytes
goes_on n groups bytes size b = (b.0, subst (λ (k : ℕ). AreNext k bytes b.0) size b.1)

front_later : (groups more : List Group) (c : ℕ) (chunk : Chunk) → IsFront groups c chunk → IsFront (groups ++ more) c chunk
front_later groups more c chunk front =
    let fits : chunk.applied ≤ length groups = front_fits groups chunk.applied chunk refl front.got in
    record {
      number = front.number;
      got = subst (λ (xs : List Group). HasGot chunk xs) (sym (take-append-le chunk.applied groups more fits)) front.got;
    }

grown_count : (groups more : List Group) (cs : List Chunk) (behind : ℕ) (b : Bool) → nat_lt (length groups) (length (groups ++ more)) ≡ b → length cs ≡ 128
    → ((c : ℕ) → c < 128 → IsFront groups c (chunk_at cs c)) → behind ≡ count_behind (length groups) cs
    → cond b 128 behind ≡ count_behind (length (groups ++ more)) cs
grown_count groups more cs behind true is size each count =
    let less : length groups < length (groups ++ more) = ltb-true (length groups) (length (groups ++ more)) is in
    sym (count_all (length (groups ++ more)) cs (λ c within.
    let fits : (chunk_at cs c).applied ≤ length groups = front_fits groups (chunk_at cs c).applied (chunk_at cs c) refl (each c (omega arith)).got in
    omega arith) ∙ size)
grown_count groups more cs behind false is size each count =
    let most : length (groups ++ more) ≤ length groups = ltb-false (length groups) (length (groups ++ more)) is in
    let same : length groups ≡ length (groups ++ more) = omega (arith, length-append groups more) in
    count ∙ ap (λ (n : ℕ). count_behind n cs) same

pub grown_keeps : (e : ℕ) (log : Log) (cs : List Chunk) (behind : ℕ) (bytes : List ℕ) (more : List Group) → IsKept e log cs behind
    → AreNext (length log.groups) bytes more → AllApply (log.groups ++ more)
    → IsKept e (longer log more) cs (cond (nat_lt (length log.groups) (length (log.groups ++ more))) 128 behind)
grown_keeps e log cs behind bytes more is next all = record {
  epochs = is.epochs;
  are = grown log.groups more bytes is.are next;
  applies = all;
  all = is.all;
  each = λ c within. front_later log.groups more c (chunk_at cs c) (is.each c within);
  count = grown_count log.groups more cs behind (nat_lt (length log.groups) (length (log.groups ++ more))) refl is.all is.each is.count;
}

not_less : (n : ℕ) → nat_lt n n ≡ false
not_less n = grind arith

same_keeps : (e : ℕ) (old new : Log) (cs : List Chunk) (behind : ℕ) → IsKept e old cs behind → new ≡ old
    → IsKept e new cs (cond (nat_lt (length old.groups) (length new.groups)) 128 behind)
same_keeps e old new cs behind is same =
    subst (λ (l : Log). IsKept e l cs (cond (nat_lt (length old.groups) (length l.groups)) 128 behind)) (sym same)
    (subst (λ (b : Bool). IsKept e old cs (cond b 128 behind)) (sym (not_less (length old.groups))) is)

-- after an append, whatever its answer
pub appended_keeps : (e : ℕ) (old new : Log) (cs : List Chunk) (behind : ℕ) (bytes : List ℕ) (a : Appended) → IsKept e old cs behind
    → (is_kept a ≡ true → Brings old.groups bytes) → Appends old bytes new a
    → IsKept e new cs (cond (nat_lt (length old.groups) (length new.groups)) 128 behind)
appended_keeps e old new cs behind bytes (Kept tail) is brings h =
    let b = brings refl in
    let now : new ≡ longer old b.0 = h b.0 b.1.spelled in
    subst (λ (l : Log). IsKept e l cs (cond (nat_lt (length old.groups) (length l.groups)) 128 behind)) (sym now)
    (grown_keeps e old cs behind bytes b.0 is b.1 b.2)
appended_keeps e old new cs behind bytes (WrongOffset tail) is brings h = same_keeps e old new cs behind is h
appended_keeps e old new cs behind bytes (Fenced epoch) is brings h = same_keeps e old new cs behind is h

-- ---- the start

pub start_keeps : (e : ℕ) (log : Log) (cs : List Chunk) (bytes : List ℕ) → e ≡ log.epoch → Brings [] bytes → Spells bytes log.groups
    → length cs ≡ 128 → ((c : ℕ) → c < length cs → IsBlank c (chunk_at cs c)) → IsKept e log cs (cond (nat_lt 0 (length log.groups)) 128 0)
start_keeps e log cs bytes epoch brings spells size each =
    let same : log.groups ≡ brings.0 = one_list bytes log.groups brings.0 spells brings.1.spelled in
    let front : (groups : List Group) (c : ℕ) → c < 128 → IsFront groups c (chunk_at cs c) = λ groups c within.
    let blank = each c (omega arith) in
    let none : (chunk_at cs c).applied ≡ 0 = blank.got.applied in
    record { number = blank.number; got = subst (λ (n : ℕ). HasGot (chunk_at cs c) (take n groups)) (sym none) blank.got } in
    record {
      epochs = epoch;
      are = subst (λ (gs : List Group). AreLog gs) (sym same) (record { each = brings.1.spelled.groups_are; counted = brings.1.counted });
      applies = subst (λ (gs : List Group). AllApply gs) (sym same) brings.2;
      all = size;
      each = front log.groups;
      count = grown_count [] log.groups cs 0 (nat_lt 0 (length log.groups)) refl size (front []) (sym (count_none cs));
    }

pub start_applied : (cs : List Chunk) (c : ℕ) → length cs ≡ 128 → ((c : ℕ) → c < length cs → IsBlank c (chunk_at cs c)) → applied_in cs c ≡ 0
start_applied cs c size each = by (nat_lt c 128) refl
  where
    by : (b : Bool) → nat_lt c 128 ≡ b → applied_in cs c ≡ 0
    by true h = let within : c < 128 = ltb-true c 128 h in (each c (omega arith)).got.applied
    by false h = let far : 128 ≤ c = ltb-false c 128 h in ap (λ (k : Chunk). k.applied) (get_or_past cs c no_chunk (omega arith))

pub start_waits : (cs : List Chunk) (p : ℕ) → length cs ≡ 128 → ((c : ℕ) → c < length cs → IsBlank c (chunk_at cs c)) → waiting_in cs p ≡ []
start_waits cs p size each = by (nat_lt (chunk_of p) 128) refl
  where
    by : (b : Bool) → nat_lt (chunk_of p) 128 ≡ b → waiting_in cs p ≡ []
    by true h =
        let within : chunk_of p < 128 = ltb-true (chunk_of p) 128 h in
        let blank = each (chunk_of p) (omega arith) in
        blank.none p (in_its_chunk (chunk_at cs (chunk_of p)) p blank.number)
    by false h =
        let far : 128 ≤ chunk_of p = ltb-false (chunk_of p) 128 h in
        ap (λ (k : Chunk). waiting k p) (get_or_past cs (chunk_of p) no_chunk (omega arith))
