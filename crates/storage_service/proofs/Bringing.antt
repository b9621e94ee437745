-- A chunk gets more of the log.
use Rattle.std.proofs.Common.{◌≡◌, ◌≤◌, ◌<◌, ◌+◌, ℕ, zero, suc, List, [], ◌∷◌, ◌++◌, length, take, Some, None, Result, Ok, Err, OnOk, refl, sym, ap, subst, ◌∙◌, append-nil, append_assoc, arith}
use Rattle.std.specs.List.{slice_get}
use Rattle.std.proofs.lemmas.Option.{slice_get_within}
use Rattle.page_image.specs.Image.{Image}
use Rattle.redo_record.specs.declared.redo.Group.{Group}
use Rattle.redo_record.specs.Effect.{CountsFrom, RecordsApply}
use Rattle.page_chunks.specs.Entries.{records_for}
use Rattle.page_chunks.specs.Chunk.{Chunk, InChunk, HasGot, CanShip, IsShipped, waiting}
use Rattle.storage_service.specs.Storage.{AllApply}
use Rattle.storage_service.specs.Shipping.{records_between}
use Rattle.storage_service.specs.Keeping.{IsBrought}
use Rattle.storage_service.proofs.Fronts.{lsn_at, front_more, records_more, records_none, records_one, next_applies}

pub can_ship : (gs : List Group) (chunk : Chunk) (g : Group) → CountsFrom 0 gs → AllApply gs → chunk.number < 128
    → HasGot chunk (take chunk.applied gs) → slice_get gs chunk.applied ≡ Some g → CanShip chunk g
can_ship gs chunk g counts all low has is = record {
  next = let lsn = lsn_at 0 chunk.applied gs g counts is in omega arith;
  apply = λ p h.
      let within = h.within in
      let few : p < 32768 = omega arith in
      subst (λ (im : Image). RecordsApply g.lsn g.records im) (sym (has.images p h)) (next_applies gs chunk.applied p g has.counted is (all p few));
}

-- what shipping a group says
pub record IsHanded (old : Chunk) (g : Group) (new : Chunk) : Type 0 where
  pub is : IsShipped old g new
  pub got : (groups : List Group) → HasGot old groups → HasGot new (groups ++ g ∷ [])
  pub waits : (p : ℕ) → InChunk old p → waiting new p ≡ waiting old p ++ records_for p g

pub brought_one : (gs : List Group) (old new : Chunk) (g : Group) → CountsFrom 0 gs → HasGot old (take old.applied gs)
    → slice_get gs old.applied ≡ Some g → IsHanded old g new → IsBrought gs old (old.applied + 1) new
brought_one gs old new g counts has is h =
    let within : old.applied < length gs = slice_get_within gs old.applied g is in
    record {
      number = h.is.number;
      applied = let lsn = lsn_at 0 old.applied gs g counts is in let at = h.is.applied in omega arith;
      from = omega arith;
      upto = omega arith;
      got = subst (λ (xs : List Group). HasGot new xs) (sym (front_more gs old.applied g is)) (h.got (take old.applied gs) has);
      waits = λ p i. h.waits p i ∙ ap (λ (xs : List Group). waiting old p ++ xs) (sym (records_one gs old.applied p g is));
    }

pub brought_none : (gs : List Group) (chunk : Chunk) → chunk.applied ≤ length gs → HasGot chunk (take chunk.applied gs) → IsBrought gs chunk chunk.applied chunk
brought_none gs chunk fits has = record {
  number = refl;
  applied = refl;
  from = omega arith;
  upto = fits;
  got = has;
  waits = λ p i. sym (append-nil (waiting chunk p)) ∙ ap (λ (xs : List Group). waiting chunk p ++ xs) (sym (records_none gs chunk.applied p fits));
}

pub brought_on : (gs : List Group) (a b c : Chunk) (m k : ℕ) → IsBrought gs a m b → IsBrought gs b k c → IsBrought gs a k c
brought_on gs a b c m k first second =
    let at : b.applied ≡ m = first.applied in
    let low : m ≤ k = let from = second.from in omega arith in
    record {
      number = second.number ∙ first.number;
      applied = second.applied;
      from = let from = first.from in omega arith;
      upto = second.upto;
      got = second.got;
      waits = λ p i.
          let j : InChunk b p = record { from = (let from = i.from in let same = first.number in omega arith); within = (let within = i.within in let same = first.number in omega arith) } in
          second.waits p j
          ∙ ap (λ (xs : List Group). xs ++ records_between gs b.applied k p) (first.waits p i)
          ∙ append_assoc (waiting a p) (records_between gs a.applied m p) (records_between gs b.applied k p)
          ∙ ap (λ (n : ℕ). waiting a p ++ (records_between gs a.applied m p ++ records_between gs n k p)) at
          ∙ ap (λ (xs : List Group). waiting a p ++ xs) (sym (records_more gs a.applied m k p first.from low second.upto));
    }

pub brought_when : {T E : Type 0} (r : Result T E) (gs : List Group) (old new : Chunk) (g : Group) → CountsFrom 0 gs → HasGot old (take old.applied gs)
    → slice_get gs old.applied ≡ Some g → OnOk r (IsShipped old g new) → OnOk r ((groups : List Group) → HasGot old groups → HasGot new (groups ++ g ∷ []))
    → OnOk r ((p : ℕ) → InChunk old p → waiting new p ≡ waiting old p ++ records_for p g) → OnOk r (IsBrought gs old (old.applied + 1) new)
brought_when (Ok x) gs old new g counts has is shipped got waits = brought_one gs old new g counts has is (record { is = shipped; got = got; waits = waits })
brought_when (Err e) gs old new g counts has is shipped got waits = tt

pub not_past : (gs : List Group) (i : ℕ) → slice_get gs i ≡ None → i < length gs → ⊥
not_past [] i none h = omega arith
not_past (g ∷ gs) zero none h = absurd cc
not_past (g ∷ gs) (suc i) none h = not_past gs i none (omega arith)
