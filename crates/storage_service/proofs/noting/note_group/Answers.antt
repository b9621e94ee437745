use Rattle.std.proofs.Common.{◌≡◌, ◌<◌, ◌+◌, ◌++◌, ℕ, cond, List, [], ◌∷◌, length, length-set, set, take, sym, ap, subst, ◌∙◌, arith}
use Rattle.std.proofs.lemmas.List.{take_more}
use Rattle.redo_record.specs.declared.redo.Record.{Record}
use Rattle.redo_record.specs.Effect.{page_of}
use Rattle.storage_service.specs.Storage.{chunk_of}
use Rattle.storage_service.specs.Noting.{some_for, noted_at}
use Rattle.storage_service.proofs.LastFor.{note_one}
use Rattle.storage_service.proofs.noting.note_group.Goals as goal

pub loop-record-preserved : goal.loop-record-preserved
loop-record-preserved c =
    let noted : List ℕ = c.loop-record.noted.items in
    let place : ℕ = c.chunk_place-place.result in
    let lsn : ℕ = c.number-lsn.result in
    let items : List Record = c.as_slice-record-items.result.now in
    let i : ℕ = c.loop-record.record-index in
    let r : Record = c.record-item.result in
    let within : i < length items = c.loop-record-test.true in
    let bound = c.chunk_place-place.ensures.bound in
    let all = c.loop-record.invariant.all in
    let inside : place < length noted = omega arith in
    let more : take (i + 1) items ≡ take i items ++ r ∷ [] =
    take_more items i r within ∙ ap (λ (x : Record). take i items ++ x ∷ []) (sym c.record-item.is) in
    let at : place ≡ chunk_of (page_of r) = c.chunk_place-place.ensures.place ∙ ap chunk_of c.page.ensures in
    record {
      all = length-set {A = ℕ} noted place lsn ∙ c.loop-record.invariant.all;
      each = λ k low.
          subst (λ (rs : List Record). noted_at (set noted place lsn) k ≡ cond (some_for k rs) lsn (noted_at c.args.noted.now.items k)) (sym more)
          (note_one noted k place lsn (noted_at c.args.noted.now.items k) (take i items) r inside at (c.loop-record.invariant.each k low));
    }
