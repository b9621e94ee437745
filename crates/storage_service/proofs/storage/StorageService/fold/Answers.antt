use Rattle.std.proofs.Common.{◌≡◌, ◌<◌, ℕ, List, length, arith}
use Rattle.std.proofs.lemmas.List.{get_or_read}
use Rattle.page_chunks.specs.Chunk.{Chunk}
use Rattle.storage_service.specs.Storage.{no_chunk, chunk_at}
use Rattle.storage_service.proofs.Views.{fold_keeps}
use Rattle.storage_service.proofs.storage.StorageService.fold.Goals as goal

pub invariant_of-self : goal.invariant_of-self
invariant_of-self c =
    let cs : List Chunk = c.self.inside.chunks.items in
    let place : ℕ = c.chunk_place-place.result in
    let size = c.self.invariant.all in
    let within = c.chunk_place-place.ensures.bound in
    let inside : place < length cs = omega arith in
    let read : c.index_mut.result.now ≡ chunk_at cs place = get_or_read cs place c.index_mut.result.now inside c.index_mut.ensures.value no_chunk in
    fold_keeps c.fold.result c.self.inside.server.epoch c.self.inside.log cs c.self.inside.behind place c.args.page c.index_mut.result.now c.fold.new.self
    c.self.invariant within read c.fold.ensures.ok c.fold.ensures.none c.fold.ensures.others c.fold.ensures.err c.fold.ensures.got
