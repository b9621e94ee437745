use Rattle.std.proofs.Common.{◌≡◌, ◌<◌, ℕ, List, length, sym, ap, arith}
use Rattle.std.proofs.lemmas.List.{get_or_read}
use Rattle.page_chunks.specs.Chunk.{Chunk}
use Rattle.storage_service.specs.Storage.{Parts, no_chunk, chunk_at}
use Rattle.storage_service.proofs.Answering.{image_answer}
use Rattle.storage_service.proofs.storage.StorageService.image.Goals as goal

pub returns : goal.returns
returns c =
    let cs : List Chunk = c.self.inside.chunks.items in
    let place : ℕ = c.chunk_place-place.result in
    let size = c.self.invariant.all in
    let within = c.chunk_place-place.ensures.bound in
    let inside : place < length cs = omega arith in
    let read : c.index.result.now ≡ chunk_at cs place = get_or_read cs place c.index.result.now inside c.index.ensures no_chunk in
    image_answer c.get.result c.args.self.now c.self.inside.log cs c.self.inside.server.epoch c.self.inside.behind place c.args.page c.args.floor c.index.result.now
    (sym (ap (λ (P : Parts). P.log) c.self.view_is)) (sym (ap (λ (P : Parts). P.chunks) c.self.view_is)) c.self.invariant within c.chunk_place-place.ensures.place read c.get.ensures.by_log
