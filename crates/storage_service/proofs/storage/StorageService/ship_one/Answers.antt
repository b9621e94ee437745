use Rattle.std.proofs.Common.{◌≡◌, ◌<◌, ℕ, List, length, set, subst, arith}
use Rattle.std.proofs.lemmas.List.{get_or_read}
use Rattle.message_network.specs.ServerView.{server_of}
use Rattle.page_chunks.specs.Chunk.{Chunk}
use Rattle.storage_service.specs.Storage.{Parts, storage_of, storage_with, no_chunk, chunk_at}
use Rattle.storage_service.specs.Shipping.{shipped, one_more}
use Rattle.storage_service.proofs.Views.{ship_view}
use Rattle.storage_service.proofs.storage.StorageService.ship_one.Goals as goal

pub returns-clause-ok : goal.returns-clause-ok
returns-clause-ok c =
    let cs : List Chunk = c.self.inside.chunks.items in
    let place : ℕ = c.from-place.result in
    let size = c.self.invariant.all in
    let within = c.requires.chunk in
    let at : place ≡ c.args.c = omega (arith, c.from-place.ensures) in
    let inside : place < length cs = omega arith in
    let read : c.index_mut.result.now ≡ chunk_at cs place = get_or_read cs place c.index_mut.result.now inside c.index_mut.ensures.value no_chunk in
    let srv = server_of c.self.inside.server in
    subst (λ (P : Parts). storage_with srv c.self.inside.log (set cs place c.bring_next.new.chunk) ≡ shipped (storage_of P) (one_more (storage_of P) c.args.c)) c.self.view_is
    (ship_view srv c.self.inside.server.epoch c.self.inside.log cs c.self.inside.behind c.args.c place c.index_mut.result.now c.bring_next.new.chunk
    c.self.invariant c.requires.chunk at read c.in_ok-bring_next.ensures.ok)
