use Rattle.std.proofs.Common.{◌≡◌, ◌<◌, ℕ, List, length, length-set, set, sym, ap, subst, ◌∙◌, arith}
use Rattle.std.proofs.lemmas.List.{get_or_read}
use Rattle.message_network.specs.ServerView.{server_of}
use Rattle.page_chunks.specs.Chunk.{Chunk}
use Rattle.storage_service.specs.Storage.{Parts, storage_of, storage_with, no_chunk, chunk_at}
use Rattle.storage_service.specs.Shipping.{ShipsAt}
use Rattle.storage_service.specs.Keeping.{IsKept}
use Rattle.storage_service.proofs.Views.{ships_none, ships_at, rest_keeps}
use Rattle.storage_service.proofs.storage.StorageService.ship_rest.Goals as goal

pub returns-then-number-applied-clause-ships : goal.returns-then-number-applied-clause-ships
returns-then-number-applied-clause-ships c =
    subst (λ (P : Parts). ShipsAt c.args.c (storage_of P) (storage_of P)) c.self.view_is
    (ships_none (server_of c.self.inside.server) c.self.inside.server.epoch c.self.inside.log c.self.inside.chunks.items c.self.inside.behind c.args.c c.self.invariant)

pub invariant_of-self : goal.invariant_of-self
invariant_of-self c =
    let cs : List Chunk = c.self.inside.chunks.items in
    let place : ℕ = c.from-place.result in
    let x : Chunk = c.bring_to_end-shipped.new.chunk in
    let size = c.self.invariant.all in
    let within = c.requires in
    let at : place ≡ c.args.c = omega (arith, c.from-place.ensures) in
    let inside : place < length cs = omega arith in
    let read : c.index_mut.result.now ≡ chunk_at cs place = get_or_read cs place c.index_mut.result.now inside c.index_mut.ensures.value no_chunk in
    let seen : c.index.result.now ≡ chunk_at cs place = get_or_read cs place c.index.result.now inside c.index.ensures no_chunk in
    let same : c.index.result.now.applied ≡ c.index_mut.result.now.applied = ap (λ (k : Chunk). k.applied) (seen ∙ sym read) in
    let was : c.index_mut.result.now.applied < length c.self.inside.log.groups =
    omega (arith, c.if-number-applied.false, c.number-applied.ensures.value, c.number.ensures.value, c.applied.ensures, c.last.ensures) in
    let inside_now : place < length (set cs place x) = omega (arith, length-set {A = Chunk} cs place x) in
    let read_now : c.index-2.result.now ≡ chunk_at (set cs place x) place = get_or_read (set cs place x) place c.index-2.result.now inside_now c.index-2.ensures no_chunk in
    subst (λ (n : ℕ). IsKept c.self.inside.server.epoch c.self.inside.log (set cs place x) n) (sym c.without_done-behind.ensures)
    (rest_keeps c.self.inside.server.epoch c.self.inside.log cs c.self.inside.behind c.last-2.result c.args.c place c.index_mut.result.now x c.index-2.result.now
    c.self.invariant c.requires at c.last-2.ensures was read read_now c.bring_to_end-shipped.ensures.brought)

pub returns-clause-ships : goal.returns-clause-ships
returns-clause-ships c =
    let cs : List Chunk = c.self.inside.chunks.items in
    let place : ℕ = c.from-place.result in
    let size = c.self.invariant.all in
    let within = c.requires in
    let at : place ≡ c.args.c = omega (arith, c.from-place.ensures) in
    let inside : place < length cs = omega arith in
    let read : c.index_mut.result.now ≡ chunk_at cs place = get_or_read cs place c.index_mut.result.now inside c.index_mut.ensures.value no_chunk in
    let srv = server_of c.self.inside.server in
    subst (λ (P : Parts). ShipsAt c.args.c (storage_of P) (storage_with srv c.self.inside.log (set cs place c.bring_to_end-shipped.new.chunk))) c.self.view_is
    (ships_at srv c.self.inside.server.epoch c.self.inside.log cs c.self.inside.behind c.args.c place c.index_mut.result.now c.bring_to_end-shipped.new.chunk
    c.self.invariant c.requires at read c.bring_to_end-shipped.ensures.brought)
