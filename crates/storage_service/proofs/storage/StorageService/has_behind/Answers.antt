use Rattle.std.proofs.Common.{◌<◌, ℕ, IsTrue, ◌↔◌, not, nat_eq, subst}
use Rattle.storage_service.specs.Storage.{Parts, storage_of, IsBehind}
use Rattle.storage_service.proofs.Views.{behind_when}
use Rattle.storage_service.proofs.storage.StorageService.has_behind.Goals as goal

pub returns : goal.returns
returns c =
    let n : ℕ = c.self.inside.behind in
    subst (λ (P : Parts). IsTrue (not (nat_eq n 0)) ↔ ((x : ℕ) × (x < 128) × IsBehind (storage_of P) x)) c.self.view_is
    (behind_when c.self.inside.server.epoch c.self.inside.log c.self.inside.chunks.items n c.self.invariant)
