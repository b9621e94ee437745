use Rattle.std.proofs.Common.{◌≡◌, ◌<◌, ℕ, length}
use Rattle.storage_service.specs.Storage.{storage_of}
use Rattle.storage_service.specs.Shipping.{IsForward}
use Rattle.storage_service.proofs.storage.StorageService.ship_all.Given as goal

abbrev pub invariant-loop-c : goal.invariant-loop-c
invariant-loop-c l = record {
  forward : IsForward (storage_of l.fn.self) (storage_of l.self);
  done : (d : ℕ) → d < l.c → (storage_of l.self).applied d ≡ length (storage_of l.fn.self).log.groups;
}
