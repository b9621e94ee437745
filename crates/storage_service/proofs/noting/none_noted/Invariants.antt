use Rattle.std.proofs.Common.{◌≡◌, ℕ, length}
use Rattle.storage_service.specs.Noting.{noted_at}
use Rattle.storage_service.proofs.noting.none_noted.Given as goal

abbrev pub invariant-loop-count : goal.invariant-loop-count
invariant-loop-count l = record {
  all : length l.noted.items ≡ l.count;
  each : (c : ℕ) → noted_at l.noted.items c ≡ 0;
}
