use Rattle.std.proofs.Common.{◌≡◌, ◌<◌, ℕ, length}
use Rattle.storage_service.specs.Storage.{chunk_at}
use Rattle.storage_service.specs.Keeping.{IsBlank}
use Rattle.storage_service.proofs.starting.blank_chunks.Given as goal

abbrev pub invariant-loop-number : goal.invariant-loop-number
invariant-loop-number l = record {
  all : length l.chunks.items ≡ l.number;
  each : (c : ℕ) → c < length l.chunks.items → IsBlank c (chunk_at l.chunks.items c);
}
