use Rattle.std.proofs.Common.{◌≡◌, ◌<◌, ℕ, length, take, drop}
use Rattle.storage_service.specs.Noting.{last_for, noted_at}
use Rattle.storage_service.proofs.noting.note_past.Given as goal

abbrev pub invariant-loop-place : goal.invariant-loop-place
invariant-loop-place l = record {
  all : length l.noted.items ≡ 128;
  each : (c : ℕ) → c < 128 → noted_at l.noted.items c ≡ last_for c (noted_at l.initial.noted.items c) (drop l.before (take l.place l.store.groups));
}
