use Rattle.std.proofs.Common.{◌≡◌, ◌<◌, ℕ, cond, length, take}
use Rattle.storage_service.specs.Noting.{some_for, noted_at}
use Rattle.storage_service.proofs.noting.note_group.Given as goal

abbrev pub invariant-loop-record : goal.invariant-loop-record
invariant-loop-record l = record {
  all : length l.noted.items ≡ 128;
  each : (c : ℕ) → c < 128 → noted_at l.noted.items c ≡ cond (some_for c (take l.record-index l.record-items)) l.lsn (noted_at l.initial.noted.items c);
}
