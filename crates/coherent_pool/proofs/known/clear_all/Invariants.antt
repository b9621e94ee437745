use Rattle.std.proofs.Common.{◌≡◌, ◌<◌, ℕ, length, slice_index_or}
use Rattle.coherent_pool.specs.Known.{nothing_known}
use Rattle.coherent_pool.proofs.known.clear_all.Given as goal

abbrev pub invariant-loop-known : goal.invariant-loop-known
invariant-loop-known l = record {
  long : length l.pages ≡ length l.initial.pages;
  none : (p : ℕ) → p < l.known-index → slice_index_or l.pages p nothing_known ≡ nothing_known;
}
