use Rattle.std.proofs.Common.{◌≡◌, drop}
use Rattle.home_tables.specs.Home.{entry_at}
use Rattle.rmem_calls.specs.Invalidating.{invalidated_all}
use Rattle.rmem_calls.proofs.invalidating.invalidate_all.Given as goal

abbrev pub invariant-loop-i : goal.invariant-loop-i
invariant-loop-i l = record {
  entries : invalidated_all (entry_at l.home) l.node (drop l.i l.pages) (drop l.i l.clear) ≡ invalidated_all (entry_at l.initial.home) l.node l.pages l.clear;
  watermark : l.home.watermark ≡ l.initial.home.watermark;
}
