use Rattle.std.proofs.Common.{◌≡◌, length}
use Rattle.std.specs.List.{AllByRecursion}
use Rattle.page_chunks.specs.Entries.{empty}
use Rattle.page_chunks.proofs.chunk.blank_entries.Given as goal

abbrev pub invariant-loop-place : goal.invariant-loop-place
invariant-loop-place l = record {
  blank : AllByRecursion (λ e. e ≡ empty) l.entries.items;
  all : length l.entries.items ≡ l.place;
}
