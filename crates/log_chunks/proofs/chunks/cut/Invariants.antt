use Rattle.std.proofs.Common.{◌≡◌, ◌++◌, length}
use Rattle.std.specs.List.{concat}
use Rattle.log_chunks.specs.Chunked.{AreFull}
use Rattle.log_chunks.proofs.chunks.cut.Given as goal

-- the chunks and what is left are the chunks and the bytes at first
abbrev pub invariant-loop-rest : goal.invariant-loop-rest
invariant-loop-rest l = record {
  same : concat l.full.items ++ l.rest ≡ concat l.initial.full.items ++ l.bytes;
  each : AreFull l.full.items;
}

abbrev pub decreases-loop-rest : goal.decreases-loop-rest
decreases-loop-rest l = length l.rest
