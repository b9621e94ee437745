use Rattle.std.proofs.Common.{◌≡◌, sym, subst}
use Rattle.page_chunks.specs.Chunk.{Chunk, HasGot, PassBy}
use Rattle.page_chunks.proofs.SkipLaws.{got_skipped}
use Rattle.page_chunks.proofs.chunk.PageChunk.skip.Goals as goal

pub returns-clause-got : goal.returns-clause-got
returns-clause-got c groups more has counts pass sum =
    let old : Chunk = record { number = c.self.inside.number; applied = c.self.inside.applied; entries = c.self.inside.entries.items } in
    let view : old ≡ c.args.self.now = c.self.view_is in
    got_skipped old groups more c.args.to (subst (λ (k : Chunk). HasGot k groups) (sym view) has) counts
    (subst (λ (k : Chunk). PassBy k more) (sym view) pass) sum
