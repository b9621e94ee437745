use Rattle.std.proofs.Common.{◌≡◌, ◌-◌, ◌*◌, ℕ, sym, ap, subst, ◌∙◌, arith}
use Rattle.page_chunks.specs.declared.entries.Entry.{Entry}
use Rattle.page_chunks.specs.Chunk.{Chunk, InChunk, first_page, kept_of, waiting}
use Rattle.page_chunks.proofs.EntryLaws.{waiting-all}
use Rattle.page_chunks.proofs.ChunkLaws.{kept-stands, read_entry, waits, waits_not}
use Rattle.page_chunks.proofs.chunk.PageChunk.pending.Goals as goal

pub returns : goal.returns
returns c =
    let p : ℕ = c.args.p in
    let old : Chunk = record { number = c.self.inside.number; applied = c.self.inside.applied; entries = c.self.inside.entries.items } in
    let view : old ≡ c.args.self.now = c.self.view_is in
    let h : InChunk old p = subst (λ (k : Chunk). InChunk k p) (sym view) c.requires in
    let place : ℕ = c.number.result - 256 * c.from.result in
    let at : place ≡ p - first_page old = omega (arith, c.number.ensures.value, c.from.ensures) in
    let e : Entry = c.index.result.now in
    let kept : e ≡ kept_of old p = read_entry old p place e c.self.invariant h at c.index.ensures in
    let wait : waiting c.args.self.now p ≡ e.pending =
    ap (λ (k : Chunk). waiting k p) (sym view) ∙ waiting-all p old.applied (kept_of old p) (kept-stands old p c.self.invariant h)
    ∙ ap (λ (x : Entry). x.pending) (sym kept) in (
      waits c.is_empty.result (waiting c.args.self.now p) e.pending wait c.is_empty.ensures.0 c.is_empty.ensures.1,
      waits_not c.is_empty.result (waiting c.args.self.now p) e.pending wait c.is_empty.ensures.0 c.is_empty.ensures.1,
    )
