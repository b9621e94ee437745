use Rattle.std.proofs.Common.{◌≡◌, ◌-◌, ◌*◌, ℕ, sym, ap, subst, ◌∙◌, arith}
use Rattle.page_chunks.specs.declared.entries.Entry.{Entry}
use Rattle.page_chunks.specs.Entries.{Stands}
use Rattle.page_chunks.specs.Chunk.{Chunk, InChunk, first_page, kept_of, waiting}
use Rattle.page_chunks.proofs.ChunkLaws.{kept-stands, read_entry, folded_any, folded-chunk, others-wait}
use Rattle.page_chunks.proofs.chunk.PageChunk.fold.Goals as goal

pub invariant_of-self : goal.invariant_of-self
invariant_of-self c =
    let p : ℕ = c.args.p in
    let old : Chunk = record { number = c.self.inside.number; applied = c.self.inside.applied; entries = c.self.inside.entries.items } in
    let view : old ≡ c.args.self.now = c.self.view_is in
    let h : InChunk old p = subst (λ (k : Chunk). InChunk k p) (sym view) c.requires in
    let place : ℕ = c.number.result - 256 * c.from.result in
    let at : place ≡ p - first_page old = omega (arith, c.number.ensures.value, c.from.ensures) in
    let e : Entry = c.index_mut-entry.result.now in
    let kept : e ≡ kept_of old p = read_entry old p place e c.self.invariant h at c.index_mut-entry.ensures.value in
    let s : Stands p old.applied e = subst (λ (x : Entry). Stands p old.applied x) (sym kept) (kept-stands old p c.self.invariant h) in
    folded-chunk old p place c.fold.new.self c.self.invariant h at
    (folded_any c.fold.result p old.applied e c.fold.new.self s c.fold.ensures.base c.fold.ensures.none c.fold.ensures.err)

pub returns-clause-others : goal.returns-clause-others
returns-clause-others c q i differ =
    let old : Chunk = record { number = c.self.inside.number; applied = c.self.inside.applied; entries = c.self.inside.entries.items } in
    let view : old ≡ c.args.self.now = c.self.view_is in
    let place : ℕ = c.number.result - 256 * c.from.result in
    let at : place ≡ c.args.p - first_page old = omega (arith, c.number.ensures.value, c.from.ensures) in
    others-wait old c.args.p q place c.fold.new.self (subst (λ (k : Chunk). InChunk k c.args.p) (sym view) c.requires)
    (subst (λ (k : Chunk). InChunk k q) (sym view) i) differ at
    ∙ ap (λ (k : Chunk). waiting k q) view
