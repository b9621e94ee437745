use Rattle.std.proofs.Common.{◌≡◌, ◌+◌, ◌*◌, ℕ, List, sym, subst, arith}
use Rattle.redo_record.specs.declared.redo.Group.{Group}
use Rattle.page_chunks.specs.declared.entries.Entry.{Entry}
use Rattle.page_chunks.specs.Entries.{EachApplies}
use Rattle.page_chunks.specs.Chunk.{Chunk, CanShip}
use Rattle.page_chunks.proofs.ChunkLaws.{can-ship, each-applies, tests}
use Rattle.page_chunks.proofs.chunk.PageChunk.can_ship.Goals as goal

pub returns : goal.returns
returns c =
    let g : Group = c.args.g.now in
    let old : Chunk = record { number = c.self.inside.number; applied = c.self.inside.applied; entries = c.self.inside.entries.items } in
    let view : old ≡ c.args.self.now = c.self.view_is in
    let next : g.lsn ≡ c.self.inside.applied + 1 = omega (arith, c.number-lsn.ensures.value, c.number.ensures.value) in
    let here : Type 0 = EachApplies (256 * c.from-first.result) g c.as_slice.result.now in
    let forth : here → CanShip c.args.self.now g = λ each.
    subst (λ (k : Chunk). CanShip k g) view (can-ship old g c.self.invariant next
    (subst (λ (n : ℕ). EachApplies (256 * n) g old.entries) c.from-first.ensures
    (subst (λ (es : List Entry). EachApplies (256 * c.from-first.result) g es) c.as_slice.ensures.value each))) in
    let back : CanShip c.args.self.now g → here = λ can.
    subst (λ (es : List Entry). EachApplies (256 * c.from-first.result) g es) (sym c.as_slice.ensures.value)
    (subst (λ (n : ℕ). EachApplies (256 * n) g old.entries) (sym c.from-first.ensures)
    (each-applies old g c.self.invariant (subst (λ (k : Chunk). CanShip k g) (sym view) can))) in
    tests c.all_apply.result here (CanShip c.args.self.now g) forth back c.all_apply.ensures
