use Rattle.std.proofs.Common.{◌≡◌, ◌*◌, ◌++◌, ℕ, List, sym, ap, subst, ◌∙◌}
use Rattle.std.specs.Vec.{with_items}
use Rattle.std.proofs.lemmas.List.{with_items_is}
use Rattle.redo_record.specs.declared.redo.Record.{Record}
use Rattle.redo_record.specs.declared.redo.Group.{Group}
use Rattle.page_chunks.specs.declared.entries.Entry.{Entry}
use Rattle.page_chunks.specs.Entries.{records_for, taken_all}
use Rattle.page_chunks.specs.Chunk.{Chunk, first_page, InChunk, waiting, IsChunk, CanShip, IsShipped}
use Rattle.page_chunks.proofs.ChunkLaws.{after_ship, shipped-chunk, shipped-images}
use Rattle.page_chunks.proofs.MoveLaws.{got_more}
use Rattle.page_chunks.proofs.WaitLaws.{shipped-waiting}
use Rattle.page_chunks.proofs.chunk.PageChunk.ship.Goals as goal

abbrev old_of : (c : goal.After-self-3-1) → Chunk
old_of c = record { number = c.self.inside.number; applied = c.self.inside.applied; entries = c.self.inside.entries.items }

can : (c : goal.After-self-3-1) → CanShip (old_of c) c.args.g.now
can c = subst (λ (k : Chunk). CanShip k c.args.g.now) (sym c.self.view_is) c.requires

taken : (c : goal.After-self-3-1) → c.take_all.new.entries ≡ taken_all (first_page (old_of c)) c.args.g.now.lsn c.args.g.now.records (old_of c).entries
taken c =
    let lsn : ℕ = c.args.g.now.lsn in
    let rs : List Record = c.args.g.now.records in
    c.in_ok-take_all.ensures.ok
    ∙ ap (λ (n : ℕ). taken_all (256 * n) lsn rs c.as_mut_slice.result.now) c.from-first.ensures
    ∙ ap (taken_all (256 * c.self.inside.number) lsn rs) c.as_mut_slice.ensures.value

kept : (c : goal.After-self-3-1) → (with_items c.self.inside.entries c.take_all.new.entries).items ≡ c.take_all.new.entries
kept c = with_items_is c.self.inside.entries c.take_all.new.entries (c.take_all.auto.entries ∙ c.as_mut_slice.ensures.len)

shipped : (c : goal.After-self-3-1) → IsShipped c.args.self.now c.args.g.now (after_ship (old_of c) c.args.g.now (with_items c.self.inside.entries c.take_all.new.entries).items)
shipped c =
    let g : Group = c.args.g.now in
    let es : List Entry = c.take_all.new.entries in
    subst (λ (k : Chunk). IsShipped k g (after_ship (old_of c) g (with_items c.self.inside.entries es).items)) c.self.view_is
    (subst (λ (q : List Entry). IsShipped (old_of c) g (after_ship (old_of c) g q)) (sym (kept c))
    (shipped-images (old_of c) g es c.self.invariant (can c) (taken c)))

pub invariant_of-self-2 : goal.invariant_of-self-2
invariant_of-self-2 c =
    subst (λ (q : List Entry). IsChunk (after_ship (old_of c) c.args.g.now q)) (sym (kept c))
    (shipped-chunk (old_of c) c.args.g.now c.take_all.new.entries c.self.invariant (can c) (taken c))

pub returns-clause-ok : goal.returns-clause-ok
returns-clause-ok c = shipped c

pub returns-clause-got : goal.returns-clause-got
returns-clause-got c groups has =
    got_more c.args.self.now (after_ship (old_of c) c.args.g.now (with_items c.self.inside.entries c.take_all.new.entries).items) c.args.g.now groups has c.requires.next (shipped c)

-- the same of the whole chunk's view
waits : (c : goal.After-self-3-1) → (p : ℕ) → InChunk c.args.self.now p
    → waiting (after_ship (old_of c) c.args.g.now (with_items c.self.inside.entries c.take_all.new.entries).items) p ≡ waiting c.args.self.now p ++ records_for p c.args.g.now
waits c =
    let g : Group = c.args.g.now in
    let es : List Entry = c.take_all.new.entries in
    subst (λ (k : Chunk). (p : ℕ) → InChunk k p → waiting (after_ship (old_of c) g (with_items c.self.inside.entries es).items) p ≡ waiting k p ++ records_for p g) c.self.view_is
    (subst (λ (q : List Entry). (p : ℕ) → InChunk (old_of c) p → waiting (after_ship (old_of c) g q) p ≡ waiting (old_of c) p ++ records_for p g) (sym (kept c))
    (shipped-waiting (old_of c) g es c.self.invariant (can c) (taken c)))

pub returns-clause-waiting : goal.returns-clause-waiting
returns-clause-waiting c = waits c
