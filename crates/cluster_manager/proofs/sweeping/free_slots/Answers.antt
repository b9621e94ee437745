use Rattle.std.proofs.Common.{rules, ◌≡◌, ℕ, List, [], ◌∷◌, map, sym, subst}
use Rattle.std.proofs.lemmas.List.{map-append}
use Rattle.std.proofs.lemmas.Map.Iter.{iter_end}
use Rattle.std.specs.Map.Iter.{deref_pair}
use Rattle.home_tables.specs.declared.entry.Entry.{Entry}
use Rattle.cluster_manager.specs.Freeing.{Frees}
use Rattle.cluster_manager.proofs.Removing.{GoesAmong, freed_more, freed_all}
use Rattle.cluster_manager.proofs.sweeping.free_slots.Goals as goal

pub loop-entry-preserved : goal.loop-entry-preserved
loop-entry-preserved c =
    let ys = c.loop-entry.yielded in
    let joined = map-append deref_pair ys ((c.in-Some.field-0-0, c.in-Some.entry) ∷ []) in
    subst (λ (es : List (ℕ × Entry)). Frees (GoesAmong es c.args.tail) c.args.slabs.now c.free_slot.new.slabs) (sym joined)
    (freed_more (map deref_pair ys) (deref_pair (c.in-Some.field-0-0, c.in-Some.entry)) c.args.tail c.args.slabs.now c.loop-entry.slabs c.free_slot.new.slabs c.loop-entry.invariant c.free_slot.ensures)

pub returns : goal.returns
returns c =
    let whole : map deref_pair c.loop-entry.yielded ≡ c.args.home.now.entries = search (rules, iter_end) in
    freed_all c.args.home.now c.args.tail c.args.slabs.now c.loop-entry.slabs c.entries.ensures.apart
    (subst (λ (es : List (ℕ × Entry)). Frees (GoesAmong es c.args.tail) c.args.slabs.now c.loop-entry.slabs) whole c.loop-entry.invariant)
