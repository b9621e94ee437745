use Rattle.std.proofs.Common.{◌≡◌, ◌<◌, ℕ, Bool, true, false, not, List, length, set, get_or, length-set, sym, ap, subst, arith}
use Rattle.slab_node.specs.Free.{is_free}
use Rattle.slab_node.proofs.Counts.{count_given_back, count_short, back_before}
use Rattle.slab_node.proofs.slots.Slots.give_back.Goals as goal

-- a slot that was read as taken is not free
taken_slot : (taken : List Bool) (slot : ℕ) (read : Bool) → read ≡ get_or taken slot read → read ≡ true → is_free taken slot ≡ false
taken_slot taken slot read is_read is_true =
    let there : true ≡ get_or taken slot true = subst (λ (b : Bool). b ≡ get_or taken slot b) is_true is_read in
    ap not (sym there)

pub overflow_add-self : goal.overflow_add-self
overflow_add-self c =
    let taken = c.self.inside.taken.items in
    let was : is_free taken c.args.slot ≡ false = taken_slot taken c.args.slot c.index.result.now c.index.ensures c.if-index.true in
    let within : c.args.slot < length taken = subst (λ (q : List Bool). c.args.slot < length q) (sym c.self.view_is) c.requires in
    let more = count_given_back taken c.args.slot within was in
    let short = count_short (set taken c.args.slot false) in
    omega (arith, more, short, c.self.invariant.count, length-set {A = Bool} taken c.args.slot false, c.self.inside.taken.small)

pub invariant_of-self : goal.invariant_of-self
invariant_of-self c =
    let taken = c.self.inside.taken.items in
    let was : is_free taken c.args.slot ≡ false = taken_slot taken c.args.slot c.index.result.now c.index.ensures c.if-index.true in
    let within : c.args.slot < length taken = subst (λ (q : List Bool). c.args.slot < length q) (sym c.self.view_is) c.requires in
    let more = count_given_back taken c.args.slot within was in
    let was_count = c.self.invariant.count in
    rw c.min-self-inside.ensures (record { before = back_before taken c.self.inside.first c.args.slot c.self.invariant.before; count = omega (arith, more, was_count) })
