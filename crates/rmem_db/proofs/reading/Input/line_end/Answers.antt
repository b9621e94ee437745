use Rattle.std.proofs.Common.{arith, ◌≤◌, length}
use Rattle.rmem_db.proofs.LineEnds.{none_before_end, end_inside, none_to_end}
use Rattle.rmem_db.proofs.reading.Input.line_end.Goals as goal

pub invariant_of-self : goal.invariant_of-self
invariant_of-self c =
    let bytes = c.self.inside.bytes.items in
    let inv = c.self.invariant in
    let there = rw c.deref.ensures.value at c.in-Some.ensures.found in
    let inside : c.self.inside.at ≤ length bytes = omega (arith, c.self.inside.bytes.ok.0) in
    let below = end_inside bytes c.self.inside.at inside c.in-Some.n there in
    record {
      started = omega arith;
      inside = omega (arith, below, c.self.inside.bytes.ok.0);
      searched = none_before_end bytes c.self.inside.at inside c.in-Some.n there;
      few = inv.few;
      room = inv.room;
    }

pub invariant_of-self-in-None : goal.invariant_of-self-in-None
invariant_of-self-in-None c =
    let bytes = c.self.inside.bytes.items in
    let inv = c.self.invariant in
    let there = rw c.deref.ensures.value at c.in-None.ensures.none in
    let inside : c.self.inside.at ≤ length bytes = omega (arith, c.self.inside.bytes.ok.0) in
    record {
      started = omega arith;
      inside = omega arith;
      searched = λ k low high. none_to_end bytes c.self.inside.at inside there k low (omega (arith, c.self.inside.bytes.ok.0));
      few = inv.few;
      room = inv.room;
    }
