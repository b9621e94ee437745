use Rattle.std.proofs.Common.{refl, subst}
use Rattle.tree_timeline.proofs.ranges.range_laws.Goals as goal
use Rattle.tree_timeline.specs.Types.{Bound}
use Rattle.tree_timeline.specs.Ranges.{Covers}
use Rattle.tree_timeline.proofs.Bounded.{same_range}
use Rattle.tree_timeline.proofs.Children.{child_of, leads_of}
use Rattle.tree_timeline.proofs.Leaves.{leaf_of}
use Rattle.tree_timeline.proofs.Members.{covers_member}
use Rattle.tree_timeline.proofs.Neighbours.{neighbour, no_neighbour}
use Rattle.tree_timeline.proofs.Passing.{still, stays_there, unchanged}

pub returns : goal.returns
returns c = record {
  stays = λ at root from items tl t u tall page low high c n l.
      stays_there at root from items tl t u tall page low high c n l;
  leaf = λ at root from items tl t u page low high c n l.
      let s = stays_there at root from items tl t u 0 page low high c n l in
      (covers_member (at u) root (items u) (tl.tree u) 0 page low s.now s.covers).1;
  unchanged = λ at root from items tl t u tall page low high c l s.
      unchanged at root from items tl t u tall page low high c l s;
  structure = λ at root from items tl t u tall page low high c l s.
      (still at root from items tl t u tall page low high c l s).covers;
  next = λ at root from items tl t u page low high c some l.
      let n = neighbour (at t) root (items t) (tl.tree t) page (at t page).next low high c refl some in
      let s = stays_there at root from items tl t u 0 (at t page).next high n.end n.covers n.below_root l in
      record {
        key = n.key;
        bound_is = n.high_is;
        now = s.now;
        covers = subst (λ (o : Bound). Covers (at u) root 0 (at t page).next o s.now) n.high_is s.covers;
      };
  last = λ at root from items tl t page low high c e.
      no_neighbour (at t) root (items t) (tl.tree t) page low high c e;
  one = λ at root from items tl t tall page low high low' high' c d.
      same_range (at t) root (items t) (tl.tree t) tall page low high low' high' c d;
  child = λ at root from items tl t tall page child low high key c n b leads.
      child_of (at t) root (items t) (tl.tree t) tall page child low high key c n b
      (leads_of (at t) root (items t) (tl.tree t) tall page child low high key c leads);
  items = λ at root from items tl t page low high key c n b.
      (leaf_of (at t) root (items t) (tl.tree t) page low high c).each key n b;
}
