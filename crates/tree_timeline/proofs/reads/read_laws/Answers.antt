use Rattle.tree_timeline.proofs.reads.read_laws.Goals as goal
use Rattle.tree_timeline.specs.Progress.{begin}
use Rattle.tree_timeline.proofs.Finding.{finds, light_finds}
use Rattle.tree_timeline.proofs.Progressing.{comes_on, comes_to_end}
use Rattle.tree_timeline.proofs.WholeSearch.{search_finds}

pub returns : goal.returns
returns c = record {
  latched = λ at root from items tl low high t first rest w.
      finds at root from items tl low high t first rest w;
  light = λ at root from items tl low high t top first rest w.
      light_finds at root from items tl low high t top first rest w;
  search = λ at root from items tl small low high t visits reads s.
      search_finds at root from items tl small low high t visits reads s;
  more = λ at from old visits reads new c told next t.
      comes_on at from old visits reads new told next c t;
  finished = λ at root from items tl small low high t visits reads new c e.
      search_finds at root from items tl small low high t visits reads
      (comes_to_end at from (begin root low high t) visits reads new c e);
}
