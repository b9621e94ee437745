-- Stated: any list of ships and folds.
use Rattle.std.specs.Prelude.{◌≡◌, ℕ, List, [], ◌∷◌}
use Rattle.redo_record.specs.declared.redo.Group.{Group}
use Rattle.page_chunks.specs.Chunk.{Chunk, InChunk, CanShip, IsShipped, AnswersSame}

-- a group is shipped, or a page is folded
pub data Move : Type 0 where
  ship : Group → Move
  fold : ℕ → Move

-- a move that may be made, and the chunk after it
abbrev pub Moves : Chunk → Move → Chunk → Type 0
Moves old (ship g) new = CanShip old g × IsShipped old g new
Moves old (fold p) new = InChunk old p × AnswersSame old new

-- a list of moves, one after the other
abbrev pub Runs : Chunk → List Move → Chunk → Type 0
Runs old [] new = new ≡ old
Runs old (move ∷ moves) new = (mid : Chunk) × Moves old move mid × Runs mid moves new

-- the groups that were shipped, in order
abbrev pub shipped : List Move → List Group
shipped [] = []
shipped (ship g ∷ moves) = g ∷ shipped moves
shipped (fold p ∷ moves) = shipped moves
