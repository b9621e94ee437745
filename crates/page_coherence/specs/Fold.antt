-- Stated: the history of a page that a log makes.
use Rattle.std.specs.Prelude.{ℕ, List, [], ◌∷◌, if◌then◌else◌}
use Rattle.page_image.specs.Image.{Image}
use Rattle.redo_record.specs.declared.redo.Group.{Group}
use Rattle.redo_record.specs.Effect.{changes, after_records}
use Rattle.page_coherence.specs.History.{current}

-- a history of page p after one more group: it grows where the group has a record for the page
abbrev pub grown : ℕ → List Image → Group → List Image
grown p older g = if changes p g then after_records g.lsn g.records (current p older) ∷ older else older

abbrev pub history_after : ℕ → List Image → List Group → List Image
history_after p older [] = older
history_after p older (g ∷ gs) = history_after p (grown p older g) gs

-- the history of page p in a log
abbrev pub history_of : ℕ → List Group → List Image
history_of p groups = history_after p [] groups
