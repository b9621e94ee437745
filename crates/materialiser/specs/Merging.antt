-- Stated: which groups bring a base image forward.
use Rattle.std.specs.Prelude.{ℕ, List}
use Rattle.redo_record.specs.declared.redo.Group.{Group}
use Rattle.redo_record.specs.Effect.{past, up_to}

-- the groups past LSN `from`, up to `upto`
abbrev pub between : ℕ → ℕ → List Group → List Group
between from upto groups = past from (up_to upto groups)
