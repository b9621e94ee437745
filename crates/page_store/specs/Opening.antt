-- Stated: the store of a new log.
use Rattle.std.specs.Prelude.{[], ◌∷◌}
use Rattle.redo_record.specs.Opening.{opening}
use Rattle.page_store.specs.Stored.{Stored}

-- a log of the opening alone
abbrev pub opened : Stored
opened = record { kept = opening ∷ []; own = [] }
