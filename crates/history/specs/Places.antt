-- Stated: what a list of changes says of a name and a key.
use Rattle.std.specs.Prelude.{ℕ, Bool, true, false, Option, Some, None, List, [], ◌∷◌, if◌then◌else◌, ◌&&◌, bytes_eq}
use Rattle.sql_database.specs.declared.changes.Change.{Change}
use Rattle.version_store.specs.Versions.{Row}

abbrev pub is_at : Change → List ℕ → List ℕ → Bool
is_at c a k = bytes_eq c.table a && bytes_eq c.key k

abbrev pub or_else : Option (Option Row) → Option (Option Row) → Option (Option Row)
or_else None x = x
or_else (Some r) x = Some r

-- what the list's last change of the place says, if there is one: a row, or that there is none
abbrev pub says : List Change → List ℕ → List ℕ → Option (Option Row)
says [] a k = None
says (c ∷ cs) a k = or_else (says cs a k) (if is_at c a k then Some c.row else None)

abbrev pub is_said : Option (Option Row) → Bool
is_said None = false
is_said (Some r) = true

-- what is said, over what was there
abbrev pub over : Option (Option Row) → Option Row → Option Row
over None r = r
over (Some c) r = c
