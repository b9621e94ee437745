-- Stated: what a reader of the program gives, beside what reading gives.
use Rattle.std.specs.Prelude.{◌≡◌, List, ℕ, Option, Some, None, Result, Ok, Err}
use Rattle.redo_record.specs.declared.reader.Malformed.{Malformed}
use Rattle.redo_record.specs.declared.reader.Unread.{Unread}
use Rattle.redo_record.specs.declared.reader.Unread.TheVariants as unread

-- it was read and the rest is left, or it is none
abbrev pub Reads : {X : Type 0} → Result X Malformed → List ℕ → Option (X × List ℕ) → Type 0
Reads (Ok x) rest found = found ≡ Some (x, rest)
Reads (Err e) rest found = found ≡ None

-- the same, unless memory ran out
abbrev pub ReadsIfMemory : {X : Type 0} → Result X Unread → List ℕ → Option (X × List ℕ) → Type 0
ReadsIfMemory (Ok x) rest found = found ≡ Some (x, rest)
ReadsIfMemory (Err unread.Malformed) rest found = found ≡ None
ReadsIfMemory (Err unread.WantOfMemory) rest found = Unit {0}
