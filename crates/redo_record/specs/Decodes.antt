-- Stated: what a decoding function of the program gives, beside what decoding gives.
use Rattle.std.specs.Prelude.{◌≡◌, List, ℕ, Result, Ok, Err}
use Rattle.redo_record.specs.declared.redo.Group.{Group}
use Rattle.redo_record.specs.declared.decoding.BadRecord.{BadRecord}
use Rattle.redo_record.specs.declared.decoding.Stop.{Stop}
use Rattle.redo_record.specs.declared.decoding.Stop.TheVariants as stop

-- it was read, or it is refused at that offset, or memory ran out
abbrev pub Decodes : {X : Type 0} → Result X Stop → Result X ℕ → Type 0
Decodes (Ok x) found = found ≡ Ok x
Decodes (Err (stop.BadRecord b)) found = found ≡ Err b.at
Decodes (Err stop.WantOfMemory) found = Unit {0}

-- the same, and the rest is left
abbrev pub DecodesFrom : {X : Type 0} → Result X Stop → List ℕ → Result (X × List ℕ) ℕ → Type 0
DecodesFrom (Ok x) rest found = found ≡ Ok (x, rest)
DecodesFrom (Err (stop.BadRecord b)) rest found = found ≡ Err b.at
DecodesFrom (Err stop.WantOfMemory) rest found = Unit {0}

-- a decoding that did not run out of memory: it was read, or it is refused at that offset
abbrev pub IsJudged : Result (Group × ℕ) BadRecord → Result (Group × ℕ) ℕ → Type 0
IsJudged (Ok read) found = found ≡ Ok read
IsJudged (Err bad) found = found ≡ Err bad.at
