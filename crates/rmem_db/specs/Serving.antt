-- Stated: what a run has read and written.
use Rattle.std.specs.Prelude.{◌≡◌, ◌≤◌, ◌⊎◌, ℕ, List, [], ◌∷◌, ◌++◌, length, take, flat_map, codes, Option, Result, Ok, Err, nat_le, if◌then◌else◌}
use Rattle.std.specs.List.{AllByRecursion}
use Rattle.std.specs.Io.KnownBytes.{Appends, Consumes, IsAtEnd}
use Rattle.rm_env.specs.Faults.{Rose}
use Rattle.rm_env.specs.declared.sink.SinkNo.{SinkNo}
use Rattle.rm_env.specs.declared.sink.SinkNo.TheVariants as no
use Rattle.sql_database.specs.declared.replies.SqlReply.{SqlReply}
use Rattle.sql_database.specs.Database.{Database, empty}
use Rattle.table_machine.specs.declared.entries.Entry.{Entry}
use Rattle.table_machine.specs.Runs.{MakesDatabase}
use Rattle.table_machine.specs.Serving.{AreAnswered, TableState, Turns, at_rest}
use Rattle.rmem_db.specs.declared.status.Status.{Status}
use Rattle.rmem_db.specs.declared.status.Status.TheVariants.{Done, BadWords, BadScript, ReadFault, WriteFault, TooLong, BadLog, WantOfMemory}
use Rattle.rmem_db.specs.Lines.{lines, whole_lines, filled}
use Rattle.rmem_db.specs.Reading.{Held, HasNoLf}
use Rattle.rmem_db.specs.Session.{IsOfOneSession, sql}
use Rattle.rmem_db.specs.Texts.{ended, replies_text, text_of}
use Rattle.rmem_db.specs.Writing.{AppendsFront}

-- The text of a run of the table machine, from empty tables, in which one session's lines are answered each before
-- the next; it is the one run that answers them in full, where no reply says that there is no room. Its commits make
-- the database.
pub record IsTextFor (lines : List (List ℕ)) (text : List ℕ) (made : Database) : Type 0 where
  pub replies : List SqlReply
  pub entries : List Entry
  pub answered : AreAnswered sql 1 empty 0 (codes "a") lines replies entries
  pub told : AllByRecursion IsOfOneSession replies
  pub makes : MakesDatabase sql 1 empty 0 entries made
  pub written : text ≡ text_of entries

-- the source was read to its end, and the replies to all its lines were written
pub record IsServed (left left' taken taken' : Option (List ℕ)) (Kept : Database → Type 0) : Type 0 where
  pub input : List ℕ
  pub read : Consumes left left' input
  pub at_end : IsAtEnd left'
  pub few : length input ≤ 4194304
  pub text : List ℕ
  pub made : Database
  pub says : IsTextFor (filled (lines input)) text made
  pub written : Appends taken taken' text
  pub kept : Kept made

-- one byte past the limit was read; the replies to the whole lines within the limit were written, and a line that
-- says so
pub record IsTooLong (left left' taken taken' : Option (List ℕ)) (Kept : Database → Type 0) : Type 0 where
  pub input : List ℕ
  pub read : Consumes left left' input
  pub past : length input ≡ 4194305
  pub text : List ℕ
  pub made : Database
  pub says : IsTextFor (filled (whole_lines (take 4194304 input))) text made
  pub written : Appends taken taken' (text ++ ended (codes "too long"))
  pub kept : Kept made

-- the replies to the whole lines that were read were written
pub record IsBroken (left left' taken taken' : Option (List ℕ)) (Kept : Database → Type 0) : Type 0 where
  pub input : List ℕ
  pub read : Consumes left left' input
  pub few : length input ≤ 4194304
  pub text : List ℕ
  pub made : Database
  pub says : IsTextFor (filled (whole_lines input)) text made
  pub written : Appends taken taken' text
  pub kept : Kept made

-- the lines of an input that are answered: all, or for one past the limit the whole ones within it
unfoldable pub lines_for : List ℕ → List (List ℕ)
lines_for input = if nat_le (length input) 4194304 then filled (lines input) else filled (whole_lines (take 4194304 input))

-- what is written behind the replies
unfoldable pub ending_for : List ℕ → List ℕ
ending_for input = if nat_le (length input) 4194304 then [] else ended (codes "too long")

-- The first lines of the input were answered, and a front of the replies to them was written, or of the replies to
-- all lines and what stands behind them.
pub record IsCutOff (left left' taken taken' : Option (List ℕ)) (Kept : Database → Type 0) : Type 0 where
  pub input : List ℕ
  pub read : Consumes left left' input
  pub first : List (List ℕ)
  pub others : List (List ℕ)
  pub parts : lines_for input ≡ first ++ others
  pub text : List ℕ
  pub made : Database
  pub says : IsTextFor first text made
  pub ending : List ℕ
  pub ends : (ending ≡ []) ⊎ ((others ≡ []) × (ending ≡ ending_for input))
  pub written : AppendsFront taken taken' (text ++ ending)
  pub kept : Kept made

-- Where a run stands between two lines: the input so far is these lines and what is held, they took their turns with
-- these replies, which were written, and the session stands at the tables that they made.
pub record Serves (left left' taken taken' : Option (List ℕ)) (At : TableState → Type 0) (held : Held) : Type 0 where
  pub input : List ℕ
  pub read : Consumes left left' input
  pub count : held.taken ≡ length input
  pub few : held.taken ≤ 4194304
  pub answered : List (List ℕ)
  pub each : AllByRecursion HasNoLf answered
  pub parts : input ≡ flat_map ended answered ++ held.bytes
  pub replies : List SqlReply
  pub state : TableState
  pub turns : Turns sql (at_rest empty) (filled answered) replies state
  pub stands : At state
  pub written : Appends taken taken' (replies_text replies)

-- the lines took their turns, and the replies to them were written
pub record Answered (old : TableState) (lines : List (List ℕ)) (At : TableState → Type 0) (taken taken' : Option (List ℕ)) : Type 0 where
  pub replies : List SqlReply
  pub new : TableState
  pub turns : Turns sql old lines replies new
  pub stands : At new
  pub written : Appends taken taken' (replies_text replies)

-- the first of the lines took their turns, a front of the replies to them was written, and what they made is kept
pub record StoppedIn (old : TableState) (lines : List (List ℕ)) (Kept : Database → Type 0) (taken taken' : Option (List ℕ)) : Type 0 where
  pub first : List (List ℕ)
  pub others : List (List ℕ)
  pub parts : lines ≡ first ++ others
  pub replies : List SqlReply
  pub new : TableState
  pub turns : Turns sql old first replies new
  pub kept : Kept new.kept
  pub written : AppendsFront taken taken' (replies_text replies)

-- how a run over the word `serve` ends, where `Kept` says which database is kept
abbrev pub Ends : Status → Option (List ℕ) → Option (List ℕ) → Option (List ℕ) → Option (List ℕ) → (Database → Type 0) → Type 0
Ends Done left left' taken taken' Kept = IsServed left left' taken taken' Kept
Ends ReadFault left left' taken taken' Kept = IsBroken left left' taken taken' Kept
Ends TooLong left left' taken taken' Kept = IsTooLong left left' taken taken' Kept
Ends WriteFault left left' taken taken' Kept = IsCutOff left left' taken taken' Kept
Ends WantOfMemory left left' taken taken' Kept = IsCutOff left left' taken taken' Kept
Ends BadWords left left' taken taken' Kept = ⊥
Ends BadScript left left' taken taken' Kept = ⊥
Ends BadLog left left' taken taken' Kept = ⊥

-- how a run over other words ends: the source was not read, and the line for bad words was written
abbrev pub Refuses : Status → Option (List ℕ) → Option (List ℕ) → Type 0
Refuses BadWords taken taken' = Appends taken taken' (ended (codes "bad words"))
Refuses WriteFault taken taken' = AppendsFront taken taken' (ended (codes "bad words"))
Refuses WantOfMemory taken taken' = AppendsFront taken taken' (ended (codes "bad words"))
Refuses Done taken taken' = ⊥
Refuses BadScript taken taken' = ⊥
Refuses ReadFault taken taken' = ⊥
Refuses TooLong taken taken' = ⊥
Refuses BadLog taken taken' = ⊥

-- the one list of words that is accepted
abbrev pub IsServe : List (List ℕ) → Type 0
IsServe words = words ≡ codes "serve" ∷ []

-- A fault is answered only where the count of the source's or the sink's faults rose.
abbrev pub HasCause : Status → ℕ → ℕ → ℕ → ℕ → Type 0
HasCause ReadFault source source' sink sink' = Rose source source'
HasCause WriteFault source source' sink sink' = Rose sink sink'
HasCause _ source source' sink sink' = Unit {0}

-- the status after a last writing, which is `whole` where all was taken
abbrev pub status_after : {T : Type 0} → Result T SinkNo → Status → Status
status_after (Ok x) whole = whole
status_after (Err no.Failed) whole = WriteFault
status_after (Err no.WantOfMemory) whole = WantOfMemory
