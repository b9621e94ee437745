-- Stated: what a chunk keeps of one page: a base image and the records that are not folded into it.
use Rattle.std.specs.Prelude.{◌≡◌, ◌≤◌, ◌<◌, ◌+◌, ℕ, List, [], ◌∷◌, ◌++◌, length, None, unwrap_or, slice_index_or, map, filter, ◌==◌, if◌then◌else◌}
use Rattle.page_image.specs.Image.{Image, unmade}
use Rattle.redo_record.specs.declared.redo.Record.{Record}
use Rattle.redo_record.specs.declared.redo.Group.{Group}
use Rattle.redo_record.specs.Effect.{page_of, after_groups, ArePast, AreUpTo, RecordsApply, GroupsApply}
use Rattle.page_chunks.specs.declared.entries.Entry.{Entry}

-- page p before anything is kept of it
abbrev pub empty : Entry
empty = record { base = None; pending = [] }

-- the base image of page p: the unmade page where none is kept
abbrev pub base_of : ℕ → Entry → Image
base_of p e = unwrap_or e.base (unmade p)

-- page p as the entry has it: its pending records done to the base image
abbrev pub image_of : ℕ → Entry → Image
image_of p e = after_groups e.pending (base_of p e)

-- a record alone, with the LSN of its group
abbrev pub single : ℕ → Record → Group
single lsn r = record { lsn = lsn; records = r ∷ [] }

-- the records of a group for page p, each alone with the group's LSN
abbrev pub records_for : ℕ → Group → List Group
records_for p g = map (single g.lsn) (filter (λ r. page_of r == p) g.records)

-- the entry of page p after a record of a group with this LSN
abbrev pub with_record : ℕ → ℕ → Record → Entry → Entry
with_record p lsn r e = if page_of r == p then record e { pending = e.pending ++ single lsn r ∷ [] } else e

-- the entries of the pages from `first` on after a record
abbrev pub taken : ℕ → ℕ → Record → List Entry → List Entry
taken first lsn r [] = []
taken first lsn r (e ∷ es) = with_record first lsn r e ∷ taken (first + 1) lsn r es

-- the same after records, in order
abbrev pub taken_all : ℕ → ℕ → List Record → List Entry → List Entry
taken_all first lsn [] es = es
taken_all first lsn (r ∷ rs) es = taken_all first lsn rs (taken first lsn r es)

-- no LSN is 0 or below the one before, and the first is not below n
abbrev pub Rises : ℕ → List Group → Type 0
Rises n [] = Unit {0}
Rises n (g ∷ gs) = (n ≤ g.lsn) × (1 ≤ g.lsn) × Rises g.lsn gs

-- the pending records can be done to the base image of page p
pub record Replays (p : ℕ) (e : Entry) : Type 0 where
  pub page : (base_of p e).page ≡ p
  pub rises : Rises (base_of p e).lsn e.pending
  pub apply : GroupsApply e.pending (base_of p e)

-- an entry of page p holds what is between its base image and an LSN
pub record Stands (p applied : ℕ) (e : Entry) : Type 0 where
  pub replays : Replays p e
  pub past_base : ArePast (base_of p e).lsn e.pending
  pub bound : (base_of p e).lsn ≤ applied
  pub late : AreUpTo applied e.pending

-- the entry at a place
abbrev pub entry_at : List Entry → ℕ → Entry
entry_at entries place = slice_index_or entries place empty

-- the entries of the pages from `first` on stand
abbrev pub EachStands : ℕ → ℕ → List Entry → Type 0
EachStands first applied entries = (i : ℕ) → i < length entries → Stands (first + i) applied (entry_at entries i)

-- the records of a group apply in order to each of the pages from `first` on
abbrev pub EachApplies : ℕ → Group → List Entry → Type 0
EachApplies first g entries =
    (i : ℕ) → i < length entries → RecordsApply g.lsn g.records (image_of (first + i) (entry_at entries i))

-- a page has no place among so many from `first` on
pub record IsOutside (first count p : ℕ) : Type 0 where
  pub apart : p < first + count → p < first

-- the place of a page among so many from `first` on
pub record IsPlace (first count p place : ℕ) : Type 0 where
  pub within : place < count
  pub is : p ≡ first + place
