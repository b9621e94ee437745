-- Stated: the pages in memory, each as it is kept and with its changes.
use Rattle.std.specs.Prelude.{◌≡◌, ◌<◌, ℕ, List, length, None, IsSome, All, Contains, unwrap_or, slice_index_or, is_some, if◌then◌else◌}
use Rattle.page_image.specs.Image.{Image, unmade, Follows}
use Rattle.redo_record.specs.declared.redo.Record.{Record}
use Rattle.redo_record.specs.Effect.{page_of, Applies}
use Rattle.page_store.specs.declared.frame.Frame.{Frame}

-- a page of which nothing is there
abbrev pub empty : Frame
empty = record { kept = None; working = None }

-- page p as it is kept: the unmade page where none is
abbrev pub kept_of : ℕ → Frame → Image
kept_of p f = unwrap_or f.kept (unmade p)

-- page p with its changes
abbrev pub page_in : ℕ → Frame → Image
page_in p f = unwrap_or f.working (kept_of p f)

-- the frame after its changes are kept
abbrev pub settled : Frame → Frame
settled f = record { kept = if is_some f.working then f.working else f.kept; working = None }

-- the frame without its changes
abbrev pub unchanged : Frame → Frame
unchanged f = record f { working = None }

-- the frame of page p
abbrev pub frame_at : List Frame → ℕ → Frame
frame_at frames p = slice_index_or frames p empty

abbrev pub kept_at : List Frame → ℕ → Image
kept_at frames p = kept_of p (frame_at frames p)

abbrev pub page_at : List Frame → ℕ → Image
page_at frames p = page_in p (frame_at frames p)

-- page p has a working copy
abbrev pub HasCopy : List Frame → ℕ → Type 0
HasCopy frames p = IsSome (frame_at frames p).working

-- each page is kept as it was
abbrev pub SameKept : List Frame → List Frame → Type 0
SameKept old new = (p : ℕ) → kept_at new p ≡ kept_at old p

-- each page is as it was
abbrev pub SamePages : List Frame → List Frame → Type 0
SamePages old new = (p : ℕ) → page_at new p ≡ page_at old p

-- no working copy is lost
abbrev pub SameCopies : List Frame → List Frame → Type 0
SameCopies old new = (p : ℕ) → HasCopy old p → HasCopy new p

-- no page has a working copy, and the frames are `end` of those before, where each page with a working copy is among these
pub record Ends (end : Frame → Frame) (pages : List ℕ) (old new : List Frame) : Type 0 where
  pub frames : ((p : ℕ) → HasCopy old p → Contains pages p) → (p : ℕ) → frame_at new p ≡ end (frame_at old p)
  pub size : length new ≡ length old

-- the pages that have a working copy are among these, which all have a frame
pub record AreFrames (frames : List Frame) (changed : List ℕ) : Type 0 where
  pub within : All (λ p. p < length frames) changed
  pub listed : (p : ℕ) → HasCopy frames p → Contains changed p

-- a record of a group with this LSN can change a page that is so
pub record Fits (r : Record) (lsn : ℕ) (page : Image) : Type 0 where
  pub mine : page_of r ≡ page.page
  pub follows : Follows page lsn
  pub applies : Applies r page
