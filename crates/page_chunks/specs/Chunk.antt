-- Stated: A chunk of pages as its callers see it.
use Rattle.std.specs.Prelude.{◌≡◌, ◌≤◌, ◌<◌, ◌+◌, ◌-◌, ◌*◌, ℕ, List, length, nat_lt, if◌then◌else◌}
use Rattle.rm_base.specs.declared.limits.TheConstants.{PAGES_PER_CHUNK}
use Rattle.page_image.specs.Image.{Image}
use Rattle.message_model.specs.declared.Got.{Got}
use Rattle.message_model.specs.declared.Got.TheVariants as got
use Rattle.redo_record.specs.declared.redo.Group.{Group}
use Rattle.redo_record.specs.Effect.{after_records, past, page_at, CountsFrom, RecordsApply, LeaveAlone}
use Rattle.page_chunks.specs.declared.entries.Entry.{Entry}
use Rattle.page_chunks.specs.Entries.{base_of, image_of, entry_at, EachStands}

-- a chunk's number, the LSN of the last group that was shipped, and what is kept of each page
pub record Chunk : Type 0 where
  pub number : ℕ
  pub applied : ℕ
  pub entries : List Entry

-- the chunk's first page
abbrev pub first_page : Chunk → ℕ
first_page chunk = PAGES_PER_CHUNK * chunk.number

-- the page is one of the chunk's
pub record InChunk (chunk : Chunk) (p : ℕ) : Type 0 where
  pub from : first_page chunk ≤ p
  pub within : p < first_page chunk + PAGES_PER_CHUNK

-- what is kept of a page
abbrev pub kept_of : Chunk → ℕ → Entry
kept_of chunk p = entry_at chunk.entries (p - first_page chunk)

-- the page at the LSN that was shipped last
abbrev pub image_at : Chunk → ℕ → Image
image_at chunk p = image_of p (kept_of chunk p)

-- the records for a page past its base image's LSN, each alone with its group's LSN
abbrev pub waiting : Chunk → ℕ → List Group
waiting chunk p = past (base_of p (kept_of chunk p)).lsn (kept_of chunk p).pending

-- the answer to a request for a page: its image, unless the groups up to the floor are not all there
abbrev pub answer_of : Chunk → ℕ → ℕ → Got
answer_of chunk p floor = if nat_lt chunk.applied floor then got.NotYet chunk.applied else got.Image (image_at chunk p)

-- the same of a list of groups with the LSNs 1, 2 and so on
abbrev pub answer_by : List Group → ℕ → ℕ → Got
answer_by groups p floor =
    if nat_lt (length groups) floor then got.NotYet (length groups) else got.Image (page_at groups p (length groups))

-- what a chunk keeps
pub record IsChunk (chunk : Chunk) : Type 0 where
  pub bound : chunk.number < 128
  pub all : length chunk.entries ≡ PAGES_PER_CHUNK
  pub each : EachStands (first_page chunk) chunk.applied chunk.entries

-- the group comes after the last one, and its records for the chunk's pages apply in order
pub record CanShip (chunk : Chunk) (g : Group) : Type 0 where
  pub next : g.lsn ≡ chunk.applied + 1
  pub apply : (p : ℕ) → InChunk chunk p → RecordsApply g.lsn g.records (image_at chunk p)

-- the group was shipped: its records are done to each page
pub record IsShipped (old : Chunk) (g : Group) (new : Chunk) : Type 0 where
  pub number : new.number ≡ old.number
  pub applied : new.applied ≡ g.lsn
  pub images : (p : ℕ) → InChunk old p → image_at new p ≡ after_records g.lsn g.records (image_at old p)

-- the chunk after groups up to that LSN without a record for its pages
abbrev pub skipped : Chunk → ℕ → Chunk
skipped chunk to = record chunk { applied = to }

-- none of the groups has a record for a page of the chunk
abbrev pub PassBy : Chunk → List Group → Type 0
PassBy chunk groups = (p : ℕ) → InChunk chunk p → LeaveAlone p groups

-- all answers are the same
pub record AnswersSame (old new : Chunk) : Type 0 where
  pub number : new.number ≡ old.number
  pub applied : new.applied ≡ old.applied
  pub images : (p : ℕ) → InChunk old p → image_at new p ≡ image_at old p

-- the chunk has got these groups, from the log's first one on
pub record HasGot (chunk : Chunk) (groups : List Group) : Type 0 where
  pub counted : CountsFrom 0 groups
  pub applied : chunk.applied ≡ length groups
  pub images : (p : ℕ) → InChunk chunk p → image_at chunk p ≡ page_at groups p (length groups)
