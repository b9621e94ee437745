-- Stated: pages in memory that are those of a log.
use Rattle.std.specs.Prelude.{◌≡◌, ℕ, List}
use Rattle.page_image.specs.Image.{unmade}
use Rattle.redo_record.specs.Effect.{after_groups}
use Rattle.page_store.specs.declared.frame.Frame.{Frame}
use Rattle.page_store.specs.Stored.{Stored, pages_of}
use Rattle.page_store.specs.Frames.{kept_at, page_at}

-- each page is kept as the kept groups leave it, and has the changes of all groups
pub record Holds (frames : List Frame) (s : Stored) : Type 0 where
  pub kept : (p : ℕ) → kept_at frames p ≡ after_groups s.kept (unmade p)
  pub pages : (p : ℕ) → page_at frames p ≡ pages_of s p
