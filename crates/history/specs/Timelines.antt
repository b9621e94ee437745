-- Stated: commits one after the other, and the content with those up to a number.
use Rattle.std.specs.Prelude.{ℕ, zero, suc, ◌+◌, ◌-◌, List, if◌then◌else◌}
use Rattle.sql_database.specs.declared.changes.Change.{Change}
use Rattle.version_store.specs.Contents.{Content}
use Rattle.history.specs.Places.{is_said, over, says}

-- the content at a first number, and the changes of each number after it
pub record Timeline : Type 0 where
  pub was : Content
  pub first : ℕ
  pub changes : ℕ → List Change

abbrev pub timeline_of : Content → ℕ → (ℕ → List Change) → Timeline
timeline_of was first changes = record { was = was; first = first; changes = changes }

-- the content after so many commits
abbrev pub content_after : Content → (ℕ → List Change) → ℕ → ℕ → Content
content_after was changes first zero a k = was a k
content_after was changes first (suc n) a k =
    over (says (changes (first + suc n)) a k) (content_after was changes first n a k)

-- the content with the commits up to a number
abbrev pub content_at : Timeline → ℕ → Content
content_at line n = content_after line.was line.changes line.first (n - line.first)

abbrev pub latest_after : (ℕ → List Change) → ℕ → ℕ → List ℕ → List ℕ → ℕ
latest_after changes first zero a k = first
latest_after changes first (suc n) a k =
    if is_said (says (changes (first + suc n)) a k) then first + suc n else latest_after changes first n a k

-- the last commit up to a number that has the place, or the first number
abbrev pub latest : Timeline → ℕ → List ℕ → List ℕ → ℕ
latest line n a k = latest_after line.changes line.first (n - line.first) a k
