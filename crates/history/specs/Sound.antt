-- For the proofs: a store that stands for the commits up to its last stamp.
use Rattle.std.specs.Prelude.{◌≡◌, ℕ, ◌≤◌, true, Option, Some, None, List, if◌then◌else◌, nat_le}
use Rattle.version_store.specs.Contents.{chain_of}
use Rattle.version_store.specs.Held.{Held, IsToppedBy, none_of}
use Rattle.version_store.specs.Rooted.{Rooted}
use Rattle.version_store.specs.Stores.{Store}
use Rattle.version_store.specs.Versions.{Row, Version, newest_stamp, seen}
use Rattle.history.specs.Timelines.{Timeline, content_at, latest}

abbrev pub at_least : ℕ → ℕ → ℕ
at_least first n = if nat_le n first then first else n

pub record Sound (line : Timeline) (S : Store) : Type 0 where
  pub held : Held S
  pub rooted : Rooted S
  pub low : line.first ≤ S.last
  -- by name and key, each number's content is seen
  pub read : (n : ℕ) → line.first ≤ n → n ≤ S.last → (a k : List ℕ)
      → seen (chain_of S a k) S.stamp n None ≡ content_at line n a k
  -- and the newest stamp is the last commit that has the place
  pub newest : (a k : List ℕ)
      → at_least line.first (newest_stamp (chain_of S a k) S.stamp) ≡ latest line S.last a k

-- what an open transaction has put into the versions of a place: its newest stands first, or it has none there
unfoldable pub Own : ℕ → Option (Option Row) → List Version → Type 0
Own t None vs = none_of t vs ≡ true
Own t (Some r) vs = IsToppedBy t r vs
