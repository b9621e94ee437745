-- Stated: what a writer's own transaction sees stays while other sessions' groups are written.
use Rattle.std.specs.Prelude.{◌≡◌, ◌≢◌, ◌≤◌, ℕ, List, Option, Some, None}
use Rattle.version_store.specs.Contents.{Content, chain_of}
use Rattle.version_store.specs.Groups.{Group, Makes, begins, commits, creates, frees, splits, undoes, writes}
use Rattle.version_store.specs.Held.{Held}
use Rattle.version_store.specs.Rooted.{Rooted}
use Rattle.version_store.specs.Stores.{Store}
use Rattle.version_store.specs.Versions.{seen}
use Rattle.snapshot_reads.specs.Pasts.{PastStep}

-- the session of a group; a split is of none
abbrev pub session_of : Group → Option ℕ
session_of (begins s) = Some s
session_of (writes s a k row) = Some s
session_of (creates s a row) = Some s
session_of (undoes s) = Some s
session_of (commits s) = Some s
session_of (frees s) = Some s
session_of (splits pages) = None

-- What is seen at a snapshot, with the changes of the transaction that holds a session's slot, is
-- seen after each group of another session.
abbrev pub OthersLeavePast : Type 0
OthersLeavePast =
    (S R : Store) (g : Group) (s t n : ℕ) (f : Content)
    → Held S → Rooted S → S.slot s ≡ Some t → n ≤ S.last
    → Makes g S R → session_of g ≢ Some s
    → ((a k : List ℕ) → seen (chain_of S a k) S.stamp n (Some t) ≡ f a k)
    → PastStep S R n (Some t) f
