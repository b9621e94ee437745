-- Stated: what the laws of plans ask beside that pages hold a store, and that groups keep it.
use Rattle.std.specs.Prelude.{◌≡◌, ◌≤◌, ◌<◌, ℕ, [], Some}
use Rattle.std.specs.List.{AllByRecursion}
use Rattle.version_store.specs.Groups.{Group, Makes}
use Rattle.version_store.specs.Held.{Held}
use Rattle.version_store.specs.Rooted.{Rooted}
use Rattle.version_store.specs.Stores.{Store, blank, put}
use Rattle.held_versions.specs.Trees.{IsRoot}
use Rattle.tree_timeline.specs.Types.{Items}

-- what an open transaction changed stands in the catalog, or in a table that a name has
abbrev pub EntriesRooted : Store → Type 0
EntriesRooted S =
    (s t : ℕ) → S.slot s ≡ Some t → AllByRecursion (λ entry. IsRoot S entry.root) (S.undo s)

-- so it is at first, and every group keeps it
pub record EntriesStayRooted : Type 0 where
  pub first : EntriesRooted blank
  pub keep : (g : Group) (old new : Store) → Makes g old new → Held old → Rooted old
      → EntriesRooted old → EntriesRooted new

-- no items are told of a page that is not made
abbrev pub NoneBehind : (ℕ → Items) → Store → Type 0
NoneBehind items S = (root : ℕ) → S.pages ≤ root → items root ≡ []

-- a change of one tree, with pages that may be made for it, keeps that
abbrev pub NoneStayBehind : Type 0
NoneStayBehind =
    (items : ℕ → Items) (S T : Store) (root : ℕ) (now : Items)
    → root < S.pages → S.pages ≤ T.pages → NoneBehind items S → NoneBehind (put items root now) T
