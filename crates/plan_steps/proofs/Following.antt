-- For the proofs: versions are found over later pages.
use Rattle.std.proofs.Common.{◌≢◌, ◌≤◌, ℕ, suc, sym, ap, subst, ◌∙◌}
use Rattle.sql_database.specs.Catalog.{schema_of}
use Rattle.version_store.specs.Stores.{catalog}
use Rattle.held_versions.specs.Keeping.{KeepsUndo}
use Rattle.held_versions.specs.Tables.{SaysRow, SaysTable}
use Rattle.held_versions.specs.Versions.{of_key}
use Rattle.held_versions.proofs.Chains.{versions_at_kept}
use Rattle.tree_timeline.specs.Types.{PagesAt}
use Rattle.plan_steps.specs.Growth.{IsGrown, UndoGrows}
use Rattle.plan_steps.specs.GrowthLaws.{GroupsGrow, OthersGrow, UndoIsKept, VersionsAreFollowed}
use Rattle.plan_steps.proofs.Growing.{group_grows, grown_keeps, grown_self, lasts_by}
use Rattle.plan_steps.proofs.Trees.{by_members}

pub groups_grow : GroupsGrow
groups_grow pages lsn records numbered all = group_grows pages lsn records numbered all

pub others_grow : OthersGrow
others_grow pages lsn named records numbered only other q k =
    subst (IsGrown (pages q))
    (sym (only lsn (pages q)
    (by_members (λ p. p ≢ (pages q).page) named
    (λ p c e. other p c (ap (λ (x : ℕ). (pages x).kind) (e ∙ numbered q) ∙ k)))))
    (grown_self (pages q) k)

keeps_later : (at : PagesAt) (base t u : ℕ)
    → ((v : ℕ) → base ≤ v → UndoGrows (at v) (at (suc v))) → base ≤ t → t ≤ u
    → KeepsUndo (at t) (at u)
keeps_later at base t u each b l = grown_keeps (at t) (at u) (λ q k. lasts_by at base each t u q b l k)

pub undo_is_kept : UndoIsKept
undo_is_kept at base each = (lasts_by at base each, λ t u b l. keeps_later at base t u each b l)

pub versions_are_followed : VersionsAreFollowed
versions_are_followed at base items S t u each b l h =
    let keeps = keeps_later at base t u each b l in
    record {
      tables = λ k.
          versions_at_kept SaysTable (at t) (at u) keeps (of_key k (items catalog))
          (S.rows catalog k) (h.tables k);
      rows = λ a k v row one e.
          versions_at_kept (SaysRow (schema_of row)) (at t) (at u) keeps (of_key k (items v.root))
          (S.rows v.root k) (h.rows a k v row one e);
    }
