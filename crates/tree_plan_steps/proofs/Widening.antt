-- For the proofs: the groups of splits follow the events of history.
use Rattle.std.proofs.Common.{◌≤◌, ◌+◌, ℕ, Bool, true, false, length, refl, sym, ap, subst, arith}
use Rattle.page_image.specs.Meta.{page_count}
use Rattle.redo_record.specs.declared.plans.Plan.{Plan}
use Rattle.tree_change.specs.Places.{page_on}
use Rattle.tree_change.specs.Room.{lacks_room}
use Rattle.tree_change.specs.Splits.{IsSplitOf, SpaceFor}
use Rattle.table_machine.specs.Language.{Language}
use Rattle.version_store.specs.Contents.{Content}
use Rattle.version_store.specs.Groups as group
use Rattle.version_store.specs.Stores.{split}
use Rattle.history.specs.Clusters.{Cluster, now}
use Rattle.history.specs.Events as event
use Rattle.history.specs.Invariant.{Refines}
use Rattle.held_versions.specs.Keeping.{grown}
use Rattle.held_versions.specs.Trees.{IsRoot}
use Rattle.tree_timeline.specs.Types.{Items, Pages}
use Rattle.plan_steps.specs.Splitting.{IsSplit}
use Rattle.plan_steps.proofs.Entries.{entries_stay_rooted}
use Rattle.plan_steps.proofs.Splitting as steps
use Rattle.tree_plan_steps.specs.EventLaws.{RoomFollows, RootSplitFollows, SplitFollows}
use Rattle.tree_plan_steps.specs.Following.{Follows, MaySplit, Stands}
use Rattle.tree_plan_steps.proofs.Following.{follows, held, rooted}
use Rattle.tree_plan_steps.proofs.Splits.{root_split_is_split, split_is_split}

splits_by : {language : Language} → (was : Content) (c : Cluster) (items : ℕ → Items) (pages : Pages)
    (lsn s root count : ℕ) (plan : Plan) → Refines language was c → Stands items pages (now c)
    → MaySplit c → IsRoot (now c) root
    → IsSplit items pages lsn root count plan.pages plan.made plan.records
    → Follows language (event.splits s count) c items pages (grown lsn plan.records pages)
splits_by {language} was c items pages lsn s root count plan g st may named is =
    let more = is.more in
    let are = st.holds.counters.pages_are in
    let le : (now c).pages ≤ count = omega (arith, more, are) in
    let made = steps.split_is_split items pages (now c) lsn root count plan.pages plan.made plan.records
    st.holds named is in
    follows language (event.splits s count) c items pages (grown lsn plan.records pages)
    (split (now c) count) s (c.work s) c.machine (may.no_job, may.alive, le, refl)
    (record {
      holds = made.0;
      entries = entries_stay_rooted.keep (group.splits count) (now c) (split (now c) count) (le, refl)
          (held was c g) (rooted was c g) st.entries;
      behind = λ r past. st.behind r (omega (arith, le, past));
    }) made.1

pub split_follows : (language : Language) → SplitFollows language
split_follows language was c items pages lsn s root item path plan g st may named path_is rules is
    keeps =
    splits_by was c items pages lsn s root (page_count (pages 0) + 1) plan g st may named
    (split_is_split items pages (now c) lsn root item path plan st.holds named path_is rules is keeps)

pub root_split_follows : (language : Language) → RootSplitFollows language
root_split_follows language was c items pages lsn s root key path plan g st may named path_is rules
    image low is keeps =
    splits_by was c items pages lsn s root (page_count (pages 0) + 2) plan g st may named
    (root_split_is_split items pages (now c) lsn root key path plan st.holds named path_is rules image
    low is keeps)

pub room_follows : (language : Language) → RoomFollows language
room_follows language was c items pages lsn s root item path plan g st may named path_is rules image
    space is keeps =
    by_root (lacks_room item (page_on path 0)) space is
  where
    by_root : (full : Bool) → SpaceFor full (page_on path 0) (page_count (pages 0))
        → IsSplitOf full item path (pages 0) plan
        → Follows language (event.splits s (page_count (pages 0) + length plan.made)) c items pages
        (grown lsn plan.records pages)
    by_root true space is =
        subst
        (λ (n : ℕ). Follows language (event.splits s (page_count (pages 0) + n)) c items pages
        (grown lsn plan.records pages)) (sym (ap (λ (p : Plan). length p.made) is.plan_is))
        (root_split_follows language was c items pages lsn s root item.key path plan g st may named path_is
        rules image space.0 is keeps)
    by_root false space is =
        subst
        (λ (n : ℕ). Follows language (event.splits s (page_count (pages 0) + n)) c items pages
        (grown lsn plan.records pages)) (sym (ap (λ (p : Plan). length p.made) is.plan_is))
        (split_follows language was c items pages lsn s root item path plan g st may named path_is rules is
        keeps)
