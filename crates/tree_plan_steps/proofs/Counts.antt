-- For the proofs: what plans of splits do to the meta page.
use Rattle.std.proofs.Common.{◌≡◌, ◌≤◌, ◌<◌, ◌+◌, ◌-◌, ℕ, suc, List, [], length, refl, sym, ap, subst, ◌∙◌, arith}
use Rattle.rm_base.specs.Fields.{field}
use Rattle.page_image.specs.Image.{Image, patched}
use Rattle.page_image.specs.Rules.{IsImage}
use Rattle.redo_record.specs.declared.redo.Record.{Record}
use Rattle.redo_record.specs.Effect.{after_records}
use Rattle.commit_stamps.specs.Effects.{SetsCounters}
use Rattle.page_image.specs.Meta.{IsMeta, counters_of, page_count}
use Rattle.commit_stamps.proofs.EffectLaws.{own_after}
use Rattle.tree_change.proofs.RootEffects.{on_root_meta}
use Rattle.tree_change.proofs.RootTree.{RootSetting, root_apart, root_is, root_rs}
use Rattle.tree_change.proofs.SiteLaws.{around, site}
use Rattle.tree_change.proofs.SplitEffects.{on_meta}
use Rattle.tree_change.proofs.SplitTree.{Setting, four_apart, rs_of}
use Rattle.tree_change.proofs.WayLaws.{path_length}
use Rattle.tree_change.specs.Effects.{IsFresh}
use Rattle.tree_change.specs.Places.{page_on}
use Rattle.tree_change.specs.Splits.{IsSplitPlace, root_split_plan, root_split_records, split_plan, split_records}
use Rattle.tree_change.specs.Way.{IsWayTo}
use Rattle.tree_timeline.specs.Types.{Key}
use Rattle.plan_steps.specs.Counting.{counts_pages}
use Rattle.plan_steps.proofs.CountLaws.{counts_alone}

-- a patch of the count alone
patch_counts : (meta : Image) (count lsn : ℕ) → IsMeta meta → IsImage meta → count ≤ 32768
    → SetsCounters (patched meta 36 (field 4 count) lsn) (record (counters_of meta) { pages = count })
patch_counts meta count lsn is rules few =
    subst (λ (im : Image). SetsCounters im (record (counters_of meta) { pages = count }))
    (own_after lsn (counts_pages meta count) [] meta refl) (counts_alone meta count lsn is rules few)

pub split_counts : (key : Key) (path : List Image) (i at : ℕ) (meta : Image) → i + 1 < length path
    → IsSplitPlace (page_on path (i + 1)).items at → IsMeta meta → IsImage meta
    → page_count meta ≤ 32767 → (w : IsWayTo key path)
    → IsFresh w.pages meta (split_plan key (page_on path i) (page_on path (i + 1)) at meta)
    → (lsn : ℕ)
    → SetsCounters
    (after_records lsn (split_plan key (page_on path i) (page_on path (i + 1)) at meta).records meta)
    (record (counters_of meta) { pages = page_count meta + 1 })
split_counts key path i at meta inside place is_meta rules bound w fresh lsn =
    let l : ℕ = w.tree.level - (i + 1) in
    let deep : i + suc l ≡ w.tree.level =
    (let long = path_length key path w in omega (arith, long, inside)) in
    let st = site key path w i l deep in
    let s : Setting key path w i l meta at = record {
      site = st;
      around = around key path w i l st;
      place = subst (λ (o : Image). IsSplitPlace o.items at) st.page_is place;
      is_meta = is_meta;
      meta_there = fresh.meta_is;
      new_there = fresh.unmade.0;
      new_bound = bound;
    } in
    let same : split_records key (page_on path i) (page_on path (i + 1)) at meta
    ≡ rs_of key path w i l meta at s =
    ap (λ (o : Image). split_records key o (page_on path (i + 1)) at meta) st.parent_is
    ∙ ap (λ (o : Image). split_records key (w.pages st.parent) o at meta) st.page_is in
    let after : after_records lsn (rs_of key path w i l meta at s) meta
    ≡ patched meta 36 (field 4 (page_count meta + 1)) lsn =
    on_meta key (w.pages st.parent) (w.pages st.page) meta at lsn
    (four_apart key path w i l meta at s) in
    subst
    (λ (rs : List Record). SetsCounters (after_records lsn rs meta)
    (record (counters_of meta) { pages = page_count meta + 1 })) (sym same)
    (subst (λ (im : Image). SetsCounters im (record (counters_of meta) { pages = page_count meta + 1 }))
    (sym after)
    (patch_counts meta (page_count meta + 1) lsn
    (record { kind = is_meta.kind; number = is_meta.number }) rules (omega (arith, bound))))

pub root_split_counts : (key : Key) (path : List Image) (at : ℕ) (meta : Image)
    → IsSplitPlace (page_on path 0).items at → IsImage (page_on path 0)
    → (page_on path 0).level < 8 → IsMeta meta → IsImage meta → page_count meta + 1 ≤ 32767
    → (w : IsWayTo key path) → IsFresh w.pages meta (root_split_plan (page_on path 0) at meta)
    → (lsn : ℕ)
    → SetsCounters (after_records lsn (root_split_plan (page_on path 0) at meta).records meta)
    (record (counters_of meta) { pages = page_count meta + 2 })
root_split_counts key path at meta place image low is_meta rules bound w fresh lsn =
    let e = root_is key path w in
    let s : RootSetting key path w meta at = record {
      is_place = subst (λ (o : Image). IsSplitPlace o.items at) e place;
      image = subst IsImage e image;
      low = subst (λ (o : Image). o.level < 8) e low;
      is_meta = is_meta;
      meta_there = fresh.meta_is;
      left_there = fresh.unmade.0;
      right_there = fresh.unmade.1.0;
      bound = bound;
    } in
    let same : root_split_records (page_on path 0) at meta ≡ root_rs key path w meta at =
    ap (λ (o : Image). root_split_records o at meta) e in
    let sum : page_count meta + 1 + 1 ≡ page_count meta + 2 = omega arith in
    let after : after_records lsn (root_rs key path w meta at) meta
    ≡ patched meta 36 (field 4 (page_count meta + 1 + 1)) lsn =
    on_root_meta (w.pages w.root) meta at lsn (root_apart key path w meta at s) in
    subst
    (λ (rs : List Record). SetsCounters (after_records lsn rs meta)
    (record (counters_of meta) { pages = page_count meta + 2 })) (sym same)
    (subst (λ (im : Image). SetsCounters im (record (counters_of meta) { pages = page_count meta + 2 }))
    (sym after)
    (subst
    (λ (n : ℕ). SetsCounters (patched meta 36 (field 4 (page_count meta + 1 + 1)) lsn)
    (record (counters_of meta) { pages = n })) sum
    (patch_counts meta (page_count meta + 1 + 1) lsn
    (record { kind = is_meta.kind; number = is_meta.number }) rules (omega (arith, bound)))))
