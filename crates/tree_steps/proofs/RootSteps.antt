-- A split of the root is a step.
use Rattle.std.proofs.Common.{◌≡◌, ◌<◌, ◌≤◌, ◌+◌, ℕ, zero, suc, List, [], ◌∷◌, None, refl, sym, ap, subst, ◌∙◌, arith}
use Rattle.page_image.specs.Meta.{IsMeta, page_count}
use Rattle.page_image.specs.Image.{Image, LevelFits}
use Rattle.page_image.specs.Rules.{IsImage}
use Rattle.page_image.specs.declared.kind.Kind.{Kind}
use Rattle.page_image.specs.declared.kind.Kind.TheVariants.{Unmade, Meta, Leaf, Inner}
use Rattle.page_view.specs.Inner.{InnerItem, IsInner}
use Rattle.redo_record.specs.declared.redo.Record.{Record}
use Rattle.bplus_tree.specs.Tree.{Stands, is_leaf}
use Rattle.tree_change.proofs.EffectLaws.{untouched}
use Rattle.tree_change.proofs.RootEffects.{none_root, new_root, on_root}
use Rattle.tree_change.proofs.RootTree.{RootSetting, root_rs, root_apart, root_pages, root_halves, below, root_is}
use Rattle.tree_change.proofs.SplitTree.{unmade_apart, meta_apart}
use Rattle.tree_change.proofs.WayLaws.{at}
use Rattle.tree_change.specs.Effects.{pages_after, IsFresh}
use Rattle.tree_change.specs.Places.{page_on}
use Rattle.tree_change.specs.Splits.{IsSplitPlace, separator, root_split_records, root_split_plan}
use Rattle.tree_change.specs.Way.{IsWayTo}
use Rattle.tree_timeline.specs.Ranges.{height}
use Rattle.tree_timeline.specs.Steps.{RootSplits}
use Rattle.tree_timeline.specs.Types.{Key, Items, Pages}
use Rattle.tree_timeline.proofs.Rows.{entries_are}
use Rattle.tree_steps.proofs.Halves.{page_entries, halved_of}
use Rattle.tree_steps.proofs.ItemSteps.{node_of}

root_height : (pages : Pages) (level root : ℕ) (items : Items) (nodes : List ℕ)
    → Stands pages level root None None items nodes → IsImage (pages root)
    → (pages root).level ≡ height (pages root)
root_height pages zero root items nodes h i =
    let k : (pages root).kind ≡ Leaf = h.0.kind in
    let f : LevelFits Leaf (pages root).level =
    subst (λ (n : Kind). LevelFits n (pages root).level) k i.level_fits in
    rw k f
root_height pages (suc level) root items nodes h i = let k : (pages root).kind ≡ Inner = h.2.kind in
    rw k refl

root_splits_at : (key : Key) (path : List Image) (w : IsWayTo key path) (meta : Image)
    (place lsn : ℕ) → RootSetting key path w meta place
    → RootSplits w.pages
    (pages_after lsn (root_rs key path w meta place) w.pages) w.root w.tree.nodes lsn
root_splits_at key path w meta place lsn s =
    let others : Pages = pages_after lsn (root_rs key path w meta place) w.pages in
    let im : Image = w.pages w.root in
    let left : ℕ = page_count meta in
    let right : ℕ = page_count meta + 1 in
    let sep : Key = separator im place in
    let b = below key path w in
    let h = root_halves key path w meta place lsn s b in
    let p = root_pages key path w meta place lsn s in
    let e : others w.root ≡ new_root im place left right lsn =
    on_root im meta place lsn (root_apart key path w meta place s) in
    let e0 : InnerItem = record { key = []; child = left } in
    let e1 : InnerItem = record { key = sep; child = right } in
    let bound = s.bound in
    let is0 : IsInner e0 = record { short_key = omega arith; child = omega (arith, bound) } in
    let is1 : IsInner e1 =
    record { short_key = (let short = h.short in omega (arith, short)); child = bound } in
    let unmade_left : (w.pages left).kind ≡ Unmade = ap (λ (o : Image). o.kind) s.left_there in
    let unmade_right : (w.pages right).kind ≡ Unmade = ap (λ (o : Image). o.kind) s.right_there in
    let meta_kind : (w.pages meta.page).kind ≡ Meta =
    ap (λ (o : Image). o.kind) s.meta_there ∙ s.is_meta.kind in
    record {
      left = left;
      right = right;
      separator = sep;
      is =
          entries_are (others w.root) (e0 ∷ (e1 ∷ [])) (ap (λ (o : Image). o.items) e)
          (is0, (is1, tt));
      kind = ap (λ (o : Image). is_leaf o.kind) e;
      level =
          ap (λ (o : Image). o.level) e
          ∙ ap (λ (n : ℕ). n + 1)
          (root_height w.pages w.tree.level w.root w.items w.tree.nodes w.tree.stands s.image);
      halves = λ inner.
          let q =
          page_entries w.pages w.tree.level w.root None None w.items w.tree.nodes w.tree.stands
          inner in
          halved_of im (others left)
          (others right) w.root q.0 place q.1 q.2 s.is_place p.on_left.items_are
          p.on_right.items_are;
      marked = ap (λ (o : Image). o.structure) e;
      same = λ q c n.
          let one = node_of w.pages w.root w.items w.tree q c in
          untouched lsn (root_rs key path w meta place) (w.pages q)
          (none_root im meta place (w.pages q).page
          (λ f. n (sym (sym b.node.number ∙ f ∙ one.number)))
          (λ f. unmade_apart w.pages left q unmade_left one (f ∙ one.number))
          (λ f. unmade_apart w.pages right q unmade_right one (f ∙ one.number))
          (λ f. meta_apart w.pages meta.page q meta_kind one (f ∙ one.number)));
    }

pub root_split_step : (key : Key) (path : List Image) (at : ℕ) (meta : Image)
    → IsSplitPlace (page_on path 0).items at → IsImage (page_on path 0)
    → (page_on path 0).level < 8 → IsMeta meta → page_count meta + 1 ≤ 32767
    → (w : IsWayTo key path) → IsFresh w.pages meta (root_split_plan (page_on path 0) at meta)
    → (lsn : ℕ)
    → RootSplits w.pages
    (pages_after lsn (root_split_plan (page_on path 0) at meta).records w.pages) w.root
    w.tree.nodes lsn
root_split_step key path at meta place image low is_meta bound w fresh lsn =
    let e = root_is key path w in
    let s : RootSetting key path w meta at = record {
      is_place = subst (λ (o : Image). IsSplitPlace o.items at) e place;
      image = subst IsImage e image;
      low = subst (λ (o : Image). o.level < 8) e low;
      is_meta = is_meta;
      meta_there = fresh.meta_is;
      left_there = fresh.unmade.0;
      right_there = fresh.unmade.1.0;
      bound = bound;
    } in
    let same : root_split_records (page_on path 0) at meta ≡ root_rs key path w meta at =
    ap (λ (o : Image). root_split_records o at meta) e in
    subst
    (λ (r : List Record).
    RootSplits w.pages (pages_after lsn r w.pages) w.root w.tree.nodes lsn) (sym same)
    (root_splits_at key path w meta at lsn s)
