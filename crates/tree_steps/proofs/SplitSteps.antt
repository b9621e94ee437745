-- A split below the root is a step.
use Rattle.std.proofs.Common.{◌≡◌, ◌<◌, ◌≤◌, ◌+◌, ◌-◌, ℕ, suc, List, ◌∷◌, ◌++◌, length, map, sym, ap, subst, ◌∙◌, arith}
use Rattle.std.specs.Prelude.{Contains}
use Rattle.page_image.specs.Meta.{IsMeta, page_count}
use Rattle.page_image.specs.Image.{Image, inserted}
use Rattle.page_view.specs.Inner.{InnerItem, inner_bytes, IsInner}
use Rattle.redo_record.specs.declared.redo.Record.{Record}
use Rattle.bplus_tree.specs.Tree.{Stands, is_leaf}
use Rattle.tree_change.proofs.ListLaws.{all_front, all_back, all_join}
use Rattle.tree_change.proofs.MemberLaws.{among}
use Rattle.tree_change.proofs.ParentLaws.{entry_joins}
use Rattle.tree_change.proofs.SiteLaws.{site, around}
use Rattle.tree_change.proofs.SplitEffects.{on_parent, on_page}
use Rattle.tree_change.proofs.SplitTree.{Setting, rs_of, four_apart, same_else, after_split, grown}
use Rattle.tree_change.proofs.WayLaws.{path_length, at}
use Rattle.tree_change.specs.Effects.{pages_after, IsFresh}
use Rattle.tree_change.specs.Places.{page_on, not_greater}
use Rattle.tree_change.specs.Splits.{IsSplitPlace, separator, entry_of, split_records, split_plan}
use Rattle.tree_change.specs.Way.{IsWayTo}
use Rattle.tree_timeline.specs.Steps.{Splits}
use Rattle.tree_timeline.specs.Types.{Key, Pages}
use Rattle.tree_timeline.proofs.Rows.{entries_are}
use Rattle.tree_steps.proofs.Halves.{page_entries, halved_of, structure_inner}
use Rattle.tree_steps.proofs.ItemSteps.{node_of}

splits_at : (key : Key) (path : List Image) (w : IsWayTo key path) (i l : ℕ) (meta : Image)
    (at lsn : ℕ) (s : Setting key path w i l meta at)
    → Splits w.pages (pages_after lsn (rs_of key path w i l meta at s) w.pages) w.tree.nodes lsn
splits_at key path w i l meta at lsn s =
    let others : Pages = pages_after lsn (rs_of key path w i l meta at s) w.pages in
    let st = s.site in
    let im : Image = w.pages st.page in
    let parent : Image = w.pages st.parent in
    let new : ℕ = page_count meta in
    let sep : Key = separator im at in
    let d = four_apart key path w i l meta at s in
    let a = after_split key path w i l meta at lsn s in
    let g = grown key path w i l meta at lsn s in
    let e : others st.parent
    ≡ inserted parent (not_greater key parent.items) (entry_of sep new) lsn =
    on_parent key parent im meta at lsn d in
    let one : InnerItem = record { key = sep; child = new } in
    let one_is : IsInner one =
    record { short_key = (let h = g.short in omega (arith, h)); child = s.new_bound } in
    let has : (others st.parent).items ≡ map inner_bytes (st.xs ++ (st.entry ∷ (one ∷ st.ys))) =
    ap (λ (o : Image). o.items) e
    ∙ entry_joins st.xs st.entry one st.ys parent.items
    (not_greater key parent.items) st.inner.has st.behind in
    let front = all_front IsInner st.xs (st.entry ∷ st.ys) st.inner.each in
    let back = all_back IsInner st.xs (st.entry ∷ st.ys) st.inner.each in
    let child : Stands w.pages l st.page st.parts.lo st.parts.hi st.parts.mid st.parts.own =
    subst
    (λ (c : ℕ). Stands w.pages l c st.parts.lo st.parts.hi st.parts.mid st.parts.own)
    st.child_is st.parts.child in
    record {
      parent = st.parent;
      page = st.page;
      new = new;
      separator = sep;
      before = st.xs;
      entry = st.entry;
      behind = st.ys;
      here = subst (λ (n : List ℕ). Contains n st.parent) (sym s.around.nodes_are)
          (among st.spot.left
          ((st.parts.left ++ ((st.page ∷ s.around.deep) ++ st.parts.right)) ++ st.spot.right)
          st.parent);
      over = ap is_leaf st.inner.kind;
      child = st.child_is;
      was = entries_are parent (st.xs ++ (st.entry ∷ st.ys)) st.inner.has st.inner.each;
      is =
          entries_are (others st.parent) (st.xs ++ (st.entry ∷ (one ∷ st.ys))) has
          (all_join IsInner st.xs (st.entry ∷ (one ∷ st.ys)) front (back.0, (one_is, back.1)));
      parent_kind = ap (λ (o : Image). o.kind) e;
      parent_level = ap (λ (o : Image). o.level) e;
      page_kind = a.left_kind;
      halves = λ inner.
          let p =
          page_entries w.pages l st.page st.parts.lo st.parts.hi st.parts.mid st.parts.own child
          inner in
          halved_of im (others st.page)
          (others new) st.page p.0 at p.1 p.2 s.place a.left_items a.right_items;
      parent_marked = ap (λ (o : Image). o.structure) e ∙ structure_inner parent lsn st.inner.kind;
      page_marked = ap (λ (o : Image). o.structure) (on_page key parent im meta at lsn d);
      same =
          λ q c np nc.
          same_else key path w i l meta at lsn s q
          (node_of w.pages w.root w.items w.tree q c) np nc;
    }

pub split_step : (key : Key) (path : List Image) (i at : ℕ) (meta : Image) → i + 1 < length path
    → IsSplitPlace (page_on path (i + 1)).items at → IsMeta meta
    → page_count meta ≤ 32767 → (w : IsWayTo key path)
    → IsFresh w.pages meta (split_plan key (page_on path i) (page_on path (i + 1)) at meta)
    → (lsn : ℕ)
    → Splits w.pages
    (pages_after lsn
    (split_plan key (page_on path i) (page_on path (i + 1)) at meta).records w.pages)
    w.tree.nodes lsn
split_step key path i at meta inside place is_meta bound w fresh lsn =
    let l : ℕ = w.tree.level - (i + 1) in
    let deep : i + suc l ≡ w.tree.level =
    (let long = path_length key path w in omega (arith, long, inside)) in
    let st = site key path w i l deep in
    let s : Setting key path w i l meta at = record {
      site = st;
      around = around key path w i l st;
      place = subst (λ (o : Image). IsSplitPlace o.items at) st.page_is place;
      is_meta = is_meta;
      meta_there = fresh.meta_is;
      new_there = fresh.unmade.0;
      new_bound = bound;
    } in
    let same : split_records key (page_on path i) (page_on path (i + 1)) at meta
    ≡ rs_of key path w i l meta at s =
    ap (λ (o : Image). split_records key o (page_on path (i + 1)) at meta) st.parent_is
    ∙ ap (λ (o : Image). split_records key (w.pages st.parent) o at meta) st.page_is in
    subst (λ (r : List Record). Splits w.pages (pages_after lsn r w.pages) w.tree.nodes lsn)
    (sym same) (splits_at key path w i l meta at lsn s)
