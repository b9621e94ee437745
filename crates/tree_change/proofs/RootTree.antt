-- A root split leaves a tree that stands for the same items.
use Rattle.std.proofs.Common.{◌≡◌, ◌≢◌, ◌<◌, ◌≤◌, ◌+◌, ◌-◌, ℕ, zero, suc, Bool, true, false, cond, eqb, List, [], ◌∷◌, ◌++◌, length, map, take, slice_get, Option, Some, None, refl, sym, ap, subst, ◌∙◌, arith, inl, inr}
use Rattle.rm_base.specs.declared.limits.TheConstants.{PAGE_BYTES, PAGE_HEADER_BYTES}
use Rattle.std.specs.Prelude.{◌⊎◌, ◌↔◌, nat_eq, Contains}
use Rattle.std.specs.List.{AllByRecursion, IsDistinct}
use Rattle.std.proofs.lemmas.List.Elements.{recursion_from_All, All-take}
use Rattle.std.proofs.lemmas.Bool.{eq-eqb, ne_eqb}
use Rattle.std.proofs.lemmas.Bool.Decides.{eqb_tells}
use Rattle.page_image.specs.declared.kind.Kind.TheVariants.{Unmade, Meta, Leaf, Inner}
use Rattle.rm_base.specs.Fields.{field}
use Rattle.page_image.specs.declared.meta.TheConstants.{PAGE_COUNT_AT}
use Rattle.page_image.specs.Image.{Image, unmade, used, is_inner, has_body, LevelFits, patched}
use Rattle.page_image.specs.Rules.{IsImage}
use Rattle.page_view.specs.Inner.{InnerItem, inner_bytes}
use Rattle.page_view.specs.Keys.{key_in, keys_of, key_cmp}
use Rattle.redo_record.specs.declared.redo.Record.{Record}
use Rattle.redo_record.specs.Effect.{after_records, RecordsApply}
use Rattle.std.specs.declared.cmp.Ordering.TheVariants.{Less}
use Rattle.page_image.specs.Meta.{IsMeta, page_count}
use Rattle.bplus_tree.specs.Tree.{IsLeafPage, IsInnerPage, Stands, Tree, is_leaf, leaves_of, Linked}
use Rattle.tree_change.specs.Way.{IsWayTo}
use Rattle.tree_change.specs.Places.{page_on}
use Rattle.tree_change.specs.Splits.{IsSplitPlace, right_half, separator, root_split_records, root_split_plan}
use Rattle.tree_change.specs.Pages.{IsTreePage}
use Rattle.tree_change.specs.Effects.{pages_after, MakeGroup, GrowsOn, Counts, Keeps}
use Rattle.tree_change.proofs.ListLaws.{all_weaker}
use Rattle.tree_change.proofs.SortLaws.{all_filter}
use Rattle.tree_change.proofs.EffectLaws.{untouched, none_apply}
use Rattle.tree_change.proofs.EntryLaws.{key_of_entry}
use Rattle.tree_change.proofs.MoveLaws.{used_halves}
use Rattle.tree_change.proofs.PartLaws.{parts_frame}
use Rattle.tree_change.proofs.SpotLaws.{SameAt, stands_frame}
use Rattle.tree_change.proofs.NodeLaws.{IsNode, stands_nodes, Without, distinct_back}
use Rattle.tree_change.proofs.SiteLaws.{own_first}
use Rattle.tree_change.proofs.SplitLaws.{Halves, ascend_at}
use Rattle.tree_change.proofs.SplitEffects.{Apart, IsMade}
use Rattle.tree_change.proofs.SplitTree.{unmade_apart, meta_apart, Halved, halves, tail_same, empty_parts, kept_leaf, dropped_leaf, leaves-append}
use Rattle.tree_change.proofs.SplitKeeps.{right_fits, slotted_node}
use Rattle.tree_change.proofs.MemberLaws.{here, there, two_more, member_has}
use Rattle.tree_change.proofs.GroupLaws.{root_group, counted}
use Rattle.tree_change.proofs.LinkLaws.{distinct_more, filter_same, SameNext, linked_on_same}
use Rattle.tree_change.proofs.RootEffects.{none_root, left_next, on_left, on_right, new_root, on_root, on_root_meta, apply_left, apply_right, apply_root, apply_root_meta}
use Rattle.tree_change.proofs.WayLaws.{at}

pub record RootSetting (key : List ℕ) (path : List Image) (w : IsWayTo key path) (meta : Image) (place : ℕ) : Type 0 where
  pub is_place : IsSplitPlace (w.pages w.root).items place
  pub image : IsImage (w.pages w.root)
  pub low : (w.pages w.root).level < 8
  pub is_meta : IsMeta meta
  pub meta_there : w.pages meta.page ≡ meta
  pub left_there : w.pages (page_count meta) ≡ unmade (page_count meta)
  pub right_there : w.pages (page_count meta + 1) ≡ unmade (page_count meta + 1)
  pub bound : page_count meta + 1 ≤ 32767

abbrev pub root_rs : (key : List ℕ) (path : List Image) (w : IsWayTo key path) (meta : Image) (place : ℕ) → List Record
root_rs key path w meta place = root_split_records (w.pages w.root) place meta

-- the root and the pages below it
pub record Below (key : List ℕ) (path : List Image) (w : IsWayTo key path) : Type 0 where
  pub deep : List ℕ
  pub nodes_are : w.tree.nodes ≡ w.root ∷ deep
  pub node : IsNode w.pages w.root
  pub deep_nodes : AllByRecursion (IsNode w.pages) deep
  pub deep_root : Without w.root deep

pub below : (key : List ℕ) (path : List Image) (w : IsWayTo key path) → Below key path w
below key path w =
    let first = own_first w.pages w.tree.level w.root None None w.items w.tree.nodes w.tree.stands in
    let all : AllByRecursion (IsNode w.pages) (w.root ∷ first.0) =
    subst (AllByRecursion (IsNode w.pages)) first.1 (stands_nodes w.pages w.tree.level w.root None None w.items w.tree.nodes w.tree.stands) in
    let d : IsDistinct nat_eq (w.root ∷ first.0) = subst (IsDistinct nat_eq) first.1 w.tree.apart in
    record { deep = first.0; nodes_are = first.1; node = all.0; deep_nodes = all.1; deep_root = distinct_back [] w.root first.0 d }

kind_at : (pages : ℕ → Image) (p : ℕ) → pages p ≡ unmade p → (pages p).kind ≡ Unmade
kind_at pages p e = ap (λ (o : Image). o.kind) e

no_meta : (pages : ℕ → Image) (p : ℕ) (meta : Image) → pages p ≡ unmade p → pages meta.page ≡ meta → IsMeta meta → p ≢ meta.page
no_meta pages p meta u m is e =
    let h : Unmade ≡ Meta = sym (kind_at pages p u) ∙ ap (λ (q : ℕ). (pages q).kind) e ∙ ap (λ (o : Image). o.kind) m ∙ is.kind in
    cc

meta_kind : (pages : ℕ → Image) (meta : Image) → pages meta.page ≡ meta → IsMeta meta → (pages meta.page).kind ≡ Meta
meta_kind pages meta m is = ap (λ (o : Image). o.kind) m ∙ is.kind

pub root_apart : (key : List ℕ) (path : List Image) (w : IsWayTo key path) (meta : Image) (place : ℕ) → RootSetting key path w meta place
    → Apart (w.pages w.root).page (page_count meta) (page_count meta + 1) meta.page
root_apart key path w meta place s =
    let b = below key path w in
    record {
      ab = λ e. unmade_apart w.pages (page_count meta) w.root (kind_at w.pages (page_count meta) s.left_there) b.node (sym (sym b.node.number ∙ e));
      ac = λ e. unmade_apart w.pages (page_count meta + 1) w.root (kind_at w.pages (page_count meta + 1) s.right_there) b.node (sym (sym b.node.number ∙ e));
      ad = λ e. meta_apart w.pages meta.page w.root (meta_kind w.pages meta s.meta_there s.is_meta) b.node (sym (sym b.node.number ∙ e));
      bc = λ e. omega (arith, e);
      bd = no_meta w.pages (page_count meta) meta s.left_there s.meta_there s.is_meta;
      cd = no_meta w.pages (page_count meta + 1) meta s.right_there s.meta_there s.is_meta;
    }

-- other pages of the tree stay
root_same : (key : List ℕ) (path : List Image) (w : IsWayTo key path) (meta : Image) (place lsn : ℕ) → RootSetting key path w meta place
    → (nodes : List ℕ) → AllByRecursion (IsNode w.pages) nodes → Without w.root nodes → SameAt w.pages (pages_after lsn (root_rs key path w meta place) w.pages) nodes
root_same key path w meta place lsn s [] n r = tt
root_same key path w meta place lsn s (q ∷ nodes) n r =
    let b = below key path w in
    let one = n.0 in (
      untouched lsn (root_rs key path w meta place) (w.pages q)
          (none_root (w.pages w.root) meta place (w.pages q).page
          (λ e. r.0 (sym (sym b.node.number ∙ e ∙ one.number)))
          (λ e. unmade_apart w.pages (page_count meta) q (kind_at w.pages (page_count meta) s.left_there) one (e ∙ one.number))
          (λ e. unmade_apart w.pages (page_count meta + 1) q (kind_at w.pages (page_count meta + 1) s.right_there) one (e ∙ one.number))
          (λ e. meta_apart w.pages meta.page q (meta_kind w.pages meta s.meta_there s.is_meta) one (e ∙ one.number))),
      root_same key path w meta place lsn s nodes n.1 r.1,
    )

-- ---- the root's image at the left page's number

abbrev pub moved : (ℕ → Image) → ℕ → ℕ → ℕ → Image
moved pages root left q = cond (eqb q left) (record (pages root) { page = left }) (pages q)

moved_left : (pages : ℕ → Image) (root left : ℕ) → moved pages root left left ≡ record (pages root) { page = left }
moved_left pages root left = let e : eqb left left ≡ true = eq-eqb left left refl in rw e refl

moved_other : (pages : ℕ → Image) (root left q : ℕ) → q ≢ left → moved pages root left q ≡ pages q
moved_other pages root left q ne = let e : eqb q left ≡ false = ne_eqb q left ne in rw e refl

moved_same : (pages : ℕ → Image) (root left : ℕ) (nodes : List ℕ) → Without left nodes → SameAt pages (moved pages root left) nodes
moved_same pages root left [] w = tt
moved_same pages root left (q ∷ nodes) w = (moved_other pages root left q w.0, moved_same pages root left nodes w.1)

leaf_moved : (im : Image) (root left : ℕ) (low high : Option (List ℕ)) (items : List (List ℕ)) → IsLeafPage im root low high items → IsLeafPage (record im { page = left }) left low high items
leaf_moved im root left low high items h =
    record { kind = h.kind; number = refl; has = h.has; each = h.each; ascend = h.ascend; from = h.from; below = h.below }

inner_moved : (im : Image) (root left level : ℕ) (es : List InnerItem) → IsInnerPage im root level es → IsInnerPage (record im { page = left }) left level es
inner_moved im root left level es h =
    record { kind = h.kind; number = refl; height = h.height; has = h.has; each = h.each; short = h.short; least = h.least; ascend = h.ascend }

stands_moved : (pages : ℕ → Image) (level root left : ℕ) (items : List (List ℕ)) (nodes deep : List ℕ)
    → Stands pages level root None None items nodes → nodes ≡ root ∷ deep → Without left deep → Stands (moved pages root left) level left None None items (left ∷ deep)
stands_moved pages zero root left items nodes deep h are w =
    let none : deep ≡ [] = tail_same root deep [] (sym are ∙ h.1) in (
      subst (λ (o : Image). IsLeafPage o left None None items) (sym (moved_left pages root left)) (leaf_moved (pages root) root left None None items h.0),
      ap (λ (l : List ℕ). left ∷ l) none,
    )
stands_moved pages (suc m) root left items nodes deep h are w =
    let same : h.1 ≡ deep = tail_same root h.1 deep (sym h.4 ∙ are) in
    let w' : Without left h.1 = subst (Without left) (sym same) w in (
      h.0,
      h.1,
      subst (λ (o : Image). IsInnerPage o left (suc m) h.0) (sym (moved_left pages root left)) (inner_moved (pages root) root left (suc m) h.0 h.2),
      parts_frame (Stands pages m) (Stands (moved pages root left) m) (λ q. moved pages root left q ≡ pages q)
          (λ p l k its ns all c. stands_frame pages (moved pages root left) m p l k its ns all c) h.0 None None items h.1 (moved_same pages root left h.1 w') h.3,
      ap (λ (l : List ℕ). left ∷ l) (sym same),
    )

both_same : (pages others virtual : ℕ → Image) (nodes : List ℕ) → SameAt pages others nodes → SameAt pages virtual nodes → SameAt virtual others nodes
both_same pages others virtual [] a b = tt
both_same pages others virtual (q ∷ nodes) a b = (a.0 ∙ sym b.0, both_same pages others virtual nodes a.1 b.1)

-- ---- the halves of the root

without_unmade : (pages : ℕ → Image) (p : ℕ) (nodes : List ℕ) → pages p ≡ unmade p → AllByRecursion (IsNode pages) nodes → Without p nodes
without_unmade pages p nodes u all = all_weaker (IsNode pages) (λ q. q ≢ p) (λ q n e. unmade_apart pages p q (kind_at pages p u) n (sym e)) nodes all

-- the pages of the halves afterwards
pub record Pages (others : ℕ → Image) (im : Image) (left right place : ℕ) : Type 0 where
  pub on_left : IsMade im.kind left im.level (left_next im right) (take place im.items) (others left)
  pub on_right : IsMade im.kind right im.level 0 (right_half im place) (others right)

pub root_pages : (key : List ℕ) (path : List Image) (w : IsWayTo key path) (meta : Image) (place lsn : ℕ) → RootSetting key path w meta place
    → Pages (pages_after lsn (root_rs key path w meta place) w.pages) (w.pages w.root) (page_count meta) (page_count meta + 1) place
root_pages key path w meta place lsn s =
    let im : Image = w.pages w.root in
    let rs : List Record = root_rs key path w meta place in
    let d = root_apart key path w meta place s in
    record {
      on_left = subst (λ (o : Image). IsMade im.kind (page_count meta) im.level (left_next im (page_count meta + 1)) (take place im.items) (after_records lsn rs o)) (sym s.left_there) (on_left im meta place lsn d);
      on_right = subst (λ (o : Image). IsMade im.kind (page_count meta + 1) im.level 0 (right_half im place) (after_records lsn rs o)) (sym s.right_there) (on_right im meta place lsn d);
    }

pub root_halves : (key : List ℕ) (path : List Image) (w : IsWayTo key path) (meta : Image) (place lsn : ℕ) → RootSetting key path w meta place → (b : Below key path w)
    → Halves (pages_after lsn (root_rs key path w meta place) w.pages) w.tree.level (page_count meta) (page_count meta + 1) None None (separator (w.pages w.root) place) w.items (page_count meta ∷ b.deep)
root_halves key path w meta place lsn s b =
    let others : ℕ → Image = pages_after lsn (root_rs key path w meta place) w.pages in
    let left : ℕ = page_count meta in
    let right : ℕ = page_count meta + 1 in
    let im : Image = w.pages w.root in
    let virtual : ℕ → Image = moved w.pages w.root left in
    let here : virtual left ≡ record im { page = left } = moved_left w.pages w.root left in
    let p = root_pages key path w meta place lsn s in
    let away = without_unmade w.pages left b.deep s.left_there b.deep_nodes in
    let stands : Stands virtual w.tree.level left None None w.items (left ∷ b.deep) = stands_moved w.pages w.tree.level w.root left w.items w.tree.nodes b.deep w.tree.stands b.nodes_are away in
    let same : SameAt virtual others b.deep =
    both_same w.pages others virtual b.deep (root_same key path w meta place lsn s b.deep b.deep_nodes b.deep_root) (moved_same w.pages w.root left b.deep away) in
    let h0 : Halved others (record im { page = left }) left right place = record {
      left_kind = p.on_left.kind_is;
      left_number = p.on_left.number;
      left_level = p.on_left.level_is;
      left_items = p.on_left.items_are;
      right_kind = p.on_right.kind_is;
      right_number = p.on_right.number;
      right_level = p.on_right.level_is;
      right_items = p.on_right.items_are;
    } in
    let h : Halved others (virtual left) left right place = subst (λ (o : Image). Halved others o left right place) (sym here) h0 in
    let split : IsSplitPlace (virtual left).items place = subst (λ (o : Image). IsSplitPlace o.items place) (sym here) s.is_place in
    subst (λ (k : List ℕ). Halves others w.tree.level left right None None k w.items (left ∷ b.deep)) (ap (λ (o : Image). separator o place) here)
    (halves virtual others w.tree.level left right place None None w.items (left ∷ b.deep) b.deep stands refl same split h)

-- ---- the tree after a root split

level_of_root : (pages : ℕ → Image) (level root : ℕ) (items : List (List ℕ)) (nodes : List ℕ) → Stands pages level root None None items nodes → IsImage (pages root) → (pages root).level ≡ level
level_of_root pages zero root items nodes h im = subst (λ k. LevelFits k (pages root).level) h.0.kind im.level_fits
level_of_root pages (suc m) root items nodes h im = h.2.height

pub root_stands : (key : List ℕ) (path : List Image) (w : IsWayTo key path) (meta : Image) (place lsn : ℕ) (s : RootSetting key path w meta place) (b : Below key path w)
    (h : Halves (pages_after lsn (root_rs key path w meta place) w.pages) w.tree.level (page_count meta) (page_count meta + 1) None None (separator (w.pages w.root) place) w.items (page_count meta ∷ b.deep))
    → Stands (pages_after lsn (root_rs key path w meta place) w.pages) (suc w.tree.level) w.root None None w.items (w.root ∷ (h.left_nodes ++ h.right_nodes))
root_stands key path w meta place lsn s b h =
    let others : ℕ → Image = pages_after lsn (root_rs key path w meta place) w.pages in
    let im : Image = w.pages w.root in
    let left : ℕ = page_count meta in
    let right : ℕ = page_count meta + 1 in
    let sep : List ℕ = separator im place in
    let e0 : InnerItem = record { key = []; child = left } in
    let e1 : InnerItem = record { key = sep; child = right } in
    let e : others w.root ≡ new_root im place left right lsn = on_root im meta place lsn (root_apart key path w meta place s) in
    let level = level_of_root w.pages w.tree.level w.root w.items w.tree.nodes w.tree.stands s.image in
    let has : (others w.root).items ≡ map inner_bytes (e0 ∷ e1 ∷ []) = ap (λ (o : Image). o.items) e in
    let short = h.short in
    let bound = s.bound in
    let less0 : key_cmp [] (key_in (inner_bytes e1)) ≡ Less = subst (λ (k : List ℕ). key_cmp [] k ≡ Less) (sym (key_of_entry e1)) h.above in
    let less : key_cmp (key_in (inner_bytes e0)) (key_in (inner_bytes e1)) ≡ Less = subst (λ (k : List ℕ). key_cmp k (key_in (inner_bytes e1)) ≡ Less) (sym (key_of_entry e0)) less0 in (
      e0 ∷ e1 ∷ [],
      h.left_nodes ++ h.right_nodes,
      record {
        kind = ap (λ (o : Image). o.kind) e;
        number = ap (λ (o : Image). o.page) e ∙ b.node.number;
        height = (let q = ap (λ (o : Image). o.level) e in omega (arith, q, level));
        has = has;
        each = (record { short_key = omega arith; child = omega (arith, bound) }, (record { short_key = omega (arith, short); child = bound }, tt));
        short = (omega arith, (short, tt));
        least = subst (λ (l : List (List ℕ)). slice_get (keys_of l) 0 ≡ Some []) (sym has) (ap Some (key_of_entry e0));
        ascend = ascend_at (others w.root) (map inner_bytes (e0 ∷ e1 ∷ [])) has ((less, tt), (tt, tt));
      },
      (h.left_items, h.right_items, h.left_nodes, h.right_nodes, h.left, tt, tt, h.right, h.items_are, refl),
      refl,
    )

-- a leaf became two
leaves_two : (others : ℕ → Image) (root left right : ℕ) → (others root).kind ≡ Inner → (others left).kind ≡ Leaf → (others right).kind ≡ Leaf
    → (others left).next ≡ right → 0 < right → (others right).next ≡ 0 → Linked others (leaves_of others (root ∷ (left ∷ (right ∷ []))))
leaves_two others root left right k l r ln some rn =
    subst (Linked others)
    (sym (dropped_leaf others root (left ∷ (right ∷ [])) (ap is_leaf k) ∙ kept_leaf others left (right ∷ []) (ap is_leaf l) ∙ ap (λ (n : List ℕ). left ∷ n) (kept_leaf others right [] (ap is_leaf r))))
    (ln, some, rn)

leaves_same : (pages others : ℕ → Image) (root left right : ℕ) (ol or : List ℕ) → (pages root).kind ≡ Inner → (others root).kind ≡ Inner → (others left).kind ≡ Inner → (others right).kind ≡ Inner
    → SameAt pages others (ol ++ or) → Linked pages (leaves_of pages (root ∷ (ol ++ or))) → Linked others (leaves_of others (root ∷ (left ∷ (ol ++ (right ∷ or)))))
leaves_same pages others root left right ol or k0 k l r same linked =
    let old : Linked pages (leaves_of pages (ol ++ or)) = subst (Linked pages) (dropped_leaf pages root (ol ++ or) (ap is_leaf k0)) linked in
    let kinds = all_weaker (λ q. others q ≡ pages q) (λ q. is_leaf (others q).kind ≡ is_leaf (pages q).kind) (λ q e. ap (λ (o : Image). is_leaf o.kind) e) (ol ++ or) same in
    let nexts : SameNext pages others (ol ++ or) = all_weaker (λ q. others q ≡ pages q) (λ q. (others q).next ≡ (pages q).next) (λ q e. ap (λ (o : Image). o.next) e) (ol ++ or) same in
    let now : leaves_of others (root ∷ (left ∷ (ol ++ (right ∷ or)))) ≡ leaves_of pages (ol ++ or) =
    dropped_leaf others root (left ∷ (ol ++ (right ∷ or))) (ap is_leaf k)
    ∙ dropped_leaf others left (ol ++ (right ∷ or)) (ap is_leaf l)
    ∙ leaves-append others ol (right ∷ or)
    ∙ ap (λ (n : List ℕ). leaves_of others ol ++ n) (dropped_leaf others right or (ap is_leaf r))
    ∙ sym (leaves-append others ol or)
    ∙ filter_same (λ q. is_leaf (others q).kind) (λ q. is_leaf (pages q).kind) (ol ++ or) kinds in
    subst (Linked others) (sym now)
    (linked_on_same pages others (leaves_of pages (ol ++ or)) (all_filter (λ q. (others q).next ≡ (pages q).next) (λ q. is_leaf (pages q).kind) (ol ++ or) nexts) old)

-- which of the two it is goes by the level
root_linked : (pages others : ℕ → Image) (level root left right place : ℕ) (items : List (List ℕ)) (nodes deep ol or : List ℕ)
    → Stands pages level root None None items nodes → nodes ≡ root ∷ deep → deep ≡ ol ++ or → Linked pages (leaves_of pages nodes) → SameAt pages others deep
    → (others root).kind ≡ Inner → Pages others (pages root) left right place → 0 < right
    → Linked others (leaves_of others (root ∷ (left ∷ (ol ++ (right ∷ or)))))
root_linked pages others zero root left right place items nodes deep ol or h are deep_is linked same k p some =
    let none : [] ≡ deep = tail_same root [] deep (sym h.1 ∙ are) in
    let e = empty_parts ol or (none ∙ deep_is) in
    let outer : is_inner (pages root).kind ≡ false = ap is_inner h.0.kind in
    let next : (others left).next ≡ right = p.on_left.next_is ∙ ap (λ (b : Bool). cond b 0 right) outer in
    subst (λ (o : List ℕ). Linked others (leaves_of others (root ∷ (left ∷ (o ++ (right ∷ or)))))) (sym e.0)
    (subst (λ (o : List ℕ). Linked others (leaves_of others (root ∷ (left ∷ (right ∷ o))))) (sym e.1)
    (leaves_two others root left right k (p.on_left.kind_is ∙ h.0.kind) (p.on_right.kind_is ∙ h.0.kind) next some p.on_right.next_is))
root_linked pages others (suc m) root left right place items nodes deep ol or h are deep_is linked same k p some =
    leaves_same pages others root left right ol or h.2.kind k (p.on_left.kind_is ∙ h.2.kind) (p.on_right.kind_is ∙ h.2.kind)
    (subst (SameAt pages others) deep_is same)
    (subst (λ (n : List ℕ). Linked pages (leaves_of pages n)) (are ∙ ap (λ (d : List ℕ). root ∷ d) deep_is) linked)

pub root_tree : (key : List ℕ) (path : List Image) (w : IsWayTo key path) (meta : Image) (place lsn : ℕ) → RootSetting key path w meta place
    → GrowsOn (pages_after lsn (root_rs key path w meta place) w.pages) w.root w.items w.tree.nodes (page_count meta ∷ (page_count meta + 1) ∷ [])
root_tree key path w meta place lsn s =
    let others : ℕ → Image = pages_after lsn (root_rs key path w meta place) w.pages in
    let im : Image = w.pages w.root in
    let left : ℕ = page_count meta in
    let right : ℕ = page_count meta + 1 in
    let b = below key path w in
    let h = root_halves key path w meta place lsn s b in
    let ol : List ℕ = h.old_left in
    let or' : List ℕ = h.old_right in
    let deep_is : b.deep ≡ ol ++ or' = tail_same left b.deep (ol ++ or') h.nodes_were in
    let stands0 = root_stands key path w meta place lsn s b h in
    let stands : Stands others (suc w.tree.level) w.root None None w.items (w.root ∷ (left ∷ (ol ++ (right ∷ or')))) =
    subst (λ (n : List ℕ). Stands others (suc w.tree.level) w.root None None w.items (w.root ∷ n)) h.nodes_are stands0 in
    let level = level_of_root w.pages w.tree.level w.root w.items w.tree.nodes w.tree.stands s.image in
    let low = s.low in
    let e : others w.root ≡ new_root im place left right lsn = on_root im meta place lsn (root_apart key path w meta place s) in
    let deep_nodes : AllByRecursion (IsNode w.pages) (ol ++ or') = subst (AllByRecursion (IsNode w.pages)) deep_is b.deep_nodes in
    let all : AllByRecursion (IsNode w.pages) (w.root ∷ (ol ++ or')) = (b.node, deep_nodes) in
    let no_left = without_unmade w.pages left (w.root ∷ (ol ++ or')) s.left_there all in
    let no_right = without_unmade w.pages right (w.root ∷ (ol ++ or')) s.right_there all in
    let d0 : IsDistinct nat_eq (w.root ∷ (ol ++ or')) = subst (IsDistinct nat_eq) (b.nodes_are ∙ ap (λ (n : List ℕ). w.root ∷ n) deep_is) w.tree.apart in
    let d1 : IsDistinct nat_eq (w.root ∷ (left ∷ (ol ++ or'))) = distinct_more (w.root ∷ []) (ol ++ or') left d0 no_left in
    let ne : left ≢ right = λ q. omega (arith, q) in
    let d2 : IsDistinct nat_eq ((w.root ∷ (left ∷ ol)) ++ (right ∷ or')) = distinct_more (w.root ∷ (left ∷ ol)) or' right d1 (no_right.0, (ne, no_right.1)) in
    let tree : Tree others w.root w.items = record {
      level = suc w.tree.level;
      nodes = w.root ∷ (left ∷ (ol ++ (right ∷ or')));
      low_enough = omega (arith, level, low);
      stands = stands;
      linked = root_linked w.pages others w.tree.level w.root left right place w.items w.tree.nodes b.deep ol or' w.tree.stands b.nodes_are deep_is w.tree.linked
          (root_same key path w meta place lsn s b.deep b.deep_nodes b.deep_root) (ap (λ (o : Image). o.kind) e) (root_pages key path w meta place lsn s) (omega arith);
      apart = d2;
    } in
    let before : w.tree.nodes ≡ w.root ∷ (ol ++ or') = b.nodes_are ∙ ap (λ (n : List ℕ). w.root ∷ n) deep_is in
    record {
      tree = tree;
      nodes_are = λ q.
          subst (λ (n : List ℕ). Contains (w.root ∷ (left ∷ (ol ++ (right ∷ or')))) q ↔ (Contains n q ⊎ Contains (left ∷ right ∷ []) q)) (sym before)
          (two_more (w.root ∷ []) ol or' left right q);
    }

-- ---- the records apply

pub root_applies : (key : List ℕ) (path : List Image) (w : IsWayTo key path) (meta : Image) (place lsn : ℕ) → RootSetting key path w meta place
    → (page : ℕ) → (w.pages page).page ≡ page → RecordsApply lsn (root_rs key path w meta place) (w.pages page)
root_applies key path w meta place lsn s page number =
    let im : Image = w.pages w.root in
    let rs : List Record = root_rs key path w meta place in
    let left : ℕ = page_count meta in
    let right : ℕ = page_count meta + 1 in
    let b = below key path w in
    let d = root_apart key path w meta place s in
    let node = slotted_node w.pages w.root b.node in
    let fits = right_fits im place s.image in
    let each : AllByRecursion (λ x. 1 ≤ length x) (take place im.items) =
    recursion_from_All (λ x. 1 ≤ length x) (take place im.items) (All-take (λ x. 1 ≤ length x) place im.items s.image.some_bytes) in
    let room : used (take place im.items) ≤ PAGE_BYTES - PAGE_HEADER_BYTES = (let u = used_halves place im.items in let r = s.image.room in omega (arith, u, r)) in
    let h = root_halves key path w meta place lsn s b in
    let short = h.short in
    elim (eqb_tells page w.root) [
      | inl own ↦ subst (λ (p : ℕ). RecordsApply lsn rs (w.pages p)) (sym own.1) (apply_root im meta place lsn d b.node.kind node.0 s.low short)
      | inr n1 ↦ elim (eqb_tells page left) [
        | inl own ↦ subst (λ (p : ℕ). RecordsApply lsn rs (w.pages p)) (sym own.1)
            (subst (λ (o : Image). RecordsApply lsn rs o) (sym s.left_there) (apply_left im meta place lsn d node.1 s.image.level_fits node.0 each room s.bound))
        | inr n2 ↦ elim (eqb_tells page right) [
          | inl own ↦ subst (λ (p : ℕ). RecordsApply lsn rs (w.pages p)) (sym own.1)
              (subst (λ (o : Image). RecordsApply lsn rs o) (sym s.right_there) (apply_right im meta place lsn d node.1 s.image.level_fits node.0 fits.0 fits.1))
          | inr n3 ↦ elim (eqb_tells page meta.page) [
            | inl own ↦ subst (λ (p : ℕ). RecordsApply lsn rs (w.pages p)) (sym own.1)
                (subst (λ (o : Image). RecordsApply lsn rs o) (sym s.meta_there) (apply_root_meta im meta place lsn d s.is_meta.kind))
            | inr n4 ↦ none_apply lsn rs (w.pages page) (none_root im meta place (w.pages page).page
                (λ e. n1.1 (sym (sym b.node.number ∙ e ∙ number)))
                (λ e. n2.1 (sym (e ∙ number)))
                (λ e. n3.1 (sym (e ∙ number)))
                (λ e. n4.1 (sym (e ∙ number))))
          ]
        ]
      ]
    ]

pub root_is : (key : List ℕ) (path : List Image) (w : IsWayTo key path) → page_on path 0 ≡ w.pages w.root
root_is key path w =
    let a = at key path w 0 w.tree.level (omega arith) in
    a.is ∙ ap w.pages (sym a.down.1)

pub root_keeps : (key : List ℕ) (path : List Image) (place : ℕ) (meta : Image) → IsSplitPlace (page_on path 0).items place → IsTreePage (page_on path 0)
    → IsImage (page_on path 0) → (page_on path 0).level < 8 → IsMeta meta → IsImage meta → page_count meta + 1 ≤ 32767
    → Keeps key path meta (root_split_plan (page_on path 0) place meta)
root_keeps key path place meta is_place page_is image low is_meta meta_image bound =
    let left : ℕ = page_count meta in
    let right : ℕ = page_count meta + 1 in
    record {
      group = group;
      only = λ lsn im ne. untouched lsn (root_split_records (page_on path 0) place meta) im (none_root (page_on path 0) meta place im.page ne.0 ne.1.0 ne.1.1.0 ne.1.1.1.0);
      within = within;
      made = record { some = omega arith; next = ((omega arith, omega arith), ((omega arith, omega arith), tt)); bound = omega arith };
      applies = λ w fresh lsn page number.
          subst (λ (r : List Record). RecordsApply lsn r (w.pages page)) (sym (same w))
          (root_applies key path w meta place lsn (setting w fresh.meta_is fresh.unmade.0 fresh.unmade.1.0) page number);
      stands = λ w fresh lsn.
          subst (λ (r : List Record). GrowsOn (pages_after lsn r w.pages) w.root w.items w.tree.nodes (left ∷ right ∷ [])) (sym (same w))
          (root_tree key path w meta place lsn (setting w fresh.meta_is fresh.unmade.0 fresh.unmade.1.0));
      counts = λ w fresh lsn.
          let s = setting w fresh.meta_is fresh.unmade.0 fresh.unmade.1.0 in
          let after : pages_after lsn (root_rs key path w meta place) w.pages meta.page ≡ patched meta PAGE_COUNT_AT (field 4 (right + 1)) lsn =
          ap (after_records lsn (root_rs key path w meta place)) fresh.meta_is ∙ on_root_meta (w.pages w.root) meta place lsn (root_apart key path w meta place s) in
          let whole = meta_image.whole_body (ap has_body is_meta.kind) in
          let done : Counts (patched meta PAGE_COUNT_AT (field 4 (right + 1)) lsn) (right + 1) = counted meta (right + 1) lsn is_meta whole (omega arith) in
          let sum : right + 1 ≡ page_count meta + 2 = omega arith in
          subst (λ (r : List Record). Counts (pages_after lsn r w.pages meta.page) (page_count meta + 2)) (sym (same w))
          (subst (λ (o : Image). Counts o (page_count meta + 2)) (sym after) (subst (Counts (patched meta PAGE_COUNT_AT (field 4 (right + 1)) lsn)) sum done));
    }
  where
    root : Image
    root = page_on path 0

    group : MakeGroup (root_split_records (page_on path 0) place meta)
    group =
        let front : AllByRecursion (λ x. 1 ≤ length x) (take place root.items) =
        recursion_from_All (λ x. 1 ≤ length x) (take place root.items) (All-take (λ x. 1 ≤ length x) place root.items image.some_bytes) in
        let room : used (take place root.items) ≤ PAGE_BYTES - PAGE_HEADER_BYTES = (let u = used_halves place root.items in let r = image.room in omega (arith, u, r)) in
        let back = right_fits root place image in
        root_group root meta place page_is is_place.within image.level_fits low front room back.0 back.1 bound

    within : (w : IsWayTo key path) (page : ℕ) → Contains (root_split_plan (page_on path 0) place meta).pages page
        → Contains w.tree.nodes page ⊎ (Contains (root_split_plan (page_on path 0) place meta).made page ⊎ (page ≡ meta.page))
    within w page c =
        let b = below key path w in
        let left : ℕ = page_count meta in
        let right : ℕ = page_count meta + 1 in
        let number : root.page ≡ w.root = ap (λ (o : Image). o.page) (root_is key path w) ∙ b.node.number in
        let own : Contains w.tree.nodes root.page =
        subst (Contains w.tree.nodes) (sym number) (subst (λ (n : List ℕ). Contains n w.root) (sym b.nodes_are) (here w.root b.deep)) in
        member_has (λ q. Contains w.tree.nodes q ⊎ (Contains (left ∷ right ∷ []) q ⊎ (q ≡ meta.page))) (root.page ∷ left ∷ right ∷ meta.page ∷ []) page
        (inl own, (inr (inl (here left (right ∷ []))), (inr (inl (there left right (right ∷ []) (here right []))), (inr (inr refl), tt)))) c

    same : (w : IsWayTo key path) → root_split_records (page_on path 0) place meta ≡ root_rs key path w meta place
    same w = ap (λ (o : Image). root_split_records o place meta) (root_is key path w)

    setting : (w : IsWayTo key path) → w.pages meta.page ≡ meta → w.pages (page_count meta) ≡ unmade (page_count meta) → w.pages (page_count meta + 1) ≡ unmade (page_count meta + 1) → RootSetting key path w meta place
    setting w m l r =
        let e = root_is key path w in
        record {
          is_place = subst (λ (o : Image). IsSplitPlace o.items place) e is_place;
          image = subst IsImage e image;
          low = subst (λ (o : Image). o.level < 8) e low;
          is_meta = is_meta;
          meta_there = m;
          left_there = l;
          right_there = r;
          bound = bound;
        }
