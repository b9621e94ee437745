-- A split below the root leaves a tree that stands for the same items.
use Rattle.std.proofs.Common.{◌≡◌, ◌≢◌, ◌<◌, ◌≤◌, ◌+◌, ℕ, zero, suc, Bool, true, false, cond, List, [], ◌∷◌, ◌++◌, length, map, take, drop, get_or, Option, None, refl, sym, ap, subst, ◌∙◌, arith, inl, inr}
use Rattle.rm_base.specs.declared.limits.TheConstants.{MAX_KEY_BYTES}
use Rattle.std.specs.Prelude.{◌⊎◌, ◌↔◌, nat_eq, Contains}
use Rattle.std.specs.List.{AllByRecursion, IsDistinct}
use Rattle.std.proofs.lemmas.List.{take-append-drop, drop_more, append_assoc, map-append, length-map, take_at, drop_at, get_or_at}
use Rattle.std.proofs.lemmas.List.Elements.{filter-append}
use Rattle.std.proofs.lemmas.Bool.Decides.{eqb_tells}
use Rattle.page_image.specs.Meta.{IsMeta, page_count}
use Rattle.page_image.specs.declared.kind.Kind.TheVariants.{Unmade, Meta, Leaf, Inner}
use Rattle.page_image.specs.Image.{Image, unmade, is_inner, inserted, cut_from, linked}
use Rattle.page_view.specs.Inner.{InnerItem, inner_bytes}
use Rattle.page_view.specs.Keys.{key_in}
use Rattle.redo_record.specs.declared.redo.Record.{Record}
use Rattle.redo_record.specs.Effect.{after_records}
use Rattle.bplus_tree.specs.Tree.{IsLeafPage, IsInnerPage, Parts, Stands, Tree, is_leaf, leaves_of, Linked}
use Rattle.tree_change.specs.Way.{IsWayTo}
use Rattle.tree_change.specs.Places.{not_greater}
use Rattle.tree_change.specs.Splits.{IsSplitPlace, right_half, first_without_key, separator, entry_of, split_records}
use Rattle.tree_change.specs.Effects.{pages_after, GrowsOn}
use Rattle.tree_change.proofs.ListLaws.{all_front, all_back, all_join, all_weaker}
use Rattle.tree_change.proofs.SortLaws.{all_filter}
use Rattle.tree_change.proofs.EffectLaws.{untouched}
use Rattle.tree_change.proofs.EntryLaws.{key_of_entry}
use Rattle.tree_change.proofs.SpotLaws.{SameAt}
use Rattle.tree_change.proofs.NodeLaws.{IsNode, Without}
use Rattle.tree_change.proofs.SplitLaws.{Halves, leaf_parts, inner_parts, without_first_key}
use Rattle.tree_change.proofs.ParentLaws.{entry_joins, parent_stands}
use Rattle.tree_change.proofs.SplitEffects.{Apart, on_new, on_parent, on_page, linked_page, none_else}
use Rattle.tree_change.proofs.SiteLaws.{Site, Around}
use Rattle.tree_change.proofs.MemberLaws.{one_more}
use Rattle.tree_change.proofs.LinkLaws.{distinct_more, filter_same, SameNext, linked_on_same, linked_more}

-- ---- pages of other kinds are no pages of a tree

pub unmade_apart : (pages : ℕ → Image) (p q : ℕ) → (pages p).kind ≡ Unmade → IsNode pages q → p ≢ q
unmade_apart pages p q u n e =
    let k : (pages q).kind ≡ Unmade = subst (λ (r : ℕ). (pages r).kind ≡ Unmade) e u in
    by_kind n.kind k
  where
    by_kind : ((pages q).kind ≡ Leaf) ⊎ ((pages q).kind ≡ Inner) → (pages q).kind ≡ Unmade → ⊥
    by_kind (inl l) k = let h : Leaf ≡ Unmade = sym l ∙ k in cc
    by_kind (inr i) k = let h : Inner ≡ Unmade = sym i ∙ k in cc

pub meta_apart : (pages : ℕ → Image) (p q : ℕ) → (pages p).kind ≡ Meta → IsNode pages q → p ≢ q
meta_apart pages p q u n e =
    let k : (pages q).kind ≡ Meta = subst (λ (r : ℕ). (pages r).kind ≡ Meta) e u in
    by_kind n.kind k
  where
    by_kind : ((pages q).kind ≡ Leaf) ⊎ ((pages q).kind ≡ Inner) → (pages q).kind ≡ Meta → ⊥
    by_kind (inl l) k = let h : Leaf ≡ Meta = sym l ∙ k in cc
    by_kind (inr i) k = let h : Inner ≡ Meta = sym i ∙ k in cc

-- ---- the setting of a split

pub record Setting (key : List ℕ) (path : List Image) (w : IsWayTo key path) (i l : ℕ) (meta : Image) (at : ℕ) : Type 0 where
  pub site : Site key path w i l
  pub around : Around key path w i l site
  pub place : IsSplitPlace (w.pages site.page).items at
  pub is_meta : IsMeta meta
  pub meta_there : w.pages meta.page ≡ meta
  pub new_there : w.pages (page_count meta) ≡ unmade (page_count meta)
  pub new_bound : page_count meta ≤ 32767

abbrev pub rs_of : (key : List ℕ) (path : List Image) (w : IsWayTo key path) (i l : ℕ) (meta : Image) (at : ℕ) → Setting key path w i l meta at → List Record
rs_of key path w i l meta at s = split_records key (w.pages s.site.parent) (w.pages s.site.page) at meta

pub kind_of_new : (key : List ℕ) (path : List Image) (w : IsWayTo key path) (i l : ℕ) (meta : Image) (at : ℕ) (s : Setting key path w i l meta at) → (w.pages (page_count meta)).kind ≡ Unmade
kind_of_new key path w i l meta at s = ap (λ (im : Image). im.kind) s.new_there

pub kind_of_meta : (key : List ℕ) (path : List Image) (w : IsWayTo key path) (i l : ℕ) (meta : Image) (at : ℕ) (s : Setting key path w i l meta at) → (w.pages meta.page).kind ≡ Meta
kind_of_meta key path w i l meta at s = ap (λ (im : Image). im.kind) s.meta_there ∙ s.is_meta.kind

pub new_not_meta : (key : List ℕ) (path : List Image) (w : IsWayTo key path) (i l : ℕ) (meta : Image) (at : ℕ) (s : Setting key path w i l meta at) → page_count meta ≢ meta.page
new_not_meta key path w i l meta at s e =
    let h : Unmade ≡ Meta = sym (kind_of_new key path w i l meta at s) ∙ ap (λ (p : ℕ). (w.pages p).kind) e ∙ kind_of_meta key path w i l meta at s in
    cc

pub four_apart : (key : List ℕ) (path : List Image) (w : IsWayTo key path) (i l : ℕ) (meta : Image) (at : ℕ) (s : Setting key path w i l meta at)
    → Apart (w.pages s.site.parent).page (w.pages s.site.page).page (page_count meta) meta.page
four_apart key path w i l meta at s =
    let p = s.around.parent_node in
    let c = s.around.page_node in
    let new = unmade_apart w.pages (page_count meta) in
    record {
      ab = λ e. s.around.apart (sym p.number ∙ e ∙ c.number);
      ac = λ e. unmade_apart w.pages (page_count meta) s.site.parent (kind_of_new key path w i l meta at s) p (sym (sym p.number ∙ e));
      ad = λ e. meta_apart w.pages meta.page s.site.parent (kind_of_meta key path w i l meta at s) p (sym (sym p.number ∙ e));
      bc = λ e. unmade_apart w.pages (page_count meta) s.site.page (kind_of_new key path w i l meta at s) c (sym (sym c.number ∙ e));
      bd = λ e. meta_apart w.pages meta.page s.site.page (kind_of_meta key path w i l meta at s) c (sym (sym c.number ∙ e));
      cd = new_not_meta key path w i l meta at s;
    }

-- other pages of the tree stay
pub same_else : (key : List ℕ) (path : List Image) (w : IsWayTo key path) (i l : ℕ) (meta : Image) (at lsn : ℕ) (s : Setting key path w i l meta at)
    → (q : ℕ) → IsNode w.pages q → q ≢ s.site.parent → q ≢ s.site.page → pages_after lsn (rs_of key path w i l meta at s) w.pages q ≡ w.pages q
same_else key path w i l meta at lsn s q n np nc =
    untouched lsn (rs_of key path w i l meta at s) (w.pages q)
    (none_else key (w.pages s.site.parent) (w.pages s.site.page) meta at (w.pages q).page
    (λ e. np (sym (sym s.around.parent_node.number ∙ e ∙ n.number)))
    (λ e. nc (sym (sym s.around.page_node.number ∙ e ∙ n.number)))
    (λ e. unmade_apart w.pages (page_count meta) q (kind_of_new key path w i l meta at s) n (e ∙ n.number))
    (λ e. meta_apart w.pages meta.page q (kind_of_meta key path w i l meta at s) n (e ∙ n.number)))

pub same_list : (key : List ℕ) (path : List Image) (w : IsWayTo key path) (i l : ℕ) (meta : Image) (at lsn : ℕ) (s : Setting key path w i l meta at)
    → (nodes : List ℕ) → AllByRecursion (IsNode w.pages) nodes → Without s.site.parent nodes → Without s.site.page nodes
    → SameAt w.pages (pages_after lsn (rs_of key path w i l meta at s) w.pages) nodes
same_list key path w i l meta at lsn s [] n p c = tt
same_list key path w i l meta at lsn s (q ∷ nodes) n p c =
    (same_else key path w i l meta at lsn s q n.0 p.0 c.0, same_list key path w i l meta at lsn s nodes n.1 p.1 c.1)

-- ---- the halves

-- a list at a place past its first item
pub record CutAt (items : List (List ℕ)) (at : ℕ) : Type 0 where
  pub a : List ℕ
  pub front : List (List ℕ)
  pub b : List ℕ
  pub back : List (List ℕ)
  pub are : items ≡ (a ∷ front) ++ (b ∷ back)
  pub taken : take at items ≡ a ∷ front
  pub dropped : drop at items ≡ b ∷ back
  pub here : get_or items at [] ≡ b

pub cut_at : (items : List (List ℕ)) (at : ℕ) → IsSplitPlace items at → CutAt items at
cut_at [] at p = absurd (let h = p.within in omega (arith, h))
cut_at (x ∷ items) zero p = absurd (let h = p.some in omega (arith, h))
cut_at (x ∷ items) (suc at) p =
    let within : at < length items = (let h = p.within in omega (arith, h)) in
    record {
      a = x;
      front = take at items;
      b = get_or items at [];
      back = drop (at + 1) items;
      are = ap (λ (l : List (List ℕ)). x ∷ l) (sym (take-append-drop at items) ∙ ap (λ (l : List (List ℕ)). take at items ++ l) (drop_more items at [] within));
      taken = refl;
      dropped = drop_more items at [] within;
      here = refl;
    }

-- what the page and the new page are afterwards
pub record After (others : ℕ → Image) (im : Image) (page new at : ℕ) : Type 0 where
  pub left_kind : (others page).kind ≡ im.kind
  pub left_number : (others page).page ≡ im.page
  pub left_level : (others page).level ≡ im.level
  pub left_items : (others page).items ≡ take at im.items
  pub left_next : is_inner im.kind ≡ false → (others page).next ≡ new
  pub left_stays : is_inner im.kind ≡ true → (others page).next ≡ im.next
  pub right_kind : (others new).kind ≡ im.kind
  pub right_number : (others new).page ≡ new
  pub right_level : (others new).level ≡ im.level
  pub right_items : (others new).items ≡ right_half im at
  pub right_next : (others new).next ≡ im.next

-- the same, without their links
pub record Halved (others : ℕ → Image) (im : Image) (page new at : ℕ) : Type 0 where
  pub left_kind : (others page).kind ≡ im.kind
  pub left_number : (others page).page ≡ page
  pub left_level : (others page).level ≡ im.level
  pub left_items : (others page).items ≡ take at im.items
  pub right_kind : (others new).kind ≡ im.kind
  pub right_number : (others new).page ≡ new
  pub right_level : (others new).level ≡ im.level
  pub right_items : (others new).items ≡ right_half im at

pub halved : (others : ℕ → Image) (im : Image) (page new at : ℕ) → im.page ≡ page → After others im page new at → Halved others im page new at
halved others im page new at number a = record {
  left_kind = a.left_kind;
  left_number = a.left_number ∙ number;
  left_level = a.left_level;
  left_items = a.left_items;
  right_kind = a.right_kind;
  right_number = a.right_number;
  right_level = a.right_level;
  right_items = a.right_items;
}

cut_linked : (im : Image) (new at lsn : ℕ) (om : Image) → om ≡ cut_from (linked_page im new lsn) at lsn
    → (om.kind ≡ im.kind) × (om.page ≡ im.page) × (om.level ≡ im.level) × (om.items ≡ take at im.items) × (is_inner im.kind ≡ false → om.next ≡ new) × (is_inner im.kind ≡ true → om.next ≡ im.next)
cut_linked im new at lsn om e = by_test (is_inner im.kind) refl
  where
    by_test : (b : Bool) → is_inner im.kind ≡ b
        → (om.kind ≡ im.kind) × (om.page ≡ im.page) × (om.level ≡ im.level) × (om.items ≡ take at im.items) × (is_inner im.kind ≡ false → om.next ≡ new) × (is_inner im.kind ≡ true → om.next ≡ im.next)
    by_test true t =
        let is : om ≡ cut_from im at lsn = e ∙ ap (λ (b : Bool). cut_from (cond b im (linked im new lsn)) at lsn) t in (
          ap (λ (o : Image). o.kind) is,
          ap (λ (o : Image). o.page) is,
          ap (λ (o : Image). o.level) is,
          ap (λ (o : Image). o.items) is,
          (λ f. absurd (let h : true ≡ false = sym t ∙ f in cc)),
          (λ _. ap (λ (o : Image). o.next) is),
        )
    by_test false t =
        let is : om ≡ cut_from (linked im new lsn) at lsn = e ∙ ap (λ (b : Bool). cut_from (cond b im (linked im new lsn)) at lsn) t in (
          ap (λ (o : Image). o.kind) is,
          ap (λ (o : Image). o.page) is,
          ap (λ (o : Image). o.level) is,
          ap (λ (o : Image). o.items) is,
          (λ _. ap (λ (o : Image). o.next) is),
          (λ f. absurd (let h : false ≡ true = sym t ∙ f in cc)),
        )

pub after_split : (key : List ℕ) (path : List Image) (w : IsWayTo key path) (i l : ℕ) (meta : Image) (at lsn : ℕ) (s : Setting key path w i l meta at)
    → After (pages_after lsn (rs_of key path w i l meta at s) w.pages) (w.pages s.site.page) s.site.page (page_count meta) at
after_split key path w i l meta at lsn s =
    let others : ℕ → Image = pages_after lsn (rs_of key path w i l meta at s) w.pages in
    let parent = w.pages s.site.parent in
    let im : Image = w.pages s.site.page in
    let d = four_apart key path w i l meta at s in
    let cut = cut_linked im (page_count meta) at lsn (others s.site.page) (on_page key parent im meta at lsn d) in
    let m = on_new key parent im meta at lsn d in
    let e : others (page_count meta) ≡ after_records lsn (rs_of key path w i l meta at s) (unmade (page_count meta)) = ap (after_records lsn (rs_of key path w i l meta at s)) s.new_there in
    record {
      left_kind = cut.0;
      left_number = cut.1;
      left_level = cut.2;
      left_items = cut.3;
      left_next = cut.4;
      left_stays = cut.5;
      right_kind = ap (λ (o : Image). o.kind) e ∙ m.kind_is;
      right_number = ap (λ (o : Image). o.page) e ∙ m.number;
      right_level = ap (λ (o : Image). o.level) e ∙ m.level_is;
      right_items = ap (λ (o : Image). o.items) e ∙ m.items_are;
      right_next = ap (λ (o : Image). o.next) e ∙ m.next_is;
    }

-- ---- the halves stand for their parts

pub record CutEntries (es : List InnerItem) (at : ℕ) : Type 0 where
  pub x : InnerItem
  pub us : List InnerItem
  pub y : InnerItem
  pub vs : List InnerItem
  pub are : es ≡ (x ∷ us) ++ (y ∷ vs)
  pub count : length (x ∷ us) ≡ at

cut_tail : (x : InnerItem) (es : List InnerItem) (at : ℕ) → at < length es → CutEntries (x ∷ es) (suc at)
cut_tail x [] at h = absurd (omega arith)
cut_tail x (y ∷ es) zero h = record { x = x; us = []; y = y; vs = es; are = refl; count = refl }
cut_tail x (y ∷ es) (suc at) h =
    let c = cut_tail y es at (omega arith) in
    record {
      x = x;
      us = c.x ∷ c.us;
      y = c.y;
      vs = c.vs;
      are = ap (λ (l : List InnerItem). x ∷ l) c.are;
      count = ap suc c.count;
    }

pub cut_entries : (es : List InnerItem) (at : ℕ) → 1 ≤ at → at < length es → CutEntries es at
cut_entries [] at some h = absurd (omega arith)
cut_entries (x ∷ es) zero some h = absurd (omega arith)
cut_entries (x ∷ es) (suc at) some h = cut_tail x es at (omega arith)

-- the items of the entries, at the place where they are cut
pub record CutItems (im : Image) (at : ℕ) (x : InnerItem) (us : List InnerItem) (y : InnerItem) (vs : List InnerItem) : Type 0 where
  pub taken : take at im.items ≡ map inner_bytes (x ∷ us)
  pub right : right_half im at ≡ entry_of [] y.child ∷ map inner_bytes vs
  pub sep : separator im at ≡ y.key

pub cut_items : (im : Image) (at : ℕ) (x : InnerItem) (us : List InnerItem) (y : InnerItem) (vs : List InnerItem)
    → im.kind ≡ Inner → im.items ≡ map inner_bytes ((x ∷ us) ++ (y ∷ vs)) → length (x ∷ us) ≡ at → CutItems im at x us y vs
cut_items im at x us y vs kind has count =
    let front : List (List ℕ) = map inner_bytes (x ∷ us) in
    let back : List (List ℕ) = map inner_bytes (y ∷ vs) in
    let are : im.items ≡ front ++ back = has ∙ map-append inner_bytes (x ∷ us) (y ∷ vs) in
    let long : length front ≡ at = length-map (x ∷ us) inner_bytes ∙ count in
    let dropped : drop at im.items ≡ back = ap (drop at) are ∙ drop_at front back at long in
    let inner : is_inner im.kind ≡ true = ap is_inner kind in
    record {
      taken = ap (take at) are ∙ take_at front back at long;
      right = (rw inner (ap first_without_key dropped ∙ ap (λ (k : List ℕ). k ∷ map inner_bytes vs) (without_first_key y)));
      sep = ap (λ (l : List (List ℕ)). key_in (get_or l at [])) are ∙ ap key_in (get_or_at front (inner_bytes y) (map inner_bytes vs) [] at long) ∙ key_of_entry y;
    }

leaf_halves : (pages others : ℕ → Image) (page new at : ℕ) (lo hi : Option (List ℕ)) (mid : List (List ℕ)) (own : List ℕ)
    → Stands pages zero page lo hi mid own → IsSplitPlace (pages page).items at → Halved others (pages page) page new at
    → Halves others zero page new lo hi (separator (pages page) at) mid own
leaf_halves pages others page new at lo hi mid own h place a =
    let im : Image = pages page in
    let c : CutAt im.items at = cut_at im.items at place in
    let mid_is : mid ≡ (c.a ∷ c.front) ++ (c.b ∷ c.back) = sym h.0.has ∙ c.are in
    let leaf : IsLeafPage im page lo hi ((c.a ∷ c.front) ++ (c.b ∷ c.back)) = subst (IsLeafPage im page lo hi) mid_is h.0 in
    let outer : is_inner im.kind ≡ false = ap is_inner h.0.kind in
    let right : right_half im at ≡ c.b ∷ c.back = (rw outer c.dropped) in
    let built : Halves others zero page new lo hi (key_in c.b) ((c.a ∷ c.front) ++ (c.b ∷ c.back)) (page ∷ []) =
    leaf_parts others page new lo hi c.a c.front c.b c.back im leaf
    (a.left_kind ∙ h.0.kind) a.left_number (a.left_items ∙ c.taken) (a.right_kind ∙ h.0.kind) a.right_number (a.right_items ∙ right) in
    let sep : key_in c.b ≡ separator im at = ap key_in (sym c.here) in
    subst (λ (n : List ℕ). Halves others zero page new lo hi (separator im at) mid n) (sym h.1)
    (subst (λ (m : List (List ℕ)). Halves others zero page new lo hi (separator im at) m (page ∷ [])) (sym mid_is)
    (subst (λ (k : List ℕ). Halves others zero page new lo hi k ((c.a ∷ c.front) ++ (c.b ∷ c.back)) (page ∷ [])) sep built))

pub tail_same : (p : ℕ) (xs ys : List ℕ) → p ∷ xs ≡ p ∷ ys → xs ≡ ys
tail_same p xs ys e = cc

inner_halves : (pages others : ℕ → Image) (m page new at : ℕ) (lo hi : Option (List ℕ)) (mid : List (List ℕ)) (own deep : List ℕ)
    → Stands pages (suc m) page lo hi mid own → own ≡ page ∷ deep → SameAt pages others deep → IsSplitPlace (pages page).items at → Halved others (pages page) page new at
    → Halves others (suc m) page new lo hi (separator (pages page) at) mid own
inner_halves pages others m page new at lo hi mid own deep h own_is same place a =
    let im : Image = pages page in
    let es : List InnerItem = h.0 in
    let ip : IsInnerPage im page (suc m) es = h.2 in
    let deep_is : deep ≡ h.1 = tail_same page deep h.1 (sym own_is ∙ h.4) in
    let long : length im.items ≡ length es = ap length ip.has ∙ length-map es inner_bytes in
    let c : CutEntries es at = cut_entries es at place.some (let within = place.within in omega (arith, long, within)) in
    let ip' : IsInnerPage im page (suc m) ((c.x ∷ c.us) ++ (c.y ∷ c.vs)) = subst (λ (k : List InnerItem). IsInnerPage im page (suc m) k) c.are ip in
    let parts : Parts (Stands pages m) ((c.x ∷ c.us) ++ (c.y ∷ c.vs)) lo hi mid h.1 = subst (λ (k : List InnerItem). Parts (Stands pages m) k lo hi mid h.1) c.are h.3 in
    let items = cut_items im at c.x c.us c.y c.vs ip.kind ip'.has c.count in
    let built : Halves others (suc m) page new lo hi c.y.key mid (page ∷ h.1) =
    inner_parts pages others m page new lo hi c.x c.us c.y c.vs mid h.1 im ip' parts (subst (SameAt pages others) deep_is same)
    (a.left_kind ∙ ip.kind) a.left_number (a.left_level ∙ ip.height) (a.left_items ∙ items.taken)
    (a.right_kind ∙ ip.kind) a.right_number (a.right_level ∙ ip.height) (a.right_items ∙ items.right) in
    subst (λ (n : List ℕ). Halves others (suc m) page new lo hi (separator im at) mid n) (sym h.4)
    (subst (λ (k : List ℕ). Halves others (suc m) page new lo hi k mid (page ∷ h.1)) (sym items.sep) built)

pub halves : (pages others : ℕ → Image) (l page new at : ℕ) (lo hi : Option (List ℕ)) (mid : List (List ℕ)) (own deep : List ℕ)
    → Stands pages l page lo hi mid own → own ≡ page ∷ deep → SameAt pages others deep → IsSplitPlace (pages page).items at → Halved others (pages page) page new at
    → Halves others l page new lo hi (separator (pages page) at) mid own
halves pages others zero page new at lo hi mid own deep h own_is same place a = leaf_halves pages others page new at lo hi mid own h place a
halves pages others (suc m) page new at lo hi mid own deep h own_is same place a = inner_halves pages others m page new at lo hi mid own deep h own_is same place a

-- ---- kinds and links after a split

kind_same : (key : List ℕ) (path : List Image) (w : IsWayTo key path) (i l : ℕ) (meta : Image) (at lsn : ℕ) (s : Setting key path w i l meta at)
    → (q : ℕ) → IsNode w.pages q → (pages_after lsn (rs_of key path w i l meta at s) w.pages q).kind ≡ (w.pages q).kind
kind_same key path w i l meta at lsn s q n =
    let others : ℕ → Image = pages_after lsn (rs_of key path w i l meta at s) w.pages in
    let a = after_split key path w i l meta at lsn s in
    let d = four_apart key path w i l meta at s in
    elim (eqb_tells q s.site.parent) [
      | inl own ↦ subst (λ (p : ℕ). (others p).kind ≡ (w.pages p).kind) (sym own.1)
          (ap (λ (o : Image). o.kind) (on_parent key (w.pages s.site.parent) (w.pages s.site.page) meta at lsn d))
      | inr not_parent ↦ elim (eqb_tells q s.site.page) [
        | inl own ↦ subst (λ (p : ℕ). (others p).kind ≡ (w.pages p).kind) (sym own.1) a.left_kind
        | inr not_page ↦ ap (λ (o : Image). o.kind) (same_else key path w i l meta at lsn s q n not_parent.1 not_page.1)
      ]
    ]

next_same : (key : List ℕ) (path : List Image) (w : IsWayTo key path) (i l : ℕ) (meta : Image) (at lsn : ℕ) (s : Setting key path w i l meta at)
    → (q : ℕ) → IsNode w.pages q → (q ≡ s.site.page → is_inner (w.pages s.site.page).kind ≡ true)
    → (pages_after lsn (rs_of key path w i l meta at s) w.pages q).next ≡ (w.pages q).next
next_same key path w i l meta at lsn s q n inner =
    let others : ℕ → Image = pages_after lsn (rs_of key path w i l meta at s) w.pages in
    let a = after_split key path w i l meta at lsn s in
    let d = four_apart key path w i l meta at s in
    elim (eqb_tells q s.site.parent) [
      | inl own ↦ subst (λ (p : ℕ). (others p).next ≡ (w.pages p).next) (sym own.1)
          (ap (λ (o : Image). o.next) (on_parent key (w.pages s.site.parent) (w.pages s.site.page) meta at lsn d))
      | inr not_parent ↦ elim (eqb_tells q s.site.page) [
        | inl own ↦ subst (λ (p : ℕ). (others p).next ≡ (w.pages p).next) (sym own.1) (a.left_stays (inner own.1))
        | inr not_page ↦ ap (λ (o : Image). o.next) (same_else key path w i l meta at lsn s q n not_parent.1 not_page.1)
      ]
    ]

-- ---- the tree after a split

-- the tree's pages before and behind the new one
pub record Grown (key : List ℕ) (path : List Image) (w : IsWayTo key path) (i l : ℕ) (meta : Image) (at lsn : ℕ) (s : Setting key path w i l meta at) : Type 0 where
  pub old_left : List ℕ
  pub old_right : List ℕ
  pub deep_is : s.around.deep ≡ old_left ++ old_right
  pub short : length (separator (w.pages s.site.page) at) ≤ MAX_KEY_BYTES
  pub stands : Stands (pages_after lsn (rs_of key path w i l meta at s) w.pages) w.tree.level w.root None None w.items
      ((s.site.spot.left ++ (s.site.parent ∷ (s.site.parts.left ++ (s.site.page ∷ old_left)))) ++ (page_count meta ∷ (old_right ++ (s.site.parts.right ++ s.site.spot.right))))

grown_nodes : (left : List ℕ) (p : ℕ) (fl : List ℕ) (c : ℕ) (ol : List ℕ) (n : ℕ) (or fr right : List ℕ)
    → left ++ ((p ∷ (fl ++ ((c ∷ (ol ++ (n ∷ or))) ++ fr))) ++ right) ≡ (left ++ (p ∷ (fl ++ (c ∷ ol)))) ++ (n ∷ (or ++ (fr ++ right)))
grown_nodes left p fl c ol n or fr right = simp append_assoc

pub grown : (key : List ℕ) (path : List Image) (w : IsWayTo key path) (i l : ℕ) (meta : Image) (at lsn : ℕ) (s : Setting key path w i l meta at) → Grown key path w i l meta at lsn s
grown key path w i l meta at lsn s =
    let others : ℕ → Image = pages_after lsn (rs_of key path w i l meta at s) w.pages in
    let st = s.site in
    let ar = s.around in
    let f = st.parts in
    let new : ℕ = page_count meta in
    let sep : List ℕ = separator (w.pages st.page) at in
    let d = four_apart key path w i l meta at s in
    let a = after_split key path w i l meta at lsn s in
    let same = same_list key path w i l meta at lsn s in
    let child : Stands w.pages l st.page f.lo f.hi f.mid f.own = subst (λ (c : ℕ). Stands w.pages l c f.lo f.hi f.mid f.own) st.child_is f.child in
    let h : Halves others l st.page new f.lo f.hi sep f.mid f.own =
    halves w.pages others l st.page new at f.lo f.hi f.mid f.own ar.deep child ar.own_is (same ar.deep ar.deep_nodes ar.deep_parent ar.deep_page) s.place
    (halved others (w.pages st.page) st.page new at ar.page_node.number a) in
    let e : others st.parent ≡ inserted (w.pages st.parent) (not_greater key (w.pages st.parent).items) (entry_of sep new) lsn = on_parent key (w.pages st.parent) (w.pages st.page) meta at lsn d in
    let has = ap (λ (o : Image). o.items) e ∙ entry_joins st.xs st.entry (record { key = sep; child = new }) st.ys (w.pages st.parent).items (not_greater key (w.pages st.parent).items) st.inner.has st.behind in
    let parent : Stands others (suc l) st.parent st.spot.lo st.spot.hi st.spot.mid (st.parent ∷ (f.left ++ ((h.left_nodes ++ h.right_nodes) ++ f.right))) =
    parent_stands w.pages others l st.parent st.page new st.spot.lo st.spot.hi st.xs st.entry st.ys st.spot.mid st.below sep f st.inner h st.child_is
    (same f.left ar.fl_nodes ar.fl_parent ar.fl_page) (same f.right ar.fr_nodes ar.fr_parent ar.fr_page)
    (ap (λ (o : Image). o.kind) e ∙ st.inner.kind) (ap (λ (o : Image). o.page) e ∙ st.inner.number) (ap (λ (o : Image). o.level) e ∙ st.inner.height) has s.new_bound in
    let built : Stands others w.tree.level w.root None None (st.spot.ahead ++ (st.spot.mid ++ st.spot.after)) (st.spot.left ++ ((st.parent ∷ (f.left ++ ((h.left_nodes ++ h.right_nodes) ++ f.right))) ++ st.spot.right)) =
    st.spot.rebuild others st.spot.mid (st.parent ∷ (f.left ++ ((h.left_nodes ++ h.right_nodes) ++ f.right)))
    (same st.spot.left ar.left_nodes ar.left_parent ar.left_page) (same st.spot.right ar.right_nodes ar.right_parent ar.right_page) parent in
    let all : Stands others w.tree.level w.root None None w.items (st.spot.left ++ ((st.parent ∷ (f.left ++ ((h.left_nodes ++ h.right_nodes) ++ f.right))) ++ st.spot.right)) =
    subst (λ (m : List (List ℕ)). Stands others w.tree.level w.root None None m (st.spot.left ++ ((st.parent ∷ (f.left ++ ((h.left_nodes ++ h.right_nodes) ++ f.right))) ++ st.spot.right))) (sym st.spot.items_are) built in
    record {
      old_left = h.old_left;
      old_right = h.old_right;
      short = h.short;
      deep_is = tail_same st.page ar.deep (h.old_left ++ h.old_right) (sym ar.own_is ∙ h.nodes_were);
      stands = subst (λ (n : List ℕ). Stands others w.tree.level w.root None None w.items n)
          (ap (λ (n : List ℕ). st.spot.left ++ ((st.parent ∷ (f.left ++ (n ++ f.right))) ++ st.spot.right)) h.nodes_are
          ∙ grown_nodes st.spot.left st.parent f.left st.page h.old_left new h.old_right f.right st.spot.right) all;
    }

old_nodes : (left : List ℕ) (p : ℕ) (fl : List ℕ) (c : ℕ) (ol or fr right : List ℕ)
    → left ++ ((p ∷ (fl ++ ((c ∷ (ol ++ or)) ++ fr))) ++ right) ≡ (left ++ (p ∷ (fl ++ (c ∷ ol)))) ++ (or ++ (fr ++ right))
old_nodes left p fl c ol or fr right = simp append_assoc

all_kinds : (key : List ℕ) (path : List Image) (w : IsWayTo key path) (i l : ℕ) (meta : Image) (at lsn : ℕ) (s : Setting key path w i l meta at) (nodes : List ℕ)
    → AllByRecursion (IsNode w.pages) nodes → AllByRecursion (λ q. is_leaf (pages_after lsn (rs_of key path w i l meta at s) w.pages q).kind ≡ is_leaf (w.pages q).kind) nodes
all_kinds key path w i l meta at lsn s nodes all =
    all_weaker (IsNode w.pages) (λ q. is_leaf (pages_after lsn (rs_of key path w i l meta at s) w.pages q).kind ≡ is_leaf (w.pages q).kind)
    (λ q n. ap is_leaf (kind_same key path w i l meta at lsn s q n)) nodes all

all_nexts : (key : List ℕ) (path : List Image) (w : IsWayTo key path) (i l : ℕ) (meta : Image) (at lsn : ℕ) (s : Setting key path w i l meta at) (nodes : List ℕ)
    → AllByRecursion (IsNode w.pages) nodes → AllByRecursion (λ q. q ≡ s.site.page → is_inner (w.pages s.site.page).kind ≡ true) nodes
    → SameNext w.pages (pages_after lsn (rs_of key path w i l meta at s) w.pages) nodes
all_nexts key path w i l meta at lsn s [] all inner = tt
all_nexts key path w i l meta at lsn s (q ∷ nodes) all inner =
    (next_same key path w i l meta at lsn s q all.0 inner.0, all_nexts key path w i l meta at lsn s nodes all.1 inner.1)

pub all_such : {X : Type 0} (P : X → Type 0) → ((x : X) → P x) → (xs : List X) → AllByRecursion P xs
all_such P f [] = tt
all_such P f (x ∷ xs) = (f x, all_such P f xs)

pub kept_leaf : (pages : ℕ → Image) (q : ℕ) (rest : List ℕ) → is_leaf (pages q).kind ≡ true → leaves_of pages (q ∷ rest) ≡ q ∷ leaves_of pages rest
kept_leaf pages q rest e = rw e refl

pub dropped_leaf : (pages : ℕ → Image) (q : ℕ) (rest : List ℕ) → is_leaf (pages q).kind ≡ false → leaves_of pages (q ∷ rest) ≡ leaves_of pages rest
dropped_leaf pages q rest e = rw e refl

pub leaves-append : (pages : ℕ → Image) (xs ys : List ℕ) → leaves_of pages (xs ++ ys) ≡ leaves_of pages xs ++ leaves_of pages ys
leaves-append pages xs ys = filter-append (λ q. is_leaf (pages q).kind) xs ys

-- an inner page is split: the leaves stay
linked_inner : (key : List ℕ) (path : List Image) (w : IsWayTo key path) (i l : ℕ) (meta : Image) (at lsn : ℕ) (s : Setting key path w i l meta at)
    → (w.pages s.site.page).kind ≡ Inner → (xs ys : List ℕ) → w.tree.nodes ≡ xs ++ ys
    → Linked (pages_after lsn (rs_of key path w i l meta at s) w.pages) (leaves_of (pages_after lsn (rs_of key path w i l meta at s) w.pages) (xs ++ (page_count meta ∷ ys)))
linked_inner key path w i l meta at lsn s kind xs ys are =
    let others : ℕ → Image = pages_after lsn (rs_of key path w i l meta at s) w.pages in
    let a = after_split key path w i l meta at lsn s in
    let all : AllByRecursion (IsNode w.pages) (xs ++ ys) = subst (AllByRecursion (IsNode w.pages)) are s.around.all in
    let linked : Linked w.pages (leaves_of w.pages (xs ++ ys)) = subst (λ (n : List ℕ). Linked w.pages (leaves_of w.pages n)) are w.tree.linked in
    let no_leaf : is_leaf (others (page_count meta)).kind ≡ false = ap is_leaf (a.right_kind ∙ kind) in
    let same : leaves_of others (xs ++ (page_count meta ∷ ys)) ≡ leaves_of w.pages (xs ++ ys) =
    leaves-append others xs (page_count meta ∷ ys)
    ∙ ap (λ (n : List ℕ). leaves_of others xs ++ n) (dropped_leaf others (page_count meta) ys no_leaf)
    ∙ sym (leaves-append others xs ys)
    ∙ filter_same (λ q. is_leaf (others q).kind) (λ q. is_leaf (w.pages q).kind) (xs ++ ys) (all_kinds key path w i l meta at lsn s (xs ++ ys) all) in
    let nexts : SameNext w.pages others (xs ++ ys) =
    all_nexts key path w i l meta at lsn s (xs ++ ys) all (all_such (λ q. q ≡ s.site.page → is_inner (w.pages s.site.page).kind ≡ true) (λ q e. ap is_inner kind) (xs ++ ys)) in
    subst (Linked others) (sym same)
    (linked_on_same w.pages others (leaves_of w.pages (xs ++ ys)) (all_filter (λ q. (others q).next ≡ (w.pages q).next) (λ q. is_leaf (w.pages q).kind) (xs ++ ys) nexts) linked)

-- a leaf is split: the new leaf joins the others behind it
linked_leaf : (key : List ℕ) (path : List Image) (w : IsWayTo key path) (i l : ℕ) (meta : Image) (at lsn : ℕ) (s : Setting key path w i l meta at)
    → (w.pages s.site.page).kind ≡ Leaf → (xs ys : List ℕ) → w.tree.nodes ≡ xs ++ (s.site.page ∷ ys) → Without s.site.page xs → Without s.site.page ys
    → Linked (pages_after lsn (rs_of key path w i l meta at s) w.pages) (leaves_of (pages_after lsn (rs_of key path w i l meta at s) w.pages) (xs ++ (s.site.page ∷ (page_count meta ∷ ys))))
linked_leaf key path w i l meta at lsn s kind xs ys are wx wy =
    let others : ℕ → Image = pages_after lsn (rs_of key path w i l meta at s) w.pages in
    let page : ℕ = s.site.page in
    let new : ℕ = page_count meta in
    let a = after_split key path w i l meta at lsn s in
    let all : AllByRecursion (IsNode w.pages) (xs ++ (page ∷ ys)) = subst (AllByRecursion (IsNode w.pages)) are s.around.all in
    let nx = all_front (IsNode w.pages) xs (page ∷ ys) all in
    let ny = (all_back (IsNode w.pages) xs (page ∷ ys) all).1 in
    let linked0 : Linked w.pages (leaves_of w.pages (xs ++ (page ∷ ys))) = subst (λ (n : List ℕ). Linked w.pages (leaves_of w.pages n)) are w.tree.linked in
    let linked : Linked w.pages (leaves_of w.pages xs ++ (page ∷ leaves_of w.pages ys)) =
    subst (Linked w.pages) (leaves-append w.pages xs (page ∷ ys) ∙ ap (λ (n : List ℕ). leaves_of w.pages xs ++ n) (kept_leaf w.pages page ys (ap is_leaf kind))) linked0 in
    let kinds = all_kinds key path w i l meta at lsn s in
    let agree = filter_same (λ q. is_leaf (others q).kind) (λ q. is_leaf (w.pages q).kind) in
    let now : leaves_of others (xs ++ (page ∷ (new ∷ ys))) ≡ leaves_of w.pages xs ++ (page ∷ (new ∷ leaves_of w.pages ys)) =
    leaves-append others xs (page ∷ (new ∷ ys))
    ∙ ap (λ (n : List ℕ). leaves_of others xs ++ n)
    (kept_leaf others page (new ∷ ys) (ap is_leaf (a.left_kind ∙ kind)) ∙ ap (λ (n : List ℕ). page ∷ n) (kept_leaf others new ys (ap is_leaf (a.right_kind ∙ kind))))
    ∙ ap (λ (n : List ℕ). n ++ (page ∷ (new ∷ leaves_of others ys))) (agree xs (kinds xs nx))
    ∙ ap (λ (n : List ℕ). leaves_of w.pages xs ++ (page ∷ (new ∷ n))) (agree ys (kinds ys ny)) in
    let P = λ (q : ℕ). q ≡ page → is_inner (w.pages page).kind ≡ true in
    let sx : SameNext w.pages others xs = all_nexts key path w i l meta at lsn s xs nx (all_weaker (λ q. q ≢ page) P (λ q h e. absurd (h e)) xs wx) in
    let sy : SameNext w.pages others ys = all_nexts key path w i l meta at lsn s ys ny (all_weaker (λ q. q ≢ page) P (λ q h e. absurd (h e)) ys wy) in
    let F = λ (q : ℕ). (others q).next ≡ (w.pages q).next in
    let some : 0 < new = (let ne = new_not_meta key path w i l meta at s in let z = s.is_meta.number in positive new meta.page ne z) in
    subst (Linked others) (sym now)
    (linked_more w.pages others (leaves_of w.pages xs) page new (leaves_of w.pages ys) linked (a.left_next (ap is_inner kind)) some a.right_next
    (all_filter F (λ q. is_leaf (w.pages q).kind) xs sx) (all_filter F (λ q. is_leaf (w.pages q).kind) ys sy))
  where
    positive : (n m : ℕ) → n ≢ m → m ≡ 0 → 0 < n
    positive zero m ne e = absurd (ne (sym e))
    positive (suc n) m ne e = omega arith

pub empty_parts : (xs ys : List ℕ) → [] ≡ xs ++ ys → (xs ≡ []) × (ys ≡ [])
empty_parts [] ys e = (refl, sym e)
empty_parts (x ∷ xs) ys e = cc

leaf_nodes : (left : List ℕ) (p : ℕ) (fl : List ℕ) (c : ℕ) (fr right : List ℕ) → (left ++ (p ∷ (fl ++ (c ∷ [])))) ++ (fr ++ right) ≡ (left ++ (p ∷ fl)) ++ (c ∷ (fr ++ right))
leaf_nodes left p fl c fr right = simp append_assoc

leaf_nodes_new : (left : List ℕ) (p : ℕ) (fl : List ℕ) (c n : ℕ) (fr right : List ℕ) → (left ++ (p ∷ (fl ++ (c ∷ [])))) ++ (n ∷ (fr ++ right)) ≡ (left ++ (p ∷ fl)) ++ (c ∷ (n ∷ (fr ++ right)))
leaf_nodes_new left p fl c n fr right = simp append_assoc

nodes_before : (key : List ℕ) (path : List Image) (w : IsWayTo key path) (i l : ℕ) (meta : Image) (at lsn : ℕ) (s : Setting key path w i l meta at) (g : Grown key path w i l meta at lsn s)
    → w.tree.nodes ≡ (s.site.spot.left ++ (s.site.parent ∷ (s.site.parts.left ++ (s.site.page ∷ g.old_left)))) ++ (g.old_right ++ (s.site.parts.right ++ s.site.spot.right))
nodes_before key path w i l meta at lsn s g =
    s.around.nodes_are
    ∙ ap (λ (d : List ℕ). s.site.spot.left ++ ((s.site.parent ∷ (s.site.parts.left ++ ((s.site.page ∷ d) ++ s.site.parts.right))) ++ s.site.spot.right)) g.deep_is
    ∙ old_nodes s.site.spot.left s.site.parent s.site.parts.left s.site.page g.old_left g.old_right s.site.parts.right s.site.spot.right

linked_after : (key : List ℕ) (path : List Image) (w : IsWayTo key path) (i l : ℕ) (meta : Image) (at lsn : ℕ) (s : Setting key path w i l meta at) (g : Grown key path w i l meta at lsn s)
    → Linked (pages_after lsn (rs_of key path w i l meta at s) w.pages) (leaves_of (pages_after lsn (rs_of key path w i l meta at s) w.pages)
    ((s.site.spot.left ++ (s.site.parent ∷ (s.site.parts.left ++ (s.site.page ∷ g.old_left)))) ++ (page_count meta ∷ (g.old_right ++ (s.site.parts.right ++ s.site.spot.right)))))
linked_after key path w i zero meta at lsn s g =
    let st = s.site in
    let ar = s.around in
    let others : ℕ → Image = pages_after lsn (rs_of key path w i zero meta at s) w.pages in
    let child : Stands w.pages zero st.page st.parts.lo st.parts.hi st.parts.mid st.parts.own = subst (λ (c : ℕ). Stands w.pages zero c st.parts.lo st.parts.hi st.parts.mid st.parts.own) st.child_is st.parts.child in
    let deep : [] ≡ ar.deep = tail_same st.page [] ar.deep (sym child.1 ∙ ar.own_is) in
    let empty = empty_parts g.old_left g.old_right (deep ∙ g.deep_is) in
    let before0 = nodes_before key path w i zero meta at lsn s g in
    let X = λ (ol or : List ℕ). (st.spot.left ++ (st.parent ∷ (st.parts.left ++ (st.page ∷ ol)))) ++ (or ++ (st.parts.right ++ st.spot.right)) in
    let before : w.tree.nodes ≡ (st.spot.left ++ (st.parent ∷ st.parts.left)) ++ (st.page ∷ (st.parts.right ++ st.spot.right)) =
    before0 ∙ ap (λ (n : List ℕ). X n g.old_right) empty.0 ∙ ap (λ (n : List ℕ). X [] n) empty.1
    ∙ leaf_nodes st.spot.left st.parent st.parts.left st.page st.parts.right st.spot.right in
    let Z = λ (ol or : List ℕ). (st.spot.left ++ (st.parent ∷ (st.parts.left ++ (st.page ∷ ol)))) ++ (page_count meta ∷ (or ++ (st.parts.right ++ st.spot.right))) in
    let now : Z g.old_left g.old_right ≡ (st.spot.left ++ (st.parent ∷ st.parts.left)) ++ (st.page ∷ (page_count meta ∷ (st.parts.right ++ st.spot.right))) =
    ap (λ (n : List ℕ). Z n g.old_right) empty.0 ∙ ap (λ (n : List ℕ). Z [] n) empty.1
    ∙ leaf_nodes_new st.spot.left st.parent st.parts.left st.page (page_count meta) st.parts.right st.spot.right in
    let C = λ (q : ℕ). q ≢ st.page in
    subst (λ (n : List ℕ). Linked others (leaves_of others n)) (sym now)
    (linked_leaf key path w i zero meta at lsn s child.0.kind (st.spot.left ++ (st.parent ∷ st.parts.left)) (st.parts.right ++ st.spot.right) before
    (all_join C st.spot.left (st.parent ∷ st.parts.left) ar.left_page (ar.apart, ar.fl_page))
    (all_join C st.parts.right st.spot.right ar.fr_page ar.right_page))
linked_after key path w i (suc m) meta at lsn s g =
    let st = s.site in
    let child : Stands w.pages (suc m) st.page st.parts.lo st.parts.hi st.parts.mid st.parts.own = subst (λ (c : ℕ). Stands w.pages (suc m) c st.parts.lo st.parts.hi st.parts.mid st.parts.own) st.child_is st.parts.child in
    linked_inner key path w i (suc m) meta at lsn s child.2.kind
    (st.spot.left ++ (st.parent ∷ (st.parts.left ++ (st.page ∷ g.old_left)))) (g.old_right ++ (st.parts.right ++ st.spot.right))
    (nodes_before key path w i (suc m) meta at lsn s g)

pub split_tree : (key : List ℕ) (path : List Image) (w : IsWayTo key path) (i l : ℕ) (meta : Image) (at lsn : ℕ) (s : Setting key path w i l meta at)
    → GrowsOn (pages_after lsn (rs_of key path w i l meta at s) w.pages) w.root w.items w.tree.nodes (page_count meta ∷ [])
split_tree key path w i l meta at lsn s =
    let st = s.site in
    let g = grown key path w i l meta at lsn s in
    let xs : List ℕ = st.spot.left ++ (st.parent ∷ (st.parts.left ++ (st.page ∷ g.old_left))) in
    let ys : List ℕ = g.old_right ++ (st.parts.right ++ st.spot.right) in
    let before : w.tree.nodes ≡ xs ++ ys = nodes_before key path w i l meta at lsn s g in
    let all : AllByRecursion (IsNode w.pages) (xs ++ ys) = subst (AllByRecursion (IsNode w.pages)) before s.around.all in
    let new : Without (page_count meta) (xs ++ ys) =
    all_weaker (IsNode w.pages) (λ q. q ≢ page_count meta) (λ q n e. unmade_apart w.pages (page_count meta) q (kind_of_new key path w i l meta at s) n (sym e)) (xs ++ ys) all in
    let tree : Tree (pages_after lsn (rs_of key path w i l meta at s) w.pages) w.root w.items = record {
      level = w.tree.level;
      nodes = xs ++ (page_count meta ∷ ys);
      low_enough = w.tree.low_enough;
      stands = g.stands;
      linked = linked_after key path w i l meta at lsn s g;
      apart = distinct_more xs ys (page_count meta) (subst (IsDistinct nat_eq) before w.tree.apart) new;
    } in
    record {
      tree = tree;
      nodes_are = λ q. subst (λ (n : List ℕ). Contains (xs ++ (page_count meta ∷ ys)) q ↔ (Contains n q ⊎ Contains (page_count meta ∷ []) q)) (sym before) (one_more xs ys (page_count meta) q);
    }
