-- The records of a split apply to each page.
use Rattle.std.proofs.Common.{◌≡◌, ◌≢◌, ◌<◌, ◌≤◌, ◌+◌, ◌-◌, ℕ, suc, Bool, true, false, cond, List, [], ◌∷◌, ◌++◌, length, drop, get_or, refl, sym, ap, subst, ◌∙◌, arith, inl, inr}
use Rattle.rm_base.specs.declared.limits.TheConstants.{PAGE_BYTES, PAGE_HEADER_BYTES}
use Rattle.std.specs.Prelude.{◌⊎◌, Contains}
use Rattle.std.specs.List.{AllByRecursion}
use Rattle.std.proofs.lemmas.List.{length-map, length-append, length-drop}
use Rattle.std.proofs.lemmas.List.Elements.{recursion_from_All, All-drop}
use Rattle.std.proofs.lemmas.Bool.Decides.{eqb_tells}
use Rattle.rm_base.specs.Fields.{field}
use Rattle.rm_base.proofs.FieldLaws.{length-field}
use Rattle.page_image.specs.Meta.{IsMeta, page_count}
use Rattle.page_image.specs.declared.kind.Kind.TheVariants.{Unmade, Leaf, Inner}
use Rattle.page_image.specs.Image.{Image, unmade, used, free_of, is_slotted, is_inner, has_body, CanInsert, patched}
use Rattle.page_image.specs.Rules.{IsImage}
use Rattle.page_view.specs.Inner.{inner_bytes}
use Rattle.redo_record.specs.declared.redo.Record.{Record}
use Rattle.redo_record.specs.Effect.{after_records, RecordsApply}
use Rattle.tree_change.specs.Way.{IsWayTo}
use Rattle.tree_change.specs.Places.{page_on, not_greater}
use Rattle.tree_change.specs.Splits.{IsSplitPlace, right_half, first_without_key, without_key, separator, entry_of, split_records, split_plan}
use Rattle.page_image.specs.declared.meta.TheConstants.{PAGE_COUNT_AT}
use Rattle.tree_change.specs.Pages.{IsTreePage}
use Rattle.tree_change.specs.Effects.{pages_after, MakeGroup, GrowsOn, Counts, Keeps}
use Rattle.tree_change.proofs.EffectLaws.{untouched, none_apply}
use Rattle.tree_change.proofs.MoveLaws.{used-cons, used_halves}
use Rattle.tree_change.proofs.MemberLaws.{here, among, member_has}
use Rattle.tree_change.proofs.GroupLaws.{split_group, counted}
use Rattle.tree_change.proofs.NodeLaws.{IsNode}
use Rattle.tree_change.proofs.WayLaws.{path_length}
use Rattle.tree_change.proofs.SiteLaws.{site, around, nodes_regroup}
use Rattle.tree_change.proofs.SplitEffects.{apply_new, apply_parent, apply_page, apply_meta, on_meta, none_else}
use Rattle.tree_change.proofs.SplitTree.{Setting, rs_of, four_apart, grown, split_tree}

-- ---- the right half fits a page

some_first : (items : List (List ℕ)) → AllByRecursion (λ x. 1 ≤ length x) items → AllByRecursion (λ x. 1 ≤ length x) (first_without_key items)
some_first [] h = tt
some_first (x ∷ xs) h = (omega arith, h.1)

used_first : (items : List (List ℕ)) → AllByRecursion (λ x. 1 ≤ length x) items → used (first_without_key items) ≤ used items
used_first [] h = omega arith
used_first (x ∷ xs) h =
    let a = used-cons x xs in
    let b = used-cons (without_key x) xs in
    let d = length-drop (1 + get_or x 0 0) x in
    let one = h.0 in
    omega (arith, a, b, d, one)

pub right_fits : (im : Image) (at : ℕ) → IsImage im → AllByRecursion (λ x. 1 ≤ length x) (right_half im at) × (used (right_half im at) ≤ PAGE_BYTES - PAGE_HEADER_BYTES)
right_fits im at h = by_test (is_inner im.kind)
  where
    back : AllByRecursion (λ x. 1 ≤ length x) (drop at im.items)
    back = recursion_from_All (λ x. 1 ≤ length x) (drop at im.items) (All-drop (λ x. 1 ≤ length x) at im.items h.some_bytes)

    fits : used (drop at im.items) ≤ PAGE_BYTES - PAGE_HEADER_BYTES
    fits = let e = used_halves at im.items in let r = h.room in omega (arith, e, r)

    by_test : (b : Bool) → AllByRecursion (λ x. 1 ≤ length x) (cond b (first_without_key (drop at im.items)) (drop at im.items))
        × (used (cond b (first_without_key (drop at im.items)) (drop at im.items)) ≤ PAGE_BYTES - PAGE_HEADER_BYTES)
    by_test true = (some_first (drop at im.items) back, (let u = used_first (drop at im.items) back in let f = fits in omega (arith, u, f)))
    by_test false = (back, fits)

slotted_by : (pages : ℕ → Image) (q : ℕ) → ((pages q).kind ≡ Leaf) ⊎ ((pages q).kind ≡ Inner) → (is_slotted (pages q).kind ≡ true) × ((pages q).kind ≢ Unmade)
slotted_by pages q (inl e) = (ap is_slotted e, (λ u. let h : Leaf ≡ Unmade = sym e ∙ u in cc))
slotted_by pages q (inr e) = (ap is_slotted e, (λ u. let h : Inner ≡ Unmade = sym e ∙ u in cc))

pub slotted_node : (pages : ℕ → Image) (q : ℕ) → IsNode pages q → (is_slotted (pages q).kind ≡ true) × ((pages q).kind ≢ Unmade)
slotted_node pages q n = slotted_by pages q n.kind

-- ---- the records apply

length_entry : (key : List ℕ) (child : ℕ) → length (entry_of key child) ≡ 5 + length key
length_entry key child = let a = length-append key (field 4 child) in let f = length-field 4 child in omega (arith, a, f)

parent_can : (key : List ℕ) (path : List Image) (w : IsWayTo key path) (i l : ℕ) (meta : Image) (at : ℕ) (s : Setting key path w i l meta at)
    → 71 ≤ free_of (w.pages s.site.parent)
    → CanInsert (w.pages s.site.parent) (not_greater key (w.pages s.site.parent).items) (entry_of (separator (w.pages s.site.page) at) (page_count meta))
parent_can key path w i l meta at s room =
    let st = s.site in
    let g = grown key path w i l meta at 0 s in
    let short = g.short in
    let size = length_entry (separator (w.pages st.page) at) (page_count meta) in
    let behind = st.behind in
    let long = ap length st.inner.has ∙ length-map (st.xs ++ (st.entry ∷ st.ys)) inner_bytes ∙ length-append st.xs (st.entry ∷ st.ys) in
    record {
      slotted = ap is_slotted st.inner.kind;
      some = omega arith;
      place = omega (arith, behind, long);
      room = omega (arith, size, short, room);
    }

pub split_applies : (key : List ℕ) (path : List Image) (w : IsWayTo key path) (i l : ℕ) (meta : Image) (at lsn : ℕ) (s : Setting key path w i l meta at)
    → IsImage (w.pages s.site.page) → 71 ≤ free_of (w.pages s.site.parent) → (page : ℕ) → (w.pages page).page ≡ page
    → RecordsApply lsn (rs_of key path w i l meta at s) (w.pages page)
split_applies key path w i l meta at lsn s image room page number =
    let st = s.site in
    let parent : Image = w.pages st.parent in
    let im : Image = w.pages st.page in
    let rs : List Record = rs_of key path w i l meta at s in
    let d = four_apart key path w i l meta at s in
    let node = slotted_node w.pages st.page s.around.page_node in
    let right = right_fits im at image in
    let within : at ≤ length im.items = (let h = s.place.within in omega (arith, h)) in
    elim (eqb_tells page st.parent) [
      | inl own ↦ subst (λ (p : ℕ). RecordsApply lsn rs (w.pages p)) (sym own.1) (apply_parent key parent im meta at lsn d (parent_can key path w i l meta at s room))
      | inr n1 ↦ elim (eqb_tells page st.page) [
        | inl own ↦ subst (λ (p : ℕ). RecordsApply lsn rs (w.pages p)) (sym own.1) (apply_page key parent im meta at lsn d node.0 s.new_bound within)
        | inr n2 ↦ elim (eqb_tells page (page_count meta)) [
          | inl own ↦ subst (λ (p : ℕ). RecordsApply lsn rs (w.pages p)) (sym own.1)
              (subst (λ (o : Image). RecordsApply lsn rs o) (sym s.new_there)
              (apply_new key parent im meta at lsn d node.1 image.level_fits node.0 right.0 right.1 image.next_bound))
          | inr n3 ↦ elim (eqb_tells page meta.page) [
            | inl own ↦ subst (λ (p : ℕ). RecordsApply lsn rs (w.pages p)) (sym own.1)
                (subst (λ (o : Image). RecordsApply lsn rs o) (sym s.meta_there) (apply_meta key parent im meta at lsn d s.is_meta.kind))
            | inr n4 ↦ none_apply lsn rs (w.pages page) (none_else key parent im meta at (w.pages page).page
                (λ e. n1.1 (sym (sym s.around.parent_node.number ∙ e ∙ number)))
                (λ e. n2.1 (sym (sym s.around.page_node.number ∙ e ∙ number)))
                (λ e. n3.1 (sym (e ∙ number)))
                (λ e. n4.1 (sym (e ∙ number))))
          ]
        ]
      ]
    ]

-- ---- and so a split keeps the items

pub split_keeps : (key : List ℕ) (path : List Image) (i at : ℕ) (meta : Image) → i + 1 < length path → IsSplitPlace (page_on path (i + 1)).items at
    → IsTreePage (page_on path (i + 1)) → IsImage (page_on path (i + 1)) → 71 ≤ free_of (page_on path i) → IsMeta meta → IsImage meta → page_count meta ≤ 32767
    → Keeps key path meta (split_plan key (page_on path i) (page_on path (i + 1)) at meta)
split_keeps key path i at meta inside place page_is image room is_meta meta_image bound =
    let rs : List Record = split_records key (page_on path i) (page_on path (i + 1)) at meta in
    let new : ℕ = page_count meta in
    record {
      group = group;
      only = λ lsn im ne. untouched lsn rs im (none_else key (page_on path i) (page_on path (i + 1)) meta at im.page ne.0 ne.1.0 ne.1.1.0 ne.1.1.1.0);
      within = within;
      made = record { some = omega arith; next = ((omega arith, omega arith), tt); bound = omega arith };
      applies = λ w fresh lsn page number.
          let s = setting w fresh.meta_is fresh.unmade.0 in
          subst (λ (r : List Record). RecordsApply lsn r (w.pages page)) (sym (same w s))
          (split_applies key path w i (below w) meta at lsn s (subst IsImage s.site.page_is image) (subst (λ (o : Image). 71 ≤ free_of o) s.site.parent_is room) page number);
      stands = λ w fresh lsn.
          let s = setting w fresh.meta_is fresh.unmade.0 in
          subst (λ (r : List Record). GrowsOn (pages_after lsn r w.pages) w.root w.items w.tree.nodes (new ∷ [])) (sym (same w s)) (split_tree key path w i (below w) meta at lsn s);
      counts = λ w fresh lsn.
          let s = setting w fresh.meta_is fresh.unmade.0 in
          let after : pages_after lsn (rs_of key path w i (below w) meta at s) w.pages meta.page ≡ patched meta PAGE_COUNT_AT (field 4 (new + 1)) lsn =
          ap (after_records lsn (rs_of key path w i (below w) meta at s)) fresh.meta_is
          ∙ on_meta key (w.pages s.site.parent) (w.pages s.site.page) meta at lsn (four_apart key path w i (below w) meta at s) in
          let whole = meta_image.whole_body (ap has_body is_meta.kind) in
          let done : Counts (patched meta PAGE_COUNT_AT (field 4 (new + 1)) lsn) (new + 1) = counted meta (new + 1) lsn is_meta whole (omega arith) in
          subst (λ (r : List Record). Counts (pages_after lsn r w.pages meta.page) (new + 1)) (sym (same w s))
          (subst (λ (o : Image). Counts o (new + 1)) (sym after) done);
    }
  where
    group : MakeGroup (split_records key (page_on path i) (page_on path (i + 1)) at meta)
    group =
        let right = right_fits (page_on path (i + 1)) at image in
        split_group key (page_on path i) (page_on path (i + 1)) meta at page_is place.within image.level_fits right.0 right.1 image.next_bound bound

    below : IsWayTo key path → ℕ
    below w = w.tree.level - (i + 1)

    deep : (w : IsWayTo key path) → i + suc (below w) ≡ w.tree.level
    deep w = let long = path_length key path w in omega (arith, long)

    within : (w : IsWayTo key path) (page : ℕ) → Contains (split_plan key (page_on path i) (page_on path (i + 1)) at meta).pages page
        → Contains w.tree.nodes page ⊎ (Contains (split_plan key (page_on path i) (page_on path (i + 1)) at meta).made page ⊎ (page ≡ meta.page))
    within w page c =
        let st = site key path w i (below w) (deep w) in
        let ar = around key path w i (below w) st in
        let new : ℕ = page_count meta in
        let parent_number : (page_on path i).page ≡ st.parent = ap (λ (o : Image). o.page) st.parent_is ∙ ar.parent_node.number in
        let page_number : (page_on path (i + 1)).page ≡ st.page = ap (λ (o : Image). o.page) st.page_is ∙ ar.page_node.number in
        let parent_in : Contains w.tree.nodes st.parent =
        subst (λ (n : List ℕ). Contains n st.parent) (sym ar.nodes_are)
        (among st.spot.left ((st.parts.left ++ ((st.page ∷ ar.deep) ++ st.parts.right)) ++ st.spot.right) st.parent) in
        let page_in : Contains w.tree.nodes st.page =
        subst (λ (n : List ℕ). Contains n st.page) (sym (ar.nodes_are ∙ nodes_regroup st.spot.left st.parent st.parts.left st.page ar.deep st.parts.right st.spot.right))
        (among (st.spot.left ++ (st.parent ∷ st.parts.left)) ((ar.deep ++ st.parts.right) ++ st.spot.right) st.page) in
        member_has (λ q. Contains w.tree.nodes q ⊎ (Contains (new ∷ []) q ⊎ (q ≡ meta.page)))
        ((page_on path i).page ∷ (page_on path (i + 1)).page ∷ new ∷ meta.page ∷ []) page (
          inl (subst (Contains w.tree.nodes) (sym parent_number) parent_in),
          (inl (subst (Contains w.tree.nodes) (sym page_number) page_in), (inr (inl (here new [])), (inr (inr refl), tt))),
        ) c

    setting : (w : IsWayTo key path) → w.pages meta.page ≡ meta → w.pages (page_count meta) ≡ unmade (page_count meta) → Setting key path w i (below w) meta at
    setting w m n =
        let st = site key path w i (below w) (deep w) in
        record {
          site = st;
          around = around key path w i (below w) st;
          place = subst (λ (o : Image). IsSplitPlace o.items at) st.page_is place;
          is_meta = is_meta;
          meta_there = m;
          new_there = n;
          new_bound = bound;
        }

    same : (w : IsWayTo key path) (s : Setting key path w i (below w) meta at) → split_records key (page_on path i) (page_on path (i + 1)) at meta ≡ rs_of key path w i (below w) meta at s
    same w s =
        ap (λ (o : Image). split_records key o (page_on path (i + 1)) at meta) s.site.parent_is
        ∙ ap (λ (o : Image). split_records key (w.pages s.site.parent) o at meta) s.site.page_is
