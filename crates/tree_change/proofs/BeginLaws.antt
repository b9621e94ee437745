-- A plan that carries a tree, and then begins another one.
use Rattle.std.proofs.Common.{◌≡◌, ◌≢◌, ◌≤◌, ◌<◌, ◌+◌, ◌-◌, ℕ, List, [], ◌∷◌, ◌++◌, length, Option, None, refl, sym, ap, subst, ◌∙◌, arith, inl, inr}
use Rattle.rm_base.specs.declared.limits.TheConstants.{PAGE_BYTES, PAGE_HEADER_BYTES}
use Rattle.std.specs.Prelude.{◌⊎◌, Contains, nat_eq}
use Rattle.std.specs.List.{AllByRecursion, IsDistinct}
use Rattle.std.proofs.lemmas.List.{length-append}
use Rattle.std.proofs.lemmas.Bool.Decides.{eqb_tells}
use Rattle.rm_base.specs.Fields.{field}
use Rattle.page_image.specs.Meta.{IsMeta, page_count}
use Rattle.page_image.specs.declared.kind.Kind.TheVariants.{Unmade, Meta, Leaf}
use Rattle.page_image.specs.Image.{Image, unmade, has_body, made, patched}
use Rattle.page_image.specs.Rules.{IsImage}
use Rattle.redo_record.specs.declared.redo.Record.{Record}
use Rattle.redo_record.specs.declared.redo.Record.TheVariants.{Make}
use Rattle.redo_record.specs.declared.plans.Plan.{Plan}
use Rattle.redo_record.specs.Effect.{after_records, RecordsApply}
use Rattle.redo_record.specs.Spelling.{IsAdmitted}
use Rattle.redo_record.proofs.Fold.{after_records-append, after_records-page, RecordsApply-append}
use Rattle.bplus_tree.specs.Tree.{Tree, is_leaf, Linked}
use Rattle.page_image.specs.declared.meta.TheConstants.{PAGE_COUNT_AT}
use Rattle.tree_change.specs.Way.{IsWayTo}
use Rattle.tree_change.specs.Splits.{counts}
use Rattle.page_view.specs.declared.leaf.LeafItem.{LeafItem}
use Rattle.page_view.specs.Keys.{keys_of}
use Rattle.tree_change.specs.Pages.{HasRows}
use Rattle.tree_change.specs.Changes.{IsPut, with_root}
use Rattle.tree_change.specs.Effects.{pages_after, TouchesOnly, MakeGroup, StandsOn, Carries, IsFresh, Counts, Begins}
use Rattle.tree_change.proofs.ListLaws.{all_front, all_back, all_join}
use Rattle.tree_change.proofs.SortLaws.{placed, not_there}
use Rattle.tree_change.proofs.EffectLaws.{untouched, none_apply, own_apply, other_apply, own_after, other_after}
use Rattle.tree_change.proofs.SpotLaws.{SameAt}
use Rattle.tree_change.proofs.NodeLaws.{IsNode, stands_nodes}
use Rattle.tree_change.proofs.MemberLaws.{here, by_members, member_has}
use Rattle.tree_change.proofs.GroupLaws.{fits_count, counted}
use Rattle.tree_change.proofs.FrameLaws.{tree_frame}
use Rattle.tree_change.proofs.SplitEffects.{can_count}
use Rattle.tree_change.proofs.SplitTree.{unmade_apart, meta_apart, kept_leaf}

abbrev last_two : Image → List Record
last_two meta = Make (page_count meta) Leaf 0 ∷ counts meta (page_count meta + 1) ∷ []

-- the pages of the tree, and the two that are none of them
record Setting (pages : ℕ → Image) (nodes : List ℕ) (meta : Image) : Type 0 where
  each : AllByRecursion (IsNode pages) nodes
  meta_there : pages meta.page ≡ meta
  new_there : pages (page_count meta) ≡ unmade (page_count meta)
  new_apart : (q : ℕ) → IsNode pages q → page_count meta ≢ q
  meta_apart : (q : ℕ) → IsNode pages q → meta.page ≢ q
  apart : page_count meta ≢ meta.page

setting : (key : List ℕ) (path : List Image) (meta : Image) (plan : Plan) → IsMeta meta → (w : IsWayTo key path) → IsFresh w.pages meta (with_root plan meta) → Setting w.pages w.tree.nodes meta
setting key path meta plan is w fresh =
    let u : w.pages (page_count meta) ≡ unmade (page_count meta) = fresh.unmade.0 in
    let no_kind : (w.pages (page_count meta)).kind ≡ Unmade = ap (λ (o : Image). o.kind) u in
    let meta_kind : (w.pages meta.page).kind ≡ Meta = ap (λ (o : Image). o.kind) fresh.meta_is ∙ is.kind in
    record {
      each = stands_nodes w.pages w.tree.level w.root None None w.items w.tree.nodes w.tree.stands;
      meta_there = fresh.meta_is;
      new_there = u;
      new_apart = λ q n. unmade_apart w.pages (page_count meta) q no_kind n;
      meta_apart = λ q n. meta_apart w.pages meta.page q meta_kind n;
      apart = λ e. (let h : Unmade ≡ Meta = sym no_kind ∙ ap (λ (p : ℕ). (w.pages p).kind) e ∙ meta_kind in cc);
    }

-- what the plan does to the two pages: nothing
stays : (key : List ℕ) (path : List Image) (plan : Plan) (change : List (List ℕ) → List (List ℕ)) → Carries key path plan change → (w : IsWayTo key path) (lsn q : ℕ)
    → ((p : ℕ) → IsNode w.pages p → q ≢ p) → (im : Image) → w.pages q ≡ im → im.page ≡ q → after_records lsn plan.records (w.pages q) ≡ im
stays key path plan change c w lsn q other im e number =
    let nodes = stands_nodes w.pages w.tree.level w.root None None w.items w.tree.nodes w.tree.stands in
    let is : (w.pages q).page ≡ q = ap (λ (o : Image). o.page) e ∙ number in
    c.only lsn (w.pages q)
    (by_members (λ p. p ≢ (w.pages q).page) plan.pages (λ p there same. other p (member_has (IsNode w.pages) w.tree.nodes p nodes (c.within w p there)) (sym (same ∙ is))))
    ∙ e

-- the pages of the tree are as the plan leaves them
same_after : (pages : ℕ → Image) (nodes : List ℕ) (meta : Image) (records : List Record) (lsn : ℕ) → Setting pages nodes meta → (some : List ℕ) → AllByRecursion (IsNode pages) some
    → SameAt (pages_after lsn records pages) (pages_after lsn (records ++ last_two meta) pages) some
same_after pages nodes meta records lsn s [] each = tt
same_after pages nodes meta records lsn s (q ∷ some) each =
    let im : Image = after_records lsn records (pages q) in
    let number : im.page ≡ q = after_records-page lsn records (pages q) ∙ each.0.number in (
      after_records-append lsn records (last_two meta) (pages q)
          ∙ untouched lsn (last_two meta) im ((λ e. s.new_apart q each.0 (e ∙ number)), ((λ e. s.meta_apart q each.0 (e ∙ number)), tt)),
      same_after pages nodes meta records lsn s some each.1,
    )

alone : (page : ℕ) → IsDistinct nat_eq (page ∷ [])
unfolding IsDistinct
alone page = (tt, tt)

-- an empty leaf is a tree
pub empty_tree : (pages : ℕ → Image) (page lsn : ℕ) → pages page ≡ made (unmade page) Leaf 0 lsn → StandsOn pages page [] (page ∷ []) 0
empty_tree pages page lsn e =
    let kind : (pages page).kind ≡ Leaf = ap (λ (o : Image). o.kind) e in
    let leaf : Tree pages page [] = record {
      level = 0;
      nodes = page ∷ [];
      low_enough = omega arith;
      stands = (
        record {
          kind = kind;
          number = ap (λ (o : Image). o.page) e;
          has = ap (λ (o : Image). o.items) e;
          each = tt;
          ascend = λ i j less within. absurd (omega arith);
          from = tt;
          below = tt;
        },
        refl,
      );
      linked = subst (Linked pages) (sym (kept_leaf pages page [] (ap is_leaf kind))) (ap (λ (o : Image). o.next) e);
      apart = alone page;
    } in
    record { tree = leaf; nodes_are = refl; level_is = refl }

pub begins_from : (key : List ℕ) (path : List Image) (meta : Image) (plan : Plan) (change : List (List ℕ) → List (List ℕ)) → Carries key path plan change → length plan.records ≤ 2
    → IsMeta meta → IsImage meta → page_count meta ≤ 32767 → Begins key path meta (with_root plan meta) change
begins_from key path meta plan change c few is image bound =
    let new : ℕ = page_count meta in
    let rs : List Record = plan.records in
    let tail : List Record = last_two meta in
    record {
      group = group;
      only = λ lsn im ne.
          let back = all_back (λ p. p ≢ im.page) plan.pages (new ∷ meta.page ∷ []) ne in
          after_records-append lsn rs tail im
          ∙ ap (after_records lsn tail) (c.only lsn im (all_front (λ p. p ≢ im.page) plan.pages (new ∷ meta.page ∷ []) ne))
          ∙ untouched lsn tail im (back.0, (back.1.0, tt));
      within = λ w page there.
          member_has (λ q. Contains w.tree.nodes q ⊎ (Contains (new ∷ []) q ⊎ (q ≡ meta.page))) (plan.pages ++ (new ∷ meta.page ∷ [])) page
          (all_join (λ q. Contains w.tree.nodes q ⊎ (Contains (new ∷ []) q ⊎ (q ≡ meta.page))) plan.pages (new ∷ meta.page ∷ [])
          (by_members (λ q. Contains w.tree.nodes q ⊎ (Contains (new ∷ []) q ⊎ (q ≡ meta.page))) plan.pages (λ q k. inl (c.within w q k)))
          (inr (inl (here new [])), (inr (inr refl), tt))) there;
      made = record { some = omega arith; next = ((omega arith, omega arith), tt); bound = omega arith };
      applies = applies;
      stands = λ w fresh lsn.
          let s = setting key path meta plan is w fresh in
          let old = c.stands w lsn in
          let same = same_after w.pages w.tree.nodes meta rs lsn s w.tree.nodes s.each in
          let same' = subst (SameAt (pages_after lsn rs w.pages) (pages_after lsn (rs ++ tail) w.pages)) (sym old.nodes_are) same in
          let f = tree_frame (pages_after lsn rs w.pages) (pages_after lsn (rs ++ tail) w.pages) w.root (change w.items) old.tree same' in
          record { tree = f.tree; nodes_are = f.nodes_are ∙ old.nodes_are; level_is = f.level_is ∙ old.level_is };
      begins = λ w fresh lsn.
          let s = setting key path meta plan is w fresh in
          let one : Image = made (unmade new) Leaf 0 lsn in
          let e : pages_after lsn (rs ++ tail) w.pages new ≡ one =
          after_records-append lsn rs tail (w.pages new)
          ∙ ap (after_records lsn tail) (stays key path plan change c w lsn new s.new_apart (unmade new) s.new_there refl)
          ∙ own_after lsn (Make new Leaf 0) (counts meta (new + 1) ∷ []) (unmade new) refl
          ∙ other_after lsn (counts meta (new + 1)) [] one (λ q. s.apart (sym q)) in
          empty_tree (pages_after lsn (rs ++ tail) w.pages) new lsn e;
      counts = λ w fresh lsn.
          let s = setting key path meta plan is w fresh in
          let e : pages_after lsn (rs ++ tail) w.pages meta.page ≡ patched meta PAGE_COUNT_AT (field 4 (new + 1)) lsn =
          after_records-append lsn rs tail (w.pages meta.page)
          ∙ ap (after_records lsn tail) (stays key path plan change c w lsn meta.page s.meta_apart meta s.meta_there refl)
          ∙ other_after lsn (Make new Leaf 0) (counts meta (new + 1) ∷ []) meta s.apart
          ∙ own_after lsn (counts meta (new + 1)) [] meta refl in
          subst (λ (o : Image). Counts o (new + 1)) (sym e) (counted meta (new + 1) lsn is (image.whole_body (ap has_body is.kind)) (omega arith));
    }
  where
    group : MakeGroup (plan.records ++ last_two meta)
    group =
        let long = length-append plan.records (last_two meta) in
        record {
          some = omega (arith, long);
          most = omega (arith, long, few);
          each = all_join IsAdmitted plan.records (last_two meta) c.group.each (((λ e. cc), refl), (fits_count (page_count meta + 1), tt));
        }

    applies : (w : IsWayTo key path) → IsFresh w.pages meta (with_root plan meta) → (lsn page : ℕ) → (w.pages page).page ≡ page
        → RecordsApply lsn (plan.records ++ last_two meta) (w.pages page)
    applies w fresh lsn page number =
        let s = setting key path meta plan is w fresh in
        let new : ℕ = page_count meta in
        let rs : List Record = plan.records in
        let tail : List Record = last_two meta in
        let im : Image = after_records lsn rs (w.pages page) in
        let own : im.page ≡ page = after_records-page lsn rs (w.pages page) ∙ number in
        RecordsApply-append lsn rs tail (w.pages page) (c.applies w lsn page number)
        (elim (eqb_tells page new) [
          | inl here ↦
              let e : im ≡ unmade new = ap (λ (p : ℕ). after_records lsn rs (w.pages p)) here.1 ∙ stays key path plan change c w lsn new s.new_apart (unmade new) s.new_there refl in
              subst (RecordsApply lsn tail) (sym e)
              (own_apply lsn (Make new Leaf 0) (counts meta (new + 1) ∷ []) (unmade new) refl (record { some = λ q. (let h : Leaf ≡ Unmade = q in cc); fits = refl; from = inl refl })
              (other_apply lsn (counts meta (new + 1)) [] (made (unmade new) Leaf 0 lsn) (λ q. s.apart (sym q)) tt))
          | inr not_new ↦ elim (eqb_tells page meta.page) [
            | inl here ↦
                let e : im ≡ meta = ap (λ (p : ℕ). after_records lsn rs (w.pages p)) here.1 ∙ stays key path plan change c w lsn meta.page s.meta_apart meta s.meta_there refl in
                subst (RecordsApply lsn tail) (sym e)
                (other_apply lsn (Make new Leaf 0) (counts meta (new + 1) ∷ []) meta s.apart (own_apply lsn (counts meta (new + 1)) [] meta refl (can_count meta (new + 1) is.kind) tt))
            | inr not_meta ↦ none_apply lsn tail im ((λ e. not_new.1 (sym (e ∙ own))), ((λ e. not_meta.1 (sym (e ∙ own))), tt))
          ]
        ])

-- a plan that puts an item in has at most two records
pub put_few : (leaf : Image) (item : LeafItem) (plan : Plan) → HasRows leaf → IsPut leaf item plan → length plan.records ≤ 2
put_few leaf item plan rows put =
    elim (placed (keys_of leaf.items) item.key rows.ascend) [
      | inl found ↦ subst (λ (p : Plan). length p.records ≤ 2) (sym (put.replaces found)) (omega arith)
      | inr p ↦ subst (λ (q : Plan). length q.records ≤ 2) (sym (put.inserts (λ k. not_there (keys_of leaf.items) item.key p.0 k.0 p.2 p.3 k.1))) (omega arith)
    ]
