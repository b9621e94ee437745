-- Trees on one set of pages after a plan has changed one of them.
use Rattle.std.proofs.Common.{◌≡◌, ◌≢◌, ◌<◌, ◌≤◌, ◌+◌, ℕ, true, false, cond, eqb, leb, List, [], ◌∷◌, ◌++◌, length, None, refl, sym, ap, subst, ◌∙◌, arith, inl, inr}
use Rattle.std.specs.Prelude.{◌⊎◌, Contains}
use Rattle.std.specs.List.{AllByRecursion}
use Rattle.std.proofs.lemmas.Bool.{cases_lt, eq-eqb, ne_eqb}
use Rattle.std.proofs.lemmas.Bool.Decides.{eqb_tells, nat_tests}
use Rattle.page_image.specs.Image.{Image, unmade}
use Rattle.redo_record.specs.declared.plans.Plan.{Plan}
use Rattle.redo_record.proofs.Fold.{after_records-page}
use Rattle.bplus_tree.specs.Tree.{Tree}
use Rattle.tree_change.specs.Way.{IsWayTo}
use Rattle.page_image.specs.Meta.{page_count}
use Rattle.tree_change.specs.Effects.{pages_after, TouchesOnly, StandsOn, Counts, IsFresh, Carries, Keeps, Begins}
use Rattle.tree_change.proofs.NodeLaws.{IsNode, stands_nodes}
use Rattle.tree_change.proofs.MemberLaws.{here, by_members, member_has}
use Rattle.tree_change.proofs.SiteLaws.{own_first}
use Rattle.tree_change.proofs.FrameLaws.{tree_frame}
use Rattle.tree_change.proofs.SplitTree.{unmade_apart, meta_apart}
use Rattle.std.proofs.lemmas.List.Elements.{Contains-append_cases}
use Rattle.bplus_tree.specs.Forest.{Forest, Owns, with_tree}
use Rattle.tree_store.specs.Rooms.{IsWayIn}

-- ---- pages of trees

pub nodes_of : (pages : ℕ → Image) (root : ℕ) (items : List (List ℕ)) (tree : Tree pages root items) → AllByRecursion (IsNode pages) tree.nodes
nodes_of pages root items tree = stands_nodes pages tree.level root None None items tree.nodes tree.stands

node_at : (pages : ℕ → Image) (root : ℕ) (items : List (List ℕ)) (tree : Tree pages root items) (q : ℕ) → Contains tree.nodes q → IsNode pages q
node_at pages root items tree q c = member_has (IsNode pages) tree.nodes q (nodes_of pages root items tree) c

pub root_node : (pages : ℕ → Image) (root : ℕ) (items : List (List ℕ)) (tree : Tree pages root items) → Contains tree.nodes root
root_node pages root items tree =
    let first = own_first pages tree.level root None None items tree.nodes tree.stands in
    subst (λ (ns : List ℕ). Contains ns root) (sym first.1) (here root first.0)

-- a page of a tree is one that the meta page counts
counted_node : (pages : ℕ → Image) (roots : List ℕ) (items : ℕ → List (List ℕ)) → Forest pages roots items → (q : ℕ) → IsNode pages q → q < page_count (pages 0)
counted_node pages roots items f q n =
    elim (cases_lt q (page_count (pages 0))) [
      | inl below ↦ below
      | inr past ↦ absurd (unmade_apart pages q q (ap (λ (o : Image). o.kind) (f.free q past)) n refl)
    ]

not_meta : (pages : ℕ → Image) (roots : List ℕ) (items : ℕ → List (List ℕ)) → Forest pages roots items → (q : ℕ) → IsNode pages q → q ≢ 0
not_meta pages roots items f q n e = meta_apart pages 0 q f.meta.kind n (sym e)

-- ---- what a plan does to the pages of a forest

-- beside the pages of one tree, the meta page and the pages from `count` up to `after`, all stay
pub record Spares (pages others : ℕ → Image) (nodes : List ℕ) (count after : ℕ) : Type 0 where
  pub numbered : (q : ℕ) → (others q).page ≡ q
  pub same : (q : ℕ) → ¬ Contains nodes q → q ≢ 0 → ((q < count) ⊎ (after ≤ q)) → others q ≡ pages q
  pub meta : Counts (others 0) after
  pub more : count ≤ after
  pub bound : after ≤ 32768

free_after : (pages others : ℕ → Image) (roots : List ℕ) (items : ℕ → List (List ℕ)) (f : Forest pages roots items) (root : ℕ) (its : List (List ℕ)) (tree : Tree pages root its) (after : ℕ)
    → Spares pages others tree.nodes (page_count (pages 0)) after → (q : ℕ) → page_count (others 0) ≤ q → others q ≡ unmade q
free_after pages others roots items f root its tree after s q past =
    let count = s.meta.count_is in
    let more = s.more in
    let low = f.low in
    let late : page_count (pages 0) ≤ q = omega (arith, count, more, past) in
    let no_node : ¬ Contains tree.nodes q =
    λ c. (let below = counted_node pages roots items f q (node_at pages root its tree q c) in omega (arith, below, late)) in
    s.same q no_node (omega (arith, low, late)) (inr (omega (arith, count, past))) ∙ f.free q late

-- the other trees stay
other_tree : (pages others : ℕ → Image) (roots : List ℕ) (items : ℕ → List (List ℕ)) (f : Forest pages roots items) (root : ℕ) (c : Contains roots root) (after : ℕ)
    → Spares pages others (f.trees root c).tree.nodes (page_count (pages 0)) after → (r : ℕ) (d : Contains roots r) → r ≢ root
    → StandsOn others r (items r) (f.trees r d).tree.nodes (f.trees r d).tree.level
other_tree pages others roots items f root c after s r d apart =
    let own = f.trees root c in
    let other = f.trees r d in
    tree_frame pages others r (items r) other.tree
    (by_members (λ q. others q ≡ pages q) other.tree.nodes
    (λ q k.
    let n = node_at pages r (items r) other.tree q k in
    s.same q (λ mine. apart (sym (other.owned q k) ∙ own.owned q mine)) (not_meta pages roots items f q n) (inl (counted_node pages roots items f q n))))

-- the owners, where the pages from a number on have a new one
abbrev pub owned_by : ℕ → ℕ → (ℕ → ℕ) → ℕ → ℕ
owned_by count late owner q = cond (leb count q) late (owner q)

owned_before : (count late : ℕ) (owner : ℕ → ℕ) (q : ℕ) → q < count → owned_by count late owner q ≡ owner q
owned_before count late owner q h = grind (arith, nat_tests)

owned_from : (count late : ℕ) (owner : ℕ → ℕ) (q : ℕ) → count ≤ q → owned_by count late owner q ≡ late
owned_from count late owner q h = grind (arith, nat_tests)

pub with_same : (items : ℕ → List (List ℕ)) (root : ℕ) (new : List (List ℕ)) (r : ℕ) → r ≡ root → with_tree items root new r ≡ new
with_same items root new r e = let t : eqb r root ≡ true = eq-eqb r root e in rw t refl

pub with_other : (items : ℕ → List (List ℕ)) (root : ℕ) (new : List (List ℕ)) (r : ℕ) → r ≢ root → with_tree items root new r ≡ items r
with_other items root new r ne = let t : eqb r root ≡ false = ne_eqb r root ne in rw t refl

-- a tree that has no pages but old ones of its own, and made ones
pub record Regrown (others : ℕ → Image) (root : ℕ) (items : List (List ℕ)) (nodes : List ℕ) (count : ℕ) : Type 0 where
  pub tree : Tree others root items
  pub own : (q : ℕ) → Contains tree.nodes q → Contains nodes q ⊎ (count ≤ q)

-- the tree of a root, where the owners change from a number on
owns_root : (pages others : ℕ → Image) (roots : List ℕ) (items : ℕ → List (List ℕ)) (f : Forest pages roots items) (root : ℕ) (c : Contains roots root) (new : List (List ℕ))
    → Regrown others root new (f.trees root c).tree.nodes (page_count (pages 0)) → Owns others (owned_by (page_count (pages 0)) root f.owner) root new
owns_root pages others roots items f root c new g = record { tree = g.tree; owned = λ q k. by_age q (g.own q k) }
  where
    by_age : (q : ℕ) → Contains (f.trees root c).tree.nodes q ⊎ (page_count (pages 0) ≤ q) → owned_by (page_count (pages 0)) root f.owner q ≡ root
    by_age q (inl old) =
        let n = node_at pages root (items root) (f.trees root c).tree q old in
        owned_before (page_count (pages 0)) root f.owner q (counted_node pages roots items f q n) ∙ (f.trees root c).owned q old
    by_age q (inr late) = owned_from (page_count (pages 0)) root f.owner q late

-- another tree, likewise
owns_other : (pages others : ℕ → Image) (roots : List ℕ) (items : ℕ → List (List ℕ)) (f : Forest pages roots items) (r : ℕ) (d : Contains roots r) (late : ℕ)
    → StandsOn others r (items r) (f.trees r d).tree.nodes (f.trees r d).tree.level → Owns others (owned_by (page_count (pages 0)) late f.owner) r (items r)
owns_other pages others roots items f r d late s = record {
  tree = s.tree;
  owned = λ q k.
      let old : Contains (f.trees r d).tree.nodes q = subst (λ (ns : List ℕ). Contains ns q) s.nodes_are k in
      let n = node_at pages r (items r) (f.trees r d).tree q old in
      owned_before (page_count (pages 0)) late f.owner q (counted_node pages roots items f q n) ∙ (f.trees r d).owned q old;
}

-- one tree of a forest is changed
pub forest_with : (pages others : ℕ → Image) (roots : List ℕ) (items : ℕ → List (List ℕ)) (f : Forest pages roots items) (root : ℕ) (c : Contains roots root) (new : List (List ℕ)) (after : ℕ)
    → Spares pages others (f.trees root c).tree.nodes (page_count (pages 0)) after → Regrown others root new (f.trees root c).tree.nodes (page_count (pages 0))
    → Forest others roots (with_tree items root new)
forest_with pages others roots items f root c new after s g =
    let count = s.meta.count_is in
    let more = s.more in
    let bound = s.bound in
    let low = f.low in
    let owner : ℕ → ℕ = owned_by (page_count (pages 0)) root f.owner in
    record {
      meta = s.meta.is_meta;
      low = omega (arith, count, more, low);
      high = omega (arith, count, bound);
      free = free_after pages others roots items f root (items root) (f.trees root c).tree after s;
      numbered = s.numbered;
      owner = owner;
      trees = λ r d.
          elim (eqb_tells r root) [
            | inl own ↦
                subst (λ (p : ℕ). Owns others owner p (with_tree items root new p)) (sym own.1)
                (subst (Owns others owner root) (sym (with_same items root new root refl)) (owns_root pages others roots items f root c new g))
            | inr other ↦
                subst (Owns others owner r) (sym (with_other items root new r other.1))
                (owns_other pages others roots items f r d root (other_tree pages others roots items f root c after s r d other.1))
          ];
    }

-- ---- the plans

abbrev pub way_to : (pages : ℕ → Image) (roots : List ℕ) (items : ℕ → List (List ℕ)) (f : Forest pages roots items) (root : ℕ) (c : Contains roots root) (key : List ℕ) (path : List Image)
    → IsWayIn pages root key path → IsWayTo key path
way_to pages roots items f root c key path v =
    record { pages = pages; root = root; items = items root; tree = (f.trees root c).tree; numbers = v.numbers; way = v.way (items root) (f.trees root c).tree; read = v.read }

pub carried : (pages : ℕ → Image) (roots : List ℕ) (items : ℕ → List (List ℕ)) (f : Forest pages roots items) (root : ℕ) (c : Contains roots root) (key : List ℕ) (path : List Image)
    (v : IsWayIn pages root key path) (plan : Plan) (change : List (List ℕ) → List (List ℕ)) → Carries key path plan change → (lsn : ℕ)
    → Forest (pages_after lsn plan.records pages) roots (with_tree items root (change (items root)))
carried pages roots items f root c key path v plan change k lsn =
    let w = way_to pages roots items f root c key path v in
    let own = (f.trees root c).tree in
    let others : ℕ → Image = pages_after lsn plan.records pages in
    let same = λ (q : ℕ) (away : ¬ Contains own.nodes q).
    k.only lsn (pages q) (by_members (λ p. p ≢ (pages q).page) plan.pages (λ p there e. away (subst (Contains own.nodes) (e ∙ f.numbered q) (k.within w p there)))) in
    let meta : others 0 ≡ pages 0 = same 0 (λ there. not_meta pages roots items f 0 (node_at pages root (items root) own 0 there) refl) in
    let high = f.high in
    let s : Spares pages others own.nodes (page_count (pages 0)) (page_count (pages 0)) = record {
      numbered = λ q. after_records-page lsn plan.records (pages q) ∙ f.numbered q;
      same = λ q away zero_apart young. same q away;
      meta = subst (λ (o : Image). Counts o (page_count (pages 0))) (sym meta) (record { is_meta = f.meta; count_is = refl });
      more = omega arith;
      bound = omega (arith, high);
    } in
    let t = k.stands w lsn in
    let g : Regrown others root (change (items root)) own.nodes (page_count (pages 0)) =
    record { tree = t.tree; own = λ q there. inl (subst (λ (ns : List ℕ). Contains ns q) t.nodes_are there) } in
    forest_with pages others roots items f root c (change (items root)) (page_count (pages 0)) s g

-- the pages that a plan makes are free
pub is_fresh : (pages : ℕ → Image) (roots : List ℕ) (items : ℕ → List (List ℕ)) (f : Forest pages roots items) (plan : Plan)
    → AllByRecursion (λ page. (page_count (pages 0) ≤ page) × (page < page_count (pages 0) + length plan.made)) plan.made → IsFresh pages (pages 0) plan
is_fresh pages roots items f plan next = record {
  meta_is = ap pages (f.numbered 0);
  unmade = by_members (λ page. pages page ≡ unmade page) plan.made
      (λ page there.
      f.free page (member_has (λ q. (page_count (pages 0) ≤ q) × (q < page_count (pages 0) + length plan.made)) plan.made page next there).0);
}

-- what a plan spares that makes pages
spared : (pages : ℕ → Image) (roots : List ℕ) (items : ℕ → List (List ℕ)) (f : Forest pages roots items) (nodes : List ℕ) (plan : Plan) (lsn : ℕ)
    → TouchesOnly plan.pages plan.records
    → ((page : ℕ) → Contains plan.pages page → Contains nodes page ⊎ (Contains plan.made page ⊎ (page ≡ (pages 0).page)))
    → AllByRecursion (λ page. (page_count (pages 0) ≤ page) × (page < page_count (pages 0) + length plan.made)) plan.made
    → page_count (pages 0) + length plan.made ≤ 32768 → Counts (pages_after lsn plan.records pages (pages 0).page) (page_count (pages 0) + length plan.made)
    → Spares pages (pages_after lsn plan.records pages) nodes (page_count (pages 0)) (page_count (pages 0) + length plan.made)
spared pages roots items f nodes plan lsn only within next bound counts = record {
  numbered = λ q. after_records-page lsn plan.records (pages q) ∙ f.numbered q;
  same = λ q away not_zero young.
      only lsn (pages q) (by_members (λ p. p ≢ (pages q).page) plan.pages (λ p there e. apart q away not_zero young p (e ∙ f.numbered q) (within p there)));
  meta = subst (λ (p : ℕ). Counts (pages_after lsn plan.records pages p) (page_count (pages 0) + length plan.made)) (f.numbered 0) counts;
  more = omega arith;
  bound = bound;
}
  where
    apart : (q : ℕ) → ¬ Contains nodes q → q ≢ 0 → ((q < page_count (pages 0)) ⊎ (page_count (pages 0) + length plan.made ≤ q)) → (p : ℕ) → p ≡ q
        → Contains nodes p ⊎ (Contains plan.made p ⊎ (p ≡ (pages 0).page)) → ⊥
    apart q away not_zero young p e (inl mine) = away (subst (Contains nodes) e mine)
    apart q away not_zero young p e (inr (inr meta)) = not_zero (sym e ∙ meta ∙ f.numbered 0)
    apart q away not_zero (inl young) p e (inr (inl made)) =
        let h = member_has (λ k. (page_count (pages 0) ≤ k) × (k < page_count (pages 0) + length plan.made)) plan.made p next made in
        let a = h.0 in
        omega (arith, a, e, young)
    apart q away not_zero (inr old) p e (inr (inl made)) =
        let h = member_has (λ k. (page_count (pages 0) ≤ k) × (k < page_count (pages 0) + length plan.made)) plan.made p next made in
        let b = h.1 in
        omega (arith, b, e, old)

made_late : (pages : ℕ → Image) (nodes : List ℕ) (plan : Plan) → AllByRecursion (λ page. (page_count (pages 0) ≤ page) × (page < page_count (pages 0) + length plan.made)) plan.made
    → (q : ℕ) → Contains nodes q ⊎ Contains plan.made q → Contains nodes q ⊎ (page_count (pages 0) ≤ q)
made_late pages nodes plan next q (inl old) = inl old
made_late pages nodes plan next q (inr made) =
    inr (member_has (λ k. (page_count (pages 0) ≤ k) × (k < page_count (pages 0) + length plan.made)) plan.made q next made).0

-- the items of a tree, put where they are
pub with_itself : (items : ℕ → List (List ℕ)) (root r : ℕ) → with_tree items root (items root) r ≡ items r
with_itself items root r =
    elim (eqb_tells r root) [
      | inl own ↦ with_same items root (items root) r own.1 ∙ ap items (sym own.1)
      | inr other ↦ with_other items root (items root) r other.1
    ]

pub kept : (pages : ℕ → Image) (roots : List ℕ) (items : ℕ → List (List ℕ)) (f : Forest pages roots items) (root : ℕ) (c : Contains roots root) (key : List ℕ) (path : List Image)
    (v : IsWayIn pages root key path) (plan : Plan) → Keeps key path (pages 0) plan → (lsn : ℕ) → Forest (pages_after lsn plan.records pages) roots items
kept pages roots items f root c key path v plan k lsn =
    let w = way_to pages roots items f root c key path v in
    let own = (f.trees root c).tree in
    let others : ℕ → Image = pages_after lsn plan.records pages in
    let fresh = is_fresh pages roots items f plan k.made.next in
    let s = spared pages roots items f own.nodes plan lsn k.only (k.within w) k.made.next k.made.bound (k.counts w fresh lsn) in
    let t = k.stands w fresh lsn in
    let g : Regrown others root (items root) own.nodes (page_count (pages 0)) =
    record { tree = t.tree; own = λ q there. made_late pages own.nodes plan k.made.next q ((t.nodes_are q).0 there) } in
    let done = forest_with pages others roots items f root c (items root) (page_count (pages 0) + length plan.made) s g in
    let same : with_tree items root (items root) ≡ items = λ i r. with_itself items root r i in
    subst (Forest others roots) same done

-- the count after such a plan
pub count_after : (pages : ℕ → Image) (roots : List ℕ) (items : ℕ → List (List ℕ)) (f : Forest pages roots items) (root : ℕ) (c : Contains roots root) (key : List ℕ) (path : List Image)
    (v : IsWayIn pages root key path) (plan : Plan) → Keeps key path (pages 0) plan → (lsn : ℕ) → page_count (pages_after lsn plan.records pages 0) ≡ page_count (pages 0) + length plan.made
count_after pages roots items f root c key path v plan k lsn =
    let w = way_to pages roots items f root c key path v in
    let fresh = is_fresh pages roots items f plan k.made.next in
    ap (λ (p : ℕ). page_count (pages_after lsn plan.records pages p)) (sym (f.numbered 0)) ∙ (k.counts w fresh lsn).count_is

pub begun : (pages : ℕ → Image) (roots : List ℕ) (items : ℕ → List (List ℕ)) (f : Forest pages roots items) (root : ℕ) (c : Contains roots root) (key : List ℕ) (path : List Image)
    (v : IsWayIn pages root key path) (plan : Plan) (change : List (List ℕ) → List (List ℕ)) → Begins key path (pages 0) plan change → (lsn : ℕ)
    → Forest (pages_after lsn plan.records pages) (roots ++ page_count (pages 0) ∷ []) (with_tree (with_tree items root (change (items root))) (page_count (pages 0)) [])
begun pages roots items f root c key path v plan change k lsn =
    let w = way_to pages roots items f root c key path v in
    let own = (f.trees root c).tree in
    let count : ℕ = page_count (pages 0) in
    let others : ℕ → Image = pages_after lsn plan.records pages in
    let fresh = is_fresh pages roots items f plan k.made.next in
    let after : ℕ = page_count (pages 0) + length plan.made in
    let s = spared pages roots items f own.nodes plan lsn k.only (k.within w) k.made.next k.made.bound (k.counts w fresh lsn) in
    let counted = s.meta.count_is in
    let bound = s.bound in
    let low = f.low in
    record {
      meta = s.meta.is_meta;
      low = omega (arith, counted, low);
      high = omega (arith, counted, bound);
      free = free_after pages others roots items f root (items root) own after s;
      numbered = s.numbered;
      owner = owned_by count count f.owner;
      trees = λ r d. place s r (Contains-append_cases roots (count ∷ []) r d);
    }
  where
    old_root : (r : ℕ) → Contains roots r → r ≢ page_count (pages 0)
    old_root r d e =
        let below = counted_node pages roots items f r (node_at pages r (items r) (f.trees r d).tree r (root_node pages r (items r) (f.trees r d).tree)) in
        omega (arith, below, e)

    owns_changed : Owns (pages_after lsn plan.records pages) (owned_by (page_count (pages 0)) (page_count (pages 0)) f.owner) root (change (items root))
    owns_changed =
        let w = way_to pages roots items f root c key path v in
        let t = k.stands w (is_fresh pages roots items f plan k.made.next) lsn in
        record {
          tree = t.tree;
          owned = λ q there.
              let old : Contains (f.trees root c).tree.nodes q = subst (λ (ns : List ℕ). Contains ns q) t.nodes_are there in
              let n = node_at pages root (items root) (f.trees root c).tree q old in
              owned_before (page_count (pages 0)) (page_count (pages 0)) f.owner q (counted_node pages roots items f q n) ∙ (f.trees root c).owned q old;
        }

    owns_new : Owns (pages_after lsn plan.records pages) (owned_by (page_count (pages 0)) (page_count (pages 0)) f.owner) (page_count (pages 0)) []
    owns_new =
        let count : ℕ = page_count (pages 0) in
        let w = way_to pages roots items f root c key path v in
        let t = k.begins w (is_fresh pages roots items f plan k.made.next) lsn in
        record {
          tree = t.tree;
          owned = λ q there.
              let is : q ≡ count = member_has (λ p. p ≡ count) (count ∷ []) q (refl, tt) (subst (λ (ns : List ℕ). Contains ns q) t.nodes_are there) in
              owned_from count count f.owner q (omega (arith, is));
        }

    place : Spares pages (pages_after lsn plan.records pages) (f.trees root c).tree.nodes (page_count (pages 0)) (page_count (pages 0) + length plan.made)
        → (r : ℕ) → Contains roots r ⊎ Contains (page_count (pages 0) ∷ []) r
        → Owns (pages_after lsn plan.records pages) (owned_by (page_count (pages 0)) (page_count (pages 0)) f.owner) r
        (with_tree (with_tree items root (change (items root))) (page_count (pages 0)) [] r)
    place s r (inl d) =
        let others : ℕ → Image = pages_after lsn plan.records pages in
        let owner : ℕ → ℕ = owned_by (page_count (pages 0)) (page_count (pages 0)) f.owner in
        let one : ℕ → List (List ℕ) = with_tree items root (change (items root)) in
        subst (Owns others owner r) (sym (with_other one (page_count (pages 0)) [] r (old_root r d)))
        (elim (eqb_tells r root) [
          | inl own ↦
              subst (λ (p : ℕ). Owns others owner p (one p)) (sym own.1)
              (subst (Owns others owner root) (sym (with_same items root (change (items root)) root refl)) owns_changed)
          | inr other ↦
              subst (Owns others owner r) (sym (with_other items root (change (items root)) r other.1))
              (owns_other pages others roots items f r d (page_count (pages 0))
              (other_tree pages others roots items f root c (page_count (pages 0) + length plan.made) s r d other.1))
        ])
    place s r (inr d) =
        let count : ℕ = page_count (pages 0) in
        let is : r ≡ count = member_has (λ q. q ≡ count) (count ∷ []) r (refl, tt) d in
        let one : ℕ → List (List ℕ) = with_tree items root (change (items root)) in
        subst (λ (p : ℕ). Owns (pages_after lsn plan.records pages) (owned_by count count f.owner) p (with_tree one count [] p)) (sym is)
        (subst (Owns (pages_after lsn plan.records pages) (owned_by count count f.owner) count) (sym (with_same one count [] count refl)) owns_new)

pub root_bound : (pages : ℕ → Image) (roots : List ℕ) (items : ℕ → List (List ℕ)) → Forest pages roots items → (root : ℕ) → Contains roots root → root ≤ 32767
root_bound pages roots items f root c =
    let tree = (f.trees root c).tree in
    let below = counted_node pages roots items f root (node_at pages root (items root) tree root (root_node pages root (items root) tree)) in
    let high = f.high in
    omega (arith, below, high)

pub not_a_root : (pages : ℕ → Image) (roots : List ℕ) (items : ℕ → List (List ℕ)) → Forest pages roots items → ¬ Contains roots (page_count (pages 0))
not_a_root pages roots items f d =
    let count : ℕ = page_count (pages 0) in
    let below = counted_node pages roots items f count (node_at pages count (items count) (f.trees count d).tree count (root_node pages count (items count) (f.trees count d).tree)) in
    omega (arith, below)
