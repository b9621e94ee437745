-- A walk along the leaves of a range, on its way.
use Rattle.std.proofs.Common.{◌≡◌, ℕ, Bool, true, false, cond, List, [], ◌∷◌, ◌++◌, map, Option, Some, None, refl, sym, ap, subst, ◌∙◌}
use Rattle.std.specs.List.{AllByRecursion}
use Rattle.std.proofs.lemmas.List.{append_assoc, append-nil}
use Rattle.page_image.specs.declared.kind.Kind.{Kind}
use Rattle.page_image.specs.declared.kind.Kind.TheVariants as kind
use Rattle.page_image.specs.Image.{Image}
use Rattle.bplus_tree.specs.declared.want.Want.TheVariants.{Need, Leaf}
use Rattle.bplus_tree.specs.Tree.{Tree, is_leaf, leaves_of}
use Rattle.bplus_tree.specs.Walk.{Walking, start, wanted, Told, Answers, Runs}
use Rattle.bplus_tree.specs.Found.{FindsRange}
use Rattle.tree_change.specs.Pages.{HasRows}
use Rattle.tree_change.proofs.ListLaws.{all_front, all_back}
use Rattle.tree_change.proofs.NodeLaws.{stands_all}
use Rattle.tree_change.proofs.WayLaws.{rows_of}
use Rattle.tree_store.specs.Found.{noted, HoldsRange}

-- ---- the leaves of a tree have rows

abbrev RowsIfLeaf : (ℕ → Image) → ℕ → Type 0
RowsIfLeaf pages q = (pages q).kind ≡ kind.Leaf → HasRows (pages q)

rows_if_leaf : (pages : ℕ → Image) (root : ℕ) (items : List (List ℕ)) (tree : Tree pages root items) → AllByRecursion (RowsIfLeaf pages) tree.nodes
rows_if_leaf pages root items tree =
    stands_all pages (RowsIfLeaf pages)
    (λ q low high its page e. rows_of (pages q) q low high its page)
    (λ q level es page e. absurd (let h : kind.Inner ≡ kind.Leaf = sym page.kind ∙ e in cc))
    tree.level root None None items tree.nodes tree.stands

leaf_from : (k : Kind) → is_leaf k ≡ true → k ≡ kind.Leaf
leaf_from kind.Unmade e = cc
leaf_from kind.Meta e = cc
leaf_from kind.Slots e = cc
leaf_from kind.Stamps e = cc
leaf_from kind.Leaf e = refl
leaf_from kind.Inner e = cc
leaf_from kind.Undo e = cc

rows_by : (pages : ℕ → Image) (q : ℕ) (rest : List ℕ) (b : Bool) → is_leaf (pages q).kind ≡ b → RowsIfLeaf pages q → AllByRecursion (λ p. HasRows (pages p)) rest
    → AllByRecursion (λ p. HasRows (pages p)) (cond b (q ∷ rest) rest)
rows_by pages q rest true e own all = (own (leaf_from (pages q).kind e), all)
rows_by pages q rest false e own all = all

rows_of_leaves : (pages : ℕ → Image) (nodes : List ℕ) → AllByRecursion (RowsIfLeaf pages) nodes → AllByRecursion (λ q. HasRows (pages q)) (leaves_of pages nodes)
rows_of_leaves pages [] all = tt
rows_of_leaves pages (q ∷ nodes) all = rows_by pages q (leaves_of pages nodes) (is_leaf (pages q).kind) refl all.0 (rows_of_leaves pages nodes all.1)

pub range_held : (pages : ℕ → Image) (root : ℕ) (items : List (List ℕ)) (tree : Tree pages root items) (low high : Option (List ℕ)) (f : FindsRange pages root items tree.nodes low high)
    → HoldsRange pages low high items f.leaves
range_held pages root items tree low high f =
    let rows = rows_of_leaves pages tree.nodes (rows_if_leaf pages root items tree) in
    let P = λ (q : ℕ). HasRows (pages q) in
    let all : AllByRecursion P (f.left ++ (f.leaves ++ f.right)) = subst (AllByRecursion P) f.among rows in
    record { finds = f.finds; rows = all_front P f.leaves f.right (all_back P f.left (f.leaves ++ f.right) all) }

-- ---- the leaves that a walk named, and those that it will name

pub record OnWalk (pages : ℕ → Image) (w : Walking) (leaves all : List ℕ) : Type 0 where
  pub ways : List ℕ
  pub todo : List ℕ
  pub runs : Runs pages w (map Need ways ++ map Leaf todo)
  pub whole : all ≡ leaves ++ todo

pub walk_starts : (pages : ℕ → Image) (root : ℕ) (items : List (List ℕ)) (nodes : List ℕ) (low high : Option (List ℕ)) (f : FindsRange pages root items nodes low high)
    → OnWalk pages (start root low high) [] f.leaves
walk_starts pages root items nodes low high f = record { ways = f.way; todo = f.leaves; runs = f.runs; whole = refl }

abbrev pub Steps : (ℕ → Image) → Walking → List ℕ → List ℕ → ℕ → Type 0
Steps pages w leaves all p = Answers pages p × ((new : Walking) → Told w (pages p) new → OnWalk pages new (noted leaves w.want) all)

steps_of : (pages : ℕ → Image) (w : Walking) (leaves all ways todo : List ℕ) (p : ℕ) → Runs pages w (map Need ways ++ map Leaf todo) → all ≡ leaves ++ todo
    → wanted w.want ≡ Some p → Steps pages w leaves all p
steps_of pages w leaves all (v ∷ vs) todo p r whole e =
    let h : Some v ≡ Some p = ap wanted (sym r.0) ∙ e in
    let same : v ≡ p = cc in
    let quiet : noted leaves w.want ≡ leaves = ap (noted leaves) r.0 in
    subst (Steps pages w leaves all) same
    ((r.1 v refl).0, λ new told. record { ways = vs; todo = todo; runs = (r.1 v refl).1 new told; whole = whole ∙ ap (λ (l : List ℕ). l ++ todo) (sym quiet) })
steps_of pages w leaves all [] [] p r whole e = absurd (let h : None ≡ Some p = ap wanted (sym r) ∙ e in cc)
steps_of pages w leaves all [] (t ∷ ts) p r whole e =
    let h : Some t ≡ Some p = ap wanted (sym r.0) ∙ e in
    let same : t ≡ p = cc in
    let more : noted leaves w.want ≡ leaves ++ t ∷ [] = ap (noted leaves) r.0 in
    subst (Steps pages w leaves all) same (
      (r.1 t refl).0,
      λ new told.
          record { ways = []; todo = ts; runs = (r.1 t refl).1 new told; whole = whole ∙ sym (append_assoc leaves (t ∷ []) ts) ∙ ap (λ (l : List ℕ). l ++ ts) (sym more) },
    )

pub walk_steps : (pages : ℕ → Image) (w : Walking) (leaves all : List ℕ) (p : ℕ) → OnWalk pages w leaves all → wanted w.want ≡ Some p → Steps pages w leaves all p
walk_steps pages w leaves all p o e = steps_of pages w leaves all o.ways o.todo p o.runs o.whole e

ends_of : (pages : ℕ → Image) (w : Walking) (leaves all ways todo : List ℕ) → Runs pages w (map Need ways ++ map Leaf todo) → all ≡ leaves ++ todo → wanted w.want ≡ None → all ≡ leaves
ends_of pages w leaves all (v ∷ vs) todo r whole e = absurd (let h : Some v ≡ None = ap wanted (sym r.0) ∙ e in cc)
ends_of pages w leaves all [] [] r whole e = whole ∙ append-nil leaves
ends_of pages w leaves all [] (t ∷ ts) r whole e = absurd (let h : Some t ≡ None = ap wanted (sym r.0) ∙ e in cc)

pub walk_ends : (pages : ℕ → Image) (w : Walking) (leaves all : List ℕ) → OnWalk pages w leaves all → wanted w.want ≡ None → all ≡ leaves
walk_ends pages w leaves all o e = ends_of pages w leaves all o.ways o.todo o.runs o.whole e
