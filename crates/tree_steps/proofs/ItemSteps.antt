-- Records that put items into leaves and take them out, or touch no page of the tree, keep its
-- shape.
use Rattle.std.proofs.Common.{◌≡◌, ◌≢◌, ◌-◌, ℕ, true, false, List, [], ◌∷◌, length, None, refl, sym, ap, subst, ◌∙◌, arith, inl, inr}
use Rattle.std.specs.Prelude.{◌⊎◌, nat_eq, Contains}
use Rattle.std.specs.List.{AllByRecursion}
use Rattle.std.proofs.lemmas.Bool.Decides.{eqb_tells}
use Rattle.page_image.specs.Image.{Image}
use Rattle.page_image.specs.declared.kind.Kind.TheVariants.{Leaf, Inner}
use Rattle.redo_record.specs.Effect.{page_of, effect, step, after_records}
use Rattle.redo_record.specs.declared.redo.Record.{Record}
use Rattle.redo_record.specs.declared.redo.Record.TheVariants.{Make, Patch, InsertSlot, RemoveSlot, Cut, Link}
use Rattle.bplus_tree.proofs.Order.{all_map}
use Rattle.bplus_tree.specs.Tree.{Tree, is_leaf}
use Rattle.tree_change.proofs.EffectLaws.{step_own, step_other, untouched}
use Rattle.tree_change.proofs.MemberLaws.{member_has}
use Rattle.tree_change.proofs.NodeLaws.{IsNode, stands_nodes}
use Rattle.tree_change.proofs.WayLaws.{path_length, at}
use Rattle.tree_change.specs.Effects.{pages_after, TouchesOnly}
use Rattle.tree_change.specs.Places.{page_on, leaf_on}
use Rattle.tree_change.specs.Way.{IsWayTo}
use Rattle.tree_timeline.specs.Steps.{KeepsShape}
use Rattle.tree_timeline.specs.Types.{Key, Items, Pages}
use Rattle.tree_timeline.proofs.Heights.{true_false}
use Rattle.tree_steps.specs.Groups.{IsItemRecord, FitsTree, is_tree_kind, IsElsewhere, FitsLeaf}

pub node_of : (pages : Pages) (root : ℕ) (items : Items) (tree : Tree pages root items) (q : ℕ)
    → Contains tree.nodes q → IsNode pages q
node_of pages root items tree q c =
    member_has (IsNode pages) tree.nodes q
    (stands_nodes pages tree.level root None None items tree.nodes tree.stands) c

-- what items of a leaf do not touch
pub record SlotSame (im om : Image) : Type 0 where
  pub kind : om.kind ≡ im.kind
  pub number : om.page ≡ im.page
  pub structure : om.structure ≡ im.structure

slot_same : (r : Record) (lsn : ℕ) (im : Image) → IsItemRecord r → im.kind ≡ Leaf
    → SlotSame im (effect r lsn im)
slot_same (Make page kind level) lsn im s k = absurd s
slot_same (Patch page at bytes) lsn im s k = absurd s
slot_same (InsertSlot page index bytes) lsn im s k =
    record { kind = refl; number = refl; structure = (rw k refl) }
slot_same (RemoveSlot page index) lsn im s k =
    record { kind = refl; number = refl; structure = (rw k refl) }
slot_same (Cut page from) lsn im s k = absurd s
slot_same (Link page next) lsn im s k = absurd s

after_slots : (pages : Pages) (nodes : List ℕ) (q lsn : ℕ) (rs : List Record) (im : Image)
    → Contains nodes q → im.page ≡ q → im.kind ≡ Leaf
    → AllByRecursion (FitsTree pages nodes) rs → SlotSame im (after_records lsn rs im)
after_slots pages nodes q lsn [] im c n k all =
    record { kind = refl; number = refl; structure = refl }
after_slots pages nodes q lsn (r ∷ rs) im c n k all =
    let om : Image = step lsn im r in
    let a : SlotSame im om = one (eqb_tells (page_of r) im.page) in
    let b = after_slots pages nodes q lsn rs om c (a.number ∙ n) (a.kind ∙ k) all.1 in
    record {
      kind = b.kind ∙ a.kind;
      number = b.number ∙ a.number;
      structure = b.structure ∙ a.structure;
    }
  where
    one : ((nat_eq (page_of r) im.page ≡ true) × (page_of r ≡ im.page))
        ⊎ ((nat_eq (page_of r) im.page ≡ false) × (page_of r ≢ im.page))
        → SlotSame im (step lsn im r)
    one (inl own) =
        subst (SlotSame im) (sym (step_own r lsn im own.1))
        (slot_same r lsn im (all.0.item (subst (Contains nodes) (sym (own.1 ∙ n)) c)) k)
    one (inr other) =
        subst (SlotSame im) (sym (step_other r lsn im other.1))
        (record { kind = refl; number = refl; structure = refl })

none_inner : (pages : Pages) (nodes : List ℕ) (q : ℕ) (rs : List Record) → Contains nodes q
    → is_leaf (pages q).kind ≡ false → AllByRecursion (FitsTree pages nodes) rs
    → AllByRecursion (λ r. page_of r ≢ q) rs
none_inner pages nodes q [] c inner all = tt
none_inner pages nodes q (r ∷ rs) c inner all = (
  (λ e.
      true_false (is_leaf (pages q).kind)
      (ap is_leaf (ap (λ (p : ℕ). (pages p).kind) (sym e)
      ∙ all.0.leaf (subst (Contains nodes) (sym e) c))) inner),
  none_inner pages nodes q rs c inner all.1,
)

pub change_stays : (pages : Pages) (root : ℕ) (items : Items) (tree : Tree pages root items)
    (rs : List Record) (lsn : ℕ)
    → AllByRecursion (FitsTree pages tree.nodes) rs
    → KeepsShape pages (pages_after lsn rs pages) tree.nodes
change_stays pages root items tree rs lsn all = record {
  inner = λ q c inner.
      let number = (node_of pages root items tree q c).number in
      untouched lsn rs (pages q)
      (subst (λ (p : ℕ). AllByRecursion (λ r. page_of r ≢ p) rs) (sym number)
      (none_inner pages tree.nodes q rs c inner all));
  leaf = λ q c leaf.
      let n = node_of pages root items tree q c in
      let k = is_leaf_kind q n.kind leaf in
      let s = after_slots pages tree.nodes q lsn rs (pages q) c n.number k all in
      (ap is_leaf (s.kind ∙ k), s.structure);
}
  where
    is_leaf_kind : (q : ℕ) → ((pages q).kind ≡ Leaf) ⊎ ((pages q).kind ≡ Inner)
        → is_leaf (pages q).kind ≡ true → (pages q).kind ≡ Leaf
    is_leaf_kind q (inl k) l = k
    is_leaf_kind q (inr k) l = absurd (true_false (is_leaf (pages q).kind) l (ap is_leaf k))

tree_kind : (pages : Pages) (q : ℕ) → IsNode pages q → is_tree_kind (pages q).kind ≡ false → ⊥
tree_kind pages q n e = go n.kind
  where
    go : ((pages q).kind ≡ Leaf) ⊎ ((pages q).kind ≡ Inner) → ⊥
    go (inl k) = true_false (is_tree_kind (pages q).kind) (ap is_tree_kind k) e
    go (inr k) = true_false (is_tree_kind (pages q).kind) (ap is_tree_kind k) e

leaf_of_way : (key : Key) (path : List Image) (w : IsWayTo key path)
    → (w.pages (leaf_on path).page).kind ≡ Leaf
leaf_of_way key path w =
    let a = at key path w w.tree.level 0 (omega arith) in
    let long = path_length key path w in
    let last : length path - 1 ≡ w.tree.level = omega (arith, long) in
    let is : leaf_on path ≡ w.pages a.page = ap (page_on path) last ∙ a.is in
    let number : (leaf_on path).page ≡ a.page =
    ap (λ (im : Image). im.page) is ∙ a.spot.part.0.number in
    ap (λ (q : ℕ). (w.pages q).kind) number ∙ a.spot.part.0.kind

elsewhere_fits : (pages : Pages) (root : ℕ) (items : Items) (tree : Tree pages root items)
    (r : Record) → IsElsewhere pages r → FitsTree pages tree.nodes r
elsewhere_fits pages root items tree r n = record {
  leaf = λ c. absurd (tree_kind pages (page_of r) (node_of pages root items tree (page_of r) c) n);
  item = λ c. absurd (tree_kind pages (page_of r) (node_of pages root items tree (page_of r) c) n);
}

pub elsewhere_stays : (pages : Pages) (root : ℕ) (items : Items) (tree : Tree pages root items)
    (rs : List Record) (lsn : ℕ) → AllByRecursion (IsElsewhere pages) rs
    → KeepsShape pages (pages_after lsn rs pages) tree.nodes
elsewhere_stays pages root items tree rs lsn all =
    change_stays pages root items tree rs lsn
    (all_map (IsElsewhere pages) (FitsTree pages tree.nodes) rs
    (λ r n. elsewhere_fits pages root items tree r n) all)

row_fits : (pages : Pages) (root : ℕ) (items : Items) (tree : Tree pages root items) (leaf : ℕ)
    (rs : List Record) → (pages leaf).kind ≡ Leaf
    → AllByRecursion (FitsLeaf pages leaf) rs → AllByRecursion (FitsTree pages tree.nodes) rs
row_fits pages root items tree leaf [] k all = tt
row_fits pages root items tree leaf (r ∷ rs) k all =
    (one all.0, row_fits pages root items tree leaf rs k all.1)
  where
    one : FitsLeaf pages leaf r → FitsTree pages tree.nodes r
    one (inl (e, s)) = record { leaf = λ c. ap (λ (q : ℕ). (pages q).kind) e ∙ k; item = λ c. s }
    one (inr n) = elsewhere_fits pages root items tree r n

pub row_stays : (key : Key) (path : List Image) (w : IsWayTo key path) (rs : List Record) (lsn : ℕ)
    → AllByRecursion (FitsLeaf w.pages (leaf_on path).page) rs
    → KeepsShape w.pages (pages_after lsn rs w.pages) w.tree.nodes
row_stays key path w rs lsn all =
    change_stays w.pages w.root w.items w.tree rs lsn
    (row_fits w.pages w.root w.items w.tree (leaf_on path).page rs (leaf_of_way key path w) all)

pub foreign_stays : (pages : Pages) (root : ℕ) (items : Items) (tree : Tree pages root items)
    (named : List ℕ) (rs : List Record) (lsn : ℕ)
    → TouchesOnly named rs → ((q : ℕ) → Contains tree.nodes q → AllByRecursion (λ p. p ≢ q) named)
    → KeepsShape pages (pages_after lsn rs pages) tree.nodes
foreign_stays pages root items tree named rs lsn only apart = record {
  inner = λ q c e. same q c;
  leaf =
      λ q c e. (
        subst (λ (i : Image). is_leaf i.kind ≡ true) (sym (same q c)) e,
        ap (λ (i : Image). i.structure) (same q c),
      );
}
  where
    same : (q : ℕ) → Contains tree.nodes q → pages_after lsn rs pages q ≡ pages q
    same q c =
        only lsn (pages q)
        (subst (λ (k : ℕ). AllByRecursion (λ p. p ≢ k) named)
        (sym (node_of pages root items tree q c).number) (apart q c))
