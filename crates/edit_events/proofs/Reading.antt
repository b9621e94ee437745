-- For the proofs: what a search reads is the way of the tree.
use Rattle.std.proofs.Common.{◌≡◌, ℕ, Bool, true, false, List, [], ◌∷◌, ◌++◌, None, map, refl, sym, ◌∙◌, ap, subst}
use Rattle.page_image.specs.declared.kind.Kind.TheVariants as kind
use Rattle.page_image.specs.Image.{Image}
use Rattle.bplus_tree.specs.Tree.{Way, is_leaf}
use Rattle.bplus_tree.proofs.Descending.{Steps, descend}
use Rattle.range_reader.specs.Walked.{child_in}
use Rattle.range_reader.proofs.StepLaws.{leads_in}
use Rattle.tree_change.specs.Places.{page_on}
use Rattle.tree_timeline.specs.Types.{Key, Pages}
use Rattle.bplus_tree.specs.Walk.{Answers}
use Rattle.tree_change.specs.Way.{IsWayTo}
use Rattle.tree_plan_steps.specs.Ways.{way_in}
use Rattle.edit_events.specs.Reading.{AreInner, AreWanted, EndsAtLeaf, IsRead, ReadGoesOn, ReadIsPath, WantedFits, next_of}

-- the numbers of the pages that are read
numbers_of : Key → ℕ → List Image → List ℕ
numbers_of key page [] = []
numbers_of key page (im ∷ path) = page ∷ numbers_of key (child_in im key) path

read_off : (pages : Pages) (key : Key) (page : ℕ) (path : List Image) → AreWanted pages key page path
    → path ≡ map pages (numbers_of key page path)
unfolding numbers_of
read_off pages key page [] w = refl
read_off pages key page (im ∷ path) w =
    ap (λ (first : Image). first ∷ path) w.0
    ∙ ap (λ (rest : List Image). pages page ∷ rest) (read_off pages key (child_in im key) path w.1)

both : (b : Bool) → b ≡ true → b ≡ false → ⊥
both b t f = absurd (let e : true ≡ false = sym t ∙ f in cc)

-- the steps of a search down a tree are to the pages that are read
same_way : (pages : Pages) (key : Key) (page : ℕ) (way : List ℕ) (leaf : ℕ) (path : List Image)
    → Steps pages page key way leaf → AreWanted pages key page path → EndsAtLeaf path
    → way ++ leaf ∷ [] ≡ numbers_of key page path
unfolding numbers_of
same_way pages key page [] leaf [] s w ends = absurd ends
same_way pages key page [] leaf (im ∷ []) s w ends = ap (λ (n : ℕ). n ∷ []) (sym s.0)
same_way pages key page [] leaf (im ∷ (next ∷ path)) s w ends =
    absurd (both (is_leaf im.kind) (ap (λ (x : Image). is_leaf x.kind) w.0 ∙ ap is_leaf s.1) ends.0)
same_way pages key page (p ∷ way) leaf [] s w ends = absurd ends
same_way pages key page (p ∷ way) leaf (im ∷ []) s w ends =
    absurd (both (is_leaf im.kind) ends (ap (λ (x : Image). is_leaf x.kind) w.0 ∙ ap is_leaf s.1))
same_way pages key page (p ∷ way) leaf (im ∷ (next ∷ path)) s w ends =
    let child : s.3 ≡ child_in im key =
    leads_in (pages page) key s.3 s.4 ∙ ap (λ (x : Image). child_in x key) (sym w.0) in
    ap (λ (n : ℕ). n ∷ (way ++ leaf ∷ [])) (sym s.0)
    ∙ ap (λ (ns : List ℕ). page ∷ ns)
    (same_way pages key (child_in im key) way leaf (next ∷ path)
    (subst (λ (q : ℕ). Steps pages q key way leaf) child s.5) w.1 ends.1)

pub read_is_path : ReadIsPath
read_is_path pages root items key path r = record {
  numbers = numbers_of key root path;
  way = λ tree.
      (let d = descend pages tree.level root None None items tree.nodes key tree.stands tt tt in
      subst (Way pages tree.level root key) (same_way pages key root d.0 d.1 path d.4 r.wanted r.ends) d.2);
  read = read_off pages key root path r.wanted;
}

pub read_goes_on : ReadGoesOn
read_goes_on pages root key [] w = (refl, tt)
read_goes_on pages root key (im ∷ path) w = (w.0, read_goes_on pages (child_in im key) key path w.1)

-- the first page is the root
pub first_is : (pages : Pages) (root : ℕ) (key : Key) (path : List Image) → IsRead pages root key path
    → page_on path 0 ≡ pages root
first_is pages root key path r = by_path path r.wanted r.ends
  where
    by_path : (im : List Image) → AreWanted pages key root im → EndsAtLeaf im → page_on im 0 ≡ pages root
    by_path [] w ends = absurd ends
    by_path (im ∷ rest) w ends = w.0

-- ---- pages that join those that were read

pub next_last : (key : Key) (root : ℕ) (path : List Image) (im : Image)
    → child_in im key ≡ next_of key root (path ++ im ∷ [])
next_last key root [] im = refl
next_last key root (first ∷ path) im = next_last key (child_in first key) path im

pub inner_last : (path : List Image) (im : Image) → AreInner path → is_leaf im.kind ≡ false
    → AreInner (path ++ im ∷ [])
inner_last [] im inner e = (e, tt)
inner_last (first ∷ path) im inner e = (inner.0, inner_last path im inner.1 e)

pub leaf_last : (path : List Image) (im : Image) → AreInner path → is_leaf im.kind ≡ true
    → EndsAtLeaf (path ++ im ∷ [])
leaf_last [] im inner e = e
leaf_last (first ∷ []) im inner e = (inner.0, e)
leaf_last (first ∷ (next ∷ path)) im inner e = (inner.0, leaf_last (next ∷ path) im inner.1 e)

-- ---- the page that is wanted next is one of the tree

answers_next : (pages : Pages) (key : Key) (page : ℕ) (way : List ℕ) (leaf : ℕ) (path : List Image)
    → Steps pages page key way leaf → AreWanted pages key page path → AreInner path
    → Answers pages (next_of key page path)
answers_next pages key page [] leaf [] s w inner = s.2
answers_next pages key page [] leaf (im ∷ path) s w inner =
    absurd (both (is_leaf im.kind) (ap (λ (x : Image). is_leaf x.kind) w.0 ∙ ap is_leaf s.1) inner.0)
answers_next pages key page (p ∷ way) leaf [] s w inner = s.2
answers_next pages key page (p ∷ way) leaf (im ∷ path) s w inner =
    let child : s.3 ≡ child_in im key =
    leads_in (pages page) key s.3 s.4 ∙ ap (λ (x : Image). child_in x key) (sym w.0) in
    answers_next pages key (child_in im key) way leaf path
    (subst (λ (q : ℕ). Steps pages q key way leaf) child s.5) w.1 inner.1

pub wanted_fits : WantedFits
wanted_fits items pages S root key path h named w inner = (answers.1, answers.0, ends)
  where
    answers : Answers pages (next_of key root path)
    answers =
        let tree = h.trees.trees root named in
        let d = descend pages tree.level root None None (items root) tree.nodes key tree.stands tt tt in
        answers_next pages key root d.0 d.1 path d.4 w inner

    ends : (pages (next_of key root path)).kind ≡ kind.Leaf
        → IsWayTo key (path ++ pages (next_of key root path) ∷ [])
    ends leaf =
        way_in pages root (items root) key (path ++ pages (next_of key root path) ∷ [])
        (read_is_path pages root (items root) key (path ++ pages (next_of key root path) ∷ [])
        (record {
          wanted = read_goes_on pages root key path w;
          ends = leaf_last path (pages (next_of key root path)) inner (ap is_leaf leaf);
        })) (h.trees.trees root named)
