-- The leaf to which a test goes down has the tree's item of the key.
use Rattle.std.proofs.Common.{◌≡◌, ◌≤◌, ℕ, zero, suc, Bool, true, false, List, [], ◌∷◌, ◌++◌, length, if◌then◌else◌, Some, None, refl, sym, ◌∙◌, ap, subst, arith}
use Rattle.std.specs.Ordering.{is_eq}
use Rattle.page_image.specs.Image.{Image}
use Rattle.page_image.specs.declared.kind.Kind.TheVariants as kind
use Rattle.page_view.specs.Keys.{key_in, key_cmp}
use Rattle.page_view.specs.Leaf.{leaf_of}
use Rattle.bplus_tree.specs.Found.{AllLess, AllMore}
use Rattle.bplus_tree.specs.Tree.{Tree, Way}
use Rattle.bplus_tree.proofs.Descending.{Steps, descend}
use Rattle.bplus_tree.proofs.Finding.{finds_leaf}
use Rattle.bplus_tree.proofs.Order.{turned}
use Rattle.range_reader.specs.Walked.{child_in}
use Rattle.range_reader.proofs.StepLaws.{leads_in}
use Rattle.held_versions.specs.Undoing.{first_of}
use Rattle.held_versions.specs.Versions.{of_key}
use Rattle.key_conflicts.specs.Judged.{LeadsDown}
use Rattle.key_conflicts.specs.Testing.{Key, item_of}
use Rattle.held_conflicts.specs.Verdicts.{Stand}

-- ---- an item among others

passes : (key : Key) (x : List ℕ) (xs : List Key) (b : Bool) → is_eq (key_cmp (key_in x) key) ≡ b
    → item_of key (x ∷ xs) ≡ (if b then Some (leaf_of x) else item_of key xs)
unfolding item_of
passes key x xs b e = ap (λ (c : Bool). if c then Some (leaf_of x) else item_of key xs) e

past : (key : Key) (left rest : List Key) → AllLess key left → item_of key (left ++ rest) ≡ item_of key rest
past key [] rest h = refl
past key (x ∷ left) rest h = passes key x (left ++ rest) false (ap is_eq h.0) ∙ past key left rest h.1

none_more : (key : Key) (right : List Key) → AllMore key right → item_of key right ≡ None
unfolding item_of
none_more key [] h = refl
none_more key (x ∷ right) h =
    passes key x right false (ap is_eq (turned key (key_in x) h.0)) ∙ none_more key right h.1

no_item : (key : Key) → None ≡ item_of key []
unfolding item_of
no_item key = refl

before : (key : Key) (here right : List Key) → AllMore key right → item_of key (here ++ right) ≡ item_of key here
before key [] right h = none_more key right h ∙ no_item key
before key (x ∷ here) right h = go (is_eq (key_cmp (key_in x) key)) refl (before key here right h)
  where
    go : (b : Bool) → is_eq (key_cmp (key_in x) key) ≡ b → item_of key (here ++ right) ≡ item_of key here
        → item_of key (x ∷ (here ++ right)) ≡ item_of key (x ∷ here)
    go true e rest = passes key x (here ++ right) true e ∙ sym (passes key x here true e)
    go false e rest = passes key x (here ++ right) false e ∙ (rest ∙ sym (passes key x here false e))

pub is_first : (key : Key) (items : List Key) → item_of key items ≡ first_of (of_key key items)
unfolding item_of
is_first key [] = refl
is_first key (x ∷ xs) = go (is_eq (key_cmp (key_in x) key)) (is_first key xs)
  where
    go : (b : Bool) → item_of key xs ≡ first_of (of_key key xs)
        → (if b then Some (leaf_of x) else item_of key xs) ≡ first_of (if b then x ∷ of_key key xs else of_key key xs)
    go true rest = refl
    go false rest = rest

-- ---- the way down

last_same : (xs ys : List ℕ) (a b : ℕ) → xs ++ a ∷ [] ≡ ys ++ b ∷ [] → a ≡ b
last_same [] [] a b e = cc
last_same [] (y ∷ []) a b e = absurd cc
last_same [] (y ∷ (z ∷ ys)) a b e = absurd cc
last_same (x ∷ []) [] a b e = absurd cc
last_same (x ∷ (z ∷ xs)) [] a b e = absurd cc
last_same (x ∷ xs) (y ∷ ys) a b e = let rest : xs ++ a ∷ [] ≡ ys ++ b ∷ [] = cc in last_same xs ys a b rest

-- a way of the tree is the one that a search makes
way_is : (pages : ℕ → Image) (level page : ℕ) (key : Key) (path way : List ℕ) (leaf : ℕ) → Way pages level page key path
    → Steps pages page key way leaf → length way ≡ level → path ≡ way ++ leaf ∷ []
way_is pages zero page key path [] leaf w s n = w ∙ ap (λ (p : ℕ). p ∷ []) s.0
way_is pages zero page key path (p ∷ way) leaf w s n = absurd (omega (arith, n))
way_is pages (suc level) page key path [] leaf w s n = absurd (omega (arith, n))
way_is pages (suc level) page key path (p ∷ way) leaf w s n =
    let first : w.1.child ≡ child_in (pages page) key = leads_in (pages page) key w.1.child (w.0, w.1, w.3, w.4, w.5, refl) in
    let same : w.1.child ≡ s.3 = first ∙ sym (leads_in (pages page) key s.3 s.4) in
    let below : Way pages level s.3 key w.2 = subst (λ (q : ℕ). Way pages level q key w.2) same w.6 in
    w.7 ∙ (ap (λ (q : ℕ). q ∷ w.2) s.0 ∙ ap (λ (qs : List ℕ). p ∷ qs) (way_is pages level s.3 key w.2 way leaf below s.5 (omega (arith, n))))

-- the leaf to which a search for a key goes down has the tree's version of it
pub record Sought (pages : ℕ → Image) (root : ℕ) (items : List Key) (key : Key) : Type 0 where
  pub way : List ℕ
  pub leaf : ℕ
  pub steps : Steps pages root key way leaf
  pub short : length way ≤ 8
  pub has : item_of key (pages leaf).items ≡ first_of (of_key key items)

pub sought : (pages : ℕ → Image) (root : ℕ) (items : List Key) → Tree pages root items → (key : Key) → Sought pages root items key
sought pages root items tree key =
    let f = finds_leaf pages root items tree key in
    let d = descend pages tree.level root None None items tree.nodes key tree.stands tt tt in
    let same : f.leaf ≡ d.1 = last_same f.way d.0 f.leaf d.1 (way_is pages tree.level root key (f.way ++ f.leaf ∷ []) d.0 d.1 f.leads d.4 d.5) in
    record {
      way = d.0;
      leaf = d.1;
      steps = d.4;
      short = omega (arith, d.5, tree.low_enough);
      has =
          ap (λ (p : ℕ). item_of key (pages p).items) (sym same)
          ∙ (sym (before key (pages f.leaf).items f.right f.more)
          ∙ (sym (past key f.left ((pages f.leaf).items ++ f.right) f.less)
          ∙ (ap (item_of key) (sym f.stands) ∙ is_first key items)));
    }

-- so it is with the leaf to which uses lead that stand as they are
leads_same : (pages : ℕ → Image) (page : ℕ) (key : Key) (path : List ℕ) (end : ℕ) (way : List Image) (leaf : Image)
    → Steps pages page key path end → LeadsDown page key way leaf → Stand pages (way ++ leaf ∷ []) → leaf ≡ pages end
leads_same pages page key [] end [] leaf t d s = s.0 ∙ ap pages (d.0 ∙ t.0)
leads_same pages page key [] end (im ∷ way) leaf t d s =
    let here : im ≡ pages page = s.0 ∙ ap pages d.0 in
    let apart : kind.Inner ≡ kind.Leaf = sym d.1.kind ∙ (ap (λ (x : Image). x.kind) here ∙ t.1) in
    absurd cc
leads_same pages page key (p ∷ path) end [] leaf t d s =
    let here : leaf ≡ pages page = s.0 ∙ ap pages d.0 in
    let apart : kind.Leaf ≡ kind.Inner = sym d.1.kind ∙ (ap (λ (x : Image). x.kind) here ∙ t.1) in
    absurd cc
leads_same pages page key (p ∷ path) end (im ∷ way) leaf t d s =
    let here : im ≡ pages page = s.0 ∙ ap pages d.0 in
    let child : child_in im key ≡ t.3 = ap (λ (x : Image). child_in x key) here ∙ sym (leads_in (pages page) key t.3 t.4) in
    leads_same pages t.3 key path end way leaf t.5 (subst (λ (q : ℕ). LeadsDown q key way leaf) child d.2) s.1

pub leaf_has : (pages : ℕ → Image) (root : ℕ) (items : List Key) → Tree pages root items → (key : Key) (way : List Image) (leaf : Image)
    → LeadsDown root key way leaf → Stand pages (way ++ leaf ∷ []) → item_of key leaf.items ≡ first_of (of_key key items)
leaf_has pages root items tree key way leaf d s =
    let f = sought pages root items tree key in
    ap (λ (im : Image). item_of key im.items) (leads_same pages root key f.way f.leaf way leaf f.steps d s) ∙ f.has
