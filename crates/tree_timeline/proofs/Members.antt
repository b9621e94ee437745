-- The pages of a tree are those of its layers.
use Rattle.std.proofs.Common.{◌≡◌, ◌≤◌, ◌+◌, ℕ, zero, suc, List, [], ◌∷◌, map, None, refl, sym, ap, subst, ◌∙◌, arith}
use Rattle.std.specs.Prelude.{Contains}
use Rattle.std.specs.List.{AllByRecursion, flat_map}
use Rattle.bplus_tree.specs.Tree.{Stands, Tree}
use Rattle.tree_timeline.specs.Fences.{Fence, children, layer}
use Rattle.tree_timeline.specs.Ranges.{height, Covers}
use Rattle.tree_timeline.specs.Types.{Bound, Items, Pages}
use Rattle.tree_timeline.proofs.Counting.{times, times_has, has_times}
use Rattle.tree_timeline.proofs.Heights.{stands_first, heads_fewer, Tall, stands_tall, row_tall, tall_height}
use Rattle.tree_timeline.proofs.Places.{page_in, Located, located, own_of}
use Rattle.tree_timeline.proofs.Rows.{down, Layer, layers, ones}

pub record Member (pages : Pages) (nodes : List ℕ) (tall : ℕ) (f : Fence) : Type 0 where
  pub inside : Contains nodes f.page
  pub tall_is : Tall pages tall f.page

abbrev pub InTree : Pages → ℕ → Items → List ℕ → ℕ → Type 0
InTree pages root items nodes level = Stands pages level root None None items nodes

all_members : (pages : Pages) (nodes : List ℕ) (tall : ℕ) (whole fs : List Fence)
    → ((q : ℕ) → times q (map page_in fs) ≤ times q (map page_in whole))
    → ((q : ℕ) → times q (map page_in whole) ≤ times q nodes)
    → AllByRecursion (λ f. Tall pages tall f.page) fs
    → AllByRecursion (Member pages nodes tall) fs
all_members pages nodes tall whole [] a b t = tt
all_members pages nodes tall whole (f ∷ fs) a b t = (
  record {
    inside =
        times_has f.page nodes (let x = a f.page in let y = b f.page in
        let z = has_times f.page (map page_in (f ∷ fs)) (0, omega arith, refl) in
        omega (arith, x, y, z));
    tall_is = t.0;
  },
  all_members pages nodes tall whole fs (λ q. let x = a q in omega (arith, x)) b t.1,
)

pub heads_of : (pages : Pages) (root : ℕ) (items : Items) (nodes : List ℕ) (level depth tall : ℕ)
    → InTree pages root items nodes level
    → depth + tall ≡ level → (q : ℕ)
    → times q (map page_in (layer pages root depth)) ≤ times q nodes
heads_of pages root items nodes level depth tall s e q =
    let l = layers pages root items nodes level depth tall s e in
    let h = heads_fewer pages tall l.first l.rest None items l.own q l.row in
    let same : times q (map page_in (layer pages root depth))
    ≡ times q (map page_in (l.first ∷ l.rest)) =
    ap (λ (fs : List Fence). times q (map page_in fs)) l.are in
    let few = l.fewer q in
    omega (arith, h, same, few)

pub members : (pages : Pages) (root : ℕ) (items : Items) (nodes : List ℕ) (level depth tall : ℕ)
    → InTree pages root items nodes level
    → depth + tall ≡ level → AllByRecursion (Member pages nodes tall) (layer pages root depth)
members pages root items nodes level depth tall s e =
    let l = layers pages root items nodes level depth tall s e in
    let t = row_tall pages tall l.first l.rest None items l.own l.row in
    all_members pages nodes tall (layer pages root depth) (layer pages root depth)
    (λ q. omega arith) (heads_of pages root items nodes level depth tall s e)
    (subst (AllByRecursion (λ f. Tall pages tall f.page)) (sym l.are) t)

-- each page of a tree stands in a layer
pub record Placed (pages : Pages) (root level q : ℕ) : Type 0 where
  pub depth : ℕ
  pub tall : ℕ
  pub deep : depth + tall ≡ level
  pub there : Located (layer pages root depth) q

placed_from : (pages : Pages) (root : ℕ) (items : Items) (nodes : List ℕ) (level tall depth q : ℕ)
    (l : Layer pages tall (layer pages root depth) items nodes)
    → depth + tall ≡ level → 1 ≤ times q l.own → Placed pages root level q
placed_from pages root items nodes level zero depth q l e h =
    let a : times q l.own ≡ times q (map page_in (l.first ∷ l.rest)) =
    ap (times q) (ones pages l.first l.rest None items l.own l.row) in
    let b : times q (map page_in (layer pages root depth))
    ≡ times q (map page_in (l.first ∷ l.rest)) =
    ap (λ (xs : List Fence). times q (map page_in xs)) l.are in
    record {
      depth = depth;
      tall = zero;
      deep = e;
      there = located (layer pages root depth) q (omega (arith, a, b, h));
    }
placed_from pages root items nodes level (suc tall) depth q l e h =
    let d = down pages tall l.first l.rest None items l.own l.row in
    let next : Layer pages tall (layer pages root (suc depth)) items nodes = record {
      first = d.first;
      rest = d.rest;
      own = d.below;
      are = ap (flat_map (children pages)) l.are ∙ d.are;
      row = d.row;
      fewer = λ p. let a = l.fewer p in let b = d.count p in omega (arith, a, b);
      leaves = l.leaves ∙ d.leaves;
    } in
    let count = d.count q in
    let b : times q (map page_in (layer pages root depth))
    ≡ times q (map page_in (l.first ∷ l.rest)) =
    ap (λ (xs : List Fence). times q (map page_in xs)) l.are in
    go (λ m. placed_from pages root items nodes level tall (suc depth) q next (omega (arith, e)) m)
    (times q (map page_in (layer pages root depth))) refl
    (λ z. omega (arith, count, b, h, z))
  where
    go : {A : Type 0} → (A → Placed pages root level q) → (n : ℕ)
        → times q (map page_in (layer pages root depth)) ≡ n → (n ≡ 0 → A)
        → Placed pages root level q
    go more zero c f = more (f refl)
    go more (suc n) c f =
        record {
          depth = depth;
          tall = suc tall;
          deep = e;
          there = located (layer pages root depth) q (omega (arith, c));
        }

pub placed : (pages : Pages) (root : ℕ) (items : Items) (nodes : List ℕ) (level q : ℕ)
    → InTree pages root items nodes level → Contains nodes q → Placed pages root level q
placed pages root items nodes level q s c =
    let e : zero + level ≡ level = omega arith in
    placed_from pages root items nodes level level zero q
    (record {
      first = record { low = None; page = root };
      rest = [];
      own = nodes;
      are = refl;
      row = s;
      fewer = λ p. omega arith;
      leaves = refl;
    }) e (has_times q nodes c)

-- a page with a range is a page of the tree
pub covers_member : (pages : Pages) (root : ℕ) (items : Items) (tree : Tree pages root items)
    (tall q : ℕ) (low high : Bound)
    → Covers pages root tall q low high
    → (Contains tree.nodes q) × Tall pages tall q × (height (pages root) ≡ tree.level)
covers_member pages root items tree tall q low high c =
    let level =
    tall_height pages tree.level root
    (stands_tall pages tree.level root None None items tree.nodes tree.stands) in
    let m = own_of (Member pages tree.nodes tall) c.left (record { low = low; page = q }) c.right
    (subst (AllByRecursion (Member pages tree.nodes tall)) c.are
    (members pages root items tree.nodes tree.level c.depth tall tree.stands (c.deep
    ∙ level))) in
    (m.inside, m.tall_is, level)

pub has_root : (pages : Pages) (root : ℕ) (items : Items) (tree : Tree pages root items)
    → Contains tree.nodes root
has_root pages root items tree =
    let f = stands_first pages tree.level root None None items tree.nodes tree.stands in
    subst (λ (n : List ℕ). Contains n root) (sym f.1) (0, omega arith, refl)

pub covers_root : (pages : Pages) (root : ℕ)
    → Covers pages root (height (pages root)) root None None
covers_root pages root =
    record { depth = 0; left = []; right = []; deep = omega arith; are = refl; high_is = refl }
