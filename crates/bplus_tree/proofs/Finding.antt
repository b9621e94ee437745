-- What searches find in a tree that stands.
use Rattle.std.proofs.Common.{◌≡◌, ◌<◌, ◌≤◌, ◌+◌, ◌||◌, ◌&&◌, Bool, true, false, not, ℕ, zero, suc, List, [], ◌∷◌, ◌++◌, length, map, Option, Some, None, inl, refl, sym, ◌∙◌, ap, subst, arith, append-nil}
use Rattle.std.specs.Prelude.{nat_eq}
use Rattle.std.specs.List.{AllByRecursion, filter, list_any}
use Rattle.std.specs.Ordering.{is_lt, is_eq}
use Rattle.std.specs.declared.cmp.Ordering.{Ordering}
use Rattle.std.specs.declared.cmp.Ordering.TheVariants.{Less, Equal, Greater}
use Rattle.std.proofs.lemmas.Bool.{eqb-true}
use Rattle.std.proofs.lemmas.Cmp.{nat_list_cmp_total}
use Rattle.std.proofs.lemmas.Grind.{flat_map-append}
use Rattle.std.proofs.lemmas.List.Elements.{filter-append}
use Rattle.std.proofs.lemmas.Map.Steps.{length-le_from_distinct_below}
use Rattle.page_image.specs.Image.{Image}
use Rattle.page_image.specs.declared.kind.Kind.{Kind}
use Rattle.page_image.specs.declared.kind.Kind.TheVariants as kind
use Rattle.page_view.specs.Inner.{InnerItem, IsInner}
use Rattle.page_view.specs.Keys.{key_in, key_cmp}
use Rattle.bplus_tree.specs.declared.want.Want.{Want}
use Rattle.bplus_tree.specs.declared.want.Want.TheVariants.{Leaf}
use Rattle.bplus_tree.specs.Tree.{Parts, Stands, Tree, Linked, is_leaf, leaves_of}
use Rattle.bplus_tree.specs.Walk.{Walking, Runs, Answers, start, sought, one_key, in_range, from_low, to_high}
use Rattle.bplus_tree.specs.Found.{items_of, FindsLeaf, FindsRange}
use Rattle.bplus_tree.proofs.Order.{turned, least_key, Sorted, sorted_right, all_map, all_right}
use Rattle.bplus_tree.proofs.Ranges.{Within, within}
use Rattle.bplus_tree.proofs.Descending.{Holds, descend, answering}
use Rattle.bplus_tree.proofs.Running.{Along, run_down, run_along, run_last, and_false}
use Rattle.bplus_tree.proofs.Telling.{one_leaf}

-- ---- how many leaves there are

parts_bounded : (pages : ℕ → Image) (level : ℕ) → ((page : ℕ) (low high : Option (List ℕ)) (items : List (List ℕ)) (nodes : List ℕ)
    → Stands pages level page low high items nodes → page ≤ 32767 → AllByRecursion (λ n. n ≤ 32767) nodes)
    → (entries : List InnerItem) (low high : Option (List ℕ)) (items : List (List ℕ)) (nodes : List ℕ)
    → Parts (Stands pages level) entries low high items nodes → AllByRecursion IsInner entries → AllByRecursion (λ n. n ≤ 32767) nodes
parts_bounded pages level ih [] low high items nodes parts each = absurd parts
parts_bounded pages level ih (entry ∷ []) low high items nodes parts each = ih entry.child low high items nodes parts each.0.child
parts_bounded pages level ih (entry ∷ (next ∷ rest)) low high items nodes (first, others, left, right, child, beyond, below, parts, joined, made) each =
    subst (λ (ns : List ℕ). AllByRecursion (λ n. n ≤ 32767) ns) (sym made) (join left
    (ih entry.child low (Some next.key) first left child each.0.child)
    (parts_bounded pages level ih (next ∷ rest) (Some next.key) high others right parts each.1))
  where
    join : (xs : List ℕ) → AllByRecursion (λ n. n ≤ 32767) xs → AllByRecursion (λ n. n ≤ 32767) right → AllByRecursion (λ n. n ≤ 32767) (xs ++ right)
    join [] a b = b
    join (x ∷ xs) a b = (a.0, join xs a.1 b)

bounded : (pages : ℕ → Image) (level page : ℕ) (low high : Option (List ℕ)) (items : List (List ℕ)) (nodes : List ℕ)
    → Stands pages level page low high items nodes → page ≤ 32767 → AllByRecursion (λ n. n ≤ 32767) nodes
bounded pages zero page low high items nodes (leaf, one) h = subst (λ (ns : List ℕ). AllByRecursion (λ n. n ≤ 32767) ns) (sym one) (h, tt)
bounded pages (suc level) page low high items nodes (entries, below, inner, parts, made) h =
    subst (λ (ns : List ℕ). AllByRecursion (λ n. n ≤ 32767) ns) (sym made)
    (h, parts_bounded pages level (bounded pages level) entries low high items below parts inner.each)

among_all : (q : ℕ) (xs : List ℕ) → AllByRecursion (λ n. n ≤ 32767) xs → list_any (nat_eq q) xs ≡ true → q < 32768
among_all q [] a e = absurd (apart e)
  where
    apart : false ≡ true → ⊥
    apart p = cc
among_all q (x ∷ xs) a e = go (λ r. among_all q xs a.1 r) (nat_eq q x) refl e
  where
    go : (list_any (nat_eq q) xs ≡ true → q < 32768) → (b : Bool) → nat_eq q x ≡ b → (b || list_any (nat_eq q) xs) ≡ true → q < 32768
    go rest true same r = let at : q ≡ x = eqb-true q x same in omega (arith, at, a.0)
    go rest false other r = rest r

fewer : (test : ℕ → Bool) (xs : List ℕ) → length (filter test xs) ≤ length xs
fewer test [] = omega arith
fewer test (x ∷ xs) = go (fewer test xs) (test x) refl
  where
    go : length (filter test xs) ≤ length xs → (b : Bool) → test x ≡ b → length (filter test (x ∷ xs)) ≤ suc (length xs)
    go rest true e = rw e (omega (arith, rest))
    go rest false e = rw e (omega (arith, rest))

few_leaves : (pages : ℕ → Image) (root : ℕ) (items : List (List ℕ)) (t : Tree pages root items) → root ≤ 32767 → length (leaves_of pages t.nodes) ≤ 32768
few_leaves pages root items t h =
    let all = bounded pages t.level root None None items t.nodes t.stands h in
    let few : length t.nodes ≤ 32768 = length-le_from_distinct_below t.nodes 32768 t.apart (λ q e. among_all q t.nodes all e) in
    omega (arith, few, fewer (λ page. is_leaf (pages page).kind) t.nodes)

-- ---- the leaves are leaves, in a chain

all_leaves : (pages : ℕ → Image) (nodes : List ℕ) → AllByRecursion (Answers pages) nodes
    → AllByRecursion (λ q. ((pages q).kind ≡ kind.Leaf) × Answers pages q) (leaves_of pages nodes)
all_leaves pages [] a = tt
all_leaves pages (x ∷ xs) a = go (all_leaves pages xs a.1) (pages x).kind refl
  where
    go : AllByRecursion (λ q. ((pages q).kind ≡ kind.Leaf) × Answers pages q) (leaves_of pages xs) → (k : Kind) → (pages x).kind ≡ k
        → AllByRecursion (λ q. ((pages q).kind ≡ kind.Leaf) × Answers pages q) (leaves_of pages (x ∷ xs))
    go rest kind.Unmade e = rw e rest
    go rest kind.Meta e = rw e rest
    go rest kind.Slots e = rw e rest
    go rest kind.Stamps e = rw e rest
    go rest kind.Leaf e =
        subst (λ (ys : List ℕ). AllByRecursion (λ q. ((pages q).kind ≡ kind.Leaf) × Answers pages q) ys) (sym (taken e)) ((e, a.0), rest)
      where
        taken : (pages x).kind ≡ kind.Leaf → leaves_of pages (x ∷ xs) ≡ x ∷ leaves_of pages xs
        taken e = rw e refl
    go rest kind.Inner e = rw e rest
    go rest kind.Undo e = rw e rest

linked_right : (pages : ℕ → Image) (xs ys : List ℕ) → Linked pages (xs ++ ys) → Linked pages ys
linked_right pages [] ys l = l
linked_right pages (x ∷ []) [] l = tt
linked_right pages (x ∷ []) (y ∷ ys) l = l.2
linked_right pages (x ∷ (z ∷ xs)) ys l = linked_right pages (z ∷ xs) ys l.2

-- ---- what is out of a range

out_less : (low high : Option (List ℕ)) (item : List ℕ) → key_cmp (key_in item) (sought low) ≡ Less → in_range low high item ≡ false
out_less None high item less = absurd (least_key (key_in item) (turned (key_in item) [] less))
out_less (Some low) high item less = ap (λ (o : Ordering). not (is_lt o) && to_high high item) less

out_one : (low high : Option (List ℕ)) (item : List ℕ) → one_key low high ≡ true → key_cmp (sought low) (key_in item) ≡ Less → in_range low high item ≡ false
out_one None high item one more = absurd (apart one)
  where
    apart : false ≡ true → ⊥
    apart p = cc
out_one (Some low) None item one more = absurd (apart one)
  where
    apart : false ≡ true → ⊥
    apart p = cc
out_one (Some low) (Some high) item one more = go (key_cmp low high) refl one
  where
    apart : false ≡ true → ⊥
    apart p = cc

    go : (o : Ordering) → key_cmp low high ≡ o → is_eq o ≡ true → in_range (Some low) (Some high) item ≡ false
    go Less e r = absurd (apart r)
    go Greater e r = absurd (apart r)
    go Equal e r =
        let less : key_cmp high (key_in item) ≡ Less = sym (nat_list_cmp_total.congr low high (key_in item) e) ∙ more in
        ap (λ (o : Ordering). from_low (Some low) item && not (is_lt o)) less ∙ and_false (from_low (Some low) item)

filter_none : (test : List ℕ → Bool) (xs : List (List ℕ)) → AllByRecursion (λ x. test x ≡ false) xs → filter test xs ≡ []
filter_none test [] a = refl
filter_none test (x ∷ xs) a = rw a.0 (filter_none test xs a.1)

-- what lies between items that do not pass
filter_between : (test : List ℕ → Bool) (a b c : List (List ℕ)) → AllByRecursion (λ x. test x ≡ false) a → AllByRecursion (λ x. test x ≡ false) c
    → filter test (a ++ (b ++ c)) ≡ filter test b
filter_between test a b c p q =
    filter-append test a (b ++ c) ∙ (ap (λ (xs : List (List ℕ)). xs ++ filter test (b ++ c)) (filter_none test a p)
    ∙ (filter-append test b c ∙ (ap (λ (xs : List (List ℕ)). filter test b ++ xs) (filter_none test c q) ∙ append-nil (filter test b))))

found_between : (test : List ℕ → Bool) (items a bc b c : List (List ℕ)) → items ≡ a ++ bc → bc ≡ b ++ c → AllByRecursion (λ x. test x ≡ false) a
    → AllByRecursion (λ x. test x ≡ false) c → filter test b ≡ filter test items
found_between test items a bc b c stands split p q =
    sym (ap (filter test) (stands ∙ ap (λ (xs : List (List ℕ)). a ++ xs) split) ∙ filter_between test a b c p q)

-- ---- the two searches

walking_is : (w : Walking) (low high : Option (List ℕ)) (want : Want) (depth passed : ℕ) → w.low ≡ low → w.high ≡ high → w.want ≡ want
    → w.depth ≡ depth → w.passed ≡ passed → w ≡ record { low = low; high = high; want = want; depth = depth; passed = passed }
walking_is w low high want depth passed a b c d e =
    ap (λ (x : Option (List ℕ)). record { low = x; high = w.high; want = w.want; depth = w.depth; passed = w.passed }) a
    ∙ (ap (λ (x : Option (List ℕ)). record { low = low; high = x; want = w.want; depth = w.depth; passed = w.passed }) b
    ∙ (ap (λ (x : Want). record { low = low; high = high; want = x; depth = w.depth; passed = w.passed }) c
    ∙ (ap (λ (x : ℕ). record { low = low; high = high; want = want; depth = x; passed = w.passed }) d
    ∙ ap (λ (x : ℕ). record { low = low; high = high; want = want; depth = depth; passed = x }) e)))

length_snoc : (xs : List ℕ) (x : ℕ) → length (xs ++ x ∷ []) ≡ suc (length xs)
length_snoc [] x = refl
length_snoc (y ∷ ys) x = ap suc (length_snoc ys x)

length_parted : (xs ys : List ℕ) (x : ℕ) → length (xs ++ x ∷ ys) ≡ suc (length xs + length ys)
length_parted [] ys x = omega arith
length_parted (y ∷ xs) ys x = omega (arith, length_parted xs ys x)

parted : (pages : ℕ → Image) (nodes left : List ℕ) (leaf : ℕ) (right : List ℕ) (items : List (List ℕ)) → items ≡ items_of pages (leaves_of pages nodes)
    → leaves_of pages nodes ≡ left ++ leaf ∷ right → items ≡ items_of pages left ++ ((pages leaf).items ++ items_of pages right)
parted pages nodes left leaf right items joined among =
    joined ∙ (ap (items_of pages) among ∙ flat_map-append (λ page. (pages page).items) left (leaf ∷ right))

pub finds_leaf : (pages : ℕ → Image) (root : ℕ) (items : List (List ℕ)) (t : Tree pages root items) (key : List ℕ) → FindsLeaf pages root items t.level key
finds_leaf pages root items t key =
    let d = descend pages t.level root None None items t.nodes key t.stands tt tt in
    let w : Within pages None None items t.nodes = within pages t.level root None None items t.nodes t.stands in
    let holds : Holds pages key t.nodes d.1 = d.3 in
    record {
      way = d.0;
      leaf = d.1;
      leads = d.2;
      short = omega (arith, length_snoc d.0 d.1, d.5, t.low_enough);
      runs = run_down pages key d.1 (Leaf d.1 ∷ []) d.0 root (start root (Some key) (Some key)) d.4 refl refl (omega (arith, d.5, t.low_enough))
          (λ new low high passed depth want. run_last pages new d.1 want (inl holds.readable, holds.number) holds.readable.kind (one_leaf new (pages d.1) key low high));
      left = items_of pages holds.left;
      right = items_of pages holds.right;
      stands = parted pages t.nodes holds.left d.1 holds.right items w.joined holds.among;
      less = holds.less;
      more = holds.more;
    }

pub finds_range : (pages : ℕ → Image) (root : ℕ) (items : List (List ℕ)) (t : Tree pages root items) → root ≤ 32767
    → (low high : Option (List ℕ)) → FindsRange pages root items t.nodes low high
finds_range pages root items t h low high =
    let key : List ℕ = sought low in
    let d = descend pages t.level root None None items t.nodes key t.stands tt tt in
    let w : Within pages None None items t.nodes = within pages t.level root None None items t.nodes t.stands in
    let holds : Holds pages key t.nodes d.1 = d.3 in
    let stands : items ≡ items_of pages holds.left ++ items_of pages (d.1 ∷ holds.right) = parted pages t.nodes holds.left d.1 holds.right items w.joined holds.among in
    let at : Walking = record { low = low; high = high; want = Leaf d.1; depth = length d.0; passed = 0 } in
    let along : Along pages at d.1 holds.right = run_along pages holds.right d.1 at refl
    (linked_right pages holds.left (d.1 ∷ holds.right) (subst (λ (xs : List ℕ). Linked pages xs) holds.among t.linked))
    (all_right _ holds.left (d.1 ∷ holds.right) (subst (λ (xs : List ℕ). AllByRecursion (λ q. ((pages q).kind ≡ kind.Leaf) × Answers pages q) xs) holds.among
    (all_leaves pages t.nodes (answering pages t.level root None None items t.nodes t.stands))))
    (omega (arith, few_leaves pages root items t h, ap length holds.among, length_parted holds.left holds.right d.1))
    (sorted_right (items_of pages holds.left) (items_of pages (d.1 ∷ holds.right)) (subst Sorted stands w.sorted))
    (λ one. all_map _ _ (items_of pages holds.right) (λ item more. out_one low high item one more) holds.more) in
    let split : items_of pages (d.1 ∷ holds.right) ≡ items_of pages (d.1 ∷ along.seen) ++ items_of pages along.rest =
    ap (λ (xs : List ℕ). items_of pages (d.1 ∷ xs)) along.parted ∙ flat_map-append (λ page. (pages page).items) (d.1 ∷ along.seen) along.rest in
    record {
      way = d.0 ++ d.1 ∷ [];
      leaves = d.1 ∷ along.seen;
      short = omega (arith, length_snoc d.0 d.1, d.5, t.low_enough);
      runs = run_down pages key d.1 (map Leaf (d.1 ∷ along.seen)) d.0 root (start root low high) d.4 refl refl (omega (arith, d.5, t.low_enough))
          (λ new lows highs passed depth want. subst (λ (v : Walking). Runs pages v (map Leaf (d.1 ∷ along.seen)))
          (sym (walking_is new low high (Leaf d.1) (length d.0) 0 lows highs want (depth ∙ omega arith) passed)) along.runs);
      left = holds.left;
      right = along.rest;
      among = holds.among ∙ ap (λ (xs : List ℕ). holds.left ++ d.1 ∷ xs) along.parted;
      finds = found_between (in_range low high) items (items_of pages holds.left) (items_of pages (d.1 ∷ holds.right)) (items_of pages (d.1 ∷ along.seen))
          (items_of pages along.rest) stands split (all_map _ _ (items_of pages holds.left) (λ item less. out_less low high item less) holds.less) along.out;
    }
