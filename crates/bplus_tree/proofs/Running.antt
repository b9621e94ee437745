-- A search over the pages of a tree that stands: down, and along the leaves.
use Rattle.std.proofs.Common.{◌≡◌, ◌≢◌, ◌<◌, ◌≤◌, ◌+◌, ◌-◌, ◌||◌, ◌&&◌, ◌==◌, nat_le, Bool, true, false, not, ℕ, suc, List, [], ◌∷◌, ◌++◌, length, map, slice_get, Option, Some, None, ◌⊎◌, inl, inr, refl, sym, ◌∙◌, ap, subst, arith}
use Rattle.std.specs.List.{AllByRecursion}
use Rattle.std.specs.Ordering.{is_lt, ordering_reverse}
use Rattle.std.proofs.lemmas.Cmp.{nat_list_cmp_total}
use Rattle.std.specs.declared.cmp.Ordering.{Ordering}
use Rattle.std.specs.declared.cmp.Ordering.TheVariants.{Less, Equal, Greater}
use Rattle.std.proofs.lemmas.Bool.{cases_lt}
use Rattle.page_image.specs.Image.{Image}
use Rattle.page_image.specs.declared.kind.Kind.{Kind}
use Rattle.page_image.specs.declared.kind.Kind.TheVariants as kind
use Rattle.page_view.specs.Inner.{InnerItem, inner_bytes}
use Rattle.page_view.specs.Keys.{key_in, keys_of, key_cmp, IsChildFor}
use Rattle.page_view.proofs.InnerLaws.{one_inner}
use Rattle.bplus_tree.specs.declared.want.Want.{Want}
use Rattle.bplus_tree.specs.declared.want.Want.TheVariants.{Need, Leaf, Finished}
use Rattle.bplus_tree.specs.declared.want.TheConstants.{MOST_STEPS}
use Rattle.bplus_tree.specs.Tree.{Linked}
use Rattle.bplus_tree.specs.Walk.{Walking, Told, Moves, Runs, LeadsTo, Answers, sought, wanted, is_last, reaches, reaches_with, one_key, after_leaf, after_inner, at_least, in_range, from_low}
use Rattle.bplus_tree.specs.Found.{AllMore, items_of}
use Rattle.bplus_tree.proofs.Order.{upto_less, Sorted, sorted_right, all_map}
use Rattle.bplus_tree.proofs.Descending.{Steps}

-- ---- one step

told_at : (w : Walking) (want : Want) (k : Kind) (im : Image) (new : Walking) → w.want ≡ want → im.kind ≡ k → Told w im new → Moves want k w im new
told_at w want k im new e f t = subst (λ (v : Want). Moves v k w im new) e (subst (λ (j : Kind). Moves w.want j w im new) f t)

place_once : (keys : List (List ℕ)) (key : List ℕ) (i j : ℕ) → IsChildFor keys key i → IsChildFor keys key j → i ≡ j
place_once keys key i j a b =
    elim (cases_lt i j) [
      | inl below ↦ absurd (b.1 (a.2 j (omega (arith, below)) b.0))
      | inr above ↦ elim (cases_lt j i) [
        | inl under ↦ absurd (a.1 (b.2 i (omega (arith, under)) a.0))
        | inr same ↦ omega (arith, above, same)
      ]
    ]

leads_once : (im : Image) (key : List ℕ) (a b : ℕ) → LeadsTo im key a → LeadsTo im key b → a ≡ b
leads_once im key a b (i, e, fi, si, ie, ci) (j, f, fj, sj, jf, cj) =
    let same : i ≡ j = place_once (keys_of im.items) key i j fi fj in
    let bytes : inner_bytes e ≡ inner_bytes f = only (sym si ∙ (ap (slice_get im.items) same ∙ sj)) in
    ci ∙ (ap (λ (x : InnerItem). x.child) (one_inner e f ie jf bytes) ∙ sym cj)
  where
    only : Some (inner_bytes e) ≡ Some (inner_bytes f) → inner_bytes e ≡ inner_bytes f
    only q = cc

wanted_once : (want : Want) (a b : ℕ) → wanted want ≡ Some a → wanted want ≡ Some b → a ≡ b
wanted_once want a b p q = cc

-- ---- down

pub run_down : (pages : ℕ → Image) (key : List ℕ) (leaf : ℕ) (rest : List Want) (way : List ℕ) (page : ℕ) (w : Walking)
    → Steps pages page key way leaf → w.want ≡ Need page → sought w.low ≡ key → w.depth + length way ≤ 8
    → ((new : Walking) → new.low ≡ w.low → new.high ≡ w.high → new.passed ≡ w.passed → new.depth ≡ w.depth + length way
    → new.want ≡ Leaf leaf → Runs pages new rest)
    → Runs pages w (map Need (way ++ leaf ∷ []) ++ rest)
run_down pages key leaf rest [] page w (same, isleaf, answers) want low flat then = (
  want ∙ ap Need same,
  λ p named. (
    subst (Answers pages) (same ∙ wanted_once (Need leaf) leaf p refl named) answers,
    λ new told.
        let at : leaf ≡ p = wanted_once (Need leaf) leaf p refl named in
        let here : page ≡ p = same ∙ at in
        let moved : new ≡ record w { want = Leaf page } = told_at w (Need page) kind.Leaf (pages p) new want (subst (λ (q : ℕ). (pages q).kind ≡ kind.Leaf) here isleaf) told in
        then new (ap (λ (v : Walking). v.low) moved) (ap (λ (v : Walking). v.high) moved) (ap (λ (v : Walking). v.passed) moved)
        (ap (λ (v : Walking). v.depth) moved ∙ (omega arith)) (ap (λ (v : Walking). v.want) moved ∙ ap Leaf same),
  ),
)
run_down pages key leaf rest (x ∷ way) page w (same, inner, answers, child, leads, steps) want low flat then = (
  want ∙ ap Need same,
  λ p named. (
    subst (Answers pages) (same ∙ wanted_once (Need x) x p refl named) answers,
    λ new told.
        let at : x ≡ p = wanted_once (Need x) x p refl named in
        let here : page ≡ p = same ∙ at in
        let moves : after_inner w (pages p) new = told_at w (Need page) kind.Inner (pages p) new want (subst (λ (q : ℕ). (pages q).kind ≡ kind.Inner) here inner) told in
        let moved = moves.1 (omega (arith, flat)) in
        let down : moved.0 ≡ child = leads_once (pages p) key moved.0 child (subst (λ (k : List ℕ). LeadsTo (pages p) k moved.0) low moved.1) (subst (λ (q : ℕ). LeadsTo (pages q) key child) here leads) in
        let lows : new.low ≡ w.low = ap (λ (v : Walking). v.low) moved.2 in
        let highs : new.high ≡ w.high = ap (λ (v : Walking). v.high) moved.2 in
        let steps_on : new.passed ≡ w.passed = ap (λ (v : Walking). v.passed) moved.2 in
        let deep : new.depth ≡ w.depth + 1 = ap (λ (v : Walking). v.depth) moved.2 in
        run_down pages key leaf rest way child new steps (ap (λ (v : Walking). v.want) moved.2 ∙ ap Need down) (ap sought lows ∙ low)
        (omega (arith, deep, flat)) (λ n a b c e d. then n (a ∙ lows) (b ∙ highs) (c ∙ steps_on) (omega (arith, e, deep)) d),
  ),
)

-- ---- along

abbrev pub AllOut : Option (List ℕ) → Option (List ℕ) → List (List ℕ) → Type 0
AllOut low high items = AllByRecursion (λ item. in_range low high item ≡ false) items

pub and_false : (a : Bool) → (a && false) ≡ false
and_false true = refl
and_false false = refl

-- greater than a key that is at least the high end
out_more : (low : Option (List ℕ)) (high key item : List ℕ) → at_least key high ≡ true → key_cmp key (key_in item) ≡ Less → in_range low (Some high) item ≡ false
out_more low high key item reached more =
    let upto : key_cmp high key ≢ Greater = go (key_cmp key high) refl reached in
    let less : key_cmp high (key_in item) ≡ Less = upto_less high key (key_in item) upto more in
    ap (λ (b : Bool). from_low low item && b) (ap (λ (o : Ordering). not (is_lt o)) less) ∙ and_false (from_low low item)
  where
    back : key_cmp high key ≡ ordering_reverse (key_cmp key high)
    back = nat_list_cmp_total.antisymm high key

    equal_apart : Equal ≡ Greater → ⊥
    equal_apart q = cc

    less_apart : Less ≡ Greater → ⊥
    less_apart q = cc

    go : (o : Ordering) → key_cmp key high ≡ o → not (is_lt o) ≡ true → key_cmp high key ≢ Greater
    go Less e r = absurd (apart r)
      where
        apart : false ≡ true → ⊥
        apart q = cc
    go Equal e r = λ g. equal_apart (sym (back ∙ ap ordering_reverse e) ∙ g)
    go Greater e r = λ g. less_apart (sym (back ∙ ap ordering_reverse e) ∙ g)

-- the last of items that ascend is less than those behind
last_less : (xs ys : List (List ℕ)) (item : List ℕ) → Sorted (xs ++ ys) → slice_get xs (length xs - 1) ≡ Some item → AllMore (key_in item) ys
last_less [] ys item s e = absurd (nothing e)
  where
    nothing : None ≡ Some item → ⊥
    nothing q = cc
last_less (x ∷ []) ys item s e = subst (λ (y : List ℕ). AllMore (key_in y) ys) (only e) s.0
  where
    only : Some x ≡ Some item → x ≡ item
    only q = cc
last_less (x ∷ (y ∷ xs)) ys item s e =
    let index : length (x ∷ (y ∷ xs)) - 1 ≡ suc (length (y ∷ xs) - 1) = omega arith in
    last_less (y ∷ xs) ys item s.1 (subst (λ (n : ℕ). slice_get (x ∷ (y ∷ xs)) n ≡ Some item) index e)

-- behind a leaf that reaches the high end all is out of the range
out_reached : (low high : Option (List ℕ)) (xs ys : List (List ℕ)) → Sorted (xs ++ ys) → reaches high xs ≡ true → AllOut low high ys
out_reached low None xs ys s r = absurd (apart r)
  where
    apart : false ≡ true → ⊥
    apart q = cc
out_reached low (Some high) xs ys s r = go (slice_get xs (length xs - 1)) refl r
  where
    apart : false ≡ true → ⊥
    apart q = cc

    go : (o : Option (List ℕ)) → slice_get xs (length xs - 1) ≡ o → reaches_with high o ≡ true → AllOut low (Some high) ys
    go None e r = absurd (apart r)
    go (Some item) e r = all_map _ _ ys (λ y more. out_more low high (key_in item) y r more) (last_less xs ys item s e)

or_cases : (a b : Bool) → (a || b) ≡ true → (a ≡ true) ⊎ (b ≡ true)
or_cases true b e = inl refl
or_cases false b e = inr e

bool_cases : (b : Bool) → (b ≡ true) ⊎ (b ≡ false)
bool_cases true = inl refl
bool_cases false = inr refl

or_no : (a b : Bool) → (a || b) ≡ false → (a ≡ false) × (b ≡ false)
or_no true b e = absurd (apart e)
  where
    apart : true ≡ false → ⊥
    apart q = cc
or_no false b e = (refl, e)

true_false : (b : Bool) → b ≡ true → b ≡ false → ⊥
true_false b p q = cc

pub record Along (pages : ℕ → Image) (w : Walking) (leaf : ℕ) (right : List ℕ) : Type 0 where
  pub seen : List ℕ
  pub rest : List ℕ
  pub parted : right ≡ seen ++ rest
  pub runs : Runs pages w (map Leaf (leaf ∷ seen))
  pub out : AllOut w.low w.high (items_of pages rest)

-- told of its last leaf a search ends
pub run_last : (pages : ℕ → Image) (w : Walking) (leaf : ℕ) → w.want ≡ Leaf leaf → Answers pages leaf → (pages leaf).kind ≡ kind.Leaf → is_last w (pages leaf) ≡ true
    → Runs pages w (Leaf leaf ∷ [])
run_last pages w leaf want answers isleaf last = (
  want,
  λ p named. (
    subst (Answers pages) (wanted_once (Leaf leaf) leaf p refl named) answers,
    λ new told.
        let at : leaf ≡ p = wanted_once (Leaf leaf) leaf p refl named in
        let moved : new ≡ after_leaf w (pages p) = told_at w (Leaf leaf) kind.Leaf (pages p) new want (subst (λ (q : ℕ). (pages q).kind ≡ kind.Leaf) at isleaf) told in
        let lasts : is_last w (pages p) ≡ true = subst (λ (q : ℕ). is_last w (pages q) ≡ true) at last in
        ap (λ (v : Walking). v.want) (moved ∙ ended w (pages p) lasts),
  ),
)
  where
    ended : (w : Walking) (im : Image) → is_last w im ≡ true → after_leaf w im ≡ record w { want = Finished }
    ended w im e = rw e refl

pub run_along : (pages : ℕ → Image) (right : List ℕ) (leaf : ℕ) (w : Walking) → w.want ≡ Leaf leaf → Linked pages (leaf ∷ right)
    → AllByRecursion (λ q. ((pages q).kind ≡ kind.Leaf) × Answers pages q) (leaf ∷ right) → w.passed + length right ≤ 32767 → Sorted (items_of pages (leaf ∷ right))
    → (one_key w.low w.high ≡ true → AllOut w.low w.high (items_of pages right)) → Along pages w leaf right
run_along pages [] leaf w want linked kinds few sorted one = record {
  seen = [];
  rest = [];
  parted = refl;
  runs = run_last pages w leaf want kinds.0.1 kinds.0.0 (ends (reaches w.high (pages leaf).items || (one_key w.low w.high || nat_le MOST_STEPS w.passed)));
  out = tt;
}
  where
    ends : (b : Bool) → ((pages leaf).next == 0) || b ≡ true
    ends b = ap (λ (n : ℕ). (n == 0) || b) linked
run_along pages (r ∷ right) leaf w want linked kinds few sorted one = elim (bool_cases (is_last w (pages leaf))) [
  | inl last ↦ record { seen = []; rest = r ∷ right; parted = refl; runs = run_last pages w leaf want kinds.0.1 kinds.0.0 last; out = reason last }
  | inr more ↦
      let next : Walking = record w { want = Leaf r; passed = w.passed + 1 } in
      let onward : Along pages next r right = run_along pages right r next refl linked.2 kinds.1 (omega (arith, few))
      (sorted_right (pages leaf).items (items_of pages (r ∷ right)) sorted) (λ e. absurd (true_false (one_key w.low w.high) e (not_one more))) in
      record {
        seen = r ∷ onward.seen;
        rest = onward.rest;
        parted = ap (λ (xs : List ℕ). r ∷ xs) onward.parted;
        runs = (
          want,
          λ p named. (
            subst (Answers pages) (wanted_once (Leaf leaf) leaf p refl named) kinds.0.1,
            λ new told.
                let at : leaf ≡ p = wanted_once (Leaf leaf) leaf p refl named in
                let moved : new ≡ after_leaf w (pages p) = told_at w (Leaf leaf) kind.Leaf (pages p) new want (subst (λ (q : ℕ). (pages q).kind ≡ kind.Leaf) at kinds.0.0) told in
                let here : after_leaf w (pages p) ≡ after_leaf w (pages leaf) = ap (λ (q : ℕ). after_leaf w (pages q)) (sym at) in
                subst (λ (v : Walking). Runs pages v (map Leaf (r ∷ onward.seen))) (sym (moved ∙ (here ∙ (went w (pages leaf) more ∙ ap (λ (n : ℕ). record w { want = Leaf n; passed = w.passed + 1 }) linked.0)))) onward.runs,
          ),
        );
        out = onward.out;
      }
]
  where
    went : (w : Walking) (im : Image) → is_last w im ≡ false → after_leaf w im ≡ record w { want = Leaf im.next; passed = w.passed + 1 }
    went w im e = rw e refl

    not_one : is_last w (pages leaf) ≡ false → one_key w.low w.high ≡ false
    not_one e =
        let a = or_no ((pages leaf).next == 0) (reaches w.high (pages leaf).items || (one_key w.low w.high || nat_le MOST_STEPS w.passed)) e in
        let b = or_no (reaches w.high (pages leaf).items) (one_key w.low w.high || nat_le MOST_STEPS w.passed) a.1 in
        (or_no (one_key w.low w.high) (nat_le MOST_STEPS w.passed) b.1).0

    not_none : ((pages leaf).next == 0) ≡ false
    not_none = ap (λ (n : ℕ). n == 0) linked.0 ∙ positive r linked.1
      where
        positive : (n : ℕ) → 0 < n → (n == 0) ≡ false
        positive n h = grind (arith, h)

    not_many : nat_le MOST_STEPS w.passed ≡ false
    not_many = grind (arith, few)

    reason : is_last w (pages leaf) ≡ true → AllOut w.low w.high (items_of pages (r ∷ right))
    reason e = elim (or_cases ((pages leaf).next == 0) (reaches w.high (pages leaf).items || (one_key w.low w.high || nat_le MOST_STEPS w.passed)) e) [
      | inl none ↦ absurd (true_false ((pages leaf).next == 0) none not_none)
      | inr e ↦ elim (or_cases (reaches w.high (pages leaf).items) (one_key w.low w.high || nat_le MOST_STEPS w.passed) e) [
        | inl reached ↦ out_reached w.low w.high (pages leaf).items (items_of pages (r ∷ right)) sorted reached
        | inr e ↦ elim (or_cases (one_key w.low w.high) (nat_le MOST_STEPS w.passed) e) [
          | inl key ↦ one key
          | inr many ↦ absurd (true_false (nat_le MOST_STEPS w.passed) many not_many)
        ]
      ]
    ]
