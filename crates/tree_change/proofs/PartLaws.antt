-- The parts of an inner page, parted at one entry and joined again.
use Rattle.std.proofs.Common.{◌≡◌, ℕ, List, [], ◌∷◌, ◌++◌, Option, Some, None, refl, sym, ap, subst, ◌∙◌}
use Rattle.std.specs.List.{AllByRecursion}
use Rattle.std.proofs.lemmas.List.{append_assoc, append-nil}
use Rattle.std.specs.declared.cmp.Ordering.TheVariants.{Less}
use Rattle.page_view.specs.Inner.{InnerItem}
use Rattle.page_view.specs.Keys.{key_cmp}
use Rattle.bplus_tree.specs.Tree.{Beyond, Below, Parts}
use Rattle.tree_change.proofs.PlaceLaws.{less_trans}
use Rattle.tree_change.proofs.ListLaws.{all_front, all_back}

-- what a child is, by its page, its bounds, its items and its pages
abbrev pub Child : Type 1
Child = ℕ → Option (List ℕ) → Option (List ℕ) → List (List ℕ) → List ℕ → Type 0

-- the entries begin with this key
abbrev pub BeginsAt : List ℕ → List InnerItem → Type 0
BeginsAt key [] = ⊥
BeginsAt key (entry ∷ entries) = entry.key ≡ key

pub below_less : (high : Option (List ℕ)) (a b : List ℕ) → key_cmp a b ≡ Less → Below high b → Below high a
below_less None a b e h = tt
below_less (Some high) a b e h = less_trans a b high e h

pub beyond_less : (low : Option (List ℕ)) (a b : List ℕ) → Beyond low a → key_cmp a b ≡ Less → Beyond low b
beyond_less None a b h e = tt
beyond_less (Some low) a b h e = less_trans low a b h e

-- ---- parts joined

one_before : (C : Child) (x : InnerItem) (ys : List InnerItem) (low high : Option (List ℕ)) (key : List ℕ) (i j : List (List ℕ)) (m n : List ℕ)
    → C x.child low (Some key) i m → Parts C ys (Some key) high j n → BeginsAt key ys → Beyond low key → Below high key
    → Parts C (x ∷ ys) low high (i ++ j) (m ++ n)
one_before C x [] low high key i j m n p q h b c = absurd h
one_before C x (y ∷ ys) low high key i j m n p q h b c =
    let e : key ≡ y.key = sym h in (
      i,
      j,
      m,
      n,
      subst (λ (k : List ℕ). C x.child low (Some k) i m) e p,
      subst (λ (k : List ℕ). Beyond low k) e b,
      subst (λ (k : List ℕ). Below high k) e c,
      subst (λ (k : List ℕ). Parts C (y ∷ ys) (Some k) high j n) e q,
      refl,
      refl,
    )

pub parts_join : (C : Child) (xs ys : List InnerItem) (low high : Option (List ℕ)) (key : List ℕ) (i j : List (List ℕ)) (m n : List ℕ)
    → Parts C xs low (Some key) i m → Parts C ys (Some key) high j n → BeginsAt key ys → Beyond low key → Below high key
    → Parts C (xs ++ ys) low high (i ++ j) (m ++ n)
parts_join C [] ys low high key i j m n p q h b c = absurd p
parts_join C (x ∷ []) ys low high key i j m n p q h b c = one_before C x ys low high key i j m n p q h b c
parts_join C (x ∷ (next ∷ rest)) ys low high key i j m n p q h b c = (
  p.0,
  p.1 ++ j,
  p.2,
  p.3 ++ n,
  p.4,
  p.5,
  below_less high next.key key p.6 c,
  parts_join C (next ∷ rest) ys (Some next.key) high key p.1 j p.3 n p.7 q h p.6 c,
  ap (λ (l : List (List ℕ)). l ++ j) p.8 ∙ append_assoc p.0 p.1 j,
  ap (λ (l : List ℕ). l ++ n) p.9 ∙ append_assoc p.2 p.3 n,
)

-- ---- the parts before and behind one entry

-- the parts before the entry, up to its low bound
abbrev pub Front : (C : Child) → List InnerItem → List ℕ → Option (List ℕ) → Option (List ℕ) → Option (List ℕ) → List (List ℕ) → List ℕ → Type 0
Front C [] key low high lo items nodes = (lo ≡ low) × (items ≡ []) × (nodes ≡ [])
Front C (x ∷ xs) key low high lo items nodes = (lo ≡ Some key) × Beyond low key × Below high key × Parts C (x ∷ xs) low (Some key) items nodes

-- the parts behind the entry, from its high bound on
abbrev pub Back : (C : Child) → List InnerItem → Option (List ℕ) → Option (List ℕ) → Option (List ℕ) → List (List ℕ) → List ℕ → Type 0
Back C [] lo high hi items nodes = (hi ≡ high) × (items ≡ []) × (nodes ≡ [])
Back C (y ∷ ys) lo high hi items nodes = (hi ≡ Some y.key) × Beyond lo y.key × Below high y.key × Parts C (y ∷ ys) (Some y.key) high items nodes

-- the first of some entries, and what is behind it
pub record First (C : Child) (e : InnerItem) (ys : List InnerItem) (lo high : Option (List ℕ)) (items : List (List ℕ)) (nodes : List ℕ) : Type 0 where
  pub hi : Option (List ℕ)
  pub mid : List (List ℕ)
  pub after : List (List ℕ)
  pub own : List ℕ
  pub right : List ℕ
  pub items_are : items ≡ mid ++ after
  pub nodes_are : nodes ≡ own ++ right
  pub child : C e.child lo hi mid own
  pub back : Back C ys lo high hi after right

pub first_of_parts : (C : Child) (e : InnerItem) (ys : List InnerItem) (lo high : Option (List ℕ)) (items : List (List ℕ)) (nodes : List ℕ)
    → Parts C (e ∷ ys) lo high items nodes → First C e ys lo high items nodes
first_of_parts C e [] lo high items nodes p = record {
  hi = high;
  mid = items;
  after = [];
  own = nodes;
  right = [];
  items_are = sym (append-nil items);
  nodes_are = sym (append-nil nodes);
  child = p;
  back = (refl, refl, refl);
}
first_of_parts C e (y ∷ ys) lo high items nodes p = record {
  hi = Some y.key;
  mid = p.0;
  after = p.1;
  own = p.2;
  right = p.3;
  items_are = p.8;
  nodes_are = p.9;
  child = p.4;
  back = (refl, p.5, p.6, p.7);
}

-- one of some entries, and what is before and behind it
pub record Focus (C : Child) (xs : List InnerItem) (e : InnerItem) (ys : List InnerItem) (low high : Option (List ℕ)) (items : List (List ℕ)) (nodes : List ℕ) : Type 0 where
  pub lo : Option (List ℕ)
  pub hi : Option (List ℕ)
  pub ahead : List (List ℕ)
  pub mid : List (List ℕ)
  pub after : List (List ℕ)
  pub left : List ℕ
  pub own : List ℕ
  pub right : List ℕ
  pub items_are : items ≡ ahead ++ (mid ++ after)
  pub nodes_are : nodes ≡ left ++ (own ++ right)
  pub child : C e.child lo hi mid own
  pub front : Front C xs e.key low high lo ahead left
  pub back : Back C ys lo high hi after right

pub focus : (C : Child) (xs : List InnerItem) (e : InnerItem) (ys : List InnerItem) (low high : Option (List ℕ)) (items : List (List ℕ)) (nodes : List ℕ)
    → Parts C (xs ++ (e ∷ ys)) low high items nodes → Focus C xs e ys low high items nodes
focus C [] e ys low high items nodes p =
    let f = first_of_parts C e ys low high items nodes p in record {
      lo = low;
      hi = f.hi;
      ahead = [];
      mid = f.mid;
      after = f.after;
      left = [];
      own = f.own;
      right = f.right;
      items_are = f.items_are;
      nodes_are = f.nodes_are;
      child = f.child;
      front = (refl, refl, refl);
      back = f.back;
    }
focus C (x ∷ []) e ys low high items nodes p =
    let f = first_of_parts C e ys (Some e.key) high p.1 p.3 p.7 in record {
      lo = Some e.key;
      hi = f.hi;
      ahead = p.0;
      mid = f.mid;
      after = f.after;
      left = p.2;
      own = f.own;
      right = f.right;
      items_are = p.8 ∙ ap (λ (l : List (List ℕ)). p.0 ++ l) f.items_are;
      nodes_are = p.9 ∙ ap (λ (l : List ℕ). p.2 ++ l) f.nodes_are;
      child = f.child;
      front = (refl, p.5, p.6, p.4);
      back = f.back;
    }
focus C (x ∷ (next ∷ xs)) e ys low high items nodes p =
    let f = focus C (next ∷ xs) e ys (Some next.key) high p.1 p.3 p.7 in record {
      lo = f.lo;
      hi = f.hi;
      ahead = p.0 ++ f.ahead;
      mid = f.mid;
      after = f.after;
      left = p.2 ++ f.left;
      own = f.own;
      right = f.right;
      items_are = p.8 ∙ ap (λ (l : List (List ℕ)). p.0 ++ l) f.items_are ∙ sym (append_assoc p.0 f.ahead (f.mid ++ f.after));
      nodes_are = p.9 ∙ ap (λ (l : List ℕ). p.2 ++ l) f.nodes_are ∙ sym (append_assoc p.2 f.left (f.own ++ f.right));
      child = f.child;
      front = (
        f.front.0,
        beyond_less low next.key e.key p.5 f.front.1,
        f.front.2,
        (p.0, f.ahead, p.2, f.left, p.4, p.5, f.front.1, f.front.3, refl, refl),
      );
      back = f.back;
    }

-- ---- and joined again, with other entries in the place of the one

begins_joined : (key : List ℕ) (xs ys : List InnerItem) → BeginsAt key xs → BeginsAt key (xs ++ ys)
begins_joined key [] ys h = absurd h
begins_joined key (x ∷ xs) ys h = h

pub join_back : (C : Child) (es ys : List InnerItem) (lo high hi : Option (List ℕ)) (mid after : List (List ℕ)) (own right : List ℕ)
    → Parts C es lo hi mid own → Back C ys lo high hi after right → Parts C (es ++ ys) lo high (mid ++ after) (own ++ right)
join_back C es [] lo high hi mid after own right p b =
    let e = append-nil es in
    let h : Parts C es lo high mid own = subst (λ (k : Option (List ℕ)). Parts C es lo k mid own) b.0 p in
    let h1 : Parts C (es ++ []) lo high mid own = subst (λ (l : List InnerItem). Parts C l lo high mid own) (sym (append-nil es)) h in
    let h2 : Parts C (es ++ []) lo high (mid ++ after) own =
    subst (λ (l : List (List ℕ)). Parts C (es ++ []) lo high l own) (sym (append-nil mid) ∙ ap (λ (l : List (List ℕ)). mid ++ l) (sym b.1)) h1 in
    subst (λ (l : List ℕ). Parts C (es ++ []) lo high (mid ++ after) l) (sym (append-nil own) ∙ ap (λ (l : List ℕ). own ++ l) (sym b.2)) h2
join_back C es (y ∷ ys) lo high hi mid after own right p b =
    parts_join C es (y ∷ ys) lo high y.key mid after own right
    (subst (λ (k : Option (List ℕ)). Parts C es lo k mid own) b.0 p) b.3 refl b.1 b.2

pub join_front : (C : Child) (xs zs : List InnerItem) (key : List ℕ) (low high lo : Option (List ℕ)) (ahead rest : List (List ℕ)) (left others : List ℕ)
    → Front C xs key low high lo ahead left → BeginsAt key zs → Parts C zs lo high rest others → Parts C (xs ++ zs) low high (ahead ++ rest) (left ++ others)
join_front C [] zs key low high lo ahead rest left others f h p =
    let h : Parts C zs low high rest others = subst (λ (k : Option (List ℕ)). Parts C zs k high rest others) f.0 p in
    let h1 : Parts C zs low high (ahead ++ rest) others = subst (λ (l : List (List ℕ)). Parts C zs low high (l ++ rest) others) (sym f.1) h in
    subst (λ (l : List ℕ). Parts C zs low high (ahead ++ rest) (l ++ others)) (sym f.2) h1
join_front C (x ∷ xs) zs key low high lo ahead rest left others f h p =
    parts_join C (x ∷ xs) zs low high key ahead rest left others f.3
    (subst (λ (k : Option (List ℕ)). Parts C zs k high rest others) f.0 p) h f.1 f.2

pub rejoin : (C : Child) (xs es ys : List InnerItem) (key : List ℕ) (low high lo hi : Option (List ℕ)) (ahead mid after : List (List ℕ)) (left own right : List ℕ)
    → Front C xs key low high lo ahead left → Back C ys lo high hi after right → BeginsAt key es → Parts C es lo hi mid own
    → Parts C (xs ++ (es ++ ys)) low high (ahead ++ (mid ++ after)) (left ++ (own ++ right))
rejoin C xs es ys key low high lo hi ahead mid after left own right f b h p =
    join_front C xs (es ++ ys) key low high lo ahead (mid ++ after) left (own ++ right) f (begins_joined key es ys h)
    (join_back C es ys lo high hi mid after own right p b)

-- ---- parts of other pages

pub parts_frame : (C D : Child) (P : ℕ → Type 0)
    → ((page : ℕ) (low high : Option (List ℕ)) (items : List (List ℕ)) (nodes : List ℕ) → AllByRecursion P nodes → C page low high items nodes → D page low high items nodes)
    → (es : List InnerItem) (low high : Option (List ℕ)) (items : List (List ℕ)) (nodes : List ℕ)
    → AllByRecursion P nodes → Parts C es low high items nodes → Parts D es low high items nodes
parts_frame C D P same [] low high items nodes all p = p
parts_frame C D P same (e ∷ []) low high items nodes all p = same e.child low high items nodes all p
parts_frame C D P same (e ∷ (next ∷ rest)) low high items nodes all p =
    let all' : AllByRecursion P (p.2 ++ p.3) = subst (AllByRecursion P) p.9 all in (
      p.0,
      p.1,
      p.2,
      p.3,
      same e.child low (Some next.key) p.0 p.2 (all_front P p.2 p.3 all') p.4,
      p.5,
      p.6,
      parts_frame C D P same (next ∷ rest) (Some next.key) high p.1 p.3 (all_back P p.2 p.3 all') p.7,
      p.8,
      p.9,
    )

pub front_frame : (C D : Child) (P : ℕ → Type 0)
    → ((page : ℕ) (low high : Option (List ℕ)) (items : List (List ℕ)) (nodes : List ℕ) → AllByRecursion P nodes → C page low high items nodes → D page low high items nodes)
    → (xs : List InnerItem) (key : List ℕ) (low high lo : Option (List ℕ)) (items : List (List ℕ)) (nodes : List ℕ)
    → AllByRecursion P nodes → Front C xs key low high lo items nodes → Front D xs key low high lo items nodes
front_frame C D P same [] key low high lo items nodes all f = f
front_frame C D P same (x ∷ xs) key low high lo items nodes all f =
    (f.0, f.1, f.2, parts_frame C D P same (x ∷ xs) low (Some key) items nodes all f.3)

pub back_frame : (C D : Child) (P : ℕ → Type 0)
    → ((page : ℕ) (low high : Option (List ℕ)) (items : List (List ℕ)) (nodes : List ℕ) → AllByRecursion P nodes → C page low high items nodes → D page low high items nodes)
    → (ys : List InnerItem) (lo high hi : Option (List ℕ)) (items : List (List ℕ)) (nodes : List ℕ)
    → AllByRecursion P nodes → Back C ys lo high hi items nodes → Back D ys lo high hi items nodes
back_frame C D P same [] lo high hi items nodes all b = b
back_frame C D P same (y ∷ ys) lo high hi items nodes all b =
    (b.0, b.1, b.2, parts_frame C D P same (y ∷ ys) (Some y.key) high items nodes all b.3)
