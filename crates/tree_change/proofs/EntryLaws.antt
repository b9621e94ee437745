-- The entries of an inner page, and the one on the way to a key.
use Rattle.std.proofs.Common.{◌≡◌, ◌≢◌, ◌<◌, ◌+◌, ℕ, zero, suc, List, [], ◌∷◌, ◌++◌, length, map, get_or, slice_get, Option, Some, refl, sym, ap, subst, ◌∙◌, arith}
use Rattle.std.specs.List.{AllByRecursion}
use Rattle.std.proofs.lemmas.List.{take_at, map-append, get_or_at, length-map, length-append, append_assoc}
use Rattle.std.proofs.lemmas.Option.{slice_get_within, same_Some}
use Rattle.std.specs.declared.cmp.Ordering.TheVariants.{Less, Greater}
use Rattle.rm_base.specs.Fields.{field}
use Rattle.page_view.specs.Inner.{InnerItem, inner_bytes, IsInner}
use Rattle.page_view.specs.Keys.{key_in, keys_of, key_cmp, IsChildFor}
use Rattle.page_view.proofs.InnerLaws.{one_inner}
use Rattle.bplus_tree.specs.Tree.{NotBelow, Below}
use Rattle.tree_change.proofs.PlaceLaws.{turned}
use Rattle.tree_change.proofs.PartLaws.{Child, Front, Back}

pub key_of_entry : (e : InnerItem) → key_in (inner_bytes e) ≡ e.key
key_of_entry e = take_at e.key (field 4 e.child) (length e.key) refl

-- the keys of the entries
abbrev pub entry_keys : List InnerItem → List (List ℕ)
entry_keys es = map (λ e. e.key) es

pub keys_of_entries : (es : List InnerItem) → keys_of (map inner_bytes es) ≡ entry_keys es
keys_of_entries [] = refl
keys_of_entries (e ∷ es) =
    ap (λ (k : List ℕ). k ∷ keys_of (map inner_bytes es)) (key_of_entry e) ∙ ap (λ (ks : List (List ℕ)). e.key ∷ ks) (keys_of_entries es)

-- the entry that an item spells, with the entries before and behind it
pub record Parted (es : List InnerItem) (place : ℕ) (entry : InnerItem) : Type 0 where
  pub xs : List InnerItem
  pub ys : List InnerItem
  pub are : es ≡ xs ++ (entry ∷ ys)
  pub count : length xs ≡ place

pub parted : (es : List InnerItem) (place : ℕ) (entry : InnerItem) → AllByRecursion IsInner es → IsInner entry
    → slice_get (map inner_bytes es) place ≡ Some (inner_bytes entry) → Parted es place entry
parted [] place entry all is e = absurd (let h = slice_get_within [] place (inner_bytes entry) e in omega (arith, h))
parted (x ∷ es) zero entry all is e =
    let same : x ≡ entry = one_inner x entry all.0 is (same_Some (inner_bytes x) (inner_bytes entry) e) in record {
      xs = [];
      ys = es;
      are = ap (λ (y : InnerItem). y ∷ es) same;
      count = refl;
    }
parted (x ∷ es) (suc place) entry all is e =
    let p = parted es place entry all.1 is e in record {
      xs = x ∷ p.xs;
      ys = p.ys;
      are = ap (λ (l : List InnerItem). x ∷ l) p.are;
      count = ap suc p.count;
    }

-- the first of the entries has a greater key, where there is one
abbrev pub NextAbove : List ℕ → List InnerItem → Type 0
NextAbove key [] = Unit {0}
NextAbove key (y ∷ ys) = key_cmp key y.key ≡ Less

key_at : (es : List InnerItem) (xs : List InnerItem) (entry : InnerItem) (ys : List InnerItem) (place : ℕ) → es ≡ xs ++ (entry ∷ ys) → length xs ≡ place
    → get_or (entry_keys es) place [] ≡ entry.key
key_at es xs entry ys place e c =
    ap (λ (l : List InnerItem). get_or (entry_keys l) place []) e
    ∙ ap (λ (l : List (List ℕ)). get_or l place []) (map-append (λ (x : InnerItem). x.key) xs (entry ∷ ys))
    ∙ get_or_at (entry_keys xs) entry.key (entry_keys ys) [] place (length-map xs (λ (x : InnerItem). x.key) ∙ c)

pub own_not_greater : (es xs : List InnerItem) (entry : InnerItem) (ys : List InnerItem) (place : ℕ) (key : List ℕ) → es ≡ xs ++ (entry ∷ ys) → length xs ≡ place
    → IsChildFor (entry_keys es) key place → key_cmp entry.key key ≢ Greater
own_not_greater es xs entry ys place key e c child =
    subst (λ (k : List ℕ). key_cmp k key ≢ Greater) (key_at es xs entry ys place e c) child.1

pub next_above : (es xs : List InnerItem) (entry : InnerItem) (ys : List InnerItem) (place : ℕ) (key : List ℕ) → es ≡ xs ++ (entry ∷ ys) → length xs ≡ place
    → IsChildFor (entry_keys es) key place → NextAbove key ys
next_above es xs entry [] place key e c child = tt
next_above es xs entry (y ∷ ys) place key e c child =
    let more : length (xs ++ entry ∷ []) ≡ place + 1 = grind (arith, push_length) in
    let here : get_or (entry_keys es) (place + 1) [] ≡ y.key = key_at es (xs ++ entry ∷ []) y ys (place + 1) (e ∙ regroup xs entry (y ∷ ys)) more in
    let inside : place + 1 < length (entry_keys es) = long_enough es xs entry y ys place e c in
    turned y.key key (subst (λ (k : List ℕ). key_cmp k key ≡ Greater) here (child.2 (place + 1) (omega arith) inside))
  where
    push_length : (us : List InnerItem) (b : InnerItem) → length (us ++ b ∷ []) ≡ length us + 1
    push_length us b = simp length-append (omega arith)

    regroup : (us : List InnerItem) (b : InnerItem) (cs : List InnerItem) → us ++ (b ∷ cs) ≡ (us ++ b ∷ []) ++ cs
    regroup us b cs = sym (append_assoc us (b ∷ []) cs)

    long_enough : (es us : List InnerItem) (b y : InnerItem) (cs : List InnerItem) (n : ℕ) → es ≡ us ++ (b ∷ (y ∷ cs)) → length us ≡ n → n + 1 < length (entry_keys es)
    long_enough es us b y cs n e c =
        let l = length-map es (λ (x : InnerItem). x.key) in
        let m = ap length e ∙ length-append us (b ∷ (y ∷ cs)) in
        omega (arith, l, m, c)

-- the bounds of the child on the way hold the key
pub low_holds : (C : Child) (xs : List InnerItem) (own key : List ℕ) (low high lo : Option (List ℕ)) (items : List (List ℕ)) (nodes : List ℕ)
    → Front C xs own low high lo items nodes → key_cmp own key ≢ Greater → NotBelow low key → NotBelow lo key
low_holds C [] own key low high lo items nodes f ne h = subst (λ (k : Option (List ℕ)). NotBelow k key) (sym f.0) h
low_holds C (x ∷ xs) own key low high lo items nodes f ne h = subst (λ (k : Option (List ℕ)). NotBelow k key) (sym f.0) ne

pub high_holds : (C : Child) (ys : List InnerItem) (key : List ℕ) (lo high hi : Option (List ℕ)) (items : List (List ℕ)) (nodes : List ℕ)
    → Back C ys lo high hi items nodes → NextAbove key ys → Below high key → Below hi key
high_holds C [] key lo high hi items nodes b n h = subst (λ (k : Option (List ℕ)). Below k key) (sym b.0) h
high_holds C (y ∷ ys) key lo high hi items nodes b n h = subst (λ (k : Option (List ℕ)). Below k key) (sym b.0) n
