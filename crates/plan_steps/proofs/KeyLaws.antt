-- For the proofs: the items of each key after a change of one.
use Rattle.std.proofs.Common.{◌≡◌, ◌≢◌, ℕ, Bool, true, false, List, [], ◌∷◌, ◌++◌, ◌⊎◌, inl, inr, refl, sym, ap, ◌∙◌, append-nil}
use Rattle.std.specs.Prelude.{filter, if◌then◌else◌}
use Rattle.std.specs.Ordering.{is_lt, is_eq, is_gt}
use Rattle.std.specs.declared.cmp.Ordering.{Ordering}
use Rattle.std.specs.declared.cmp.Ordering.TheVariants.{Less, Equal, Greater}
use Rattle.std.proofs.lemmas.Bool.{cases_eq}
use Rattle.std.proofs.Math.Seq.{take-append_seam}
use Rattle.std.proofs.lemmas.Cmp.{nat_list_cmp_total, tied_itself}
use Rattle.std.proofs.lemmas.Map.Lookups.{exact_bytes}
use Rattle.std.proofs.lemmas.List.Elements.{filter-append}
use Rattle.rm_base.specs.Fields.{field}
use Rattle.page_view.specs.declared.leaf.LeafItem.{LeafItem}
use Rattle.page_view.specs.Keys.{key_in, key_cmp}
use Rattle.page_view.specs.Leaf.{leaf_bytes}
use Rattle.version_store.specs.Stores.{put}
use Rattle.held_versions.specs.Keeping.{KeepsOthers}
use Rattle.held_versions.proofs.Parts.{put_elsewhere, put_there}
use Rattle.tree_timeline.specs.Types.{Key, Items}
use Rattle.held_versions.specs.Versions.{of_key}
use Rattle.plan_steps.specs.KeyItems.{before, behind, put_item, taken_out}
use Rattle.plan_steps.specs.RowChanges.{with_row}

same_key : (a : Key) → key_cmp a a ≡ Equal
same_key a = tied_itself nat_list_cmp_total a

equal_key : (a b : Key) → key_cmp a b ≡ Equal → a ≡ b
equal_key a b e = exact_bytes a b e

-- ---- items of one key among those that pass a test

kept_of : (p : List ℕ → Bool) (k : Key) (items : Items)
    → ((x : List ℕ) → key_in x ≡ k → p x ≡ true) → of_key k (filter p items) ≡ of_key k items
kept_of p k [] h = refl
kept_of p k (x ∷ xs) h = go (kept_of p k xs h) (p x) refl (key_cmp (key_in x) k) refl
  where
    go : of_key k (filter p xs) ≡ of_key k xs → (b : Bool) → p x ≡ b → (o : Ordering)
        → key_cmp (key_in x) k ≡ o → of_key k (filter p (x ∷ xs)) ≡ of_key k (x ∷ xs)
    go ih true e Less f = rw (e, f) ih
    go ih true e Equal f = rw (e, f) (ap (λ (l : Items). x ∷ l) ih)
    go ih true e Greater f = rw (e, f) ih
    go ih false e Less f = rw (e, f) ih
    go ih false e Equal f =
        absurd (let g : true ≡ false = sym (h x (equal_key (key_in x) k f)) ∙ e in cc)
    go ih false e Greater f = rw (e, f) ih

none_of : (p : List ℕ → Bool) (k : Key) (items : Items)
    → ((x : List ℕ) → key_in x ≡ k → p x ≡ false) → of_key k (filter p items) ≡ []
none_of p k [] h = refl
none_of p k (x ∷ xs) h = go (none_of p k xs h) (p x) refl (key_cmp (key_in x) k) refl
  where
    go : of_key k (filter p xs) ≡ [] → (b : Bool) → p x ≡ b → (o : Ordering)
        → key_cmp (key_in x) k ≡ o → of_key k (filter p (x ∷ xs)) ≡ []
    go ih true e Less f = rw (e, f) ih
    go ih true e Equal f =
        absurd (let g : true ≡ false = sym e ∙ h x (equal_key (key_in x) k f) in cc)
    go ih true e Greater f = rw (e, f) ih
    go ih false e o f = rw e ih

-- ---- before a key and behind it

before_less : (key k : Key) (items : Items) → key_cmp k key ≡ Less
    → of_key k (before key items) ≡ of_key k items
before_less key k items e =
    kept_of (λ x. is_lt (key_cmp (key_in x) key)) k items
    (λ x f. ap (λ (a : Key). is_lt (key_cmp a key)) f ∙ ap is_lt e)

before_not : (key k : Key) (items : Items) → is_lt (key_cmp k key) ≡ false
    → of_key k (before key items) ≡ []
before_not key k items e =
    none_of (λ x. is_lt (key_cmp (key_in x) key)) k items
    (λ x f. ap (λ (a : Key). is_lt (key_cmp a key)) f ∙ e)

behind_more : (key k : Key) (items : Items) → key_cmp k key ≡ Greater
    → of_key k (behind key items) ≡ of_key k items
behind_more key k items e =
    kept_of (λ x. is_gt (key_cmp (key_in x) key)) k items
    (λ x f. ap (λ (a : Key). is_gt (key_cmp a key)) f ∙ ap is_gt e)

behind_not : (key k : Key) (items : Items) → is_gt (key_cmp k key) ≡ false
    → of_key k (behind key items) ≡ []
behind_not key k items e =
    none_of (λ x. is_gt (key_cmp (key_in x) key)) k items
    (λ x f. ap (λ (a : Key). is_gt (key_cmp a key)) f ∙ e)

joined : (k : Key) (a b c d : Items) → of_key k a ≡ c → of_key k b ≡ d → of_key k (a ++ b) ≡ c ++ d
joined k a b c d p q =
    filter-append (λ item. is_eq (key_cmp (key_in item) k)) a b
    ∙ (ap (λ (x : Items). x ++ of_key k b) p ∙ ap (λ (y : Items). c ++ y) q)

one_item : (k : Key) (item : List ℕ) (rest : Items) → key_cmp (key_in item) k ≡ Equal
    → of_key k (item ∷ rest) ≡ item ∷ of_key k rest
one_item k item rest e = rw e refl

other_item : (k : Key) (item : List ℕ) (rest : Items) (o : Ordering)
    → key_cmp (key_in item) k ≡ o → o ≢ Equal → of_key k (item ∷ rest) ≡ of_key k rest
other_item k item rest Less e ne = rw e refl
other_item k item rest Equal e ne = absurd (ne refl)
other_item k item rest Greater e ne = rw e refl

-- ---- the key itself

pub key_put : (key : Key) (item : List ℕ) (items : Items) → key_in item ≡ key
    → of_key key (put_item key item items) ≡ item ∷ []
key_put key item items is =
    let same = same_key key in
    joined key (before key items) (item ∷ behind key items) [] (item ∷ [])
    (before_not key key items (ap is_lt same))
    (one_item key item (behind key items) (ap (λ (a : Key). key_cmp a key) is ∙ same)
    ∙ ap (λ (l : Items). item ∷ l) (behind_not key key items (ap is_gt same)))

pub key_gone : (key : Key) (items : Items) → of_key key (taken_out key items) ≡ []
key_gone key items =
    let same = same_key key in
    joined key (before key items) (behind key items) [] []
    (before_not key key items (ap is_lt same)) (behind_not key key items (ap is_gt same))

-- ---- other keys

pub others_gone : (key k : Key) (items : Items) → k ≢ key
    → of_key k (taken_out key items) ≡ of_key k items
others_gone key k items ne = go (key_cmp k key) refl
  where
    go : (o : Ordering) → key_cmp k key ≡ o → of_key k (taken_out key items) ≡ of_key k items
    go Less e =
        joined k (before key items) (behind key items) (of_key k items) []
        (before_less key k items e) (behind_not key k items (ap is_gt e))
        ∙ append-nil (of_key k items)
    go Equal e = absurd (ne (equal_key k key e))
    go Greater e =
        joined k (before key items) (behind key items) [] (of_key k items)
        (before_not key k items (ap is_lt e)) (behind_more key k items e)

pub others_put : (key k : Key) (item : List ℕ) (items : Items) → key_in item ≡ key → k ≢ key
    → of_key k (put_item key item items) ≡ of_key k items
others_put key k item items is ne =
    filter-append (λ x. is_eq (key_cmp (key_in x) k)) (before key items) (item ∷ behind key items)
    ∙ (ap (λ (l : Items). of_key k (before key items) ++ l)
    (other_item k item (behind key items) (key_cmp (key_in item) k) refl
    (λ e. ne (sym (equal_key key k (ap (λ (a : Key). key_cmp a k) (sym is) ∙ e)))))
    ∙ (sym (filter-append (λ x. is_eq (key_cmp (key_in x) k)) (before key items) (behind key items))
    ∙ others_gone key k items ne))

-- ---- the trees' items, with other ones at a root

pub tree_keeps : (items : ℕ → Items) (root : ℕ) (key : Key) (now : Items)
    → ((j : Key) → j ≢ key → of_key j now ≡ of_key j (items root))
    → KeepsOthers root key items (put items root now)
tree_keeps items root key now there q j ne = by_case (cases_eq q root)
  where
    by_case : (q ≡ root) ⊎ (q ≢ root) → of_key j (put items root now q) ≡ of_key j (items q)
    by_case (inl e) =
        ap (λ (r : ℕ). of_key j (put items root now r)) e
        ∙ (ap (of_key j) (put_there items root now)
        ∙ (there j (λ f. ne e f) ∙ ap (λ (r : ℕ). of_key j (items r)) (sym e)))
    by_case (inr apart) = ap (of_key j) (put_elsewhere items root now q apart)

pub key_of_leaf : (item : LeafItem) → key_in (leaf_bytes item) ≡ item.key
key_of_leaf item =
    take-append_seam item.key ((if item.deleted then 1 else 0)
    ∷ (field 8 item.trx ++ (field 4 item.older.page ++ (field 2 item.older.slot ++ item.value))))

pub row_keeps : (items : ℕ → Items) (root : ℕ) (item : LeafItem)
    → KeepsOthers root item.key items (with_row items root item)
row_keeps items root item =
    tree_keeps items root item.key (put_item item.key (leaf_bytes item) (items root))
    (λ j ne. others_put item.key j (leaf_bytes item) (items root) (key_of_leaf item) ne)

pub row_here : (items : ℕ → Items) (root : ℕ) (item : LeafItem)
    → of_key item.key (with_row items root item root) ≡ leaf_bytes item ∷ []
row_here items root item =
    ap (of_key item.key) (put_there items root (put_item item.key (leaf_bytes item) (items root)))
    ∙ key_put item.key (leaf_bytes item) (items root) (key_of_leaf item)

pub taken_keeps : (items : ℕ → Items) (root : ℕ) (key : Key)
    → KeepsOthers root key items (put items root (taken_out key (items root)))
taken_keeps items root key =
    tree_keeps items root key (taken_out key (items root))
    (λ j ne. others_gone key j (items root) ne)

pub taken_here : (items : ℕ → Items) (root : ℕ) (key : Key)
    → of_key key (put items root (taken_out key (items root)) root) ≡ []
taken_here items root key =
    ap (of_key key) (put_there items root (taken_out key (items root))) ∙ key_gone key (items root)
