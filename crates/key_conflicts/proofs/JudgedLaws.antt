-- A test tells of its keys what their newest versions are over its uses.
use Rattle.std.proofs.Common.{◌≡◌, ◌≢◌, ◌&&◌, ℕ, zero, suc, Bool, true, false, not, is_none, if◌then◌else◌, List, [], ◌∷◌, ◌++◌, slice_get, Option, Some, None, inl, inr, refl, sym, ◌∙◌, ap, subst, append_assoc, append-nil}
use Rattle.std.specs.declared.cmp.Ordering.{Ordering}
use Rattle.std.specs.declared.cmp.Ordering.TheVariants.{Less, Equal, Greater}
use Rattle.std.specs.Ordering.{is_lt, ordering_reverse}
use Rattle.std.proofs.lemmas.Cmp.{nat_list_cmp_total, tied_itself}
use Rattle.std.proofs.lemmas.List.Elements.{Contains-append_left, Contains-push}
use Rattle.page_image.specs.Image.{Image}
use Rattle.page_image.specs.declared.kind.Kind.{Kind}
use Rattle.page_image.specs.declared.kind.Kind.TheVariants as kind
use Rattle.page_view.specs.declared.leaf.LeafItem.{LeafItem}
use Rattle.page_view.specs.Keys.{key_cmp}
use Rattle.bplus_tree.specs.Walk.{IsToRead, IsLeafToRead, IsInnerToRead}
use Rattle.bplus_tree.proofs.Order.{less_upto, not_greater, all_join, all_map}
use Rattle.commit_stamps.specs.Stamping.{stamp_in, visible}
use Rattle.version_store.specs.Versions.{is_own}
use Rattle.question_tree.specs.Questions.{asks, stops, Gives}
use Rattle.question_tree.proofs.QuestionLaws.{split}
use Rattle.range_reader.specs.declared.fetch.Fetch.TheVariants as fetch
use Rattle.range_reader.specs.declared.fetch.Snapshot.{Snapshot}
use Rattle.range_reader.specs.Finding.{Fits, has_stamp}
use Rattle.range_reader.specs.Walked.{child_in}
use Rattle.range_reader.proofs.VersionLaws.{stamp_some}
use Rattle.key_conflicts.specs.declared.verdict.Met.{Met}
use Rattle.key_conflicts.specs.declared.verdict.Tested.{Tested}
use Rattle.key_conflicts.specs.Testing.{Key, Asking, down, down_by, item_of, stamp_by, look_by, look_at, look_in, test_key, test_from, test_keys, put_by, precedes, with_key, nothing_known}
use Rattle.key_conflicts.specs.Judged.{LeadsDown, Meets, KeyTested, EachTested, clashing, standing, IsLeastOf, TellsJudged}
use Rattle.key_conflicts.proofs.StageLaws.{is_leaf}

-- ---- the way down

record Down (page : ℕ) (key : Key) (im : Image) (us : List Image) (leaf : Image) : Type 0 where
  way : List Image
  used : im ∷ us ≡ way ++ leaf ∷ []
  leads : LeadsDown page key way leaf

inner_read : (im : Image) → im.kind ≡ kind.Inner → IsToRead im → IsInnerToRead im
inner_read im e (inl leaf) = let apart : kind.Leaf ≡ kind.Inner = sym leaf.kind ∙ e in absurd cc
inner_read im e (inr inner) = inner

one_above : (page : ℕ) (key : Key) (im below : Image) (us : List Image) (leaf : Image) → im.page ≡ page → IsInnerToRead im
    → Down (child_in im key) key below us leaf → Down page key im (below ∷ us) leaf
one_above page key im below us leaf n read d =
    record { way = im ∷ d.way; used = ap (λ (xs : List Image). im ∷ xs) d.used; leads = (n, read, d.leads) }

at_leaf : (page : ℕ) (key : Key) (im leaf : Image) → im.page ≡ page → IsLeafToRead im → im ≡ leaf → Down page key im [] leaf
at_leaf page key im leaf n read e =
    record {
      way = [];
      used = ap (λ (x : Image). x ∷ []) e;
      leads = subst (λ (x : Image). (x.page ≡ page) × IsLeafToRead x) e (n, read);
    }

by_kind : (page : ℕ) (key : Key) (im : Image) (below : Asking Image) (us : List Image) (leaf : Image) → im.page ≡ page → IsToRead im
    → (im.kind ≡ kind.Inner → Gives Fits below us leaf → Down page key im us leaf)
    → (k : Kind) → im.kind ≡ k → Gives Fits (down_by k im below) us leaf → Down page key im us leaf
by_kind page key im below [] leaf n read rec kind.Leaf e h = at_leaf page key im leaf n (is_leaf im e read) h
by_kind page key im below (u ∷ us) leaf n read rec kind.Leaf e h = absurd h
by_kind page key im below us leaf n read rec kind.Inner e h = rec e h
by_kind page key im below us leaf n read rec kind.Unmade e h = absurd h
by_kind page key im below us leaf n read rec kind.Meta e h = absurd h
by_kind page key im below us leaf n read rec kind.Slots e h = absurd h
by_kind page key im below us leaf n read rec kind.Stamps e h = absurd h
by_kind page key im below us leaf n read rec kind.Undo e h = absurd h

goes_down : (n : ℕ) (page : ℕ) (key : Key) (im : Image) (us : List Image) (leaf : Image) → im.page ≡ page → IsToRead im
    → Gives Fits (down n key im) us leaf → Down page key im us leaf
unfolding down
goes_down zero page key im us leaf m read h = by_kind page key im stops us leaf m read (λ e g. absurd g) im.kind refl h
goes_down (suc n) page key im us leaf m read h =
    by_kind page key im (asks (fetch.Child (child_in im key)) (down n key)) us leaf m read
    (λ e g. below us e g (λ x vs num rd given. goes_down n (child_in im key) key x vs leaf num rd given)) im.kind refl h
  where
    below : (us : List Image) → im.kind ≡ kind.Inner → Gives Fits (asks (fetch.Child (child_in im key)) (down n key)) us leaf
        → ((x : Image) (vs : List Image) → x.page ≡ child_in im key → IsToRead x → Gives Fits (down n key x) vs leaf → Down (child_in im key) key x vs leaf)
        → Down page key im us leaf
    below [] e g rec = absurd g
    below (x ∷ vs) e g rec = one_above page key im x vs leaf m (inner_read im e read) (rec x vs g.0.0 g.0.1 g.1)

-- ---- the newest version

in_way : (seen : Bool) → seen ≡ not (not seen)
in_way true = refl
in_way false = refl

looked : (s : Snapshot) (item : LeafItem) (us : List Image) (m : Met) (b : Bool) → has_stamp item.trx ≡ b → is_own s.own item.trx ≡ false
    → Gives Fits (stamp_by b s item.trx (not item.deleted)) us m → Meets s (Some item) us m
looked s item us m false e o h = absurd h
looked s item [] m true e o h = absurd h
looked s item (u ∷ (v ∷ us)) m true e o h = absurd h.1
looked s item (u ∷ []) m true e o h =
    let seen : Bool = visible (stamp_in u item.trx) s.stamp in
    let clash : not seen ≡ m.clash = ap (λ (x : Met). x.clash) h.1 in (
      refl,
      record {
        other = o;
        page = record { some = stamp_some item.trx e; kind = h.0.1; number = h.0.0 };
        shown = in_way seen ∙ ap not clash;
      },
      sym (ap (λ (x : Met). x.there) h.1),
    )

own : (s : Snapshot) (item : LeafItem) (us : List Image) (m : Met) (b : Bool) → is_own s.own item.trx ≡ b
    → Gives Fits (look_by b s item.trx (not item.deleted)) us m → Meets s (Some item) us m
own s item [] m true e h = (e, sym h)
own s item (u ∷ us) m true e h = absurd h
own s item us m false e h = looked s item us m (has_stamp item.trx) refl e h

meets : (s : Snapshot) (o : Option LeafItem) (us : List Image) (m : Met) → Gives Fits (look_at s o) us m → Meets s o us m
meets s None [] m h = (refl, sym h)
meets s None (u ∷ us) m h = absurd h
meets s (Some item) us m h = own s item us m (is_own s.own item.trx) refl h

-- ---- one key

key_tested : (s : Snapshot) (root : ℕ) (key : Key) (us : List Image) (m : Met) → Gives Fits (test_key s root key) us m → KeyTested s root key us m
key_tested s root key [] m h = absurd h
key_tested s root key (x ∷ xs) m h =
    let r = split Fits (down 8 key x) (look_in s key) xs m h.1 in
    let d = goes_down 8 root key x r.1 r.0 h.0.0 h.0.1 r.4 in
    record {
      way = d.way;
      leaf = r.0;
      stamps = r.2;
      used =
          ap (λ (ys : List Image). x ∷ ys) r.3
          ∙ (ap (λ (ys : List Image). ys ++ r.2) d.used ∙ append_assoc d.way (r.0 ∷ []) r.2);
      leads = d.leads;
      meets = meets s (item_of key r.0.items) r.2 m r.5;
    }

-- ---- the least key

less_at : (o : Ordering) → is_lt o ≡ true → o ≡ Less
less_at Less e = refl
less_at Equal e = let apart : false ≡ true = e in absurd cc
less_at Greater e = let apart : false ≡ true = e in absurd cc

turned : (o : Ordering) → is_lt o ≡ false → ordering_reverse o ≢ Greater
turned Less e = let apart : true ≡ false = e in absurd cc
turned Equal e = λ q. let apart : Equal ≡ Greater = q in cc
turned Greater e = λ q. let apart : Less ≡ Greater = q in cc

itself : (key : Key) → key_cmp key key ≢ Greater
itself key e = let apart : Equal ≡ Greater = sym (tied_itself nat_list_cmp_total key) ∙ e in cc

upto : (a b : Key) → is_lt (key_cmp a b) ≡ false → key_cmp b a ≢ Greater
upto a b e g = turned (key_cmp a b) e (sym (nat_list_cmp_total.antisymm b a) ∙ g)

one_more : (before : List Key) (key : Key) (o : Option Key) → IsLeastOf before o → IsLeastOf (before ++ key ∷ []) (put_by (precedes key o) key o)
one_more before key None h =
    let P : List Key → Type 0 = λ xs. IsLeastOf (xs ++ key ∷ []) (Some key) in
    subst P (sym h) (Contains-push [] key, (itself key, tt))
one_more before key (Some other) h = go (is_lt (key_cmp key other)) refl
  where
    go : (b : Bool) → is_lt (key_cmp key other) ≡ b → IsLeastOf (before ++ key ∷ []) (put_by b key (Some other))
    go true e =
        let less : key_cmp key other ≡ Less = less_at (key_cmp key other) e in (
          Contains-push before key,
          all_join (λ x. key_cmp key x ≢ Greater) before (key ∷ [])
              (all_map (λ x. key_cmp other x ≢ Greater) (λ x. key_cmp key x ≢ Greater) before
              (λ x n. not_greater key x (less_upto key other x less n)) h.1)
              (itself key, tt),
        )
    go false e = (
      Contains-append_left before (key ∷ []) other h.0,
      all_join (λ x. key_cmp other x ≢ Greater) before (key ∷ []) h.1 (upto key other e, tt),
    )

-- ---- all keys

abbrev first_of : Option Key → List Key → Option Key
first_of None keys = slice_get keys 0
first_of (Some key) keys = Some key

-- what a test tells that knows something already
record From (s : Snapshot) (root : ℕ) (t : Tested) (keys : List Key) (us : List Image) (a : Tested) : Type 0 where
  mets : List Met
  each : EachTested s root keys us mets
  clash : (before : List Key) → IsLeastOf before t.clash → IsLeastOf (before ++ clashing keys mets) a.clash
  found : a.found ≡ first_of t.found (standing keys mets)

clash_more : (t a : Tested) (key : Key) (keys : List Key) (m : Met) (ms : List Met)
    → ((before : List Key) → IsLeastOf before (with_key t key m).clash → IsLeastOf (before ++ clashing keys ms) a.clash)
    → (before : List Key) → IsLeastOf before t.clash → IsLeastOf (before ++ clashing (key ∷ keys) (m ∷ ms)) a.clash
clash_more t a key keys m ms rec before h = go m.clash refl
  where
    go : (b : Bool) → m.clash ≡ b → IsLeastOf (before ++ (if m.clash then key ∷ clashing keys ms else clashing keys ms)) a.clash
    go true e =
        let P : Bool → Type 0 = λ b. IsLeastOf (before ++ key ∷ []) (put_by (b && precedes key t.clash) key t.clash) in
        let R : Bool → Type 0 = λ b. IsLeastOf (before ++ (if b then key ∷ clashing keys ms else clashing keys ms)) a.clash in
        let Q : List Key → Type 0 = λ xs. IsLeastOf xs a.clash in
        subst R (sym e) (subst Q (append_assoc before (key ∷ []) (clashing keys ms))
        (rec (before ++ key ∷ []) (subst P (sym e) (one_more before key t.clash h))))
    go false e =
        let P : Bool → Type 0 = λ b. IsLeastOf before (put_by (b && precedes key t.clash) key t.clash) in
        let R : Bool → Type 0 = λ b. IsLeastOf (before ++ (if b then key ∷ clashing keys ms else clashing keys ms)) a.clash in
        subst R (sym e) (rec before (subst P (sym e) h))

found_more : (there : Bool) (o : Option Key) (key : Key) (rest : List Key)
    → first_of (put_by (there && is_none o) key o) rest ≡ first_of o (if there then key ∷ rest else rest)
found_more true None key rest = refl
found_more true (Some other) key rest = refl
found_more false None key rest = refl
found_more false (Some other) key rest = refl

judged_from : (s : Snapshot) (root : ℕ) (t : Tested) (keys : List Key) (us : List Image) (a : Tested)
    → Gives Fits (test_from s root t keys) us a → From s root t keys us a
unfolding test_from
judged_from s root t [] [] a h =
    record {
      mets = [];
      each = (refl, refl);
      clash = λ before least. least_same before (ap (λ (x : Tested). x.clash) h) least;
      found = sym (ap (λ (x : Tested). x.found) h) ∙ none_more t.found;
    }
  where
    least_same : (before : List Key) → t.clash ≡ a.clash → IsLeastOf before t.clash → IsLeastOf (before ++ []) a.clash
    least_same before e least =
        let P : List Key → Type 0 = λ xs. IsLeastOf xs a.clash in
        let Q : Option Key → Type 0 = λ o. IsLeastOf before o in
        subst P (sym (append-nil before)) (subst Q e least)

    none_more : (o : Option Key) → o ≡ first_of o []
    none_more None = refl
    none_more (Some key) = refl
judged_from s root t [] (u ∷ us) a h = absurd h
judged_from s root t (key ∷ keys) us a h =
    let r = split Fits (test_key s root key) (λ m. test_from s root (with_key t key m) keys) us a h in
    let f = judged_from s root (with_key t key r.0) keys r.2 a r.5 in
    record {
      mets = r.0 ∷ f.mets;
      each = (r.1, r.2, r.0, f.mets, r.3, key_tested s root key r.1 r.0 r.4, f.each, refl);
      clash = clash_more t a key keys r.0 f.mets f.clash;
      found = f.found ∙ found_more r.0.there t.found key (standing keys f.mets);
    }

pub tells_judged : TellsJudged
unfolding test_keys
tells_judged s root keys us a h =
    let f = judged_from s root nothing_known keys us a h in
    record { mets = f.mets; each = f.each; clash = f.clash [] refl; found = f.found }
