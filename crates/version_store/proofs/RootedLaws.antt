-- The groups keep names and roots.
use Rattle.std.proofs.Common.{◌≡◌, ℕ, suc, ◌≢◌, ◌≤◌, ◌<◌, Bool, true, false, Option, Some, None, List, [], ◌∷◌, if◌then◌else◌, nat_eq, ◌&&◌, arith, ◌⊎◌, inl, inr, refl, sym, subst, ap, ◌∙◌}
use Rattle.std.specs.Str.{bytes_eq}
use Rattle.version_store.specs.Versions.{Row, Version, older}
use Rattle.version_store.specs.Stores.{UndoEntry, Store, catalog, put, put_row, begun, written, naming, changed, created, undone, stamped, freed, split}
use Rattle.version_store.specs.Contents.{newest_root, root_of}
use Rattle.version_store.specs.Held.{all_of, newest_of, count, Held}
use Rattle.version_store.specs.Rooted.{IsLone, IsOpenBy, IsInOrder, Rooted}
use Rattle.version_store.proofs.Versions.{all_of_pop, newest_of_none}
use Rattle.version_store.proofs.Places.{count_here, either_name, put_all, put_row_all, put_row_apart, put_row_here}

-- ---- names and roots

pub in_order_map : (root new : List ℕ → Option ℕ) (us : List UndoEntry)
    → ((a : List ℕ) (r : ℕ) → count catalog a us ≢ 0 → new a ≡ Some r → root a ≡ Some r) → IsInOrder root us
    → IsInOrder new us
in_order_map root new [] f o = tt
in_order_map root new (u ∷ us) f o = (
  (λ c r e k. o.0 c r (f u.key r (λ z. head c z) e) k),
  in_order_map root new us (λ a r ne e. f a r (λ z. ne (more a z)) e) o.1,
)
  where
    head : u.root ≡ catalog → count catalog u.key (u ∷ us) ≡ 0 → ⊥
    head c z = let h : count catalog u.key (u ∷ us) ≡ suc (count catalog u.key us) = subst
        (λ r. count r u.key (u ∷ us) ≡ suc (count r u.key us)) c (count_here u.root u.key us) in grind arith

    more : (a : List ℕ) → count catalog a (u ∷ us) ≡ 0 → count catalog a us ≡ 0
    more a z = by_test (nat_eq u.root catalog && bytes_eq u.key a) z
      where
        by_test : (b : Bool) → (if b then suc (count catalog a us) else count catalog a us) ≡ 0
            → count catalog a us ≡ 0
        by_test true z = absurd (grind arith)
        by_test false z = z

pub rooted_begun : (S : Store) (s : ℕ) → Rooted S → Rooted (begun S s)
rooted_begun S s g = record {
  lone = g.lone;
  differ = g.differ;
  low = g.low;
  made = g.made;
  empty = g.empty;
  closed = g.closed;
  order = put_both_order;
}
  where
    put_both_order : (u t : ℕ) → put S.slot s (Some S.next) u ≡ Some t → IsInOrder (root_of S) (put S.undo s [] u)
    put_both_order u t e = by_test (nat_eq u s) e
      where
        by_test : (b : Bool) → (if b then Some S.next else S.slot u) ≡ Some t
            → IsInOrder (root_of S) (if b then [] else S.undo u)
        by_test true e = tt
        by_test false e = g.order u t e

-- a row of a table, by a transaction that sees the table's name
pub rooted_changed : (S : Store) (s t r : ℕ) (a k : List ℕ) (row : Option Row) → Rooted S → Held S
    → S.slot s ≡ Some t → root_of S a ≡ Some r
    → ((w : ℕ) → IsOpenBy S.stamp w (S.rows catalog a) → w ≡ t) → Rooted (changed S s t r k row)
rooted_changed S s t r a k row g h sl ra sees = record {
  lone = λ b. subst (λ vs. IsLone vs) (sym (same b)) (g.lone b);
  differ = λ b c q e f. g.differ b c q (sym (root b) ∙ e) (sym (root c) ∙ f);
  low = g.low;
  made = λ b q e. g.made b q (sym (root b) ∙ e);
  empty = λ q j l. put_row_all (λ q j vs. S.pages ≤ q → vs ≡ []) S.rows r k (x ∷ S.rows r k)
      (λ l. absurd (let m = (g.made a r ra).1 in omega (arith, m, l))) (λ q j ne. g.empty q j) q j l;
  closed = λ b j q w e o. put_row_all
      (λ q j vs. root_of S b ≡ Some q → IsOpenBy S.stamp w (S.rows catalog b) → all_of w vs ≡ true) S.rows r k
      (x ∷ S.rows r k)
      (λ e o. let ba : b ≡ a = g.differ b a r e ra in
      let o2 : IsOpenBy S.stamp w (S.rows catalog a) = subst
      (λ n. IsOpenBy S.stamp w (S.rows catalog n)) ba o in
      let wt : w ≡ t = sees w o2 in let m = g.closed a k r w ra o2 in grind arith)
      (λ q j ne e o. g.closed b j q w e o) q j (sym (root b) ∙ e) (subst (λ vs. IsOpenBy S.stamp w vs) (same b) o);
  order = λ u v e. put_all
      (λ u us. (v : ℕ) → S.slot u ≡ Some v → IsInOrder (root_of (changed S s t r k row)) us) S.undo s
      (record { root = r; key = k } ∷ S.undo s)
      (λ v e. (
        (λ c. absurd (apart c)),
        in_order_map (root_of S) (root_of (changed S s t r k row)) (S.undo s) (λ b q ne f. sym (root b) ∙ f)
            (g.order s v e),
      ))
      (λ u ne v e. in_order_map (root_of S) (root_of (changed S s t r k row)) (S.undo u)
      (λ b q ne f. sym (root b) ∙ f) (g.order u v e)) u v e;
}
  where
    x : Version
    x = written t row

    apart : r ≡ catalog → ⊥
    apart e = let m = (g.made a r ra).0 in omega (arith, m, e)

    same : (b : List ℕ) → put_row S.rows r k (written t row ∷ S.rows r k) catalog b ≡ S.rows catalog b
    same b = put_row_apart S.rows r k (written t row ∷ S.rows r k) catalog b (λ e f. apart (sym e))

    root : (b : List ℕ) → root_of (changed S s t r k row) b ≡ root_of S b
    root b = ap newest_root (same b)

-- a table: its name has no versions, and its root is the next page
pub created_here : (S : Store) (s t : ℕ) (a : List ℕ) (row : Option Row)
    → root_of (created S s t a row) a ≡ Some S.pages
created_here S s t a row = ap newest_root (put_row_here S.rows catalog a (naming S t row ∷ S.rows catalog a))

pub created_there : (S : Store) (s t : ℕ) (a b : List ℕ) (row : Option Row) → (b ≡ a → ⊥)
    → (created S s t a row).rows catalog b ≡ S.rows catalog b
created_there S s t a b row ne =
    put_row_apart S.rows catalog a (naming S t row ∷ S.rows catalog a) catalog b (λ e f. ne f)

pub rooted_created : (S : Store) (s t : ℕ) (a : List ℕ) (row : Option Row) (some : Row) → Rooted S → Held S
    → S.slot s ≡ Some t → S.rows catalog a ≡ [] → row ≡ Some some → Rooted (created S s t a row)
rooted_created S s t a row some g h sl em rs = record {
  lone = λ b. put_row_all (λ q j vs. q ≡ catalog → IsLone vs) S.rows catalog a (x ∷ S.rows catalog a)
      (λ e. subst (λ vs. IsLone (x ∷ vs)) (sym em) (some, rs))
      (λ q j ne e. subst (λ z. IsLone (S.rows z j)) (sym e) (g.lone j)) catalog b refl;
  differ = λ b c q e f. differ b c q (either_name b a) (either_name c a) e f;
  low = let l = g.low in omega arith;
  made = λ b q e. made b q (either_name b a) e;
  empty = λ q j l. put_row_all (λ q j vs. suc S.pages ≤ q → vs ≡ []) S.rows catalog a (x ∷ S.rows catalog a)
      (λ l. absurd (let m = g.low in omega (arith, m, l))) (λ q j ne l. g.empty q j (omega (arith, l))) q j l;
  closed = λ b j q w e o. closed b j q w (either_name b a) e o;
  order = λ u v e. put_all (λ u us. (v : ℕ) → S.slot u ≡ Some v → IsInOrder (root_of N) us) S.undo s
      (record { root = catalog; key = a } ∷ S.undo s)
      (λ v e. (
        (λ c q f k. let qp : q ≡ S.pages = grind (arith, sym f ∙ created_here S s t a row) in
            subst (λ z. count z k (S.undo s) ≡ 0) (sym qp) (none s v e k)),
        in_order_map (root_of S) (root_of N) (S.undo s) (λ b q ne f. old s v e b q ne (either_name b a) f)
            (g.order s v e),
      ))
      (λ u nu v e. in_order_map (root_of S) (root_of N) (S.undo u)
      (λ b q ne f. old u v e b q ne (either_name b a) f) (g.order u v e)) u v e;
}
  where
    x : Version
    x = naming S t row

    N : Store
    N = created S s t a row

    there : (b : List ℕ) → (b ≡ a → ⊥) → root_of (created S s t a row) b ≡ root_of S b
    there b ne = ap newest_root (created_there S s t a b row ne)

    is_new : (b : List ℕ) (q : ℕ) → b ≡ a → root_of (created S s t a row) b ≡ Some q → q ≡ S.pages
    is_new b q ba e = let z : Some q ≡ Some S.pages = sym e ∙ ap (root_of (created S s t a row)) ba
        ∙ created_here S s t a row in grind arith

    none : (u v : ℕ) → S.slot u ≡ Some v → (k : List ℕ) → count S.pages k (S.undo u) ≡ 0
    none u v e k =
        newest_of_none v (count S.pages k (S.undo u))
        (subst (λ vs. newest_of v (count S.pages k (S.undo u)) vs ≡ true) (g.empty S.pages k (omega arith))
        (h.undoes u v S.pages k e))

    old : (u v : ℕ) → S.slot u ≡ Some v → (b : List ℕ) (q : ℕ) → count catalog b (S.undo u) ≢ 0
        → (b ≡ a) ⊎ (b ≡ a → ⊥) → root_of (created S s t a row) b ≡ Some q → root_of S b ≡ Some q
    old u v e b q ne (inl ba) f =
        absurd (ne (newest_of_none v (count catalog b (S.undo u))
        (subst (λ vs. newest_of v (count catalog b (S.undo u)) vs ≡ true) (ap (S.rows catalog) ba ∙ em)
        (h.undoes u v catalog b e))))
    old u v e b q ne (inr nb) f = sym (there b nb) ∙ f

    differ : (b c : List ℕ) (q : ℕ) → (b ≡ a) ⊎ (b ≡ a → ⊥) → (c ≡ a) ⊎ (c ≡ a → ⊥)
        → root_of (created S s t a row) b ≡ Some q → root_of (created S s t a row) c ≡ Some q → b ≡ c
    differ b c q (inl x) (inl y) e f = x ∙ sym y
    differ b c q (inl x) (inr y) e f = let n = is_new b q x e in let m = (g.made c q (sym (there c y) ∙ f)).1 in
        absurd (omega (arith, n, m))
    differ b c q (inr x) (inl y) e f = let n = is_new c q y f in let m = (g.made b q (sym (there b x) ∙ e)).1 in
        absurd (omega (arith, n, m))
    differ b c q (inr x) (inr y) e f = g.differ b c q (sym (there b x) ∙ e) (sym (there c y) ∙ f)

    made : (b : List ℕ) (q : ℕ) → (b ≡ a) ⊎ (b ≡ a → ⊥) → root_of (created S s t a row) b ≡ Some q
        → (catalog < q) × (q < suc S.pages)
    made b q (inl x) e = let n = is_new b q x e in let l = g.low in (omega (arith, n, l), omega (arith, n))
    made b q (inr x) e = let m = g.made b q (sym (there b x) ∙ e) in (m.0, (let m1 = m.1 in omega (arith, m1)))

    closed : (b j : List ℕ) (q w : ℕ) → (b ≡ a) ⊎ (b ≡ a → ⊥) → root_of (created S s t a row) b ≡ Some q
        → IsOpenBy S.stamp w ((created S s t a row).rows catalog b) → all_of w ((created S s t a row).rows q j) ≡ true
    closed b j q w (inl y) e o = let n = is_new b q y e in
        let z : (created S s t a row).rows q j ≡ [] = put_row_apart S.rows catalog a
        (naming S t row ∷ S.rows catalog a) q j (λ i f. let l = g.low in omega (arith, n, l, i))
        ∙ g.empty q j (omega (arith, n)) in
        subst (λ vs. all_of w vs ≡ true) (sym z) refl
    closed b j q w (inr y) e o =
        let rb : root_of S b ≡ Some q = sym (there b y) ∙ e in
        let z : (created S s t a row).rows q j ≡ S.rows q j = put_row_apart S.rows catalog a
        (naming S t row ∷ S.rows catalog a) q j (λ i f. let m = (g.made b q rb).0 in omega (arith, m, i)) in
        subst (λ vs. all_of w vs ≡ true) (sym z)
        (g.closed b j q w rb (subst (λ vs. IsOpenBy S.stamp w vs) (created_there S s t a b row y) o))

-- what an undo leaves of a row of the catalog
pub undone_catalog : (S : Store) (s : ℕ) (u : UndoEntry) (us : List UndoEntry) (b : List ℕ) → Rooted S
    → ((undone S s u.root u.key us).rows catalog b ≡ S.rows catalog b)
    ⊎ ((undone S s u.root u.key us).rows catalog b ≡ [])
undone_catalog S s u us b g =
    put_row_all (λ q j vs. q ≡ catalog → (vs ≡ S.rows catalog j) ⊎ (vs ≡ [])) S.rows u.root u.key
    (older (S.rows u.root u.key))
    (λ e. inr (subst (λ z. older (S.rows z u.key) ≡ []) (sym e) (one (S.rows catalog u.key) (g.lone u.key))))
    (λ q j ne e. inl (ap (λ z. S.rows z j) e)) catalog b refl
  where
    one : (vs : List Version) → IsLone vs → older vs ≡ []
    one [] l = refl
    one (v ∷ []) l = refl
    one (v ∷ (w ∷ vs)) l = absurd l

pub undone_root : (S : Store) (s : ℕ) (u : UndoEntry) (us : List UndoEntry) (b : List ℕ) (q : ℕ) → Rooted S
    → root_of (undone S s u.root u.key us) b ≡ Some q
    → ((undone S s u.root u.key us).rows catalog b ≡ S.rows catalog b) × (root_of S b ≡ Some q)
undone_root S s u us b q g e = by_case (undone_catalog S s u us b g)
  where
    by_case : ((undone S s u.root u.key us).rows catalog b ≡ S.rows catalog b)
        ⊎ ((undone S s u.root u.key us).rows catalog b ≡ [])
        → ((undone S s u.root u.key us).rows catalog b ≡ S.rows catalog b) × (root_of S b ≡ Some q)
    by_case (inl x) = (x, sym (ap newest_root x) ∙ e)
    by_case (inr x) = let z : None ≡ Some q = sym (ap newest_root x) ∙ e in absurd (grind arith)

pub rooted_undone : (S : Store) (s t : ℕ) (u : UndoEntry) (us : List UndoEntry) → Rooted S → S.slot s ≡ Some t
    → S.undo s ≡ u ∷ us → Rooted (undone S s u.root u.key us)
rooted_undone S s t u us g sl un = record {
  lone = λ b. lone b (undone_catalog S s u us b g);
  differ = λ b c q e f. g.differ b c q (undone_root S s u us b q g e).1 (undone_root S s u us c q g f).1;
  low = g.low;
  made = λ b q e. g.made b q (undone_root S s u us b q g e).1;
  empty = λ q j l. put_row_all (λ q j vs. S.pages ≤ q → vs ≡ []) S.rows u.root u.key (older (S.rows u.root u.key))
      (λ l. ap older (g.empty u.root u.key l)) (λ q j ne l. g.empty q j l) q j l;
  closed = λ b j q w e o. let x = undone_root S s u us b q g e in
      let c : (j : List ℕ)
      → all_of w (S.rows q j) ≡ true = λ j. g.closed b j q w x.1 (subst (λ vs. IsOpenBy S.stamp w vs) x.0 o) in
      put_row_all (λ z j vs. z ≡ q → all_of w vs ≡ true) S.rows u.root u.key (older (S.rows u.root u.key))
      (λ i. all_of_pop (S.rows u.root u.key) w
      (subst (λ z. all_of w (S.rows z u.key) ≡ true) (sym i) (c u.key)))
      (λ z j ne i. subst (λ y. all_of w (S.rows y j) ≡ true) (sym i) (c j)) q j refl;
  order = λ w v e. put_all
      (λ w xs. (v : ℕ) → S.slot w ≡ Some v → IsInOrder (root_of (undone S s u.root u.key us)) xs) S.undo s us
      (λ v e. in_order_map (root_of S) (root_of (undone S s u.root u.key us)) us
      (λ b q ne f. (undone_root S s u us b q g f).1)
      (subst (λ xs. IsInOrder (root_of S) xs) un (g.order s v e)).1)
      (λ w nw v e. in_order_map (root_of S) (root_of (undone S s u.root u.key us)) (S.undo w)
      (λ b q ne f. (undone_root S s u us b q g f).1) (g.order w v e)) w v e;
}
  where
    lone : (b : List ℕ)
        → ((undone S s u.root u.key us).rows catalog b ≡ S.rows catalog b)
        ⊎ ((undone S s u.root u.key us).rows catalog b ≡ []) → IsLone ((undone S s u.root u.key us).rows catalog b)
    lone b (inl x) = subst (λ vs. IsLone vs) (sym x) (g.lone b)
    lone b (inr x) = subst (λ vs. IsLone vs) (sym x) tt

open_stamped : (stamp : ℕ → ℕ) (t n w : ℕ) (vs : List Version) → IsOpenBy (put stamp t (suc n)) w vs
    → IsOpenBy stamp w vs
open_stamped stamp t n w [] o = o
open_stamped stamp t n w (v ∷ vs) o = (o.0, let z = o.1 in grind arith)

pub rooted_stamped : (S : Store) (s t : ℕ) → Rooted S → Rooted (stamped S s t)
rooted_stamped S s t g = record {
  lone = g.lone;
  differ = g.differ;
  low = g.low;
  made = g.made;
  empty = g.empty;
  closed = λ a k r w e o. g.closed a k r w e (open_stamped S.stamp t S.last w (S.rows catalog a) o);
  order = λ u v e. g.order u v (grind arith);
}

pub rooted_freed : (S : Store) (s : ℕ) → Rooted S → Rooted (freed S s)
rooted_freed S s g =
    record {
      lone = g.lone;
      differ = g.differ;
      low = g.low;
      made = g.made;
      empty = g.empty;
      closed = g.closed;
      order = λ u v e. g.order u v (grind arith);
    }

pub rooted_split : (S : Store) (pages : ℕ) → S.pages ≤ pages → Rooted S → Rooted (split S pages)
rooted_split S pages le g = record {
  lone = g.lone;
  differ = g.differ;
  low = (let l = g.low in omega (arith, le));
  made = λ a r e. let m = g.made a r e in (m.0, (let m1 = m.1 in omega (arith, le)));
  empty = λ r k l. g.empty r k (omega (arith, le, l));
  closed = g.closed;
  order = g.order;
}
