-- What a content stands for is one database but for the order of its schemas.
use Rattle.std.proofs.Common.{◌≡◌, ℕ, Bool, true, false, Some, None, List, [], ◌∷◌, if◌then◌else◌, arith, ◌⊎◌, inl, inr, refl, sym, subst, ap, ◌∙◌}
use Rattle.std.specs.Str.{bytes_eq}
use Rattle.std.specs.Option.{option_map_or}
use Rattle.row_codec.specs.Keys.{key_bytes}
use Rattle.row_codec.specs.Records.{key_cell}
use Rattle.std.specs.declared.cmp.Ordering.{Ordering}
use Rattle.std.proofs.lemmas.Map.Lookups.{exact_bytes}
use Rattle.sql_values.specs.Order.{text_cmp}
use Rattle.history.proofs.RowLaws.{above_trans, less_of, none_above, three_ways}
use Rattle.history.specs.Databases.{under, AllAbove, Ascends, AreRows, StandsFor}
use Rattle.sql_database.specs.Database.{key_place, row_key, Database, SameContent}
use Rattle.version_store.proofs.Places.{bytes_same, bytes_self}
use Rattle.version_store.specs.Contents.{Content, catalog_name}
use Rattle.version_store.specs.Versions.{Row}

-- ---- what a content stands for is one database but for the order of its schemas

pub above_not_under : (key_of : Row → List ℕ) (k : List ℕ) (xs : List Row) → AllAbove key_of k xs
    → under key_of k xs ≡ None
above_not_under key_of k xs a = none_above key_of k None xs a

pub same_lists : (key_of : Row → List ℕ) (xs ys : List Row) → Ascends key_of xs → Ascends key_of ys
    → ((k : List ℕ) → under key_of k xs ≡ under key_of k ys) → xs ≡ ys
same_lists key_of [] [] p q f = refl
same_lists key_of [] (y ∷ ys) p q f =
    let e : None ≡ (if bytes_eq (key_of y) (key_of y) then Some y else under key_of (key_of y) ys) = f (key_of y) in
    let b = bytes_self (key_of y) in absurd (grind arith)
same_lists key_of (x ∷ xs) [] p q f =
    let e : (if bytes_eq (key_of x) (key_of x) then Some x else under key_of (key_of x) xs) ≡ None = f (key_of x) in
    let b = bytes_self (key_of x) in absurd (grind arith)
same_lists key_of (x ∷ xs) (y ∷ ys) p q f =
    by_order (same_lists key_of xs ys p.1 q.1) (three_ways (text_cmp (key_of x) (key_of y)))
  where
    low : (a b : Row) (bs : List Row) → text_cmp (key_of a) (key_of b) ≡ Ordering.Less → Ascends key_of (b ∷ bs)
        → under key_of (key_of a) (b ∷ bs) ≡ None
    low a b bs l s =
        above_not_under key_of (key_of a) (b ∷ bs)
        (l, above_trans key_of (key_of a) None (key_of a) (key_of b) bs l s.0)

    first : (a : Row) (rs : List Row) → under key_of (key_of a) (a ∷ rs) ≡ Some a
    first a rs = ap (λ b. if b then Some a else under key_of (key_of a) rs) (bytes_self (key_of a))

    more : key_of x ≡ key_of y → (k : List ℕ) → under key_of k xs ≡ under key_of k ys
    more e k = by_test (bytes_eq (key_of x) k) refl
      where
        by_test : (b : Bool) → bytes_eq (key_of x) k ≡ b → under key_of k xs ≡ under key_of k ys
        by_test true t = let kx : key_of x ≡ k = bytes_same (key_of x) k t in
            subst (λ z. under key_of z xs ≡ None) kx (above_not_under key_of (key_of x) xs p.0)
            ∙ sym (subst (λ z. under key_of z ys ≡ None) (sym e ∙ kx) (above_not_under key_of (key_of y) ys q.0))
        by_test false t = sym (ap (λ b. if b then Some x else under key_of k xs) t) ∙ f k
            ∙ ap (λ b. if b then Some y else under key_of k ys) (ap (λ z. bytes_eq z k) (sym e) ∙ t)

    by_order : (((k : List ℕ) → under key_of k xs ≡ under key_of k ys) → xs ≡ ys)
        → (text_cmp (key_of x) (key_of y) ≡ Ordering.Less)
        ⊎ ((text_cmp (key_of x) (key_of y) ≡ Ordering.Equal) ⊎ (text_cmp (key_of x) (key_of y) ≡ Ordering.Greater))
        → x ∷ xs ≡ y ∷ ys
    by_order rest (inl l) = let z : Some x ≡ None = sym (first x xs) ∙ f (key_of x) ∙ low x y ys l q in
        absurd (grind arith)
    by_order rest (inr (inl e)) = let k : key_of x ≡ key_of y = exact_bytes (key_of x) (key_of y) e in
        let z : Some x ≡ Some y = sym (first x xs) ∙ f (key_of x) ∙ ap (λ i. under key_of i (y ∷ ys)) k
        ∙ first y ys in
        let xy : x ≡ y = grind arith in
        ap (λ r. r ∷ xs) xy ∙ ap (λ rs. y ∷ rs) (rest (more k))
    by_order rest (inr (inr g)) =
        let l : text_cmp (key_of y) (key_of x) ≡ Ordering.Less = less_of (key_of y) (key_of x) g in
        let z : None ≡ Some y = sym (low y x xs l p) ∙ f (key_of y) ∙ first y ys in absurd (grind arith)

pub alike : (f : Content) (d e : Database) → StandsFor f d → StandsFor f e → SameContent d e
alike f d e g h = record {
  schemas = λ a. g.tables a ∙ sym (h.tables a);
  rows = λ a. by_name a (bytes_eq a catalog_name) refl;
}
  where
    by_name : (a : List ℕ) (b : Bool) → bytes_eq a catalog_name ≡ b → d.tables a ≡ e.tables a
    by_name a true w = ap d.tables (bytes_same a catalog_name w) ∙ g.bare ∙ sym h.bare
        ∙ ap e.tables (sym (bytes_same a catalog_name w))
    by_name a false nw =
        let x : AreRows (row_key d a) (f a) (d.tables a) = g.rows a nw in
        let y : AreRows (row_key e a) (f a) (e.tables a) = h.rows a nw in
        let p : key_place e a ≡ key_place d a = ap (λ o. option_map_or (λ s. s.key) o 0)
        (h.tables a ∙ sym (g.tables a)) in
        let z : AreRows (row_key d a) (f a) (e.tables a) = subst
        (λ i. AreRows (λ row. key_bytes (key_cell i row)) (f a) (e.tables a)) p y in
        same_lists (row_key d a) (d.tables a) (e.tables a) x.0 z.0 (λ k. x.1 k ∙ sym (z.1 k))
