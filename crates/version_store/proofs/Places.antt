-- Names and keys, and functions with one value changed.
use Rattle.std.proofs.Common.{◌≡◌, ℕ, suc, ◌≢◌, Bool, true, false, List, ◌∷◌, if◌then◌else◌, nat_eq, ◌&&◌, arith, ◌⊎◌, inl, inr, eqb-true, refl, sym, subst}
use Rattle.std.specs.Str.{bytes_eq}
use Rattle.std.proofs.lemmas.Slice.Eq.{bytes_eq-Decides}
use Rattle.version_store.specs.Versions.{Version}
use Rattle.version_store.specs.Stores.{UndoEntry, put, put_row}
use Rattle.version_store.specs.Held.{count}

pub bytes_same : (a b : List ℕ) → bytes_eq a b ≡ true → a ≡ b
bytes_same a b e = (bytes_eq-Decides a b).0 e

pub bytes_of : (a b : List ℕ) → a ≡ b → bytes_eq a b ≡ true
bytes_of a b e = (bytes_eq-Decides a b).1 e

pub bytes_self : (a : List ℕ) → bytes_eq a a ≡ true
bytes_self a = bytes_of a a refl

pub bytes_apart : (a b : List ℕ) → (a ≡ b → ⊥) → bytes_eq a b ≡ false
bytes_apart a b ne = by_test (bytes_eq a b) refl
  where
    by_test : (t : Bool) → bytes_eq a b ≡ t → t ≡ false
    by_test true e = absurd (ne (bytes_same a b e))
    by_test false e = refl

pub bytes_differ : (a b : List ℕ) → bytes_eq a b ≡ false → a ≡ b → ⊥
bytes_differ a b e s = let y = bytes_of a b s in grind arith

pub either_name : (a b : List ℕ) → (a ≡ b) ⊎ (a ≡ b → ⊥)
either_name a b = by_test (bytes_eq a b) refl
  where
    by_test : (t : Bool) → bytes_eq a b ≡ t → (a ≡ b) ⊎ (a ≡ b → ⊥)
    by_test true e = inl (bytes_same a b e)
    by_test false e = inr (bytes_differ a b e)

-- a fact of each number, after `put`
pub put_all : {A : Type 0} (Q : ℕ → A → Type 0) (f : ℕ → A) (n : ℕ) (v : A) → Q n v → ((m : ℕ) → m ≢ n → Q m (f m))
    → (m : ℕ) → Q m (put f n v m)
put_all {A} Q f n v here there m = by_test (nat_eq m n) refl
  where
    by_test : (b : Bool) → nat_eq m n ≡ b → Q m (if b then v else f m)
    by_test true e = subst (λ k. Q k v) (sym (eqb-true m n e)) here
    by_test false e = there m (grind arith)

pub put_here : {A : Type 0} (f : ℕ → A) (n : ℕ) (v : A) → put f n v n ≡ v
put_here {A} f n v = by_test (nat_eq n n) refl
  where
    by_test : (b : Bool) → nat_eq n n ≡ b → (if b then v else f n) ≡ v
    by_test true e = refl
    by_test false e = grind arith

-- both tables of a session at once
pub put_both : {A B : Type 0} (Q : ℕ → A → B → Type 0) (f : ℕ → A) (g : ℕ → B) (n : ℕ) (v : A) (w : B) → Q n v w
    → ((m : ℕ) → m ≢ n → Q m (f m) (g m)) → (m : ℕ) → Q m (put f n v m) (put g n w m)
put_both {A} {B} Q f g n v w here there m = by_test (nat_eq m n) refl
  where
    by_test : (b : Bool) → nat_eq m n ≡ b → Q m (if b then v else f m) (if b then w else g m)
    by_test true e = subst (λ k. Q k v w) (sym (eqb-true m n e)) here
    by_test false e = there m (grind arith)

-- the same of places
pub put_row_all : (Q : ℕ → List ℕ → List Version → Type 0) (rows : ℕ → List ℕ → List Version) (r : ℕ) (k : List ℕ)
    (vs : List Version)
    → Q r k vs → ((q : ℕ) (j : List ℕ) → (q ≡ r → j ≡ k → ⊥) → Q q j (rows q j)) → (q : ℕ) (j : List ℕ)
    → Q q j (put_row rows r k vs q j)
put_row_all Q rows r k vs here there q j = by_test (nat_eq q r) (bytes_eq j k) refl refl
  where
    by_test : (b c : Bool) → nat_eq q r ≡ b → bytes_eq j k ≡ c → Q q j (if b && c then vs else rows q j)
    by_test true true e f =
        subst (λ z. Q z j vs) (sym (eqb-true q r e)) (subst (λ z. Q r z vs) (sym (bytes_same j k f)) here)
    by_test true false e f = there q j (λ x y. bytes_differ j k f y)
    by_test false c e f = there q j (λ x y. grind arith)

pub put_row_here : (rows : ℕ → List ℕ → List Version) (r : ℕ) (k : List ℕ) (vs : List Version)
    → put_row rows r k vs r k ≡ vs
put_row_here rows r k vs = let b = bytes_self k in grind arith

pub put_row_apart : (rows : ℕ → List ℕ → List Version) (r : ℕ) (k : List ℕ) (vs : List Version) (q : ℕ) (j : List ℕ)
    → (q ≡ r → j ≡ k → ⊥) → put_row rows r k vs q j ≡ rows q j
put_row_apart rows r k vs q j ne = by_test (nat_eq q r) (bytes_eq j k) refl refl
  where
    by_test : (b c : Bool) → nat_eq q r ≡ b → bytes_eq j k ≡ c → (if b && c then vs else rows q j) ≡ rows q j
    by_test true true e f = absurd (ne (eqb-true q r e) (bytes_same j k f))
    by_test true false e f = refl
    by_test false c e f = refl

pub count_here : (r : ℕ) (k : List ℕ) (us : List UndoEntry)
    → count r k (record { root = r; key = k } ∷ us) ≡ suc (count r k us)
count_here r k us = let b = bytes_self k in grind arith

pub count_there : (r : ℕ) (k : List ℕ) (q : ℕ) (j : List ℕ) (us : List UndoEntry) → (q ≡ r → j ≡ k → ⊥)
    → count q j (record { root = r; key = k } ∷ us) ≡ count q j us
count_there r k q j us ne = by_test (nat_eq r q) (bytes_eq k j) refl refl
  where
    by_test : (b c : Bool) → nat_eq r q ≡ b → bytes_eq k j ≡ c
        → (if b && c then suc (count q j us) else count q j us) ≡ count q j us
    by_test true true e f = absurd (ne (sym (eqb-true r q e)) (sym (bytes_same k j f)))
    by_test true false e f = refl
    by_test false c e f = refl
