-- The versions by name and key.
use Rattle.std.proofs.Common.{◌≡◌, ℕ, ◌<◌, Bool, true, false, Option, Some, None, List, [], ◌∷◌, if◌then◌else◌, nat_eq, arith, ◌⊎◌, inl, inr, eqb-true, refl, sym, subst, ap, ◌∙◌}
use Rattle.std.specs.Str.{bytes_eq}
use Rattle.version_store.specs.Versions.{Row, Version, older}
use Rattle.version_store.specs.Stores.{UndoEntry, Store, catalog, written, naming, changed, created, undone}
use Rattle.version_store.specs.Contents.{catalog_name, at_root, newest_root, root_of, chain_of}
use Rattle.version_store.specs.Held.{newest_of, IsLedBy, count, Held}
use Rattle.version_store.specs.Rooted.{IsOpenBy, IsInOrder, Rooted}
use Rattle.version_store.specs.Groups.{IsPopped}
use Rattle.version_store.proofs.Versions.{all_of_none}
use Rattle.version_store.proofs.Places.{bytes_same, bytes_self, either_name, put_row_all, put_row_apart, put_row_here}
use Rattle.version_store.proofs.HeldLaws.{undo_apart, undo_led}
use Rattle.version_store.proofs.RootedLaws.{created_here, created_there, undone_root}

-- ---- the versions by name

pub either_test : (b : Bool) → (b ≡ true) ⊎ (b ≡ false)
either_test true = inl refl
either_test false = inr refl

pub either_root : (o : Option ℕ) → (o ≡ None) ⊎ ((r : ℕ) × (o ≡ Some r))
either_root None = inl refl
either_root (Some r) = inr (r, refl)

pub chain_word : (S : Store) (a k : List ℕ) → bytes_eq a catalog_name ≡ true → chain_of S a k ≡ S.rows catalog k
chain_word S a k e = ap (λ b. if b then S.rows catalog k else at_root S.rows (root_of S a) k) e

pub chain_none : (S : Store) (a k : List ℕ) → bytes_eq a catalog_name ≡ false → root_of S a ≡ None
    → chain_of S a k ≡ []
chain_none S a k e f = ap (λ b. if b then S.rows catalog k else at_root S.rows (root_of S a) k) e
    ∙ ap (λ o. at_root S.rows o k) f

pub chain_some : (S : Store) (a k : List ℕ) (r : ℕ) → bytes_eq a catalog_name ≡ false → root_of S a ≡ Some r
    → chain_of S a k ≡ S.rows r k
chain_some S a k r e f = ap (λ b. if b then S.rows catalog k else at_root S.rows (root_of S a) k) e
    ∙ ap (λ o. at_root S.rows o k) f

module _ (S : Store) (s t r : ℕ) (a k : List ℕ) (row : Option Row) (g : Rooted S) (ra : root_of S a ≡ Some r) where
  changed_apart : r ≡ catalog → ⊥
  changed_apart e = let m = (g.made a r ra).0 in omega (arith, m, e)

  pub changed_catalog : (b : List ℕ) → (changed S s t r k row).rows catalog b ≡ S.rows catalog b
  changed_catalog b = put_row_apart S.rows r k (written t row ∷ S.rows r k) catalog b (λ e f. changed_apart (sym e))

  pub changed_root : (b : List ℕ) → root_of (changed S s t r k row) b ≡ root_of S b
  changed_root b = ap newest_root (changed_catalog b)

  pub chain_changed_here : bytes_eq a catalog_name ≡ false
      → chain_of (changed S s t r k row) a k ≡ written t row ∷ chain_of S a k
  chain_changed_here nw =
      chain_some (changed S s t r k row) a k r nw (changed_root a ∙ ra)
      ∙ put_row_here S.rows r k (written t row ∷ S.rows r k)
      ∙ ap (λ vs. written t row ∷ vs) (sym (chain_some S a k r nw ra))

  pub chain_changed_there : (b j : List ℕ) → (b ≡ a → j ≡ k → ⊥)
      → chain_of (changed S s t r k row) b j ≡ chain_of S b j
  chain_changed_there b j ne = by_name (either_test (bytes_eq b catalog_name))
    where
      by_root : bytes_eq b catalog_name ≡ false → (root_of S b ≡ None) ⊎ ((q : ℕ) × (root_of S b ≡ Some q))
          → chain_of (changed S s t r k row) b j ≡ chain_of S b j
      by_root nw (inl n) = chain_none (changed S s t r k row) b j nw (changed_root b ∙ n)
          ∙ sym (chain_none S b j nw n)
      by_root nw (inr x) = chain_some (changed S s t r k row) b j x.0 nw (changed_root b ∙ x.1)
          ∙ put_row_apart S.rows r k (written t row ∷ S.rows r k) x.0 j
          (λ e f. ne (g.differ b a r (x.1 ∙ ap (λ n. Some n) e) ra) f)
          ∙ sym (chain_some S b j x.0 nw x.1)

      by_name : (bytes_eq b catalog_name ≡ true) ⊎ (bytes_eq b catalog_name ≡ false)
          → chain_of (changed S s t r k row) b j ≡ chain_of S b j
      by_name (inl w) = chain_word (changed S s t r k row) b j w ∙ changed_catalog j ∙ sym (chain_word S b j w)
      by_name (inr nw) = by_root nw (either_root (root_of S b))

module _ (S : Store) (s t : ℕ) (a : List ℕ) (row : Option Row) (g : Rooted S) (em : S.rows catalog a ≡ []) where
  pub chain_created_here : chain_of
      (created S s t a row) catalog_name a ≡ naming S t row ∷ chain_of S catalog_name a
  chain_created_here =
      chain_word (created S s t a row) catalog_name a (bytes_self catalog_name)
      ∙ put_row_here S.rows catalog a (naming S t row ∷ S.rows catalog a)
      ∙ ap (λ vs. naming S t row ∷ vs) (sym (chain_word S catalog_name a (bytes_self catalog_name)))

  pub chain_created_there : (b j : List ℕ) → (b ≡ catalog_name → j ≡ a → ⊥)
      → chain_of (created S s t a row) b j ≡ chain_of S b j
  chain_created_there b j ne = by_name (either_test (bytes_eq b catalog_name))
    where
      x : Version
      x = naming S t row

      rows_at : (q : ℕ) → catalog < q → (created S s t a row).rows q j ≡ S.rows q j
      rows_at q l =
          put_row_apart S.rows catalog a (naming S t row ∷ S.rows catalog a) q j (λ e f. omega (arith, l, e))

      by_root : bytes_eq b catalog_name ≡ false → (b ≡ a → ⊥)
          → (root_of S b ≡ None) ⊎ ((q : ℕ) × (root_of S b ≡ Some q))
          → chain_of (created S s t a row) b j ≡ chain_of S b j
      by_root nw nb (inl n) =
          chain_none (created S s t a row) b j nw (ap newest_root (created_there S s t a b row nb) ∙ n)
          ∙ sym (chain_none S b j nw n)
      by_root nw nb (inr y) =
          chain_some (created S s t a row) b j y.0 nw (ap newest_root (created_there S s t a b row nb) ∙ y.1)
          ∙ rows_at y.0 (g.made b y.0 y.1).0 ∙ sym (chain_some S b j y.0 nw y.1)

      by_key : bytes_eq b catalog_name ≡ false → (b ≡ a) ⊎ (b ≡ a → ⊥)
          → chain_of (created S s t a row) b j ≡ chain_of S b j
      by_key nw (inl ba) =
          chain_some (created S s t a row) b j S.pages nw
          (ap (root_of (created S s t a row)) ba ∙ created_here S s t a row) ∙ rows_at S.pages g.low
          ∙ g.empty S.pages j (omega arith)
          ∙ sym (chain_none S b j nw (ap (root_of S) ba ∙ ap newest_root em))
      by_key nw (inr nb) = by_root nw nb (either_root (root_of S b))

      by_name : (bytes_eq b catalog_name ≡ true) ⊎ (bytes_eq b catalog_name ≡ false)
          → chain_of (created S s t a row) b j ≡ chain_of S b j
      by_name (inl w) = chain_word (created S s t a row) b j w
          ∙ created_there S s t a j row (λ f. ne (bytes_same b catalog_name w) f) ∙ sym (chain_word S b j w)
      by_name (inr nw) = by_key nw (either_name b a)

open_of : (stamp : ℕ → ℕ) (t : ℕ) (vs : List Version) → stamp t ≡ 0 → IsLedBy t vs → IsOpenBy stamp t vs
open_of stamp t [] z l = l
open_of stamp t (v ∷ vs) z l = (l, z)

module _ (S : Store) (s t : ℕ) (u : UndoEntry) (us : List UndoEntry) (g : Rooted S) (h : Held S)
    (sl : S.slot s ≡ Some t) (un : S.undo s ≡ u ∷ us) where
  pub undone_rows : (q : ℕ) (j : List ℕ) → IsPopped t ((undone S s u.root u.key us).rows q j) (S.rows q j)
  undone_rows q j =
      put_row_all (λ q j vs. IsPopped t vs (S.rows q j)) S.rows u.root u.key (older (S.rows u.root u.key))
      (inr (refl, undo_led S s t u us h sl un)) (λ q j ne. inl refl) q j

  -- where the name's row goes, no version is left in its tree
  pub undone_gone : (b j : List ℕ) (q : ℕ) → root_of S b ≡ Some q → root_of (undone S s u.root u.key us) b ≡ None
      → S.rows q j ≡ []
  undone_gone b j q e n = by_case (undone_rows catalog b)
    where
      lost : (undone S s u.root u.key us).rows catalog b ≡ S.rows catalog b → ⊥
      lost x = let z : None ≡ Some q = sym n ∙ ap newest_root x ∙ e in grind arith

      here : (nat_eq catalog u.root ≡ true) × (b ≡ u.key)
      here = put_row_all
          (λ z i vs. z ≡ catalog → i ≡ b → (vs ≡ S.rows catalog b → ⊥)
          → (nat_eq catalog u.root ≡ true) × (b ≡ u.key)) S.rows u.root u.key (older (S.rows u.root u.key))
          (λ zc ib f. (grind (arith, zc), sym ib))
          (λ z i ne zc ib f. absurd
          (f (ap (λ y. S.rows y i) zc ∙ ap (S.rows catalog) ib))) catalog b refl refl lost

      root_is : catalog ≡ u.root
      root_is = eqb-true catalog u.root here.0

      by_case : IsPopped t ((undone S s u.root u.key us).rows catalog b) (S.rows catalog b) → S.rows q j ≡ []
      by_case (inl x) = absurd (lost x)
      by_case (inr x) =
          let o : IsOpenBy S.stamp t (S.rows catalog b) = open_of S.stamp t (S.rows catalog b)
          (h.open_stamp s t sl) x.1 in
          let c : count q j us ≡ 0 = (subst (λ xs. IsInOrder (root_of S) xs) un (g.order s t sl)).0 (sym root_is) q
          (ap (root_of S) (sym here.1) ∙ e) j in
          let m : newest_of t (count q j us) (S.rows q j) ≡ true = undo_apart S s t u us q j h sl un
          (λ i f. let l = (g.made b q e).0 in let ri = root_is in omega (arith, l, i, ri)) in
          all_of_none (S.rows q j) t (g.closed b j q t e o) (subst (λ n. newest_of t n (S.rows q j) ≡ true) c m)

  pub chain_undone : (b j : List ℕ) → IsPopped t (chain_of (undone S s u.root u.key us) b j) (chain_of S b j)
  chain_undone b j = by_name (either_test (bytes_eq b catalog_name))
    where
      pops : (new old vs ws : List Version) → new ≡ vs → old ≡ ws → IsPopped t vs ws → IsPopped t new old
      pops new old vs ws e f (inl x) = inl (e ∙ x ∙ sym f)
      pops new old vs ws e f (inr x) = inr (e ∙ x.0 ∙ ap older (sym f), subst (λ y. IsLedBy t y) (sym f) x.1)

      by_new : bytes_eq b catalog_name ≡ false → (q : ℕ) → root_of S b ≡ Some q
          → (root_of (undone S s u.root u.key us) b ≡ None)
          ⊎ ((z : ℕ) × (root_of (undone S s u.root u.key us) b ≡ Some z))
          → IsPopped t (chain_of (undone S s u.root u.key us) b j) (chain_of S b j)
      by_new nw q e (inl n) =
          inl (chain_none (undone S s u.root u.key us) b j nw n ∙ sym (undone_gone b j q e n)
          ∙ sym (chain_some S b j q nw e))
      by_new nw q e (inr x) = let z : root_of S b ≡ Some x.0 = (undone_root S s u us b x.0 g x.1).1 in
          pops (chain_of (undone S s u.root u.key us) b j) (chain_of S b j)
          ((undone S s u.root u.key us).rows x.0 j) (S.rows x.0 j)
          (chain_some (undone S s u.root u.key us) b j x.0 nw x.1) (chain_some S b j x.0 nw z)
          (undone_rows x.0 j)

      by_old : bytes_eq b catalog_name ≡ false → (root_of S b ≡ None) ⊎ ((q : ℕ) × (root_of S b ≡ Some q))
          → (root_of (undone S s u.root u.key us) b ≡ None)
          ⊎ ((z : ℕ) × (root_of (undone S s u.root u.key us) b ≡ Some z))
          → IsPopped t (chain_of (undone S s u.root u.key us) b j) (chain_of S b j)
      by_old nw (inl n) (inl m) =
          inl (chain_none (undone S s u.root u.key us) b j nw m ∙ sym (chain_none S b j nw n))
      by_old nw (inl n) (inr x) = let z : root_of S b ≡ Some x.0 = (undone_root S s u us b x.0 g x.1).1 in
          let y : None ≡ Some x.0 = sym n ∙ z in absurd (grind arith)
      by_old nw (inr x) m = by_new nw x.0 x.1 m

      by_name : (bytes_eq b catalog_name ≡ true) ⊎ (bytes_eq b catalog_name ≡ false)
          → IsPopped t (chain_of (undone S s u.root u.key us) b j) (chain_of S b j)
      by_name (inl w) =
          pops (chain_of (undone S s u.root u.key us) b j) (chain_of S b j)
          ((undone S s u.root u.key us).rows catalog j) (S.rows catalog j)
          (chain_word (undone S s u.root u.key us) b j w) (chain_word S b j w) (undone_rows catalog j)
      by_name (inr nw) =
          by_old nw (either_root (root_of S b)) (either_root (root_of (undone S s u.root u.key us) b))
