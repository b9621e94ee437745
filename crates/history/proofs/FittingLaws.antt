-- Changes that fit.
use Rattle.std.proofs.Common.{◌≡◌, ℕ, zero, suc, ◌≤◌, ◌+◌, Bool, true, false, Option, Some, None, List, [], ◌∷◌, ◌++◌, if◌then◌else◌, arith, refl, sym, subst, ap, ◌∙◌}
use Rattle.std.specs.Str.{bytes_eq}
use Rattle.std.proofs.Math.Path.{fun_ext}
use Rattle.history.proofs.ChangeLaws.{after_says}
use Rattle.history.proofs.PlaceLaws.{not_said, said_left, said_right}
use Rattle.history.proofs.TimelineLaws.{at_next, latest_is, latest_rises}
use Rattle.history.specs.Fitting.{after, FitsAll, FitsTimeline, Fits}
use Rattle.history.specs.Places.{is_at, or_else, says, is_said, over}
use Rattle.history.specs.Timelines.{content_at, latest, Timeline}
use Rattle.sql_database.specs.declared.changes.Change.{Change}
use Rattle.version_store.proofs.Places.{bytes_same, bytes_self}
use Rattle.version_store.specs.Contents.{Content, catalog_name}
use Rattle.version_store.specs.Versions.{Row}

-- ---- changes that fit

after_word : (f : Content) (c : Change) (a : List ℕ) (x : Row) → Fits f c → f catalog_name a ≡ Some x
    → after f c catalog_name a ≡ Some x
after_word f c a x h e = by_test (is_at c catalog_name a) refl
  where
    by_test : (b : Bool) → is_at c catalog_name a ≡ b → (if b then c.row else f catalog_name a) ≡ Some x
    by_test true t = let w : bytes_eq c.table catalog_name ≡ true = grind arith in
        let k : bytes_eq c.key a ≡ true = grind arith in
        let m = (h.makes w).3 in
        let z : Some x ≡ None = sym e ∙ ap (f catalog_name) (sym (bytes_same c.key a k)) ∙ m in
        absurd (grind arith)
    by_test false t = e

-- a name that is there is not made again
pub fits_free : (cs : List Change) (f : Content) (a : List ℕ) (x : Row) → FitsAll f cs → f catalog_name a ≡ Some x
    → says cs catalog_name a ≡ None
fits_free [] f a x h e = refl
fits_free (c ∷ cs) f a x h e =
    ap (λ o. or_else o (if is_at c catalog_name a then Some c.row else None))
    (fits_free cs (after f c) a x h.1 (after_word f c a x h.0 e)) ∙ by_test (is_at c catalog_name a) refl
  where
    by_test : (b : Bool) → is_at c catalog_name a ≡ b → (if b then Some c.row else None) ≡ None
    by_test true t = let w : bytes_eq c.table catalog_name ≡ true = grind arith in
        let k : bytes_eq c.key a ≡ true = grind arith in
        let m = (h.0.makes w).3 in
        let z : Some x ≡ None = sym e ∙ ap (f catalog_name) (sym (bytes_same c.key a k)) ∙ m in
        absurd (grind arith)
    by_test false t = refl

pub fits_word : (cs : List Change) (f : Content) (a : List ℕ) → FitsAll f cs
    → is_said (says cs catalog_name a) ≡ true → f catalog_name a ≡ None
fits_word cs f a h e = by_row (f catalog_name a) refl
  where
    by_row : (o : Option Row) → f catalog_name a ≡ o → o ≡ None
    by_row None q = refl
    by_row (Some x) q = let z = fits_free cs f a x h q in absurd (grind arith)

pub fits_split : (xs : List Change) (f : Content) (c : Change) (cs : List Change) → FitsAll f (xs ++ c ∷ cs)
    → (g : Content) × Fits g c × FitsAll (after g c) cs
fits_split [] f c cs h = (f, h.0, h.1)
fits_split (x ∷ xs) f c cs h = fits_split xs (after f x) c cs h.1

pub fits_append : (xs : List Change) (f : Content) (cs : List Change) → FitsAll f xs
    → FitsAll (λ a k. over (says xs a k) (f a k)) cs → FitsAll f (xs ++ cs)
fits_append [] f cs h g = g
fits_append (x ∷ xs) f cs h g = (
  h.0,
  fits_append xs (after f x) cs h.1
      (subst (λ z. FitsAll z cs) (fun_ext (λ a. fun_ext (λ k. sym (after_says f x xs a k)))) g),
)

-- changes that fitted still fit where the catalog grew by other names alone
pub fits_transfer : (cs : List Change) (f g : Content)
    → ((a : List ℕ) (x : Row) → f catalog_name a ≡ Some x → g catalog_name a ≡ Some x)
    → ((a : List ℕ) → is_said (says cs catalog_name a) ≡ true → g catalog_name a ≡ f catalog_name a) → FitsAll f cs
    → FitsAll g cs
fits_transfer [] f g p q h = tt
fits_transfer (c ∷ cs) f g p q h = (
  one,
  fits_transfer cs (after f c) (after g c) (λ a x. keep a x (is_at c catalog_name a))
      (λ a s. ap (λ r. if is_at c catalog_name a then c.row else r)
      (q a (said_left (says cs catalog_name a) (if is_at c catalog_name a then Some c.row else None) s))) h.1,
)
  where
    keep : (a : List ℕ) (x : Row) (b : Bool) → (if b then c.row else f catalog_name a) ≡ Some x
        → (if b then c.row else g catalog_name a) ≡ Some x
    keep a x true e = e
    keep a x false e = p a x e

    one : Fits g c
    one = record {
      makes = λ w. let m = h.0.makes w in (
        m.0,
        m.1,
        m.2,
        q c.key (said_right (says cs catalog_name c.key)
            (if is_at c catalog_name c.key then Some c.row else None)
            (let s = bytes_self c.key in grind arith)) ∙ m.3,
        m.4,
      );
      places = λ w. let m = h.0.places w in (m.0, p c.table m.0 m.1, m.2);
    }

-- the timeline past a number
module _ (line : Timeline) (upto : ℕ) (fits : FitsTimeline line upto) where
  pub word_stays : (n i : ℕ) (a : List ℕ) (x : Row) → line.first ≤ n → n + i ≤ upto
      → content_at line n catalog_name a ≡ Some x → content_at line (n + i) catalog_name a ≡ Some x
  word_stays n zero a x f l e =
      subst (λ m. content_at line m catalog_name a ≡ Some x) (let z : n ≡ n + 0 = omega arith in z) e
  word_stays n (suc i) a x f l e =
      let old : content_at line (n + i) catalog_name a ≡ Some x = word_stays n i a x f (omega (arith, l)) e in
      let free = fits_free (line.changes (suc (n + i))) (content_at line (n + i)) a x
      (fits (n + i) (omega (arith, f)) (omega (arith, l))) old in
      subst (λ m. content_at line m catalog_name a ≡ Some x) (let z : suc (n + i) ≡ n + suc i = omega arith in z)
      (at_next line (n + i) catalog_name a (omega (arith, f))
      ∙ ap (λ o. over o (content_at line (n + i) catalog_name a)) free ∙ old)

pub quiet_since : (line : Timeline) (n i : ℕ) (a k : List ℕ) → line.first ≤ n → latest line (n + i) a k ≤ n
    → content_at line (n + i) a k ≡ content_at line n a k
quiet_since line n zero a k f l = ap (λ m. content_at line m a k) (let z : n + 0 ≡ n = omega arith in z)
quiet_since line n (suc i) a k f l =
    ap (λ m. content_at line m a k) (let z : n + suc i ≡ suc (n + i) = omega arith in z)
    ∙ at_next line (n + i) a k (omega (arith, f))
    ∙ ap (λ o. over o (content_at line (n + i) a k))
    (not_said (says (line.changes (suc (n + i))) a k)
    (λ s. absurd (let z = latest_is line (n + suc i) (suc (n + i)) a k (omega (arith, f)) (omega arith) s in
    omega (arith, z, l))))
    ∙ quiet_since line n i a k f
    (let r = latest_rises line (n + i) (n + suc i) a k (omega (arith, f)) (omega arith) in omega (arith, r, l))
