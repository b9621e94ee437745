-- A version more.
use Rattle.std.proofs.Common.{◌≡◌, ℕ, ◌≢◌, ◌≤◌, Bool, true, false, Option, Some, None, List, [], ◌∷◌, ◌++◌, if◌then◌else◌, arith, inl, inr, refl, sym, subst, ap, ◌∙◌}
use Rattle.std.specs.Str.{bytes_eq}
use Rattle.history.proofs.FittingLaws.{fits_free, fits_split}
use Rattle.history.proofs.Frames.{each_beside, good_grow}
use Rattle.history.proofs.OwnLaws.{own_top, own_under}
use Rattle.history.proofs.PlaceLaws.{not_said, said_left, said_right, says_append}
use Rattle.history.proofs.SessionLaws.{pending_some}
use Rattle.history.proofs.SoundLaws.{sound_changed, sound_created, sound_split}
use Rattle.history.proofs.Views.{all_installed, now_sound, seen_is_root, seen_open}
use Rattle.history.specs.Clusters.{now, own_of, own, grown, Work, Cluster}
use Rattle.history.specs.Events.{MayInstall}
use Rattle.history.specs.Fitting.{after, FitsAll, Fits}
use Rattle.history.specs.Invariant.{KeepsTables, line, KeepsSession, Refines}
use Rattle.history.specs.Places.{is_at, or_else, says, is_said}
use Rattle.history.specs.Sound.{Own, Sound}
use Rattle.history.specs.Timelines.{content_at}
use Rattle.sql_database.specs.Catalog.{schema_of}
use Rattle.sql_database.specs.declared.changes.Change.{Change}
use Rattle.table_machine.specs.Language.{Language}
use Rattle.table_machine.specs.Machine.{pending_of, Transaction}
use Rattle.version_store.proofs.NameLaws.{chain_changed_here, chain_changed_there, chain_created_here, chain_created_there, chain_some, changed_catalog}
use Rattle.version_store.proofs.Places.{bytes_of, bytes_same, bytes_self, put_all}
use Rattle.version_store.proofs.RootedLaws.{created_there}
use Rattle.version_store.proofs.Versions.{none_of_pop}
use Rattle.version_store.specs.Contents.{Content, catalog_name, root_of, chain_of}
use Rattle.version_store.specs.Groups.{IsPopped, Writes}
use Rattle.version_store.specs.Held.{none_of, IsLedBy, IsToppedBy}
use Rattle.version_store.specs.Stores.{catalog, changed, created, split, Store}
use Rattle.version_store.specs.Versions.{Row, seen_root, Version}

pub own_pops : (t v : ℕ) (c : Option (Option Row)) (new old : List Version) → (v ≡ t → ⊥) → IsPopped t new old
    → Own v c old → Own v c new
unfolding Own
own_pops t v c new old ne (inl e) o = subst (λ vs. Own v c vs) (sym e) o
own_pops t v None new old ne (inr e) o = subst (λ vs. none_of v vs ≡ true) (sym e.0) (none_of_pop old v o)
own_pops t v (Some r) new old ne (inr e) o = absurd (two old o e.1)
  where
    two : (vs : List Version) → IsToppedBy v r vs → IsLedBy t vs → ⊥
    two [] a b = a
    two (w ∷ vs) a b = ne (sym a.0 ∙ b)

pub none_of_pops : (t v : ℕ) (new old : List Version) → IsPopped t new old → none_of v old ≡ true
    → none_of v new ≡ true
none_of_pops t v new old (inl e) a = subst (λ vs. none_of v vs ≡ true) (sym e) a
none_of_pops t v new old (inr e) a = subst (λ vs. none_of v vs ≡ true) (sym e.0) (none_of_pop old v a)

says_last : (installed : List Change) (h : Change) (a k : List ℕ)
    → says (installed ++ h ∷ []) a k ≡ (if is_at h a k then Some h.row else says installed a k)
says_last installed h a k = says_append installed (h ∷ []) a k ∙ by_test (is_at h a k)
  where
    by_test : (b : Bool)
        → or_else (if b then Some h.row else None) (says installed a k) ≡
        (if b then Some h.row else says installed a k)
    by_test true = refl
    by_test false = refl

append_assoc : (xs : List Change) (h : Change) (ys : List Change) → (xs ++ h ∷ []) ++ ys ≡ xs ++ h ∷ ys
append_assoc [] h ys = refl
append_assoc (x ∷ xs) h ys = ap (λ zs. x ∷ zs) (append_assoc xs h ys)

-- a version more at one place, by name
pub record Adds (S R : Store) (a k : List ℕ) (x : Version) : Type 0 where
  pub here : chain_of R a k ≡ x ∷ chain_of S a k
  pub there : (b j : List ℕ) → (b ≡ a → j ≡ k → ⊥) → chain_of R b j ≡ chain_of S b j

module _ (S R : Store) (h : Change) (x : Version) (y : Adds S R h.table h.key x) where
  added : (b j : List ℕ) (t : Bool) → is_at h b j ≡ t
      → chain_of R b j ≡ (if t then x ∷ chain_of S b j else chain_of S b j)
  added b j true e =
      let ab : h.table ≡ b = bytes_same h.table b (grind arith) in
      let kj : h.key ≡ j = bytes_same h.key j (grind arith) in
      subst (λ z. chain_of R z j ≡ x ∷ chain_of S z j) ab
      (subst (λ z. chain_of R h.table z ≡ x ∷ chain_of S h.table z) kj y.here)
  added b j false e =
      y.there b j (λ p q. let ab = bytes_of h.table b (sym p) in let kj = bytes_of h.key j (sym q) in grind arith)

  own_added : (t : ℕ) (installed : List Change) (b j : List ℕ) → x.trx ≡ t → x.row ≡ h.row
      → Own t (says installed b j) (chain_of S b j) → Own t (says (installed ++ h ∷ []) b j) (chain_of R b j)
  own_added t installed b j e f o =
      subst (λ c. Own t c (chain_of R b j)) (sym (says_last installed h b j)) (by_test (is_at h b j) refl)
    where
      by_test : (z : Bool) → is_at h b j ≡ z → Own t (if z then Some h.row else says installed b j) (chain_of R b j)
      by_test true q =
          subst (λ vs. Own t (Some h.row) vs) (sym (added b j true q)) (own_top t x h.row (chain_of S b j) e f)
      by_test false q = subst (λ vs. Own t (says installed b j) vs) (sym (added b j false q)) o

  own_beside : (v : ℕ) (installed : List Change) (b j : List ℕ) → (x.trx ≡ v → ⊥)
      → (is_at h b j ≡ true → says installed b j ≡ None) → Own v (says installed b j) (chain_of S b j)
      → Own v (says installed b j) (chain_of R b j)
  own_beside v installed b j ne f o = by_test (is_at h b j) refl
    where
      by_test : (z : Bool) → is_at h b j ≡ z → Own v (says installed b j) (chain_of R b j)
      by_test true q = let n = f q in
          subst (λ c. Own v c (chain_of R b j)) (sym n)
          (subst (λ vs. Own v None vs) (sym (added b j true q))
          (own_under v x (chain_of S b j) ne (subst (λ c. Own v c (chain_of S b j)) n o)))
      by_test false q = subst (λ vs. Own v (says installed b j) vs) (sym (added b j false q)) o

  none_of_added : (v : ℕ) (b j : List ℕ) → (x.trx ≡ v → ⊥) → none_of v (chain_of S b j) ≡ true
      → none_of v (chain_of R b j) ≡ true
  none_of_added v b j ne a = by_test (is_at h b j) refl
    where
      by_test : (z : Bool) → is_at h b j ≡ z → none_of v (chain_of R b j) ≡ true
      by_test true q = subst (λ vs. none_of v vs ≡ true) (sym (added b j true q)) (grind arith)
      by_test false q = subst (λ vs. none_of v vs ≡ true) (sym (added b j false q)) a

-- one change of a statement is installed
pub keep_add : {language : Language}
    → (was : Content) (c : Cluster) (s n : ℕ) (t : Transaction) (h : Change) (hs : List Change) (x : Version)
    (R : Store) → Refines language was c → MayInstall c s t n h hs → Sound (line was c) R → R.slot ≡ (now c).slot
    → R.stamp ≡ (now c).stamp → R.last ≡ (now c).last
    → Adds (now c) R h.table h.key x → x.trx ≡ n → x.row ≡ h.row
    → ((a : List ℕ) → is_said (says hs catalog_name a) ≡ true → R.rows catalog a ≡ []) → KeepsTables (now c) R
    → Refines language was
    (grown c R s (record (c.work s) { todo = hs; installed = (c.work s).installed ++ h ∷ [] }) c.machine)
keep_add {language} was c s n t h hs x R g ch sd rs rt rl add xt xr names ls =
    good_grow was c R s W c.machine g g.fair refl refl refl g.sound sd (omega (arith, rl)) (omega (arith, rl))
    (let b = g.below in omega (arith, rl, b)) (λ o. rl ∙ (g.is_open o).1) (λ m. absurd (m ch.open_mode))
    (put_all (λ u V. KeepsSession language R u V (c.machine.sessions u)) c.work s W
    (record {
      holds = λ v q b a k. let vn : v ≡ n =
          (let z : Some v ≡ Some n = sym q ∙ slots s ∙ ch.slot in grind arith) in
          subst (λ i. Own i (says ((c.work s).installed ++ h ∷ []) a k) (chain_of R a k)) (sym vn)
          (own_added (now c) R h x add n (c.work s).installed a k xt xr
          ((g.each s).holds n ch.slot ch.stays a k));
      none = λ q. let z : Some n ≡ None = sym ch.slot ∙ sym (slots s) ∙ q in absurd (grind arith);
      gone = λ q. let b = ch.stays in absurd (grind arith);
      pend = (g.each s).pend ∙ ap (λ cs. (c.work s).installed ++ cs) ch.todo
          ∙ sym (append_assoc (c.work s).installed h hs);
      names = names;
      judged = λ j. let n = ch.no_job s in absurd (grind arith);
    })
    (λ u ne. each_beside (now c) R u (c.work u) (c.machine.sessions u) (ch.no_job u) (slots u)
    (λ v a k q b o. own_beside (now c) R h x add v (c.work u).installed a k (apart u v ne q)
    (λ at. free u a k ne at) o)
    (λ a p. let z : is_said (says [] catalog_name a) ≡ true = subst
    (λ cs. is_said (says cs catalog_name a) ≡ true) (ch.others u ne) p in absurd (grind arith)) (g.each u)))
    (λ w u v a k. put_all
    (λ w V. u ≢ w → R.slot u ≡ Some v → is_said (says V.todo a k) ≡ true
    → none_of v (chain_of R a k) ≡ true) c.work s W
    (λ ne q p. let sl : (now c).slot u ≡ Some v = sym (slots u) ∙ q in
    none_of_added (now c) R h x add v a k (apart u v ne sl)
    (g.clear s u v a k ne sl
    (subst (λ cs. is_said (says cs a k) ≡ true) (sym ch.todo)
    (said_left (says hs a k) (if is_at h a k then Some h.row else None) p))))
    (λ w nw ne q p. let z : is_said (says [] a k) ≡ true = subst (λ cs. is_said (says cs a k) ≡ true)
    (ch.others w nw) p in absurd (grind arith)) w)
    (λ i. inl (ap (λ f. f i) rt)) ls
  where
    W : Work
    W = record (c.work s) { todo = hs; installed = (c.work s).installed ++ h ∷ [] }

    slots : (u : ℕ) → R.slot u ≡ (now c).slot u
    slots u = ap (λ f. f u) rs

    apart : (u v : ℕ) → u ≢ s → (now c).slot u ≡ Some v → x.trx ≡ v → ⊥
    apart u v ne sl e = ne ((now_sound was c g).held.unique u s v sl (ch.slot ∙ ap (λ i. Some i) (sym xt ∙ e)))

    free : (u : ℕ) (a k : List ℕ) → u ≢ s → is_at h a k ≡ true → says (c.work u).installed a k ≡ None
    free u a k ne at = not_said (says (c.work u).installed a k) (λ y.
        let p : is_said (says (pending_of (c.machine.sessions u)) a k) ≡ true = subst
        (λ cs. is_said (says cs a k) ≡ true)
        (sym (all_installed (now c) u (c.work u) (c.machine.sessions u) (g.each u) (ch.others u ne))) y in
        let q : is_said (says (pending_of (c.machine.sessions s)) a k) ≡ true = subst
        (λ cs. is_said (says cs a k) ≡ true)
        (sym ((g.each s).pend ∙ ap (λ cs. (c.work s).installed ++ cs) ch.todo))
        (subst (λ o. is_said o ≡ true) (sym (says_append (c.work s).installed (h ∷ hs) a k))
        (said_left (says (h ∷ hs) a k) (says (c.work s).installed a k)
        (said_right (says hs a k) (if is_at h a k then Some h.row else None)
        (ap (λ b. is_said (if b then Some h.row else None)) at)))) in
        ne (g.fair.alone u s a k p q))

-- what is next to be installed fits
next_fits : {language : Language}
    → (was : Content) (c : Cluster) (s n : ℕ) (t : Transaction) (h : Change) (hs : List Change)
    → Refines language was c → MayInstall c s t n h hs → (f : Content) × Fits f h × FitsAll (after f h) hs
next_fits {language} was c s n t h hs g ch = fits_split (c.work s).installed (content_at (line was c) t.snap) h hs
    (subst (λ cs. FitsAll (content_at (line was c) t.snap) cs)
    (sym (pending_some (c.machine.sessions s) t ch.has) ∙ (g.each s).pend
    ∙ ap (λ cs. (c.work s).installed ++ cs) ch.todo) (g.fair.own s t ch.has))

own_is : (c : Cluster) (s n : ℕ) → (c.work s).ending ≡ false → (now c).slot s ≡ Some n → own c s ≡ Some n
own_is c s n e q = ap (λ b. own_of b ((now c).slot s)) e ∙ q

-- a row that is next to be installed may be written: by its number, at the root of its table
pub may_write : {language : Language}
    → (was : Content) (c : Cluster) (s n r : ℕ) (t : Transaction) (h : Change) (hs : List Change)
    → Refines language was c → MayInstall c s t n h hs → bytes_eq h.table catalog_name ≡ false
    → seen_root ((now c).rows catalog h.table) (now c).stamp t.snap (own c s) ≡ Some r
    → Writes (now c) s n r h.table h.key
may_write {language} was c s n r t h hs g ch nw sr = record {
  slot = ch.slot;
  root = ra;
  sees = seen_open (now c) t.snap n h.table r (now_sound was c g).rooted
      (subst (λ o. seen_root ((now c).rows catalog h.table) (now c).stamp t.snap o ≡ Some r)
      (own_is c s n ch.stays ch.slot) sr);
  alone = λ u v ne sl. subst (λ vs. none_of v vs ≡ true) (chain_some (now c) h.table h.key r nw ra)
      (g.clear s u v h.table h.key ne sl said);
}
  where
    ra : root_of (now c) h.table ≡ Some r
    ra = seen_is_root (now c) t.snap (own c s) h.table r (now_sound was c g).rooted sr

    said : is_said (says (c.work s).todo h.table h.key) ≡ true
    said = subst (λ cs. is_said (says cs h.table h.key) ≡ true) (sym ch.todo)
        (said_right (says hs h.table h.key) (if is_at h h.table h.key then Some h.row else None)
        (let p = bytes_self h.table in let q = bytes_self h.key in grind arith))

pub keep_change : {language : Language}
    → (was : Content) (c : Cluster) (s n r p : ℕ) (t : Transaction) (h : Change) (hs : List Change)
    → Refines language was c → MayInstall c s t n h hs → bytes_eq h.table catalog_name ≡ false → (now c).pages ≤ p
    → seen_root ((now c).rows catalog h.table) (now c).stamp t.snap (own c s) ≡ Some r
    → Refines language was
    (grown c (changed (split (now c) p) s n r h.key h.row) s
    (record (c.work s) { todo = hs; installed = (c.work s).installed ++ h ∷ [] }) c.machine)
keep_change {language} was c s n r p t h hs g ch nw le sr =
    keep_add was c s n t h hs (record { trx = n; row = h.row; root = 0 })
    (changed (split (now c) p) s n r h.key h.row) g ch
    (sound_changed (line was c) (split (now c) p) s n r h.table h.key h.row after_made ch.slot w.root nw
    w.sees w.alone)
    refl refl refl
    (record {
      here = chain_changed_here (split (now c) p) s n r h.table h.key h.row after_made.rooted w.root nw;
      there = chain_changed_there (split (now c) p) s n r h.table h.key h.row after_made.rooted w.root;
    }) refl refl
    (λ a y. changed_catalog (split (now c) p) s n r h.table h.key h.row after_made.rooted w.root a
    ∙ (g.each s).names a
    (subst (λ cs. is_said (says cs catalog_name a) ≡ true) (sym ch.todo)
    (said_left (says hs catalog_name a) (if is_at h catalog_name a then Some h.row else None) y)))
    (λ a v e o. changed_catalog (split (now c) p) s n r h.table h.key h.row after_made.rooted w.root a ∙ e)
  where
    w : Writes (now c) s n r h.table h.key
    w = may_write was c s n r t h hs g ch nw sr

    after_made : Sound (line was c) (split (now c) p)
    after_made = sound_split (line was c) (now c) p (now_sound was c g) le

-- a name that is next to be installed has a row, and no version yet
pub may_create : {language : Language}
    → (was : Content) (c : Cluster) (s n : ℕ) (t : Transaction) (h : Change) (hs : List Change)
    → Refines language was c → MayInstall c s t n h hs → bytes_eq h.table catalog_name ≡ true
    → ((row : Row) × (h.row ≡ Some row)) × ((now c).rows catalog h.key ≡ [])
may_create {language} was c s n t h hs g ch w = ((m.0, m.1), em)
  where
    fits : (f : Content) × Fits f h × FitsAll (after f h) hs
    fits = next_fits was c s n t h hs g ch

    m : (row : Row) × (h.row ≡ Some row) × ((schema_of row).table ≡ h.key) × (fits.0 catalog_name h.key ≡ None)
        × (bytes_eq h.key catalog_name ≡ false)
    m = fits.1.makes w

    tw : h.table ≡ catalog_name
    tw = bytes_same h.table catalog_name w

    em : (now c).rows catalog h.key ≡ []
    em = (g.each s).names h.key
        (subst (λ cs. is_said (says cs catalog_name h.key) ≡ true) (sym ch.todo)
        (said_right (says hs catalog_name h.key) (if is_at h catalog_name h.key then Some h.row else None)
        (let q = bytes_self h.key in grind arith)))

pub keep_create : {language : Language}
    → (was : Content) (c : Cluster) (s n p : ℕ) (t : Transaction) (h : Change) (hs : List Change)
    → Refines language was c → MayInstall c s t n h hs → bytes_eq h.table catalog_name ≡ true → (now c).pages ≤ p
    → Refines language was
    (grown c (created (split (now c) p) s n h.key h.row) s
    (record (c.work s) { todo = hs; installed = (c.work s).installed ++ h ∷ [] }) c.machine)
keep_create {language} was c s n p t h hs g ch w le =
    keep_add was c s n t h hs (record { trx = n; row = h.row; root = p })
    (created (split (now c) p) s n h.key h.row) g ch
    (sound_created (line was c) (split (now c) p) s n h.key h.row m.0 after_made ch.slot em m.1) refl refl refl
    (record {
      here = subst (λ z. chain_of
          (created (split (now c) p) s n h.key h.row) z h.key ≡ record {
            trx = n;
            row = h.row;
            root = p;
          } ∷ chain_of (now c) z h.key) (sym tw)
          (chain_created_here (split (now c) p) s n h.key h.row after_made.rooted em);
      there = λ b j ne. chain_created_there (split (now c) p) s n h.key h.row after_made.rooted em b j
          (λ x y. ne (x ∙ sym tw) y);
    }) refl refl
    (λ a y. created_there (split (now c) p) s n h.key a h.row (λ e. other a y e)
    ∙ (g.each s).names a
    (subst (λ cs. is_said (says cs catalog_name a) ≡ true) (sym ch.todo)
    (said_left (says hs catalog_name a) (if is_at h catalog_name a then Some h.row else None) y)))
    (λ a v e o. created_there (split (now c) p) s n h.key a h.row
    (λ q. let z : [] ≡ v ∷ [] = sym em ∙ ap ((now c).rows catalog) (sym q) ∙ e in grind arith) ∙ e)
  where
    tw : h.table ≡ catalog_name
    tw = bytes_same h.table catalog_name w

    fits : (f : Content) × Fits f h × FitsAll (after f h) hs
    fits = next_fits was c s n t h hs g ch

    m : (row : Row) × (h.row ≡ Some row) × ((schema_of row).table ≡ h.key) × (fits.0 catalog_name h.key ≡ None)
        × (bytes_eq h.key catalog_name ≡ false)
    m = fits.1.makes w

    em : (now c).rows catalog h.key ≡ []
    em = (g.each s).names h.key
        (subst (λ cs. is_said (says cs catalog_name h.key) ≡ true) (sym ch.todo)
        (said_right (says hs catalog_name h.key) (if is_at h catalog_name h.key then Some h.row else None)
        (let q = bytes_self h.key in grind arith)))

    after_made : Sound (line was c) (split (now c) p)
    after_made = sound_split (line was c) (now c) p (now_sound was c g) le

    other : (a : List ℕ) → is_said (says hs catalog_name a) ≡ true → a ≡ h.key → ⊥
    other a x e =
        let z : after fits.0 h catalog_name a ≡ Some m.0 =
        (let q = bytes_of h.key a (sym e) in let y = m.1 in grind arith) in
        let free = fits_free hs (after fits.0 h) a m.0 fits.2 z in grind arith
