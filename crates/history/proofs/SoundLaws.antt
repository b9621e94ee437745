-- The groups keep a store sound.
use Rattle.std.proofs.Common.{◌≡◌, ℕ, suc, ◌≢◌, ◌≤◌, Bool, true, false, Option, Some, None, List, [], ◌∷◌, if◌then◌else◌, nat_le, arith, ◌⊎◌, inl, inr, refl, sym, subst, ap, ◌∙◌}
use Rattle.std.specs.Str.{bytes_eq}
use Rattle.history.proofs.OwnLaws.{read_commit, stamp_commit}
use Rattle.history.proofs.TimelineLaws.{at_next, at_same, latest_next, latest_same}
use Rattle.history.specs.Places.{says, is_said, over}
use Rattle.history.specs.Sound.{at_least, Own, Sound}
use Rattle.history.specs.Timelines.{content_at, latest, Timeline}
use Rattle.sql_database.specs.declared.changes.Change.{Change}
use Rattle.version_store.proofs.HeldLaws.{held_begun, held_freed, held_pushed, held_split, held_stamped, held_undone}
use Rattle.version_store.proofs.NameLaws.{chain_changed_here, chain_changed_there, chain_created_here, chain_created_there, chain_undone}
use Rattle.version_store.proofs.Places.{either_name}
use Rattle.version_store.proofs.RootedLaws.{rooted_begun, rooted_changed, rooted_created, rooted_freed, rooted_split, rooted_stamped, rooted_undone}
use Rattle.version_store.proofs.Versions.{seen_pop, seen_push, seen_stamped, stamp_pop, stamp_push}
use Rattle.version_store.specs.Contents.{catalog_name, root_of, chain_of}
use Rattle.version_store.specs.Groups.{IsPopped}
use Rattle.version_store.specs.Held.{none_of}
use Rattle.version_store.specs.Rooted.{IsOpenBy, Rooted}
use Rattle.version_store.specs.Stores.{catalog, put, begun, written, naming, changed, created, undone, stamped, freed, split, UndoEntry, Store}
use Rattle.version_store.specs.Versions.{Row, seen, newest_stamp, Version}

-- ---- the groups keep a store sound

-- a name's versions with one more of the transaction, or as they were
abbrev pub IsPushed : ℕ → List Version → List Version → Type 0
IsPushed t new old = (new ≡ old) ⊎ ((x : Version) × (x.trx ≡ t) × (new ≡ x ∷ old))

seen_pushes : (stamp : ℕ → ℕ) (t n : ℕ) (new old : List Version) → stamp t ≡ 0 → IsPushed t new old
    → seen new stamp n None ≡ seen old stamp n None
seen_pushes stamp t n new old z (inl e) = ap (λ vs. seen vs stamp n None) e
seen_pushes stamp t n new old z (inr x) = ap (λ vs. seen vs stamp n None) x.2
    ∙ seen_push old x.0 stamp n (ap stamp x.1 ∙ z)

stamp_pushes : (stamp : ℕ → ℕ) (t : ℕ) (new old : List Version) → stamp t ≡ 0 → IsPushed t new old
    → newest_stamp new stamp ≡ newest_stamp old stamp
stamp_pushes stamp t new old z (inl e) = ap (λ vs. newest_stamp vs stamp) e
stamp_pushes stamp t new old z (inr x) = ap (λ vs. newest_stamp vs stamp) x.2
    ∙ stamp_push old x.0 stamp (ap stamp x.1 ∙ z)

seen_pops : (stamp : ℕ → ℕ) (t n : ℕ) (new old : List Version) → stamp t ≡ 0 → IsPopped t new old
    → seen new stamp n None ≡ seen old stamp n None
seen_pops stamp t n new old z (inl e) = ap (λ vs. seen vs stamp n None) e
seen_pops stamp t n new old z (inr x) = ap (λ vs. seen vs stamp n None) x.0 ∙ seen_pop old stamp n t x.1 z

stamp_pops : (stamp : ℕ → ℕ) (t : ℕ) (new old : List Version) → stamp t ≡ 0 → IsPopped t new old
    → newest_stamp new stamp ≡ newest_stamp old stamp
stamp_pops stamp t new old z (inl e) = ap (λ vs. newest_stamp vs stamp) e
stamp_pops stamp t new old z (inr x) = ap (λ vs. newest_stamp vs stamp) x.0 ∙ stamp_pop old stamp t x.1 z

pub sound_begun : (line : Timeline) (S : Store) (s : ℕ) → Sound line S → S.slot s ≡ None → Sound line (begun S s)
sound_begun line S s g h =
    record {
      held = held_begun S s g.held h;
      rooted = rooted_begun S s g.rooted;
      low = g.low;
      read = g.read;
      newest = g.newest;
    }

pub sound_freed : (line : Timeline) (S : Store) (s t : ℕ) → Sound line S → S.slot s ≡ Some t → S.undo s ≡ []
    → Sound line (freed S s)
sound_freed line S s t g h un =
    record {
      held = held_freed S s t g.held h un;
      rooted = rooted_freed S s g.rooted;
      low = g.low;
      read = g.read;
      newest = g.newest;
    }

pub sound_split : (line : Timeline) (S : Store) (pages : ℕ) → Sound line S → S.pages ≤ pages
    → Sound line (split S pages)
sound_split line S pages g le =
    record {
      held = held_split S pages g.held;
      rooted = rooted_split S pages le g.rooted;
      low = g.low;
      read = g.read;
      newest = g.newest;
    }

pub pushes_changed : (S : Store) (s t r : ℕ) (a k : List ℕ) (row : Option Row) → Rooted S → root_of S a ≡ Some r
    → bytes_eq a catalog_name ≡ false → (b j : List ℕ)
    → IsPushed t (chain_of (changed S s t r k row) b j) (chain_of S b j)
pushes_changed S s t r a k row g ra nw b j = by_name (either_name b a) (either_name j k)
  where
    by_name : (b ≡ a) ⊎ (b ≡ a → ⊥) → (j ≡ k) ⊎ (j ≡ k → ⊥)
        → IsPushed t (chain_of (changed S s t r k row) b j) (chain_of S b j)
    by_name (inl e) (inl f) =
        inr (
          written t row,
          refl,
          subst (λ x. chain_of (changed S s t r k row) x j ≡ written t row ∷ chain_of S x j) (sym e)
              (subst (λ x. chain_of (changed S s t r k row) a x ≡ written t row ∷ chain_of S a x) (sym f)
              (chain_changed_here S s t r a k row g ra nw)),
        )
    by_name (inl e) (inr f) = inl (chain_changed_there S s t r a k row g ra b j (λ x y. f y))
    by_name (inr e) f = inl (chain_changed_there S s t r a k row g ra b j (λ x y. e x))

pub pushes_created : (S : Store) (s t : ℕ) (a : List ℕ) (row : Option Row) → Rooted S → S.rows catalog a ≡ []
    → (b j : List ℕ) → IsPushed t (chain_of (created S s t a row) b j) (chain_of S b j)
pushes_created S s t a row g em b j = by_name (either_name b catalog_name) (either_name j a)
  where
    by_name : (b ≡ catalog_name) ⊎ (b ≡ catalog_name → ⊥) → (j ≡ a) ⊎ (j ≡ a → ⊥)
        → IsPushed t (chain_of (created S s t a row) b j) (chain_of S b j)
    by_name (inl e) (inl f) =
        inr (
          naming S t row,
          refl,
          subst (λ x. chain_of (created S s t a row) x j ≡ naming S t row ∷ chain_of S x j) (sym e)
              (subst (λ x. chain_of
              (created S s t a row) catalog_name x ≡ naming S t row ∷ chain_of S catalog_name x) (sym f)
              (chain_created_here S s t a row g em)),
        )
    by_name (inl e) (inr f) = inl (chain_created_there S s t a row g em b j (λ x y. f y))
    by_name (inr e) f = inl (chain_created_there S s t a row g em b j (λ x y. e x))

pub sound_changed : (line : Timeline) (S : Store) (s t r : ℕ) (a k : List ℕ) (row : Option Row) → Sound line S
    → S.slot s ≡ Some t → root_of S a ≡ Some r → bytes_eq a catalog_name ≡ false
    → ((w : ℕ) → IsOpenBy S.stamp w (S.rows catalog a) → w ≡ t)
    → ((u v : ℕ) → u ≢ s → S.slot u ≡ Some v → none_of v (S.rows r k) ≡ true) → Sound line (changed S s t r k row)
sound_changed line S s t r a k row g h ra nw sees free = let z = g.held.open_stamp s t h in record {
  held = held_pushed S s t r k (written t row) S.pages g.held h refl free;
  rooted = rooted_changed S s t r a k row g.rooted g.held h ra sees;
  low = g.low;
  read = λ n f l b j. seen_pushes S.stamp t n (chain_of (changed S s t r k row) b j) (chain_of S b j) z
      (pushes_changed S s t r a k row g.rooted ra nw b j) ∙ g.read n f l b j;
  newest = λ b j. ap (at_least line.first)
      (stamp_pushes S.stamp t (chain_of (changed S s t r k row) b j) (chain_of S b j) z
      (pushes_changed S s t r a k row g.rooted ra nw b j)) ∙ g.newest b j;
}

pub sound_created : (line : Timeline) (S : Store) (s t : ℕ) (a : List ℕ) (row : Option Row) (some : Row)
    → Sound line S → S.slot s ≡ Some t → S.rows catalog a ≡ [] → row ≡ Some some → Sound line (created S s t a row)
sound_created line S s t a row some g h em rs = let z = g.held.open_stamp s t h in record {
  held = held_pushed S s t catalog a (naming S t row) (suc S.pages) g.held h refl
      (λ u v ne e. subst (λ vs. none_of v vs ≡ true) (sym em) refl);
  rooted = rooted_created S s t a row some g.rooted g.held h em rs;
  low = g.low;
  read = λ n f l b j. seen_pushes S.stamp t n (chain_of (created S s t a row) b j) (chain_of S b j) z
      (pushes_created S s t a row g.rooted em b j) ∙ g.read n f l b j;
  newest = λ b j. ap (at_least line.first)
      (stamp_pushes S.stamp t (chain_of (created S s t a row) b j) (chain_of S b j) z
      (pushes_created S s t a row g.rooted em b j)) ∙ g.newest b j;
}

pub sound_undone : (line : Timeline) (S : Store) (s t : ℕ) (u : UndoEntry) (us : List UndoEntry) → Sound line S
    → S.slot s ≡ Some t → S.undo s ≡ u ∷ us → Sound line (undone S s u.root u.key us)
sound_undone line S s t u us g h un = let z = g.held.open_stamp s t h in record {
  held = held_undone S s t u us g.held h un;
  rooted = rooted_undone S s t u us g.rooted h un;
  low = g.low;
  read = λ n f l b j. seen_pops S.stamp t n (chain_of (undone S s u.root u.key us) b j) (chain_of S b j) z
      (chain_undone S s t u us g.rooted g.held h un b j) ∙ g.read n f l b j;
  newest = λ b j. ap (at_least line.first)
      (stamp_pops S.stamp t (chain_of (undone S s u.root u.key us) b j) (chain_of S b j) z
      (chain_undone S s t u us g.rooted g.held h un b j)) ∙ g.newest b j;
}

-- a timeline that is the same up to the last stamp
pub record Extends (line new : Timeline) (n : ℕ) : Type 0 where
  pub was : new.was ≡ line.was
  pub first : new.first ≡ line.first
  pub changes : (i : ℕ) → i ≤ n → new.changes i ≡ line.changes i

pub sound_line : (line new : Timeline) (S : Store) → Extends line new S.last → Sound line S → Sound new S
sound_line line new S x g = record {
  held = g.held;
  rooted = g.rooted;
  low = subst (λ f. f ≤ S.last) (sym x.first) g.low;
  read = λ n f l a k. let f2 : line.first ≤ n = subst (λ y. y ≤ n) x.first f in
      g.read n f2 l a k ∙ sym (at_same line new n a k x.was x.first (λ i p. x.changes i (omega (arith, p, l))) f2);
  newest = λ a k. ap (λ f. at_least f (newest_stamp (chain_of S a k) S.stamp)) x.first ∙ g.newest a k
      ∙ sym (latest_same line new S.last a k x.first x.changes g.low);
}

-- the commit's number has the transaction's changes
pub sound_stamped : (line new : Timeline) (S : Store) (s t : ℕ) (cs : List Change) → Extends line new S.last
    → new.changes (suc S.last) ≡ cs → Sound line S → S.slot s ≡ Some t
    → ((a k : List ℕ) → Own t (says cs a k) (chain_of S a k)) → Sound new (stamped S s t)
sound_stamped line new S s t cs x at g h o = record {
  held = held_stamped S s t g.held h;
  rooted = rooted_stamped S s t g.rooted;
  low = let l = low in omega (arith, l);
  read = λ n f l a k. by_test n f l a k (nat_le n S.last) refl;
  newest = λ a k. stamp_commit (chain_of S a k) S.stamp t S.last (latest new S.last a k) new.first (says cs a k) low
      (o a k)
      (ap (λ f. at_least f (newest_stamp (chain_of S a k) S.stamp)) x.first ∙ g.newest a k
      ∙ sym (latest_same line new S.last a k x.first x.changes g.low))
      ∙ ap (λ c. if is_said (says c a k) then suc S.last else latest new S.last a k) (sym at)
      ∙ sym (latest_next new S.last a k low);
}
  where
    low : new.first ≤ S.last
    low = subst (λ f. f ≤ S.last) (sym x.first) g.low

    z : S.stamp t ≡ 0
    z = g.held.open_stamp s t h

    was : (n : ℕ) → new.first ≤ n → n ≤ S.last → (a k : List ℕ)
        → seen (chain_of S a k) S.stamp n None ≡ content_at new n a k
    was n f l a k = let f2 : line.first ≤ n = subst (λ y. y ≤ n) x.first f in
        g.read n f2 l a k ∙ sym (at_same line new n a k x.was x.first (λ i p. x.changes i (omega (arith, p, l))) f2)

    by_test : (n : ℕ) → new.first ≤ n → n ≤ suc S.last → (a k : List ℕ) → (b : Bool) → nat_le n S.last ≡ b
        → seen (chain_of S a k) (put S.stamp t (suc S.last)) n None ≡ content_at new n a k
    by_test n f l a k true e = let le : n ≤ S.last = grind arith in
        seen_stamped (chain_of S a k) S.stamp n t (suc S.last) z (omega (arith, le)) ∙ was n f le a k
    by_test n f l a k false e =
        let eq : n ≡ suc S.last = grind arith in
        subst (λ m. seen (chain_of S a k) (put S.stamp t (suc S.last)) m None ≡ content_at new m a k) (sym eq)
        (read_commit (chain_of S a k) S.stamp t S.last (says cs a k) (content_at new S.last a k)
        (o a k) z g.held.bound (was S.last low (omega arith) a k)
        ∙ ap (λ c. over (says c a k) (content_at new S.last a k)) (sym at) ∙ sym (at_next new S.last a k low))
