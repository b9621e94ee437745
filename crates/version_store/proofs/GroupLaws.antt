-- Each group of the log keeps a store as it has to be, and moves the versions by name.
use Rattle.std.proofs.Common.{◌≡◌, ℕ, suc, Bool, true, false, Option, Some, List, [], ◌∷◌, if◌then◌else◌, ◌&&◌, arith, ◌⊎◌, inl, inr, refl, sym, subst, ap, ◌∙◌}
use Rattle.std.specs.Str.{bytes_eq}
use Rattle.version_store.specs.Versions.{Row, Version}
use Rattle.version_store.specs.Stores.{Store, blank, catalog, changed, created, naming, written}
use Rattle.version_store.specs.Contents.{catalog_name, chain_of, root_of}
use Rattle.version_store.specs.Held.{Held, none_of}
use Rattle.version_store.specs.Rooted.{Rooted}
use Rattle.version_store.specs.Groups.{AllMake, Group, LogsKeep, Group.begins, Group.writes, Group.creates, Group.undoes, Group.commits, Group.frees, Group.splits, GroupsKeep, GroupsMoveChains, IsPopped, with_version}
use Rattle.version_store.proofs.Places.{bytes_self, bytes_apart, either_name}
use Rattle.version_store.proofs.HeldLaws.{held_begun, held_freed, held_pushed, held_split, held_stamped, held_undone}
use Rattle.version_store.proofs.RootedLaws.{rooted_begun, rooted_changed, rooted_created, rooted_freed, rooted_split, rooted_stamped, rooted_undone}
use Rattle.version_store.proofs.NameLaws.{chain_changed_here, chain_changed_there, chain_created_here, chain_created_there, chain_undone}

abbrev Keeps : Store → Type 0
Keeps S = Held S × Rooted S

pub groups_keep : GroupsKeep
groups_keep (begins s) old new m h r =
    subst (λ S. Keeps S) (sym m.1) (held_begun old s h m.0, rooted_begun old s r)
groups_keep (writes s a k row) old new m h r =
    let w = m.2 in
    subst (λ S. Keeps S) (sym m.4) (
      held_pushed old s m.0 m.1 k (written m.0 row) old.pages h w.slot refl w.alone,
      rooted_changed old s m.0 m.1 a k row r h w.slot w.root w.sees,
    )
groups_keep (creates s a row) old new m h r =
    subst (λ S. Keeps S) (sym m.3) (
      held_pushed old s m.0 catalog a (naming old m.0 (Some row)) (suc old.pages) h m.1 refl
          (λ u v ne e. subst (λ vs. none_of v vs ≡ true) (sym m.2) refl),
      rooted_created old s m.0 a (Some row) row r h m.1 m.2 refl,
    )
groups_keep (undoes s) old new m h r =
    subst (λ S. Keeps S) (sym m.5)
    (held_undone old s m.0 m.1 m.2 h m.3 m.4, rooted_undone old s m.0 m.1 m.2 r m.3 m.4)
groups_keep (commits s) old new m h r =
    subst (λ S. Keeps S) (sym m.2) (held_stamped old s m.0 h m.1, rooted_stamped old s m.0 r)
groups_keep (frees s) old new m h r =
    subst (λ S. Keeps S) (sym m.3) (held_freed old s m.0 h m.1 m.2, rooted_freed old s r)
groups_keep (splits pages) old new m h r =
    subst (λ S. Keeps S) (sym m.1) (held_split old pages h, rooted_split old pages m.0 r)

all_keep : (gs : List Group) (old new : Store) → AllMake gs old new → Keeps old → Keeps new
all_keep [] old new h k = subst (λ S. Keeps S) (sym h) k
all_keep (g ∷ gs) old new h k = all_keep gs h.0 new h.2 (groups_keep g old h.0 h.1 k.0 k.1)

pub blank_keeps : Keeps blank
blank_keeps = (
  record {
    bound = λ t. omega arith;
    fresh = λ t l. refl;
    unused = λ t r k l. refl;
    open_stamp = λ s t e. refl;
    open_below = λ s t e. absurd (grind arith);
    unique = λ s u t e f. absurd (grind arith);
    owned = λ r k. tt;
    undoes = λ s t r k e. absurd (grind arith);
  },
  record {
    lone = λ a. tt;
    differ = λ a b r e f. absurd (grind arith);
    low = omega arith;
    made = λ a r e. absurd (grind arith);
    empty = λ r k l. refl;
    closed = λ a k r t e o. absurd o;
    order = λ s t e. absurd (grind arith);
  },
)

pub logs_keep : LogsKeep
logs_keep gs S h = all_keep gs blank S h blank_keeps

module _ (a k : List ℕ) (v : Version) (chains : List ℕ → List ℕ → List Version) where
  pub with_here : with_version a k v chains a k ≡ v ∷ chains a k
  with_here =
      ap (λ x. if x && bytes_eq k k then v ∷ chains a k else chains a k) (bytes_self a)
      ∙ ap (λ x. if x then v ∷ chains a k else chains a k) (bytes_self k)

  pub with_there : (b j : List ℕ) → (b ≡ a → j ≡ k → ⊥) → with_version a k v chains b j ≡ chains b j
  with_there b j ne = by_name (either_name b a) (either_name j k)
    where
      other : (x : Bool) → (if x && false then v ∷ chains b j else chains b j) ≡ chains b j
      other true = refl
      other false = refl

      by_name : (b ≡ a) ⊎ (b ≡ a → ⊥) → (j ≡ k) ⊎ (j ≡ k → ⊥) → with_version a k v chains b j ≡ chains b j
      by_name (inl e) (inl f) = absurd (ne e f)
      by_name (inl e) (inr f) =
          ap (λ x. if bytes_eq b a && x then v ∷ chains b j else chains b j) (bytes_apart j k f)
          ∙ other (bytes_eq b a)
      by_name (inr e) f = ap (λ x. if x && bytes_eq j k then v ∷ chains b j else chains b j) (bytes_apart b a e)

-- two kinds of chains that agree but at one place
pub moves_one : (a k : List ℕ) (v : Version) (old new : List ℕ → List ℕ → List Version)
    → new a k ≡ v ∷ old a k → ((b j : List ℕ) → (b ≡ a → j ≡ k → ⊥) → new b j ≡ old b j)
    → (b j : List ℕ) → new b j ≡ with_version a k v old b j
moves_one a k v old new here there b j = by_name (either_name b a) (either_name j k)
  where
    by_name : (b ≡ a) ⊎ (b ≡ a → ⊥) → (j ≡ k) ⊎ (j ≡ k → ⊥) → new b j ≡ with_version a k v old b j
    by_name (inl e) (inl f) =
        ap (λ x. new x j) e ∙ ap (new a) f ∙ here ∙ sym (with_here a k v old)
        ∙ ap (λ x. with_version a k v old x k) (sym e) ∙ ap (with_version a k v old b) (sym f)
    by_name (inl e) (inr f) = there b j (λ x y. f y) ∙ sym (with_there a k v old b j (λ x y. f y))
    by_name (inr e) f = there b j (λ x y. e x) ∙ sym (with_there a k v old b j (λ x y. e x))

pub written_chains : (S : Store) (s t r : ℕ) (a k : List ℕ) (row : Option Row)
    → Rooted S → root_of S a ≡ Some r → bytes_eq a catalog_name ≡ false
    → (b j : List ℕ) → chain_of (changed S s t r k row) b j ≡ with_version a k (written t row) (chain_of S) b j
written_chains S s t r a k row g ra nw =
    moves_one a k (written t row) (chain_of S) (chain_of (changed S s t r k row))
    (chain_changed_here S s t r a k row g ra nw) (chain_changed_there S s t r a k row g ra)

pub created_chains : (S : Store) (s t : ℕ) (a : List ℕ) (row : Option Row) → Rooted S → S.rows catalog a ≡ []
    → (b j : List ℕ)
    → chain_of (created S s t a row) b j ≡ with_version catalog_name a (naming S t row) (chain_of S) b j
created_chains S s t a row g em =
    moves_one catalog_name a (naming S t row) (chain_of S) (chain_of (created S s t a row))
    (chain_created_here S s t a row g em) (chain_created_there S s t a row g em)

same_holder : (S : Store) (s t u : ℕ) → S.slot s ≡ Some t → S.slot s ≡ Some u → u ≡ t
same_holder S s t u e f = let z : Some u ≡ Some t = sym f ∙ e in grind arith

pub groups_move : GroupsMoveChains
groups_move (begins s) old new m h r = λ a k. ap (λ S. chain_of S a k) m.1
groups_move (writes s a k row) old new m h r = λ t e b j.
    let w = m.2 in
    ap (λ S. chain_of S b j) m.4
    ∙ written_chains old s m.0 m.1 a k row r w.root m.3 b j
    ∙ ap (λ u. with_version a k (written u row) (chain_of old) b j) (same_holder old s t m.0 e w.slot)
groups_move (creates s a row) old new m h r = λ t e b j.
    ap (λ S. chain_of S b j) m.3
    ∙ created_chains old s m.0 a (Some row) r m.2 b j
    ∙ ap (λ u. with_version catalog_name a (naming old u (Some row)) (chain_of old) b j)
    (same_holder old s t m.0 e m.1)
groups_move (undoes s) old new m h r = λ t e a k.
    subst (λ u. IsPopped u (chain_of new a k) (chain_of old a k)) (same_holder old s t m.0 e m.3)
    (subst (λ S. IsPopped m.0 (chain_of S a k) (chain_of old a k)) (sym m.5)
    (chain_undone old s m.0 m.1 m.2 r h m.3 m.4 a k))
groups_move (commits s) old new m h r = λ a k. ap (λ S. chain_of S a k) m.2
groups_move (frees s) old new m h r = λ a k. ap (λ S. chain_of S a k) m.3
groups_move (splits pages) old new m h r = λ a k. ap (λ S. chain_of S a k) m.1
