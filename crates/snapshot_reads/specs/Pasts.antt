-- Stated: what a reader of a snapshot needs of the stores of a log, one for each LSN.
use Rattle.std.specs.Prelude.{◌≡◌, ◌≢◌, ◌≤◌, ◌<◌, ◌⊎◌, ℕ, suc, true, List, [], ◌∷◌, Option}
use Rattle.version_store.specs.Contents.{Content, chain_of}
use Rattle.version_store.specs.Rooted.{IsLone}
use Rattle.version_store.specs.Stores.{Store, catalog, put}
use Rattle.version_store.specs.Versions.{Version, is_own, seen}

-- what had a stamp has it still, and what had none has none or one past the last stamp of then
abbrev pub StampsLater : Store → Store → ℕ → Type 0
StampsLater S R t = (R.stamp t ≡ S.stamp t) ⊎ ((S.stamp t ≡ 0) × (S.last < R.stamp t))

-- a version that has a stamp, or is of the reader's own transaction
abbrev pub IsFixed : Store → Option ℕ → Version → Type 0
IsFixed S own v = (S.stamp v.trx ≢ 0) ⊎ (is_own own v.trx ≡ true)

-- From an LSN to another one a reader with this snapshot, and with the changes of its own
-- transaction, if it has one, sees this content in each store; and what it saw of tables stays.
pub record Past (S : ℕ → Store) (base end n : ℕ) (own : Option ℕ) (f : Content) : Type 0 where
  pub read : (j : ℕ) → base ≤ j → j ≤ end → n ≤ (S j).last
      → (a k : List ℕ) → seen (chain_of (S j) a k) (S j).stamp n own ≡ f a k
  pub rises : (i j : ℕ) → base ≤ i → i ≤ j → j ≤ end → (S i).last ≤ (S j).last
  pub later : (i j t : ℕ) → base ≤ i → i ≤ j → j ≤ end → StampsLater (S i) (S j) t
  pub lasts : (i j : ℕ) → base ≤ i → i ≤ j → j ≤ end → (a : List ℕ) (v : Version)
      → (S i).rows catalog a ≡ v ∷ [] → IsFixed (S i) own v → (S j).rows catalog a ≡ v ∷ []
  pub lone : (j : ℕ) → base ≤ j → j ≤ end → (a : List ℕ) → IsLone ((S j).rows catalog a)

-- One more store, which a reader's own transaction did not change: the content stays, and so does
-- what it saw.
pub record PastStep (S R : Store) (n : ℕ) (own : Option ℕ) (f : Content) : Type 0 where
  pub read : (a k : List ℕ) → seen (chain_of R a k) R.stamp n own ≡ f a k
  pub rises : S.last ≤ R.last
  pub later : (t : ℕ) → StampsLater S R t
  pub lasts : (a : List ℕ) (v : Version) → S.rows catalog a ≡ v ∷ [] → IsFixed S own v
      → R.rows catalog a ≡ v ∷ []
  pub lone : (a : List ℕ) → IsLone (R.rows catalog a)

-- a past goes on by one more store
abbrev pub PastGoesOn : Type 0
PastGoesOn =
    (S : ℕ → Store) (R : Store) (base end n : ℕ) (own : Option ℕ) (f : Content)
    → base ≤ end → Past S base end n own f → PastStep (S end) R n own f
    → Past (put S (suc end) R) base (suc end) n own f
