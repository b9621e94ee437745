-- Stated: pages hold one store alone.
use Rattle.std.specs.Prelude.{◌≡◌, ◌≤◌, ◌<◌, ℕ, List, [], ◌∷◌, Option, Some, map}
use Rattle.rm_base.specs.declared.limits.TheConstants.{MAX_TRX_ID}
use Rattle.page_image.specs.Image.{Image}
use Rattle.version_store.specs.Stores.{Store, catalog}
use Rattle.version_store.specs.Versions.{Row, Version}
use Rattle.held_versions.specs.Counting.{sessions}
use Rattle.held_versions.specs.Holds.{Holds}

-- the transaction and the row of a version
abbrev pub told : Version → ℕ × Option Row
told v = (v.trx, v.row)

-- Two stores say the same: of every number that can be given, of every session, of every open
-- transaction's undo list, of every name, and of every key of a table.
pub record SayTheSame (S T : Store) : Type 0 where
  pub stamps : (t : ℕ) → 1 ≤ t → t ≤ MAX_TRX_ID → S.stamp t ≡ T.stamp t
  pub last : S.last ≡ T.last
  pub next : S.next ≡ T.next
  pub pages : S.pages ≡ T.pages
  pub slots : (s : ℕ) → S.slot s ≡ T.slot s
  pub undo : (s t : ℕ) → s < sessions → S.slot s ≡ Some t → S.undo s ≡ T.undo s
  pub names : (k : List ℕ) → S.rows catalog k ≡ T.rows catalog k
  pub rows : (a k : List ℕ) (v : Version) (row : Row) → S.rows catalog a ≡ v ∷ [] → v.row ≡ Some row
      → map told (S.rows v.root k) ≡ map told (T.rows v.root k)

abbrev pub OneStore : Type 0
OneStore =
    (items : ℕ → List (List ℕ)) (pages : ℕ → Image) (S T : Store)
    → Holds items pages S → Holds items pages T → SayTheSame S T
