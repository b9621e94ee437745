-- Stated: that a test of keys ends over pages that hold a store.
use Rattle.std.specs.Prelude.{◌≡◌, ℕ, List}
use Rattle.page_image.specs.Image.{Image}
use Rattle.version_store.specs.Held.{Held}
use Rattle.version_store.specs.Stores.{Store}
use Rattle.question_tree.specs.Questions.{Ask, tells, asks, stops}
use Rattle.range_reader.specs.declared.fetch.Fetch.{Fetch}
use Rattle.range_reader.specs.declared.fetch.Snapshot.{Snapshot}
use Rattle.range_reader.specs.Finding.{Fits, page_of}
use Rattle.held_versions.specs.Holds.{Holds}
use Rattle.key_conflicts.specs.declared.verdict.Tested.{Tested}
use Rattle.key_conflicts.specs.Testing.{Key, test_keys}
use Rattle.held_conflicts.specs.Verdicts.{IsTableRoot, IsVerdict}

-- each page that the work asks for is fit as it stands, and at its end it tells this
abbrev pub EndsWith : {A : Type 0} → (ℕ → Image) → Ask Fetch Image A → A → Type 0
EndsWith pages (tells b) a = b ≡ a
EndsWith pages (asks q k) a = Fits q (pages (page_of q)) × EndsWith pages (k (pages (page_of q))) a
EndsWith pages stops a = ⊥

-- Over pages that hold a store whose numbers and slots fit its versions, a test of keys of the catalog
-- or of a table ends, and tells the verdict.
abbrev pub TestsEnd : Type 0
TestsEnd =
    (items : ℕ → List Key) (pages : ℕ → Image) (S : Store) → Holds items pages S → Held S
    → (root : ℕ) → IsTableRoot S root → (s : Snapshot) (keys : List Key)
    → (t : Tested) × EndsWith pages (test_keys s root keys) t × IsVerdict S root s keys t
