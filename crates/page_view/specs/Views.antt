-- Stated: what a view lends of a page.
use Rattle.std.specs.Prelude.{◌≡◌, ◌≢◌, ℕ, List, Option, Some, slice_get, MatchOption}
use Rattle.page_image.specs.declared.kind.Kind.{Kind}
use Rattle.page_image.specs.Image.{Image}

-- the part that the item at place i spells, or none where there is no item or it spells none
abbrev pub IsPartOrNone : {A : Type 0} → (A → Type 0) → (A → List ℕ) → List (List ℕ) → ℕ → Option A → Type 0
IsPartOrNone {A} Is bytes items i part =
    MatchOption part ((x : A) → Is x → ¬ (slice_get items i ≡ Some (bytes x))) (λ x. Is x × (slice_get items i ≡ Some (bytes x)))

-- a view of the page where it has this kind, and none where it has another
abbrev pub IsViewOf : Kind → Image → Option Image → Type 0
IsViewOf kind page view = MatchOption view (page.kind ≢ kind) (λ v. (page.kind ≡ kind) × (v ≡ page))
