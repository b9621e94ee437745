-- Stated: how the latches on the pages of a work are taken and released.
use Rattle.std.specs.Prelude.{◌≡◌, ℕ, Bool, true, false, List, [], ◌∷◌, ◌++◌}
use Rattle.rm_base.specs.declared.limits.TheConstants.{META_PAGE_ID, SLOTS_PAGE_ID}
use Rattle.page_image.specs.Image.{Image}
use Rattle.question_tree.specs.Questions.{tells, asks, stops}
use Rattle.range_reader.specs.declared.fetch.Fetch.{Fetch}
use Rattle.range_reader.specs.declared.fetch.Fetch.TheVariants as fetch
use Rattle.range_reader.specs.Finding.{page_of}
use Rattle.statement_work.specs.declared.acts.FixedPage.{FixedPage}
use Rattle.statement_work.specs.declared.acts.FixedPage.TheVariants as fixed
use Rattle.statement_work.specs.Works.{Fetches, FetchesFixed, FetchesSure, Releases, Runs, Stamps, Appends, Handed, Stamped, Made, WorkOf}

abbrev pub is_child : Fetch → Bool
is_child (fetch.Root p) = false
is_child (fetch.Child p) = true
is_child (fetch.Next p) = false
is_child (fetch.Stamps p) = false
is_child (fetch.Undo p) = false

abbrev pub number_of : FixedPage → ℕ
number_of fixed.Meta = META_PAGE_ID
number_of fixed.Slots = SLOTS_PAGE_ID

-- a child is fetched while just the page above it is held, and any other page while none is
abbrev pub IsFetchedWith : Bool → List ℕ → Type 0
IsFetchedWith true held = (above : ℕ) × (held ≡ above ∷ [])
IsFetchedWith false held = held ≡ []

-- The protocol of a reader, which latches each page that it fetches; `held` are the pages that it holds,
-- the one fetched first at the front. Only that one is released; while a stamp is taken, and at the end,
-- none is held. A reader runs no plan, and takes no page for more than it is.
abbrev pub IsPolite : {A F : Type 0} → List ℕ → WorkOf A F → Type 0
IsPolite held (tells a) = held ≡ []
IsPolite held (asks (Fetches calm q) k) =
    IsFetchedWith (is_child q) held
    × ((im : Image) → IsPolite (held ++ page_of q ∷ []) (k (Handed im)))
IsPolite held (asks (FetchesFixed calm p) k) =
    (held ≡ []) × ((im : Image) → IsPolite (number_of p ∷ []) (k (Handed im)))
IsPolite held (asks (FetchesSure calm c) k) = ⊥
IsPolite held (asks (Releases p) k) = (rest : List ℕ) × (held ≡ p ∷ rest) × IsPolite rest (k Made)
IsPolite held (asks (Runs calm a) k) = ⊥
IsPolite held (asks Stamps k) = (held ≡ []) × ((n : ℕ) → IsPolite [] (k (Stamped n)))
IsPolite held (asks Appends k) = ⊥
IsPolite held stops = Unit {0}

-- one that latches no page releases none
abbrev pub ReleasesNone : {A F : Type 0} → WorkOf A F → Type 0
ReleasesNone (tells a) = Unit {0}
ReleasesNone (asks (Fetches calm q) k) = (im : Image) → ReleasesNone (k (Handed im))
ReleasesNone (asks (FetchesFixed calm p) k) = (im : Image) → ReleasesNone (k (Handed im))
ReleasesNone (asks (FetchesSure calm c) k) = (im : Image) → ReleasesNone (k (Handed im))
ReleasesNone (asks (Releases p) k) = ⊥
ReleasesNone (asks (Runs calm a) k) = ReleasesNone (k Made)
ReleasesNone (asks Stamps k) = (n : ℕ) → ReleasesNone (k (Stamped n))
ReleasesNone (asks Appends k) = ReleasesNone (k Made)
ReleasesNone stops = Unit {0}

abbrev pub KeepsLatches : {A F : Type 0} → Bool → WorkOf A F → Type 0
KeepsLatches true w = IsPolite [] w
KeepsLatches false w = ReleasesNone w
