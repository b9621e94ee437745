-- Stated: the versions of an item, and that the walk gives them.
use Rattle.std.specs.Prelude.{◌≡◌, ◌+◌, ℕ, zero, suc, List, [], ◌∷◌, length, if◌then◌else◌, Option, Some, None}
use Rattle.page_image.specs.Image.{Image}
use Rattle.page_view.specs.declared.leaf.LeafItem.{LeafItem}
use Rattle.undo_versions.specs.declared.walk.ChainWant.TheVariants.{End}
use Rattle.undo_versions.specs.Walking.{Walk, is_page, replaced, at_version, want_of, passed, given}

-- the version before an item, by its older pointer; none where the pointer names no page or no undo item with an old item
abbrev pub version_before : (ℕ → Image) → LeafItem → Option LeafItem
version_before pages item = if is_page item.older.page then replaced (pages item.older.page) item.older else None

abbrev pub versions_of : (LeafItem → List LeafItem) → Option LeafItem → List LeafItem
versions_of rest None = []
versions_of rest (Some item) = rest item

-- the newest n versions of an item: its own, and then the older ones by their pointers
abbrev pub versions : (ℕ → Image) → ℕ → LeafItem → List LeafItem
versions pages zero item = []
versions pages (suc n) item = item ∷ versions_of (λ old. versions pages n old) (version_before pages item)

abbrev pub GoesOn : (LeafItem → Type 0) → Type 0 → Option LeafItem → Type 0
GoesOn more none None = none
GoesOn more none (Some old) = more old

-- the versions of an item, to the end of its chain
abbrev pub IsChain : (ℕ → Image) → LeafItem → List LeafItem → Type 0
IsChain pages item [] = ⊥
IsChain pages item (v ∷ vs) = (v ≡ item) × GoesOn (λ old. IsChain pages old vs) (vs ≡ []) (version_before pages item)

-- a walk that passes its version and is given the page that it then wants
abbrev pub stepped : (ℕ → Image) → Walk → Walk
stepped pages walk = if is_page walk.next.page then given (passed walk) (pages walk.next.page) else passed walk

abbrev pub told_by : List LeafItem → Option LeafItem → List LeafItem
told_by rest None = []
told_by rest (Some item) = item ∷ rest

-- the versions that a walk comes to in n steps
abbrev pub told : (ℕ → Image) → ℕ → Walk → List LeafItem
told pages zero walk = []
told pages (suc n) walk = told_by (told pages n (stepped pages walk)) walk.version

-- a walk comes to the versions of its item, newest first
abbrev pub GivesVersions : Type 0
GivesVersions = (pages : ℕ → Image) (n : ℕ) (item : LeafItem) → told pages n (at_version item) ≡ versions pages n item

-- where the chain ends, these are all of them, whatever the number of steps
abbrev pub GivesChain : Type 0
GivesChain =
    (pages : ℕ → Image) (item : LeafItem) (vs : List LeafItem) (more : ℕ) → IsChain pages item vs
    → told pages (length vs + more) (at_version item) ≡ vs

-- the walk after n steps
abbrev pub walked : (ℕ → Image) → ℕ → Walk → Walk
walked pages zero walk = walk
walked pages (suc n) walk = walked pages n (stepped pages walk)

-- and the walk is at its end behind them
abbrev pub EndsWithChain : Type 0
EndsWithChain =
    (pages : ℕ → Image) (item : LeafItem) (vs : List LeafItem) → IsChain pages item vs
    → want_of (walked pages (length vs) (at_version item)) ≡ End

-- an item has one chain at most
abbrev pub OneChain : Type 0
OneChain = (pages : ℕ → Image) (item : LeafItem) (vs ws : List LeafItem) → IsChain pages item vs → IsChain pages item ws → vs ≡ ws
