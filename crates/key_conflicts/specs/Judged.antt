-- Stated: what a test of keys tells over its uses, and in which order it asks.
use Rattle.std.specs.Prelude.{◌≡◌, ◌≢◌, ℕ, Bool, true, false, not, if◌then◌else◌, List, [], ◌∷◌, ◌++◌, slice_get, Contains, Option, Some, None}
use Rattle.std.specs.List.{AllByRecursion}
use Rattle.std.specs.declared.cmp.Ordering.TheVariants.{Greater}
use Rattle.page_image.specs.Image.{Image}
use Rattle.page_view.specs.declared.leaf.LeafItem.{LeafItem}
use Rattle.page_view.specs.Keys.{key_cmp}
use Rattle.bplus_tree.specs.Walk.{IsLeafToRead, IsInnerToRead}
use Rattle.version_store.specs.Versions.{is_own}
use Rattle.question_tree.specs.Questions.{Gives}
use Rattle.range_reader.specs.declared.fetch.Snapshot.{Snapshot}
use Rattle.range_reader.specs.Finding.{Fits}
use Rattle.range_reader.specs.Laws.{IsOrderly}
use Rattle.range_reader.specs.Uses.{LooksUp}
use Rattle.range_reader.specs.Walked.{child_in}
use Rattle.key_conflicts.specs.declared.verdict.Met.{Met}
use Rattle.key_conflicts.specs.declared.verdict.Tested.{Tested}
use Rattle.key_conflicts.specs.Testing.{Key, item_of, met, test_keys}

-- ---- one key

-- pages from the one with that number down to a leaf, each time by the child that holds the key
abbrev pub LeadsDown : ℕ → Key → List Image → Image → Type 0
LeadsDown page key [] leaf = (leaf.page ≡ page) × IsLeafToRead leaf
LeadsDown page key (im ∷ ims) leaf =
    (im.page ≡ page) × IsInnerToRead im × LeadsDown (child_in im key) key ims leaf

-- What is met in the newest version of a key, if there is one. An own version is never in the way.
-- Each other one was looked up on the page of its stamp, and is in the way where it is not seen.
abbrev pub Meets : Snapshot → Option LeafItem → List Image → Met → Type 0
Meets s None us m = (us ≡ []) × (m ≡ met false false)
Meets s (Some item) [] m = (is_own s.own item.trx ≡ true) × (m ≡ met false (not item.deleted))
Meets s (Some item) (u ∷ us) m =
    (us ≡ []) × LooksUp u s.stamp s.own item (not m.clash) × (m.there ≡ not item.deleted)

-- the uses of a key: the way down to its leaf, the leaf, and the page of a stamp
pub record KeyTested (s : Snapshot) (root : ℕ) (key : Key) (us : List Image) (m : Met) : Type 0 where
  pub way : List Image
  pub leaf : Image
  pub stamps : List Image
  pub used : us ≡ way ++ leaf ∷ stamps
  pub leads : LeadsDown root key way leaf
  pub meets : Meets s (item_of key leaf.items) stamps m

-- ---- all keys

-- one after the other
abbrev pub EachTested : Snapshot → ℕ → List Key → List Image → List Met → Type 0
EachTested s root [] us ms = (us ≡ []) × (ms ≡ [])
EachTested s root (key ∷ keys) us ms =
    (here : List Image) × (rest : List Image) × (m : Met) × (more : List Met)
    × (us ≡ here ++ rest) × KeyTested s root key here m × EachTested s root keys rest more
    × (ms ≡ m ∷ more)

-- the keys of which a test holds, by what was met under them
abbrev pub those : (Met → Bool) → List Key → List Met → List Key
those test [] ms = []
those test (key ∷ keys) [] = []
those test (key ∷ keys) (m ∷ ms) =
    if test m then key ∷ those test keys ms else those test keys ms

-- the keys in the way, and those that are there
abbrev pub clashing : List Key → List Met → List Key
clashing keys ms = those (λ m. m.clash) keys ms

abbrev pub standing : List Key → List Met → List Key
standing keys ms = those (λ m. m.there) keys ms

-- a key among these that is not greater than any of them, or none where there are none
abbrev pub IsLeastOf : List Key → Option Key → Type 0
IsLeastOf keys None = keys ≡ []
IsLeastOf keys (Some key) =
    Contains keys key × AllByRecursion (λ other. key_cmp key other ≢ Greater) keys

-- what is told is the least key in the way, and the first that is there
pub record IsJudged (s : Snapshot) (root : ℕ) (keys : List Key) (us : List Image)
    (t : Tested) : Type 0 where
  pub mets : List Met
  pub each : EachTested s root keys us mets
  pub clash : IsLeastOf (clashing keys mets) t.clash
  pub found : t.found ≡ slice_get (standing keys mets) 0

abbrev pub TellsJudged : Type 0
TellsJudged =
    (s : Snapshot) (root : ℕ) (keys : List Key) (us : List Image) (t : Tested)
    → Gives Fits (test_keys s root keys) us t
    → IsJudged s root keys us t

-- a child is asked for only right after the page above it
abbrev pub TestsOrderly : Type 0
TestsOrderly = (s : Snapshot) (root : ℕ) (keys : List Key) (down : Bool)
    → IsOrderly down (test_keys s root keys)
