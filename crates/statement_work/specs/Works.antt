-- Stated: the work of a worker: what it wishes for, one after the other, and what it tells then.
use Rattle.std.specs.Prelude.{◌≡◌, ℕ, Bool, List, [], ◌∷◌, ◌++◌}
use Rattle.rm_base.specs.declared.limits.TheConstants.{META_PAGE_ID, SLOTS_PAGE_ID}
use Rattle.page_image.specs.Image.{Image, unmade}
use Rattle.page_image.specs.declared.kind.Kind.TheVariants as kind
use Rattle.sql_database.specs.declared.replies.SqlReply.{SqlReply}
use Rattle.question_tree.specs.Questions.{Ask, tells, asks, stops}
use Rattle.bplus_tree.specs.Walk.{IsToRead}
use Rattle.tree_change.specs.Way.{IsWayTo}
use Rattle.range_reader.specs.declared.fetch.Fetch.{Fetch}
use Rattle.range_reader.specs.declared.fetch.Fetch.TheVariants as fetch
use Rattle.range_reader.specs.Finding as finding
use Rattle.statement_work.specs.declared.acts.FixedPage.{FixedPage}
use Rattle.statement_work.specs.declared.acts.FixedPage.TheVariants as fixed
use Rattle.statement_work.specs.Terms.{Terms}

-- what a work takes a page for: the next one on the way to a key, behind those that were read, or an undo
-- page
pub data Claim : Type 0 where
  OnWay : (key : List ℕ) → (path : List Image) → (page : ℕ) → Claim
  UndoPage : ℕ → Claim

-- A page of a tree, of stamps or of undo items; a page at a fixed place; a page that has to be what the work
-- takes it for; that the latch on a page is released; that a plan for an aim is run; the stamp of a snapshot; that the log is appended. A calm wish
-- waits where the pool is full.
pub data Wish (A : Type 0) : Type 0 where
  Fetches : (calm : Bool) → Fetch → Wish A
  FetchesFixed : (calm : Bool) → FixedPage → Wish A
  FetchesSure : (calm : Bool) → Claim → Wish A
  Releases : ℕ → Wish A
  Runs : (calm : Bool) → A → Wish A
  Stamps : Wish A
  Appends : Wish A

-- what comes of an act: a page's image, a stamp, or only that it was made
pub data Input : Type 0 where
  Handed : Image → Input
  Stamped : ℕ → Input
  Made : Input

-- what is told at the end: what a statement found, or its reply where that needs nothing found; that
-- nothing is left to undo; or that a session's undoing begins anew
pub data Told (A : Type 0) : Type 0 where
  Found : A → Told A
  Replied : SqlReply → Told A
  Rested : Told A
  Again : ℕ → Told A

abbrev pub WorkOf : Type 0 → Type 0 → Type 0
WorkOf A F = Ask (Wish A) Input (Told F)

abbrev pub Work : Terms → Type 0
Work t = WorkOf t.Aim t.Finding

-- ---- what fits a wish

abbrev pub IsFixed : FixedPage → Image → Type 0
IsFixed fixed.Meta im = (im.page ≡ META_PAGE_ID) × (im.kind ≡ kind.Meta)
IsFixed fixed.Slots im = (im.page ≡ SLOTS_PAGE_ID) × (im.kind ≡ kind.Slots)

-- with a leaf, the pages that were read are the way from a root to the leaf of the key, in a tree that stands
abbrev pub Holds : Claim → Image → Type 0
Holds (OnWay key path page) im =
    (im.page ≡ page) × IsToRead im × (im.kind ≡ kind.Leaf → IsWayTo key (path ++ im ∷ []))
Holds (UndoPage page) im = (im.page ≡ page) × (im.kind ≡ kind.Undo)

-- a way begins with a root, and goes on with children
abbrev pub step_to : List Image → ℕ → Fetch
step_to [] page = fetch.Root page
step_to (im ∷ path) page = fetch.Child page

abbrev pub claimed : Claim → Fetch
claimed (OnWay key path page) = step_to path page
claimed (UndoPage page) = fetch.Undo page

abbrev pub IsHanded : (Image → Type 0) → Input → Type 0
IsHanded Fit (Handed im) = Fit im
IsHanded Fit (Stamped n) = ⊥
IsHanded Fit Made = ⊥

abbrev pub IsStamped : Input → Type 0
IsStamped (Handed im) = ⊥
IsStamped (Stamped n) = Unit {0}
IsStamped Made = ⊥

abbrev pub IsMade : Input → Type 0
IsMade (Handed im) = ⊥
IsMade (Stamped n) = ⊥
IsMade Made = Unit {0}

abbrev pub Fits : {A : Type 0} → Wish A → Input → Type 0
Fits (Fetches calm q) x = IsHanded (finding.Fits q) x
Fits (FetchesFixed calm p) x = IsHanded (IsFixed p) x
Fits (FetchesSure calm c) x = IsHanded (Holds c) x
Fits (Releases p) x = IsMade x
Fits (Runs calm a) x = IsMade x
Fits Stamps x = IsStamped x
Fits Appends x = IsMade x

-- the work asks for this
abbrev pub AskedFor : {A F : Type 0} → WorkOf A F → Input → Type 0
AskedFor (tells a) x = ⊥
AskedFor (asks q k) x = Fits q x
AskedFor stops x = ⊥

-- ---- what was given

abbrev pub image_in : Input → Image
image_in (Handed im) = im
image_in (Stamped n) = unmade 0
image_in Made = unmade 0

abbrev pub stamp_in : Input → ℕ
stamp_in (Handed im) = 0
stamp_in (Stamped n) = n
stamp_in Made = 0

-- the images among what was given, in their order
abbrev pub uses : List Input → List Image
uses [] = []
uses (Handed im ∷ xs) = im ∷ uses xs
uses (Stamped n ∷ xs) = uses xs
uses (Made ∷ xs) = uses xs
