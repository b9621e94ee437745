-- Stated: what a transaction's begin and end ask for, which pages and plans are fit for it, and what they tell.
use Rattle.std.specs.Prelude.{◌≡◌, ◌≤◌, ◌<◌, ◌+◌, ◌^◌, ℕ, Bool, true, false, Option, Some, None}
use Rattle.page_image.specs.Image.{Image, unmade}
use Rattle.page_image.specs.Meta.{IsMeta, IsSlots, counters_of}
use Rattle.page_image.specs.declared.kind.Kind.TheVariants as kind
use Rattle.redo_record.specs.declared.plans.Plan.{Plan}
use Rattle.commit_stamps.specs.Effects as effects
use Rattle.commit_stamps.specs.Plans.{begin_plan, commit_plan, free_plan}
use Rattle.question_tree.specs.Questions.{Ask, tells, asks, stops}
use Rattle.transaction_edits.specs.declared.wishes.Act.{Act}
use Rattle.transaction_edits.specs.declared.wishes.Act.TheVariants as act
use Rattle.transaction_edits.specs.declared.wishes.Fetch.TheVariants as fetch

-- what a plan is to do, for a session, with the pages that it stands on: its transaction gets the next number; or the
-- next stamp; or its slot becomes free
pub data Aim : Type 0 where
  Begins : (session : ℕ) → (meta slots : Image) → Aim
  Commits : (session : ℕ) → (meta slots stamps : Image) → Aim
  Frees : (session : ℕ) → (slots : Image) → Aim

-- the meta page; the slots page; a page of stamps; or that a plan is run
pub data Wish : Type 0 where
  ReadsMeta : Wish
  ReadsSlots : Wish
  ReadsStamps : (page : ℕ) → Wish
  Runs : Aim → Wish

pub data Input : Type 0 where
  Handed : Image → Input
  Ran : Input

abbrev pub page_in : Input → Image
page_in (Handed im) = im
page_in Ran = unmade 0

abbrev pub Fits : Wish → Input → Type 0
Fits ReadsMeta (Handed im) = IsMeta im
Fits ReadsMeta Ran = ⊥
Fits ReadsSlots (Handed im) = IsSlots im
Fits ReadsSlots Ran = ⊥
Fits (ReadsStamps page) (Handed im) = (im.page ≡ page) × (im.kind ≡ kind.Stamps)
Fits (ReadsStamps page) Ran = ⊥
Fits (Runs aim) (Handed im) = ⊥
Fits (Runs aim) Ran = Unit {0}

-- the work asks for this
abbrev pub Asked : {A : Type 0} → Ask Wish Input A → Input → Type 0
Asked (tells a) x = ⊥
Asked (asks q k) x = Fits q x
Asked stops x = ⊥

-- the plan is that of the aim, and does what it is for
abbrev pub IsPlanFor : Aim → Plan → Type 0
IsPlanFor (Begins s meta slots) plan =
    (plan ≡ begin_plan meta slots s (counters_of meta).next)
    × effects.Begins meta slots s (counters_of meta).next plan.records
IsPlanFor (Commits s meta slots stamps) plan =
    (plan ≡ commit_plan meta slots stamps s) × effects.Commits meta slots stamps s plan.records
IsPlanFor (Frees s slots) plan = (plan ≡ free_plan slots s) × effects.Frees slots s plan.records

-- the act is the one that is asked for; where nothing is, there is none
abbrev pub Does : {A : Type 0} → Ask Wish Input A → Option Act → Type 0
Does (tells a) x = x ≡ None
Does (asks ReadsMeta k) x = x ≡ Some (act.Fetch fetch.Meta)
Does (asks ReadsSlots k) x = x ≡ Some (act.Fetch fetch.Slots)
Does (asks (ReadsStamps page) k) x = x ≡ Some (act.Fetch (fetch.Stamps page))
Does (asks (Runs aim) k) x = (plan : Plan) × (x ≡ Some (act.Run plan)) × IsPlanFor aim plan
Does stops x = x ≡ None
