-- For the proofs: what holds of a page in every state that any list of events reaches.
use Rattle.std.specs.Prelude.{◌≡◌, ◌≢◌, ◌≤◌, ◌⊎◌, ℕ, Bool, true, false, Some, None, if◌then◌else◌}
use Rattle.page_image.specs.Image.{Image}
use Rattle.node_model.specs.Step.{Step, Step.Idle, Step.Register, Step.Look, Step.Read, Step.LookAgain, Step.Get, Step.Write, Step.Clean, Step.LastS, Step.Held, Step.ReleaseEnd, Step.GivenUp, Step.RwLook, Step.RwRead, Step.RwBack, Step.RwEnd, Step.PlanMake, Step.PlanLatch, Step.PlanInvalidate, Step.PlanInstall, Step.PlanWrite, Step.PlanClean, Step.PlanRegister, Step.PlanRelease, is_reading, is_changed}
use Rattle.node_model.specs.Call.{Call, Call.Quiet, Call.AskRegister, Call.ToldRegistered, Call.ToldFull, Call.AskUnregister, Call.ToldUnregistered, Call.AskGet, Call.ToldImage, Call.ToldNotYet, Call.AskInvalidate, Call.ToldDone, Call.ToldStarted}
use Rattle.node_model.specs.Node.{Node}
use Rattle.page_coherence.specs.Page.{Page, OthersStale, latest, HasX, HasS, WhereAlive}
use Rattle.page_coherence.specs.Mode.{Mode, Mode.Normal, Mode.Tailed, is_whole, Counts}

-- the RW changed the page and did not clean it, or is down
abbrev pub exempts : Node → Bool
exempts N = if N.up then is_changed N.step else true

-- the step of a page that the node does not keep
abbrev pub is_away : Step → Bool
is_away Idle = true
is_away Register = true
is_away PlanMake = true
is_away GivenUp = true
is_away ReleaseEnd = true
is_away _ = false

abbrev pub waits_registered : Step → Bool
waits_registered Register = true
waits_registered PlanMake = true
waits_registered PlanRegister = true
waits_registered GivenUp = true
waits_registered _ = false

abbrev pub waits_image : Step → Bool
waits_image (Get f) = true
waits_image GivenUp = true
waits_image _ = false

abbrev pub waits_done : Step → Bool
waits_done PlanInvalidate = true
waits_done GivenUp = true
waits_done _ = false

-- what a step of node n rests on, where r is the RW
abbrev pub Needs : ℕ → Page → ℕ → Node → Step → Type 0
Needs r P n N Register = N.address ≡ None
Needs r P n N PlanMake = N.address ≡ None
Needs r P n N Look = HasS P n
Needs r P n N Read = HasS P n × WhereAlive P N (P.entry.bit ≡ false)
Needs r P n N LookAgain = HasX P n
Needs r P n N (Get f) = HasX P n × ((latest P).lsn ≤ f)
Needs r P n N (Write v) = HasX P n × (v ≡ latest P)
Needs r P n N (Clean v) = HasX P n × (v ≡ latest P) × WhereAlive P N (P.slot ≡ latest P)
Needs r P n N (LastS v) = (HasX P n ⊎ HasS P n) × (v ≡ latest P)
Needs r P n N Held = HasS P n × (N.copy ≡ Some (latest P))
Needs r P n N RwLook = n ≡ r
Needs r P n N RwRead = (n ≡ r) × WhereAlive P N (P.entry.bit ≡ false)
Needs r P n N RwBack = n ≡ r
Needs r P n N (RwEnd v) = (n ≡ r) × (v ≡ latest P)
Needs r P n N PlanLatch = (n ≡ r) × (N.copy ≡ Some (latest P))
Needs r P n N PlanInvalidate = (n ≡ r) × HasX P n × (N.copy ≡ Some (latest P))
Needs r P n N PlanInstall = (n ≡ r) × HasX P n × (N.copy ≡ Some (latest P)) × (P.entry.bit ≡ true) × OthersStale P n
Needs r P n N PlanWrite = (n ≡ r) × HasX P n × (N.copy ≡ Some (latest P)) × OthersStale P n
Needs r P n N PlanClean = (n ≡ r) × HasX P n × (N.copy ≡ Some (latest P)) × OthersStale P n × WhereAlive P N (P.slot ≡ latest P)
Needs r P n N PlanRegister = (n ≡ r) × HasX P n × (N.copy ≡ Some (latest P)) × OthersStale P n × (N.address ≡ None)
Needs r P n N PlanRelease = (n ≡ r) × (HasX P n → OthersStale P n)
Needs r P n N _ = Unit {0}

-- what a call of node n rests on
abbrev pub CallNeeds : ℕ → Page → ℕ → Node → Call → Type 0
CallNeeds r P n N Quiet = N.step ≢ GivenUp
CallNeeds r P n N AskRegister = (N.address ≡ None) × (waits_registered N.step ≡ true)
CallNeeds r P n N (ToldRegistered a) =
    (N.address ≡ None) × (waits_registered N.step ≡ true) × (P.dead a ≡ false → P.entry.address ≡ Some a)
    × (P.entry.refs n ≡ true)
CallNeeds r P n N ToldFull = (N.address ≡ None) × (waits_registered N.step ≡ true)
CallNeeds r P n N AskUnregister = (N.kept ≡ false) × (is_away N.step ≡ true)
CallNeeds r P n N ToldUnregistered = (N.kept ≡ false) × (is_away N.step ≡ true)
CallNeeds r P n N (AskGet f) = (waits_image N.step ≡ true) × HasX P n × ((latest P).lsn ≤ f)
CallNeeds r P n N (ToldImage v) = (waits_image N.step ≡ true) × HasX P n × (v ≡ latest P)
CallNeeds r P n N ToldNotYet = waits_image N.step ≡ true
CallNeeds r P n N AskInvalidate = (waits_done N.step ≡ true) × (n ≡ r) × HasX P n
CallNeeds r P n N ToldDone = (waits_done N.step ≡ true) × (n ≡ r) × HasX P n × (P.entry.bit ≡ true) × OthersStale P n
CallNeeds r P n N ToldStarted = waits_done N.step ≡ true

-- of a node that is up
pub record NodeHolds (r : ℕ) (P : Page) (n : ℕ) (N : Node) : Type 0 where
  pub address : (a : ℕ) → N.address ≡ Some a → P.dead a ≡ false → P.entry.address ≡ Some a
  pub refs : N.kept ≡ true → P.entry.refs n ≡ true
  pub nothing : N.kept ≡ false → (is_away N.step ≡ true) × (N.copy ≡ None) × (N.address ≡ None) × (N.stale ≡ true)
  pub fresh : (v : Image) → N.copy ≡ Some v → N.stale ≡ false → is_reading N.step ≡ false → v ≡ latest P
  pub of_rw : n ≡ r → (v : Image) → N.copy ≡ Some v → v ≡ latest P
  pub needs : Needs r P n N N.step
  pub calls : CallNeeds r P n N N.call
  pub leaves : N.leaving ≡ true → (N.step ≡ Idle) × (N.copy ≡ None) × (N.kept ≡ true)

-- of a page, where r is the RW and w the watermark
pub record Holds (mode : Mode) (r w : ℕ) (P : Page) : Type 0 where
  pub shape : (n m : ℕ) → HasX P n → HasS P m → ⊥
  pub clean_lsn : P.entry.there ≡ true → P.entry.bit ≡ false → Counts mode P.entry.lsn → P.entry.lsn ≡ (latest P).lsn
  pub clean_slot : P.entry.there ≡ true → P.entry.bit ≡ false → Counts mode P.entry.lsn
      → (a : ℕ) → P.entry.address ≡ Some a → P.dead a ≡ false → P.slot ≡ latest P
  pub clean_address : P.entry.there ≡ true → P.entry.address ≡ None → P.entry.bit ≡ true
  pub gone : P.entry.there ≡ false → P.entry.address ≡ None
  pub dirty : is_whole mode ≡ true → P.entry.there ≡ true → P.entry.bit ≡ true
      → (HasX P r → exempts (P.node r) ≡ false)
      → (latest P).lsn ≤ P.entry.floor
  pub absent : is_whole mode ≡ true → P.entry.there ≡ false → (latest P).lsn ≤ w
  pub no_refs : P.entry.there ≡ false → (n : ℕ) → P.entry.refs n ≡ false
  pub orphan : (n : ℕ) → (P.node n).call ≡ AskInvalidate → (n ≡ r) × HasX P n
  pub down : (n : ℕ) → (P.node n).up ≡ false → (P.node n).kept ≡ false
  pub stopped : mode ≢ Normal → (n : ℕ) → ((P.node n).kept ≡ false) × ((P.node n).step ≡ Idle)
      × ((P.node n).call ≡ Quiet)
  pub below : (t : ℕ) → mode ≡ Tailed t → (latest P).lsn ≤ t
  pub each : (n : ℕ) → (P.node n).up ≡ true → NodeHolds r P n (P.node n)
