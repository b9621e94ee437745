-- Stated: every event of the pool, each once, and lists of them.
use Rattle.std.specs.Prelude.{◌≡◌, ◌≢◌, ◌⊎◌, ℕ, Bool, true, false, List, [], ◌∷◌, if◌then◌else◌, nat_eq, length}
use Rattle.home_model.specs.Latch.{Without}
use Rattle.page_image.specs.Image.{Image}
use Rattle.node_model.specs.Step.{Step, Step.Get, Step.PlanInvalidate, wants_register}
use Rattle.node_model.specs.Learning.{parted}
use Rattle.page_coherence.specs.Page.{set_node}
use Rattle.page_coherence.specs.Mode.{Mode.Normal}
use Rattle.page_coherence.specs.Moves.{Move.Install as InstallImage}
use Rattle.page_coherence.specs.Cluster.{State as Pages, Event as PageEvent, Event.Act, Event.Crash as CrashPages, Event.Kick as KickPages, Event.CrashHome as CrashTables, Event.Renew as RenewPages, Event.Fence as FencePages, Event.Tail as TailPages, Event.Sweep as SweepPages, Happens as PagesDo, IsUp, returned, start as start_pages}
use Rattle.call_model.specs.Stages.{Stage.Quiet as NoCall, Effect, Effect.Asks}
use Rattle.call_model.specs.Network.{Message, Network, new_network, Event as CallEvent, Event.Ask, Event.Deliver, Event.Crash as CrashCaller, Event.Kick as KickCaller, Event.Restart as RestartCaller, Event.Rejoin as RejoinCaller, Event.Fence as FenceCalls, Event.CrashServer, Event.RenewServer, Happens as CallsDo, Run as CallsRun}
use Rattle.call_model.specs.Laws.{stage_of}
use Rattle.redo_durability.specs.Machine.{State as Log, Phase, Phase.Open, Phase.Down, Phase.Stopped, Phase.Tailed, Event.Fence as FenceLog, Event.Tail as TailLog, Event.Sweep as SweepLog, Happens as LogDoes, installed, sending, crashed, ended, start as start_log}
use Rattle.pool_laws.specs.Calls.{HomeCall, HomeCall.RegisterPage, HomeCall.UnregisterPage, HomeCall.InvalidatePages, HomeAnswer, StorageCall, StorageCall.GetPage, StorageCall.AppendGroups, StorageAnswer, only}
use Rattle.pool_laws.specs.Local.{IsWork}
use Rattle.pool_laws.specs.Pool.{Pool, seen, bare}
use Rattle.pool_laws.specs.Serving.{at_pages, Serves, Stores}

pub data Event (G : Type 0) : Type 0 where
  Work : PageEvent → Event G
  -- a plan of node n adds its group to the log, and with it these images of these pages
  Install : (n : ℕ) (ps : ℕ → Bool) (images : ℕ → Image) → G → Event G
  SendRegister : (n p : ℕ) → Event G
  SendUnregister : (n p : ℕ) → Event G
  SendInvalidate : (n : ℕ) (ps : ℕ → Bool) → Event G
  SendGet : (n p floor : ℕ) → Event G
  SendAppend : (n : ℕ) → Event G
  -- a message that was ever sent reaches the home or its node, storage or its node
  DeliverHome : Message HomeCall HomeAnswer → Event G
  DeliverStorage : Message (StorageCall G) StorageAnswer → Event G
  Crash : (n : ℕ) → Event G
  Kick : (n : ℕ) → Event G
  Restart : (n epoch : ℕ) → Event G
  Rejoin : (n epoch : ℕ) → Event G
  CrashHome : Event G
  -- in a renewal the nodes crash, and storage kicks them, by these events of the two networks
  Renew : (ds : ℕ → Bool) (epoch : ℕ) → List (CallEvent HomeCall HomeAnswer) → List (CallEvent (StorageCall G) StorageAnswer)
      → Event G
  Fence : (epoch : ℕ) → Event G
  Tail : Event G
  Sweep : (n : ℕ) → Event G

-- ---------------- parts of events

-- node n asks, in an epoch that the server takes
abbrev pub Sends : {Q R : Type 0} → ℕ → Q → Network Q R → Network Q R → Type 0
Sends n q h i = CallsDo (Ask n q) h (Asks n q) i

-- an event of the calls, whatever it does to their stages
abbrev pub Calls : {Q R : Type 0} → CallEvent Q R → Network Q R → Network Q R → Type 0
Calls {Q = Q} {R = R} e h i = (f : Effect Q R) × CallsDo e h f i

-- node n's step at page p, where it is up
abbrev pub Stands : Pages → (n p : ℕ) → Step → Type 0
Stands s n p step = (((s.page p).node n).up ≡ true) × (((s.page p).node n).step ≡ step)

-- the home has nothing of node n: no reference, no latch
abbrev pub HasNothing : Pages → ℕ → Type 0
HasNothing s n = (p : ℕ) → ((s.page p).entry.refs n ≡ false) × Without (s.page p).entry.latch n

abbrev pub back : ℕ → Pages → Pages
back n s = record s { page = λ p. returned (s.page p) n }

-- the RW's log when the RW goes down
abbrev pub lost_in : {G : Type 0} → Phase → Log G → Log G
lost_in Open k = crashed k
lost_in _ k = k

abbrev pub log_without : {G : Type 0} → (n rw : ℕ) → Log G → Log G
log_without n rw k = if nat_eq n rw then lost_in k.phase k else k

-- and when besides its append is handled no more
abbrev pub renewed_in : {G : Type 0} → Phase → Log G → Log G
renewed_in Open k = ended (crashed k)
renewed_in Down k = ended k
renewed_in Stopped k = k
renewed_in Tailed k = k

-- nodes crash and are kicked
abbrev pub AreLosses : {Q R : Type 0} → List (CallEvent Q R) → Type 0
AreLosses [] = Unit {0}
AreLosses (CrashCaller n ∷ es) = AreLosses es
AreLosses (KickCaller n ∷ es) = AreLosses es
AreLosses (_ ∷ es) = ⊥

-- ---------------- the events: from a pool as the messages show it

abbrev pub Does : {G : Type 0} → (G → ℕ) → Event G → Pool G → Pool G → Type 0
Does size (Work e) x y = IsWork e × ((t : Pages) × PagesDo e x.pages t × (y ≡ record x { pages = t }))
Does size (Install n ps images g) x y =
    (x.log.phase ≡ Open)
    × ((t : Pages) × PagesDo (Act n ps (λ p. InstallImage (images p))) x.pages t
    × (y ≡ record x { pages = t; log = installed x.log g }))
Does size (SendRegister n p) x y =
    (x.pages.mode ≡ Normal) × (((x.pages.page p).node n).up ≡ true)
    × (wants_register ((x.pages.page p).node n).step ≡ true)
    × ((h : Network HomeCall HomeAnswer) × Sends n (RegisterPage p) x.home h × (y ≡ record x { home = h }))
Does size (SendUnregister n p) x y =
    (x.pages.mode ≡ Normal) × (((x.pages.page p).node n).up ≡ true) × (((x.pages.page p).node n).leaving ≡ true)
    × ((h : Network HomeCall HomeAnswer) × Sends n (UnregisterPage p) x.home h
    × (y ≡ record x { home = h; pages = at_pages (only p) (λ P. set_node P n (parted (P.node n))) x.pages }))
Does size (SendInvalidate n ps) x y =
    (x.pages.mode ≡ Normal) × ((p : ℕ) → ps p ≡ true → Stands x.pages n p PlanInvalidate)
    × ((h : Network HomeCall HomeAnswer) × Sends n (InvalidatePages ps) x.home h × (y ≡ record x { home = h }))
Does {G = G} size (SendGet n p floor) x y =
    (x.pages.mode ≡ Normal) × Stands x.pages n p (Get floor)
    × ((d : Network (StorageCall G) StorageAnswer) × Sends n (GetPage p floor) x.storage d
    × (y ≡ record x { storage = d }))
Does {G = G} size (SendAppend n) x y =
    (x.log.phase ≡ Open) × (n ≡ x.pages.rw) × (x.log.buffer ≢ []) × ((x.storage.caller n).epoch ≡ x.log.epoch)
    × ((d : Network (StorageCall G) StorageAnswer) × Sends n (AppendGroups x.log.next x.log.buffer) x.storage d
    × (y ≡ record x { storage = d; log = sending size x.log }))
Does size (DeliverHome m) x y =
    (f : Effect HomeCall HomeAnswer) × (h : Network HomeCall HomeAnswer) × (t : Pages)
    × CallsDo (Deliver m) x.home f h × Serves f x.pages t × (y ≡ record x { home = h; pages = t })
Does {G = G} size (DeliverStorage m) x y =
    (f : Effect (StorageCall G) StorageAnswer) × (d : Network (StorageCall G) StorageAnswer) × (t : Pages) × (l : Log G)
    × CallsDo (Deliver m) x.storage f d × Stores size f x.pages x.log t l
    × (y ≡ record x { storage = d; pages = t; log = l })
Does {G = G} size (Crash n) x y =
    (h : Network HomeCall HomeAnswer) × (d : Network (StorageCall G) StorageAnswer) × (t : Pages)
    × Calls (CrashCaller n) x.home h × Calls (CrashCaller n) x.storage d
    × (PagesDo (CrashPages n) x.pages t ⊎ (IsUp x.pages n false × (t ≡ x.pages)))
    × (y ≡ record { pages = t; home = h; storage = d; log = log_without n x.pages.rw x.log })
Does {G = G} size (Kick n) x y =
    (h : Network HomeCall HomeAnswer) × (d : Network (StorageCall G) StorageAnswer) × (t : Pages)
    × Calls (KickCaller n) x.home h × Calls (KickCaller n) x.storage d × PagesDo (KickPages n) x.pages t
    × (y ≡ record x { pages = t; home = h; storage = d })
Does {G = G} size (Restart n e) x y =
    (h : Network HomeCall HomeAnswer) × (d : Network (StorageCall G) StorageAnswer)
    × Calls (RestartCaller n e) x.home h × Calls (RestartCaller n e) x.storage d
    × IsUp x.pages n false × HasNothing x.pages n × (y ≡ record x { pages = back n x.pages; home = h; storage = d })
Does {G = G} size (Rejoin n e) x y =
    (h : Network HomeCall HomeAnswer) × (d : Network (StorageCall G) StorageAnswer)
    × Calls (RejoinCaller n e) x.home h × Calls (RejoinCaller n e) x.storage d
    × (x.pages.mode ≡ Normal) × IsUp x.pages n false × HasNothing x.pages n
    × (y ≡ record x { pages = back n x.pages; home = h; storage = d })
Does size CrashHome x y =
    (h : Network HomeCall HomeAnswer) × (t : Pages) × Calls CrashServer x.home h × PagesDo CrashTables x.pages t
    × (y ≡ record x { pages = t; home = h })
Does {G = G} size (Renew ds e fs es) x y =
    (g : Network HomeCall HomeAnswer) × (h : Network HomeCall HomeAnswer) × (d : Network (StorageCall G) StorageAnswer) × (t : Pages)
    × AreLosses fs × CallsRun x.home fs g × Calls (RenewServer e) g h × AreLosses es × CallsRun x.storage es d × ((n : ℕ) → stage_of d n ≡ NoCall)
    × PagesDo (RenewPages ds) x.pages t
    × (y ≡ record { pages = t; home = h; storage = d; log = renewed_in x.log.phase x.log })
Does {G = G} size (Fence e) x y =
    (h : Network HomeCall HomeAnswer) × (d : Network (StorageCall G) StorageAnswer) × (t : Pages) × (l : Log G)
    × Calls (FenceCalls e) x.home h × Calls (FenceCalls e) x.storage d × PagesDo FencePages x.pages t
    × LogDoes size (FenceLog e) x.log l × (y ≡ record { pages = t; home = h; storage = d; log = l })
Does {G = G} size Tail x y =
    (t : Pages) × (l : Log G) × PagesDo (TailPages (length x.log.store.groups)) x.pages t × LogDoes size TailLog x.log l
    × (y ≡ record x { pages = t; log = l })
Does {G = G} size (Sweep n) x y =
    (t : Pages) × (l : Log G) × PagesDo (SweepPages n) x.pages t × LogDoes size SweepLog x.log l
    × (y ≡ record x { pages = t; log = l })

abbrev pub Happens : {G : Type 0} → (G → ℕ) → Event G → Pool G → Pool G → Type 0
Happens {G = G} size e x y = (z : Pool G) × Does size e (seen x) z × (y ≡ bare z)

abbrev pub Run : {G : Type 0} → (G → ℕ) → Pool G → List (Event G) → Pool G → Type 0
Run size x [] y = y ≡ x
Run {G = G} size x (e ∷ es) y = (mid : Pool G) × Happens size e x mid × Run size mid es y

-- node r is the RW over this log, which gives the pages these histories
abbrev pub start : {G : Type 0} → (G → ℕ) → ℕ → List G → (ℕ → List Image) → Pool G
start size r log histories = record {
  pages = start_pages r (length log) histories;
  home = new_network;
  storage = new_network;
  log = start_log size log;
}
