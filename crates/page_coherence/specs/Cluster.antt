-- Stated: all pages together, what each event of the cluster does to them, and every list of events.
use Rattle.std.specs.Prelude.{◌≡◌, ◌≢◌, ◌≤◌, ℕ, Bool, true, false, Some, None, List, [], ◌∷◌, if◌then◌else◌}
use Rattle.home_model.specs.Numbered.{put}
use Rattle.home_model.specs.Latch.{Without}
use Rattle.home_model.specs.Entry.{Entry, no_entry, takes_slot, kicked, dropped, raised, swept}
use Rattle.page_image.specs.Image.{Image}
use Rattle.node_model.specs.Slots.{Slots, empty_slots, written, died, lost}
use Rattle.node_model.specs.Call.{Call.Quiet}
use Rattle.node_model.specs.Node.{Node, blank}
use Rattle.page_coherence.specs.History.{current, cut_to}
use Rattle.page_coherence.specs.Page.{Page, set_node, set_entry, new_page}
use Rattle.page_coherence.specs.Mode.{Mode, Mode.Normal, Mode.Fenced, Mode.Tailed, Mode.Renewed, fence_mode}
use Rattle.page_coherence.specs.Moves.{Move, Moves, Move.DoWrite, Move.HandleRegister, is_calm, asks_home}

pub record State : Type 0 where
  pub mode : Mode
  pub rw : ℕ
  pub watermark : ℕ
  pub home_up : Bool
  pub slots : Slots  -- of all slabs
  pub page : ℕ → Page

pub data Event : Type 0 where
  Act : (n : ℕ) (ps : ℕ → Bool) (move : ℕ → Move) → Event  -- node n's moves, one at each of these pages
  Write : (n p a : ℕ) → Event  -- node n writes its image of page p to the slot at a
  Enter : (n p a : ℕ) → Event  -- `register` of p by n is handled; a is the slot that is taken, if one is
  Remove : (p : ℕ) → Event  -- the home gives the entry of p away
  LoseSlots : (ds : ℕ → Bool) → Event  -- a slab goes down, and these addresses with it
  DropSlab : (ps : ℕ → Bool) → Event  -- the home drops a slab that is down, where these pages stood
  Crash : (n : ℕ) → Event
  Kick : (n : ℕ) → Event  -- the home strikes a node that is down
  Restart : (n : ℕ) → Event
  CrashHome : Event
  Renew : (ds : ℕ → Bool) → Event  -- the home begins anew, and every slab with it: these addresses are lost
  Fence : Event
  Tail : (t : ℕ) → Event  -- the log ends at this LSN
  Sweep : (n : ℕ) → Event  -- node n is the RW from here on
  Rejoin : (n : ℕ) → Event  -- a node that a takeover stopped goes on

-- ---------------- what an event does to a page

abbrev pub removed : Page → Page
removed P = set_entry P no_entry

-- the watermark after the entry was given away
abbrev pub raised_by : Page → ℕ → ℕ
raised_by P w = raised P.entry w

abbrev pub lost_at : Page → (ℕ → Bool) → Page
lost_at P ds = record P { dead = lost P.dead ds }

abbrev pub dropped_at : Page → Page
dropped_at P = set_entry P (dropped P.entry)

-- the node loses its memory; what it sent may still be handled
abbrev pub crashed : Page → ℕ → Page
crashed P n = set_node P n (blank false (P.node n).call)

-- nothing that the node sent is handled any more
abbrev pub kicked_at : Page → ℕ → Page
kicked_at P n = record P { entry = kicked P.entry n; node = put P.node n (blank false Quiet) }

abbrev pub returned : Page → ℕ → Page
returned P n = set_node P n (blank true Quiet)

abbrev pub stopped_all : ℕ → Node
stopped_all n = blank false Quiet

abbrev pub fenced : Page → Page
fenced P = record P { node = stopped_all }

abbrev pub cut : Page → ℕ → Page
cut P tail = record P { log = cut_to tail P.log }

abbrev pub swept_at : Page → ℕ → Page
swept_at P tail = set_entry P (swept P.entry tail)

abbrev pub renewed : Page → (ℕ → Bool) → Page
renewed P ds = record P { entry = no_entry; dead = lost P.dead ds; node = stopped_all }

-- ---------------- when an event may come

-- no entry has the address
abbrev pub IsFree : State → ℕ → Type 0
IsFree s a = (q : ℕ) → (s.page q).entry.address ≢ Some a

-- a node is up, or down, at every page
abbrev pub IsUp : State → ℕ → Bool → Type 0
IsUp s n up = (p : ℕ) → ((s.page p).node n).up ≡ up

-- nothing of a node that was down or stopped is left at the home or under way
abbrev pub IsReleased : Page → ℕ → Type 0
IsReleased P n = (P.entry.refs n ≡ false) × Without P.entry.latch n × ((P.node n).call ≡ Quiet)

-- nobody refers to the page, and its latch is free
abbrev pub IsUnused : Entry → Type 0
IsUnused E = ((n : ℕ) → E.refs n ≡ false) × ((n : ℕ) → E.latch.shared n ≡ false) × (E.latch.exclusive ≡ None)

-- the tail is found after a Fence or a renewal; one that is found again, without a Sweep between, has no group more
abbrev pub MayTail : Mode → ℕ → Type 0
MayTail Normal t = ⊥
MayTail Fenced t = Unit {0}
MayTail (Tailed before) t = t ≤ before
MayTail Renewed t = Unit {0}

abbrev pub Returns : ℕ → State → State → Type 0
Returns n s t = IsUp s n false × ((p : ℕ) → IsReleased (s.page p) n) × (t ≡ record s { page = λ p. returned (s.page p) n })

-- a move that neither writes nor takes a slot, with the home where it takes part
abbrev pub Makes : State → ℕ → Move → Page → Page → Type 0
Makes s n move P Q = (is_calm move ≡ true) × (asks_home move ≡ true → s.home_up ≡ true) × Moves s.rw s.watermark n move P Q

-- ---------------- the events

abbrev pub Happens : Event → State → State → Type 0
Happens (Act n ps move) s t =
    (s.mode ≡ Normal)
    × ((new : ℕ → Page) × ((p : ℕ) → ps p ≡ true → Makes s n (move p) (s.page p) (new p))
    × ((p : ℕ) → ps p ≡ false → new p ≡ s.page p) × (t ≡ record s { page = new }))
Happens (Write n p a) s t =
    (s.mode ≡ Normal) × (((s.page p).node n).address ≡ Some a) × (s.slots.dead a ≡ false)
    × ((Q : Page) × Moves s.rw s.watermark n DoWrite (s.page p) Q
    × (t ≡ record s { slots = written s.slots a Q.slot; page = put s.page p Q }))
Happens (Enter n p a) s t =
    (s.mode ≡ Normal) × (s.home_up ≡ true)
    × (takes_slot (s.page p).entry ≡ true → (s.slots.dead a ≡ false) × IsFree s a)
    × ((Q : Page) × Moves s.rw s.watermark n (HandleRegister a (s.slots.holds a)) (s.page p) Q
    × (t ≡ record s { page = put s.page p Q }))
Happens (Remove p) s t =
    (s.mode ≡ Normal) × (s.home_up ≡ true) × IsUnused (s.page p).entry × ((s.page p).entry.there ≡ true)
    × (t ≡ record s { watermark = raised_by (s.page p) s.watermark; page = put s.page p (removed (s.page p)) })
Happens (LoseSlots ds) s t = t ≡ record s { slots = died s.slots ds; page = λ p. lost_at (s.page p) ds }
Happens (DropSlab ps) s t =
    (s.home_up ≡ true)
    × ((p : ℕ) → ps p ≡ true → (a : ℕ) × ((s.page p).entry.address ≡ Some a) × (s.slots.dead a ≡ true))
    × (t ≡ record s { page = λ p. if ps p then dropped_at (s.page p) else s.page p })
Happens (Crash n) s t = IsUp s n true × (t ≡ record s { page = λ p. crashed (s.page p) n })
Happens (Kick n) s t =
    (s.home_up ≡ true) × (n ≢ s.rw) × IsUp s n false × (t ≡ record s { page = λ p. kicked_at (s.page p) n })
Happens (Restart n) s t = Returns n s t
Happens CrashHome s t = (s.home_up ≡ true) × (t ≡ record s { home_up = false })
Happens (Renew ds) s t =
    (s.home_up ≡ false)
    × (t ≡ record s { mode = Renewed; home_up = true; slots = died s.slots ds; page = λ p. renewed (s.page p) ds })
Happens Fence s t = (s.home_up ≡ true) × (t ≡ record s { mode = fence_mode s.mode; page = λ p. fenced (s.page p) })
Happens (Tail l) s t = MayTail s.mode l × (t ≡ record s { mode = Tailed l; page = λ p. cut (s.page p) l })
Happens (Sweep n) s t =
    (s.home_up ≡ true) × (l : ℕ) × (s.mode ≡ Tailed l)
    × (t ≡ record s { mode = Normal; rw = n; watermark = l; page = λ p. swept_at (s.page p) l })
Happens (Rejoin n) s t = (s.mode ≡ Normal) × Returns n s t

abbrev pub Run : State → List Event → State → Type 0
Run s [] t = t ≡ s
Run s (e ∷ es) t = (mid : State) × Happens e s mid × Run mid es t

-- the cluster at its start: node r is the RW, the log that stands has these histories, and w is its end
abbrev pub start : ℕ → ℕ → (ℕ → List Image) → State
start r w histories = record {
  mode = Normal;
  rw = r;
  watermark = w;
  home_up = true;
  slots = empty_slots;
  page = λ p. record (new_page p) { log = histories p };
}

abbrev pub MayStart : ℕ → (ℕ → List Image) → Type 0
MayStart w histories = (p : ℕ) → (current p (histories p)).lsn ≤ w

-- a state that some list of events reaches
abbrev pub Reached : State → Type 0
Reached t =
    (r : ℕ) × (w : ℕ) × (histories : ℕ → List Image) × (events : List Event)
    × MayStart w histories × Run (start r w histories) events t
