-- Stated: the moves of the parts at one page. An access that is made and seen is its Try or Do and then its See; one that
-- is made and not seen is the first alone; one that is lost is neither.
use Rattle.std.specs.Prelude.{◌≡◌, ◌≢◌, ◌⊎◌, ℕ, Bool, true, false, Some, None, [], ◌∷◌, if◌then◌else◌, nat_le}
use Rattle.home_model.specs.Numbered.{put}
use Rattle.home_model.specs.Latch.{may_share, MayExclude, Without}
use Rattle.home_model.specs.Entry.{registered, unregistered, invalidated, struck, cleaned, shared_by, excluded_by, released_by, takes_slot, told_address, due_beside}
use Rattle.page_image.specs.Image.{Image, unmade}
use Rattle.node_model.specs.Step.{Step.Idle, Step.Look, Step.Read, Step.LookAgain, Step.Get, Step.Write, Step.Clean, Step.Held, Step.ReleaseDown, Step.ReleaseEnd, Step.RwLook, Step.RwRead, Step.PlanLatch, Step.PlanInvalidate, Step.PlanInstall, Step.PlanWrite, Step.PlanClean, wants_s, wants_x, wants_release, wants_register, may_give_up}
use Rattle.node_model.specs.Call.{Call, Call.Quiet, Call.AskRegister, Call.ToldRegistered, Call.ToldFull, Call.AskUnregister, Call.ToldUnregistered, Call.AskGet, Call.ToldImage, Call.ToldNotYet, Call.AskInvalidate, Call.ToldDone, Call.ToldStarted, is_told}
use Rattle.node_model.specs.Node.{counts_fresh}
use Rattle.node_model.specs.Learning.{stands, calls, begun, begun_make, made, evicted, parted, gives_up, installs, after_s, after_look, after_rw_look, after_look_again, after_x, after_read, after_rw_read, after_release, writes, after_write, cleans, after_clean, after_down, after_rw_down, after_plan_down, answered, made_stale}
use Rattle.page_coherence.specs.History.{image_at}
use Rattle.page_coherence.specs.Page.{Page, HasS, HasX, Alive, set_node, set_entry}

pub data Move : Type 0 where
  -- what a node does by itself
  Begin : Move  -- a fetch begins; the RW fetches what it has no copy or no address of
  SendRegister : Move
  SendGet : Move
  SendInvalidate : Move
  SendUnregister : Move
  Finish : Move  -- a finished fetch goes on to its release
  BeginMake : Move  -- a plan asks for a page that it makes
  BeginMade : Move  -- a plan begins with a page that it makes and that is registered
  BeginPlan : Move
  GiveUp : Move
  Evict : Move
  Install : (image : Image) → Move  -- a group with a record for the page joins the RW's log
  -- an access of a node to the home or a slab (Try, Do), and what the node learns of it (See)
  TryS : Move
  SeeS : Move
  SeeLook : Move
  SeeRwLook : Move
  DoRead : Move
  DoRwRead : Move
  DoRelease : Move
  SeeRelease : Move
  TryX : Move
  SeeX : Move
  SeeLookAgain : Move
  SeeNoAddress : Move
  DoWrite : Move
  SeeWrite : Move
  DoClean : Move  -- the home takes a clean only of a node that has the entry's address
  SeeClean : Move
  -- an access to a slab that is down, or that has another incarnation
  ReadDown : Move
  RwReadDown : Move
  WriteDown : Move
  PlanWriteDown : Move
  -- a server handles a call of a node, whether the node is up or not; the node accepts the answer
  HandleRegister : (fresh : ℕ) → (image : Image) → Move
  HandleFull : Move
  HandleUnregister : Move
  HandleGet : (applied : ℕ) → Move
  HandleInvalidate : (done : Bool) → Move
  Accept : Move
  -- the home sets the local bit of a node that is due
  HomeTurn : Move

-- a move that neither writes a slot nor takes one
abbrev pub is_calm : Move → Bool
is_calm DoWrite = false
is_calm (HandleRegister a v) = false
is_calm _ = true

-- a move in which the home takes part
abbrev pub asks_home : Move → Bool
asks_home TryS = true
asks_home SeeS = true
asks_home SeeLook = true
asks_home SeeRwLook = true
asks_home DoRelease = true
asks_home SeeRelease = true
asks_home TryX = true
asks_home SeeX = true
asks_home SeeLookAgain = true
asks_home SeeNoAddress = true
asks_home DoClean = true
asks_home SeeClean = true
asks_home (HandleRegister a v) = true
asks_home HandleFull = true
asks_home HandleUnregister = true
asks_home (HandleInvalidate b) = true
asks_home HomeTurn = true
asks_home _ = false

-- ---------------- changes of more than one part

-- the page's history grows by the image that the plan installs
abbrev pub installed : Page → ℕ → Image → Page
installed P n image = record P { log = image ∷ P.log; node = put P.node n (installs (P.node n) image) }

-- a slot that is taken holds what stood there
abbrev pub handled_register : Page → ℕ → ℕ → Image → ℕ → Page
handled_register P w fresh image n = record P {
  entry = registered P.entry w fresh n;
  slot = if takes_slot P.entry then image else P.slot;
  node = put P.node n (calls (P.node n) (ToldRegistered (told_address P.entry fresh)));
}

abbrev pub handled_unregister : Page → ℕ → Page
handled_unregister P n = record P {
  entry = unregistered P.entry n;
  node = put P.node n (calls (P.node n) ToldUnregistered);
}

-- storage has the page at the LSN that it applied; it answers where that is the floor or later
abbrev pub answer_get : Page → ℕ → ℕ → Call
answer_get P floor applied = if nat_le floor applied then ToldImage (image_at P.number P.log applied) else ToldNotYet

-- the nodes whose local bit of the page is not set
abbrev pub fresh_of : Page → ℕ → Bool
fresh_of P m = counts_fresh (P.node m)

abbrev pub handled_invalidate : Page → ℕ → Bool → Page
handled_invalidate P n done = record P {
  entry = invalidated P.entry (fresh_of P) n;
  node = put P.node n (calls (P.node n) (if done then ToldDone else ToldStarted));
}

abbrev pub turned : Page → ℕ → Page
turned P n = record P { entry = struck P.entry n; node = put P.node n (made_stale (P.node n)) }

-- a move of node n leads from P to Q, where r is the RW and w the watermark
abbrev pub Moves : ℕ → ℕ → ℕ → Move → Page → Page → Type 0
Moves r w n Begin P Q =
    ((P.node n).up ≡ true) × ((P.node n).step ≡ Idle)
    × (n ≡ r → ((P.node n).copy ≡ None) ⊎ ((P.node n).address ≡ None)) × (Q ≡ set_node P n (begun r n (P.node n)))
Moves r w n SendRegister P Q =
    ((P.node n).up ≡ true) × (wants_register (P.node n).step ≡ true) × ((P.node n).call ≡ Quiet)
    × (Q ≡ set_node P n (calls (P.node n) AskRegister))
Moves r w n SendGet P Q =
    ((P.node n).up ≡ true) × (f : ℕ) × ((P.node n).step ≡ Get f) × ((P.node n).call ≡ Quiet)
    × (Q ≡ set_node P n (calls (P.node n) (AskGet f)))
Moves r w n SendInvalidate P Q =
    ((P.node n).up ≡ true) × ((P.node n).step ≡ PlanInvalidate) × ((P.node n).call ≡ Quiet)
    × (Q ≡ set_node P n (calls (P.node n) AskInvalidate))
Moves r w n SendUnregister P Q =
    ((P.node n).up ≡ true) × ((P.node n).leaving ≡ true) × ((P.node n).call ≡ Quiet)
    × (Q ≡ set_node P n (parted (P.node n)))
Moves r w n Finish P Q =
    ((P.node n).up ≡ true) × ((P.node n).step ≡ Held) × (Q ≡ set_node P n (stands (P.node n) ReleaseEnd))
Moves r w n BeginMake P Q =
    ((P.node n).up ≡ true) × (n ≡ r) × ((P.node n).step ≡ Idle) × ((P.node n).address ≡ None) × (P.log ≡ [])
    × (Q ≡ set_node P n (begun_make (P.node n)))
Moves r w n BeginMade P Q =
    ((P.node n).up ≡ true) × (n ≡ r) × ((P.node n).step ≡ Idle) × ((P.node n).kept ≡ true)
    × ((P.node n).copy ≡ None) × (P.log ≡ []) × (Q ≡ set_node P n (made (P.node n) (unmade P.number)))
Moves r w n BeginPlan P Q =
    ((P.node n).up ≡ true) × (n ≡ r) × ((P.node n).step ≡ Idle) × ((P.node n).copy ≢ None)
    × (Q ≡ set_node P n (stands (P.node n) PlanLatch))
Moves r w n GiveUp P Q =
    ((P.node n).up ≡ true) × (may_give_up (P.node n).step ≡ true) × (Q ≡ set_node P n (gives_up (P.node n)))
Moves r w n Evict P Q =
    ((P.node n).up ≡ true) × ((P.node n).step ≡ Idle) × ((P.node n).copy ≢ None)
    × (Q ≡ set_node P n (evicted (P.node n)))
Moves r w n (Install image) P Q =
    ((P.node n).up ≡ true) × ((P.node n).step ≡ PlanInstall) × (Q ≡ installed P n image)
Moves r w n TryS P Q =
    ((P.node n).up ≡ true) × (wants_s (P.node n).step ≡ true) × (may_share P.entry.latch n ≡ true)
    × (Q ≡ set_entry P (shared_by P.entry n))
Moves r w n SeeS P Q =
    ((P.node n).up ≡ true) × (wants_s (P.node n).step ≡ true) × HasS P n × (Q ≡ set_node P n (after_s (P.node n)))
Moves r w n SeeLook P Q =
    ((P.node n).up ≡ true) × ((P.node n).step ≡ Look) × (Q ≡ set_node P n (after_look P.entry.bit (P.node n)))
Moves r w n SeeRwLook P Q =
    ((P.node n).up ≡ true) × ((P.node n).step ≡ RwLook)
    × (Q ≡ set_node P n (stands (P.node n) (after_rw_look P.entry.bit)))
Moves r w n DoRead P Q =
    ((P.node n).up ≡ true) × ((P.node n).step ≡ Read) × Alive P (P.node n)
    × (Q ≡ set_node P n (after_read (P.node n) P.slot))
Moves r w n DoRwRead P Q =
    ((P.node n).up ≡ true) × ((P.node n).step ≡ RwRead) × Alive P (P.node n)
    × (Q ≡ set_node P n (after_rw_read (P.node n) P.slot))
Moves r w n DoRelease P Q =
    ((P.node n).up ≡ true) × (wants_release (P.node n).step ≡ true) × (Q ≡ set_entry P (released_by P.entry n))
Moves r w n SeeRelease P Q =
    ((P.node n).up ≡ true) × (wants_release (P.node n).step ≡ true) × Without P.entry.latch n
    × (Q ≡ set_node P n (after_release (P.node n)))
Moves r w n TryX P Q =
    ((P.node n).up ≡ true) × (wants_x (P.node n).step ≡ true) × MayExclude P.entry.latch n
    × (Q ≡ set_entry P (excluded_by P.entry n))
Moves r w n SeeX P Q =
    ((P.node n).up ≡ true) × (wants_x (P.node n).step ≡ true) × HasX P n
    × (Q ≡ set_node P n (stands (P.node n) (after_x (P.node n).step)))
Moves r w n SeeLookAgain P Q =
    ((P.node n).up ≡ true) × ((P.node n).step ≡ LookAgain) × (P.entry.address ≢ None)
    × (Q ≡ set_node P n (stands (P.node n) (after_look_again r n P.entry.bit P.entry.floor)))
Moves r w n SeeNoAddress P Q =
    ((P.node n).up ≡ true) × ((P.node n).step ≡ LookAgain) × (P.entry.address ≡ None)
    × (Q ≡ set_node P n (stands (P.node n) ReleaseDown))
Moves r w n DoWrite P Q =
    ((P.node n).up ≡ true) × (v : Image) × (writes (P.node n) ≡ Some v) × Alive P (P.node n)
    × (Q ≡ record P { slot = v })
Moves r w n SeeWrite P Q =
    ((P.node n).up ≡ true) × (v : Image) × (writes (P.node n) ≡ Some v) × (P.slot ≡ v)
    × (Q ≡ set_node P n (stands (P.node n) (after_write (P.node n).step)))
Moves r w n DoClean P Q =
    ((P.node n).up ≡ true) × (v : Image) × (cleans (P.node n) ≡ Some v) × (P.entry.address ≢ None)
    × (P.entry.address ≡ (P.node n).address) × (Q ≡ set_entry P (cleaned P.entry v.lsn))
Moves r w n SeeClean P Q =
    ((P.node n).up ≡ true) × (v : Image) × (cleans (P.node n) ≡ Some v) × (P.entry.bit ≡ false)
    × (P.entry.lsn ≡ v.lsn) × (Q ≡ set_node P n (stands (P.node n) (after_clean r n (P.node n).step)))
Moves r w n ReadDown P Q =
    ((P.node n).up ≡ true) × ((P.node n).step ≡ Read) × (Q ≡ set_node P n (after_down (P.node n)))
Moves r w n RwReadDown P Q =
    ((P.node n).up ≡ true) × ((P.node n).step ≡ RwRead) × (Q ≡ set_node P n (after_rw_down (P.node n)))
Moves r w n WriteDown P Q =
    ((P.node n).up ≡ true) × (v : Image) × (((P.node n).step ≡ Write v) ⊎ ((P.node n).step ≡ Clean v))
    × (Q ≡ set_node P n (after_down (P.node n)))
Moves r w n PlanWriteDown P Q =
    ((P.node n).up ≡ true) × (((P.node n).step ≡ PlanWrite) ⊎ ((P.node n).step ≡ PlanClean))
    × (Q ≡ set_node P n (after_plan_down (P.node n)))
Moves r w n (HandleRegister fresh image) P Q =
    ((P.node n).call ≡ AskRegister) × (takes_slot P.entry ≡ true → P.dead fresh ≡ false)
    × (Q ≡ handled_register P w fresh image n)
Moves r w n HandleFull P Q =
    ((P.node n).call ≡ AskRegister) × (Q ≡ set_node P n (calls (P.node n) ToldFull))
Moves r w n HandleUnregister P Q =
    ((P.node n).call ≡ AskUnregister) × (Q ≡ handled_unregister P n)
Moves r w n (HandleGet applied) P Q =
    (f : ℕ) × ((P.node n).call ≡ AskGet f) × (Q ≡ set_node P n (calls (P.node n) (answer_get P f applied)))
Moves r w n (HandleInvalidate done) P Q =
    ((P.node n).call ≡ AskInvalidate) × (P.entry.there ≡ true)
    × (done ≡ true → (m : ℕ) → due_beside P.entry (fresh_of P) n m ≡ false) × (Q ≡ handled_invalidate P n done)
Moves r w n Accept P Q =
    ((P.node n).up ≡ true) × (is_told (P.node n).call ≡ true) × (Q ≡ set_node P n (answered r n (P.node n)))
Moves r w n HomeTurn P Q =
    ((P.node n).up ≡ true) × (P.entry.due n ≡ true) × (Q ≡ turned P n)
