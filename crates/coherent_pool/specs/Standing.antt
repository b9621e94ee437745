-- For the proofs: where a fetch stands.
use Rattle.std.specs.Prelude.{Bool, true, false}
use Rattle.fetch_steps.specs.declared.place.Place.{Place}
use Rattle.fetch_steps.specs.declared.place.Place.TheVariants.{Register, LatchS, Look, Read, ReleaseS, LatchX, LookAgain, BackToS, LookBack, Get, Write, Clean, LastS, Held, ReleaseDown, ReleaseEnd, Done, RwLook, RwRead, RwBack, RwLookBack, RwEnd}
use Rattle.fetch_steps.specs.declared.acts.Action.{Action}
use Rattle.fetch_steps.specs.declared.acts.Action.TheVariants.{Register as AskRegister, Latch as Try, Release as LetGo, Look as LookUp, Read as ReadSlot, Get as AskGet, Write as WriteSlot, Clean as CleanUp, Finished}
use Rattle.page_latches.specs.declared.latch.Mode.TheVariants.{S, X}
use Rattle.coherent_pool.specs.declared.wanting.Wants.{Wants}
use Rattle.coherent_pool.specs.declared.works.FetchWork.{FetchWork}
use Rattle.coherent_pool.specs.declared.works.Stage.{Stage}
use Rattle.coherent_pool.specs.declared.works.Stage.TheVariants.{Fetching, Held as AtHeld, Releasing, Over, Latching, Invalidating, Installing, Writing, Cleaning, Entering, Freeing}

abbrev pub is_register : Place → Bool
is_register Register = true
is_register place = false

abbrev pub is_read : Place → Bool
is_read Read = true
is_read RwRead = true
is_read place = false

abbrev pub is_done : Place → Bool
is_done Done = true
is_done place = false

-- the act is of that kind
abbrev pub asks_register : Action → Bool
asks_register (AskRegister p) = true
asks_register act = false

abbrev pub asks_read : Action → Bool
asks_read (ReadSlot p a) = true
asks_read act = false

abbrev pub asks_nothing : Action → Bool
asks_nothing Finished = true
asks_nothing act = false

-- what an act asks for, and a fetch at a place
abbrev pub kind_of : Action → Wants
kind_of (AskRegister p) = Wants.Register
kind_of (Try p S) = Wants.Share
kind_of (Try p X) = Wants.Exclude
kind_of (LetGo p) = Wants.Release
kind_of (LookUp p) = Wants.Look
kind_of (ReadSlot p a) = Wants.Read
kind_of (AskGet p floor) = Wants.Get
kind_of (WriteSlot p a) = Wants.Write
kind_of (CleanUp p lsn) = Wants.Clean
kind_of act = Wants.Nothing

abbrev pub wants_at : Place → Wants
wants_at Register = Wants.Register
wants_at LatchS = Wants.Share
wants_at Look = Wants.Look
wants_at Read = Wants.Read
wants_at ReleaseS = Wants.Release
wants_at LatchX = Wants.Exclude
wants_at LookAgain = Wants.Look
wants_at BackToS = Wants.Share
wants_at LookBack = Wants.Look
wants_at Get = Wants.Get
wants_at Write = Wants.Write
wants_at Clean = Wants.Clean
wants_at LastS = Wants.Share
wants_at Held = Wants.Nothing
wants_at ReleaseDown = Wants.Release
wants_at ReleaseEnd = Wants.Release
wants_at Done = Wants.Nothing
wants_at RwLook = Wants.Look
wants_at RwRead = Wants.Read
wants_at RwBack = Wants.Release
wants_at RwLookBack = Wants.Look
wants_at RwEnd = Wants.Release

abbrev pub wants_staged : Stage → Place → Wants
wants_staged Fetching place = wants_at place
wants_staged Releasing place = Wants.Release
wants_staged Latching place = Wants.Exclude
wants_staged Invalidating place = Wants.Invalidate
wants_staged Installing place = Wants.Install
wants_staged Writing place = Wants.WriteCopy
wants_staged Cleaning place = Wants.CleanCopy
wants_staged Entering place = Wants.RegisterAgain
wants_staged Freeing place = Wants.Release
wants_staged stage place = Wants.Nothing

abbrev pub wants_in : FetchWork → Wants
wants_in w = wants_staged w.stage w.step.place

-- both ask for the same
abbrev pub same_wants : Wants → Wants → Bool
same_wants Wants.Register Wants.Register = true
same_wants Wants.Share Wants.Share = true
same_wants Wants.Exclude Wants.Exclude = true
same_wants Wants.Release Wants.Release = true
same_wants Wants.Look Wants.Look = true
same_wants Wants.Read Wants.Read = true
same_wants Wants.Get Wants.Get = true
same_wants Wants.Write Wants.Write = true
same_wants Wants.Clean Wants.Clean = true
same_wants Wants.Invalidate Wants.Invalidate = true
same_wants Wants.Install Wants.Install = true
same_wants Wants.WriteCopy Wants.WriteCopy = true
same_wants Wants.CleanCopy Wants.CleanCopy = true
same_wants Wants.RegisterAgain Wants.RegisterAgain = true
same_wants Wants.Nothing Wants.Nothing = true
same_wants a b = false

-- a fetch that asks for this, or was given up, takes an answer
abbrev pub takes_at : Stage → Place → Wants → Bool
takes_at Fetching place wanted = same_wants (wants_at place) wanted
takes_at AtHeld place wanted = false
takes_at Releasing place wanted = true
takes_at Over place wanted = true
takes_at stage place wanted = same_wants (wants_staged stage place) wanted
