-- Stated: the calls of nodes to the home and to storage with their answers, and how a call looks from one page.
use Rattle.std.specs.Prelude.{ℕ, Bool, true, false, List, if◌then◌else◌, nat_eq}
use Rattle.page_image.specs.Image.{Image}
use Rattle.node_model.specs.Call.{Call, Call.Quiet, Call.AskRegister, Call.ToldRegistered, Call.ToldFull, Call.AskUnregister, Call.ToldUnregistered, Call.AskGet, Call.ToldImage, Call.ToldNotYet, Call.AskInvalidate, Call.ToldDone, Call.ToldStarted}
use Rattle.call_model.specs.Stages.{Stage, Stage.Quiet as NoCall, Stage.Asked, Stage.Handled}
use Rattle.redo_durability.specs.Store.{Answer}
use Rattle.redo_durability.specs.Machine.{Append, Append.NoAppend, Append.Sent, Append.Answered}

pub data HomeCall : Type 0 where
  RegisterPage : (p : ℕ) → HomeCall
  UnregisterPage : (p : ℕ) → HomeCall
  InvalidatePages : (ps : ℕ → Bool) → HomeCall

pub data HomeAnswer : Type 0 where
  Registered : (address : ℕ) → HomeAnswer
  PoolFull : HomeAnswer
  Unregistered : HomeAnswer
  Done : HomeAnswer
  Started : HomeAnswer

-- groups are of any type
pub data StorageCall (G : Type 0) : Type 0 where
  GetPage : (p floor : ℕ) → StorageCall G
  AppendGroups : (offset : ℕ) → List G → StorageCall G

pub data StorageAnswer : Type 0 where
  GotImage : Image → StorageAnswer
  NotYet : StorageAnswer
  Appended : Answer → StorageAnswer

-- the pages that a call is about
abbrev pub only : ℕ → ℕ → Bool
only p q = nat_eq q p

abbrev pub about : HomeCall → ℕ → Bool
about (RegisterPage p) = only p
about (UnregisterPage p) = only p
about (InvalidatePages ps) = ps

-- ---------------- how a call looks from one of its pages

abbrev pub asks_home : HomeCall → Call
asks_home (RegisterPage p) = AskRegister
asks_home (UnregisterPage p) = AskUnregister
asks_home (InvalidatePages ps) = AskInvalidate

abbrev pub told_register : HomeAnswer → Call
told_register (Registered a) = ToldRegistered a
told_register _ = ToldFull

abbrev pub told_invalidate : HomeAnswer → Call
told_invalidate Done = ToldDone
told_invalidate _ = ToldStarted

abbrev pub told_home : HomeCall → HomeAnswer → Call
told_home (RegisterPage p) r = told_register r
told_home (UnregisterPage p) r = ToldUnregistered
told_home (InvalidatePages ps) r = told_invalidate r

abbrev pub told_get : StorageAnswer → Call
told_get (GotImage v) = ToldImage v
told_get _ = ToldNotYet

abbrev pub home_part : ℕ → Stage HomeCall HomeAnswer → Call
home_part p NoCall = Quiet
home_part p (Asked q) = if about q p then asks_home q else Quiet
home_part p (Handled q r) = if about q p then told_home q r else Quiet

abbrev pub storage_part : {G : Type 0} → ℕ → Stage (StorageCall G) StorageAnswer → Call
storage_part p NoCall = Quiet
storage_part p (Asked (GetPage q f)) = if only q p then AskGet f else Quiet
storage_part p (Asked (AppendGroups o gs)) = Quiet
storage_part p (Handled (GetPage q f) r) = if only q p then told_get r else Quiet
storage_part p (Handled (AppendGroups o gs) r) = Quiet

abbrev pub over : Call → Call → Call
over Quiet d = d
over c d = c

-- a node's call as page p sees it: the one to the home, or else the one to storage
abbrev pub call_seen : {G : Type 0} → ℕ → Stage HomeCall HomeAnswer → Stage (StorageCall G) StorageAnswer → Call
call_seen p c d = over (home_part p c) (storage_part p d)

-- a node's append as the log sees it, in epoch e
abbrev pub append_answered : {G : Type 0} → List G → StorageAnswer → Append G
append_answered gs (Appended a) = Answered gs a
append_answered gs _ = NoAppend

abbrev pub append_seen : {G : Type 0} → ℕ → Stage (StorageCall G) StorageAnswer → Append G
append_seen e NoCall = NoAppend
append_seen e (Asked (GetPage q f)) = NoAppend
append_seen e (Asked (AppendGroups o gs)) = Sent e o gs
append_seen e (Handled (GetPage q f) r) = NoAppend
append_seen e (Handled (AppendGroups o gs) r) = append_answered gs r

abbrev pub is_appended : StorageAnswer → Bool
is_appended (Appended a) = true
is_appended _ = false

-- the node has an append under way
abbrev pub has_append : {G : Type 0} → Stage (StorageCall G) StorageAnswer → Bool
has_append NoCall = false
has_append (Asked (GetPage q f)) = false
has_append (Asked (AppendGroups o gs)) = true
has_append (Handled (GetPage q f) r) = false
has_append (Handled (AppendGroups o gs) r) = is_appended r
