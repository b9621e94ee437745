-- For the proofs: how calls look from a page, and which calls a step rules out.
use Rattle.std.proofs.Common.{◌≡◌, ◌≢◌, ℕ, true, false, refl, sym, ap, ◌∙◌, arith}
use Rattle.node_model.specs.Step.{Step, Step.Idle, Step.Get, Step.PlanInvalidate, wants_register}
use Rattle.node_model.specs.Call.{Call, Call.Quiet, Call.AskGet, is_told}
use Rattle.node_model.specs.Node.{Node}
use Rattle.page_coherence.specs.Page.{Page}
use Rattle.page_coherence.specs.Invariant.{CallNeeds, waits_image}
use Rattle.call_model.specs.Stages.{Stage, Stage.Quiet as NoCall, Stage.Asked, Stage.Handled}
use Rattle.redo_durability.specs.Machine.{Append.NoAppend}
use Rattle.pool_laws.specs.Calls.{HomeCall, HomeCall.RegisterPage, HomeCall.UnregisterPage, HomeCall.InvalidatePages, HomeAnswer, HomeAnswer.Registered, HomeAnswer.PoolFull, HomeAnswer.Unregistered, HomeAnswer.Done, HomeAnswer.Started, StorageCall, StorageCall.GetPage, StorageCall.AppendGroups, StorageAnswer, StorageAnswer.GotImage, StorageAnswer.NotYet, StorageAnswer.Appended, only, about, asks_home, told_register, told_invalidate, told_home, told_get, home_part, storage_part, over, append_seen, has_append}

pub over-quiet : (c : Call) → over c Quiet ≡ c
over-quiet c = grind arith

pub over-left : (c d : Call) → c ≢ Quiet → over c d ≡ c
over-left c d h = grind arith

pub asks-some : (q : HomeCall) → asks_home q ≢ Quiet
asks-some (RegisterPage p) e = cc
asks-some (UnregisterPage p) e = cc
asks-some (InvalidatePages ps) e = cc

register-told : (r : HomeAnswer) → is_told (told_register r) ≡ true
register-told (Registered a) = refl
register-told PoolFull = refl
register-told Unregistered = refl
register-told Done = refl
register-told Started = refl

invalidate-told : (r : HomeAnswer) → is_told (told_invalidate r) ≡ true
invalidate-told (Registered a) = refl
invalidate-told PoolFull = refl
invalidate-told Unregistered = refl
invalidate-told Done = refl
invalidate-told Started = refl

pub home-told : (q : HomeCall) (r : HomeAnswer) → is_told (told_home q r) ≡ true
home-told (RegisterPage p) r = register-told r
home-told (UnregisterPage p) r = refl
home-told (InvalidatePages ps) r = invalidate-told r

pub told-some : (c : Call) → is_told c ≡ true → c ≢ Quiet
told-some c h e = let z : is_told c ≡ false = ap is_told e in let w : true ≡ false = sym h ∙ z in absurd Prim.cc

pub get-told : (r : StorageAnswer) → is_told (told_get r) ≡ true
get-told (GotImage v) = refl
get-told NotYet = refl
get-told (Appended a) = refl

-- ---- the home's part
pub part-asked : (p : ℕ) (q : HomeCall) → about q p ≡ true → home_part p (Asked q) ≡ asks_home q
part-asked p q e = rw e refl

pub part-not_asked : (p : ℕ) (q : HomeCall) → about q p ≡ false → home_part p (Asked q) ≡ Quiet
part-not_asked p q e = rw e refl

pub part-handled : (p : ℕ) (q : HomeCall) (r : HomeAnswer) → about q p ≡ true → home_part p (Handled q r) ≡ told_home q r
part-handled p q r e = rw e refl

pub part-not_handled : (p : ℕ) (q : HomeCall) (r : HomeAnswer) → about q p ≡ false → home_part p (Handled q r) ≡ Quiet
part-not_handled p q r e = rw e refl

-- ---- storage's part
pub get-asked : (G : Type 0) (p q f : ℕ) → only q p ≡ true → storage_part {G = G} p (Asked (GetPage q f)) ≡ AskGet f
get-asked G p q f e = rw e refl

pub get-not_asked : (G : Type 0) (p q f : ℕ) → only q p ≡ false → storage_part {G = G} p (Asked (GetPage q f)) ≡ Quiet
get-not_asked G p q f e = rw e refl

pub get-handled : (G : Type 0) (p q f : ℕ) (r : StorageAnswer) → only q p ≡ true → storage_part {G = G} p (Handled (GetPage q f) r) ≡ told_get r
get-handled G p q f r e = rw e refl

pub get-not_handled : (G : Type 0) (p q f : ℕ) (r : StorageAnswer) → only q p ≡ false → storage_part {G = G} p (Handled (GetPage q f) r) ≡ Quiet
get-not_handled G p q f r e = rw e refl

module _ {G : Type 0} where
  -- no append is under way
  pub none-appended : (e : ℕ) (d : Stage (StorageCall G) StorageAnswer) → has_append d ≡ false → append_seen e d ≡ NoAppend
  none-appended e NoCall h = refl
  none-appended e (Asked (GetPage q f)) h = refl
  none-appended e (Asked (AppendGroups o gs)) h = absurd Prim.cc
  none-appended e (Handled (GetPage q f) r) h = refl
  none-appended e (Handled (AppendGroups o gs) (GotImage v)) h = refl
  none-appended e (Handled (AppendGroups o gs) NotYet) h = refl
  none-appended e (Handled (AppendGroups o gs) (Appended a)) h = absurd Prim.cc

  pub some-appended : (e : ℕ) (d : Stage (StorageCall G) StorageAnswer) → append_seen e d ≡ NoAppend → has_append d ≡ false
  some-appended e NoCall h = refl
  some-appended e (Asked (GetPage q f)) h = refl
  some-appended e (Asked (AppendGroups o gs)) h = absurd Prim.cc
  some-appended e (Handled (GetPage q f) r) h = refl
  some-appended e (Handled (AppendGroups o gs) (GotImage v)) h = refl
  some-appended e (Handled (AppendGroups o gs) NotYet) h = refl
  some-appended e (Handled (AppendGroups o gs) (Appended a)) h = absurd Prim.cc

  -- a call to storage that a step rules out
  pub no_get : (r : ℕ) (P : Page) (n p : ℕ) (N : Node) (d : Stage (StorageCall G) StorageAnswer) → N.call ≡ storage_part p d
      → CallNeeds r P n N N.call → waits_image N.step ≡ false → N.call ≡ Quiet
  no_get r P n p N d e c w = grind arith

-- a call to the home that a step rules out
pub no_home : (r : ℕ) (P : Page) (n p f : ℕ) (N : Node) (c : Stage HomeCall HomeAnswer) → N.call ≡ home_part p c
    → CallNeeds r P n N N.call → N.step ≡ Get f → N.call ≡ Quiet
no_home r P n p f N c e k w = grind arith

pub register-waits : (st : Step) → wants_register st ≡ true → waits_image st ≡ false
register-waits st h = grind arith

pub invalidate-waits : (st : Step) → st ≡ PlanInvalidate → waits_image st ≡ false
invalidate-waits st h = grind arith

pub idle-waits : (st : Step) → st ≡ Idle → waits_image st ≡ false
idle-waits st h = grind arith
