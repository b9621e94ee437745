-- Stated: what a page sees of a node's calls to the home and to storage.
use Rattle.std.specs.Prelude.{ℕ, Bool, true, false}
use Rattle.page_image.specs.Image.{Image}

-- a call about the page that is sent (Ask), or handled with an answer that the node did not accept yet (Told)
pub data Call : Type 0 where
  Quiet : Call
  AskRegister : Call
  ToldRegistered : ℕ → Call
  ToldFull : Call
  AskUnregister : Call
  ToldUnregistered : Call
  AskGet : ℕ → Call  -- storage is asked for the page at this floor or later
  ToldImage : Image → Call
  ToldNotYet : Call
  AskInvalidate : Call
  ToldDone : Call
  ToldStarted : Call

-- handled, and not accepted
abbrev pub is_told : Call → Bool
is_told (ToldRegistered a) = true
is_told ToldFull = true
is_told ToldUnregistered = true
is_told (ToldImage v) = true
is_told ToldNotYet = true
is_told ToldDone = true
is_told ToldStarted = true
is_told _ = false

-- the call of a fetch or a plan
abbrev pub is_of_work : Call → Bool
is_of_work Quiet = false
is_of_work AskUnregister = false
is_of_work ToldUnregistered = false
is_of_work _ = true
