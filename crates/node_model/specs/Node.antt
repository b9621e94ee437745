-- Stated: what a node keeps of one page.
use Rattle.std.specs.Prelude.{ℕ, Bool, true, false, Option, None, not, if◌then◌else◌}
use Rattle.page_image.specs.Image.{Image}
use Rattle.node_model.specs.Step.{Step, Step.Idle}
use Rattle.node_model.specs.Call.{Call}

pub record Node : Type 0 where
  pub up : Bool  -- up and not stopped by a takeover
  pub kept : Bool  -- registered, or on the leaving list
  pub leaving : Bool  -- on the leaving list
  pub address : Option ℕ  -- the address that it was told and did not forget
  pub stale : Bool  -- the local bit
  pub copy : Option Image
  pub step : Step
  pub call : Call

-- a node that knows nothing of the page
abbrev pub blank : Bool → Call → Node
blank up call = record {
  up = up;
  kept = false;
  leaving = false;
  address = None;
  stale = true;
  copy = None;
  step = Idle;
  call = call;
}

-- the local bit counts as not set: of a node that is up by its bit, of a node that is down always
abbrev pub counts_fresh : Node → Bool
counts_fresh N = if N.up then not N.stale else true
