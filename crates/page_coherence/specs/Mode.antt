-- Stated: where the cluster stands between two RWs.
use Rattle.std.specs.Prelude.{◌≤◌, ℕ, Bool, true, false}

pub data Mode : Type 0 where
  Normal : Mode  -- no takeover is under way, up from its Sweep on
  Fenced : Mode  -- from a Fence to its Tail
  Tailed : ℕ → Mode  -- from a Tail, with this LSN, to Sweep
  Renewed : Mode  -- from a renewal of the home to the next Tail

-- the home's tables speak of the whole log
abbrev pub is_whole : Mode → Bool
is_whole Normal = true
is_whole Fenced = true
is_whole _ = false

-- the entries of which the tables speak, by their LSN: from Tail to Sweep those of at most the tail
abbrev pub Counts : Mode → ℕ → Type 0
Counts (Tailed t) lsn = lsn ≤ t
Counts _ lsn = Unit {0}

-- the mode after a Fence
abbrev pub fence_mode : Mode → Mode
fence_mode Normal = Fenced
fence_mode m = m
