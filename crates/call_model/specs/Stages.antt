-- Stated: the three stages of a node's call, and what an event does to them.
use Rattle.std.specs.Prelude.{◌≡◌, ◌≢◌, ℕ}

-- a call is asked, handled once and accepted once; a node that was answered, or whose call no server takes any more,
-- has none
pub data Stage (Q R : Type 0) : Type 0 where
  Quiet : Stage Q R
  Asked : Q → Stage Q R
  Handled : Q → R → Stage Q R

-- what an event does to the calls: nothing, or one step of one call, or it ends a node's call or all
pub data Effect (Q R : Type 0) : Type 0 where
  Nothing : Effect Q R
  Asks : (n : ℕ) → Q → Effect Q R
  Handles : (n : ℕ) → Q → R → Effect Q R
  Accepts : (n : ℕ) → Q → R → Effect Q R
  Ends : (n : ℕ) → Effect Q R
  EndsAll : Effect Q R

-- the calls of all nodes but n are as before
abbrev pub Beside : {Q R : Type 0} → ℕ → (ℕ → Stage Q R) → (ℕ → Stage Q R) → Type 0
Beside n c d = (m : ℕ) → m ≢ n → d m ≡ c m

-- an effect leads from the stages c to the stages d
abbrev pub After : {Q R : Type 0} → Effect Q R → (ℕ → Stage Q R) → (ℕ → Stage Q R) → Type 0
After Nothing c d = (m : ℕ) → d m ≡ c m
After (Asks n q) c d = (c n ≡ Quiet) × (d n ≡ Asked q) × Beside n c d
After (Handles n q r) c d = (c n ≡ Asked q) × (d n ≡ Handled q r) × Beside n c d
After (Accepts n q r) c d = (c n ≡ Handled q r) × (d n ≡ Quiet) × Beside n c d
After (Ends n) c d = (d n ≡ Quiet) × Beside n c d
After EndsAll c d = (m : ℕ) → d m ≡ Quiet
