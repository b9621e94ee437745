-- Stated: what a caller keeps, and what its calls do to it.
use Rattle.std.specs.Prelude.{ℕ, ◌+◌, Bool, true, false, nat_eq, ◌&&◌}

-- what every message carries: whose call it is, of which incarnation and epoch, and the call's number
pub record Label : Type 0 where
  pub node : ℕ
  pub incarnation : ℕ
  pub epoch : ℕ
  pub number : ℕ

-- a node's caller
pub record Caller : Type 0 where
  pub incarnation : ℕ
  pub epoch : ℕ
  -- the number of the last call; 0 before the first
  pub last : ℕ
  -- whether that call is unanswered
  pub waits : Bool

abbrev pub new_caller : (incarnation epoch : ℕ) → Caller
new_caller i e = record { incarnation = i; epoch = e; last = 0; waits = false }

-- the caller asks: the next number
abbrev pub asking : Caller → Caller
asking c = record c { last = c.last + 1; waits = true }

-- the caller has its answer
abbrev pub answered : Caller → Caller
answered c = record c { waits = false }

-- the node is of another incarnation and epoch: its unanswered call is dropped, and the numbers go on
abbrev pub renewed : (incarnation epoch : ℕ) → Caller → Caller
renewed i e c = record c { incarnation = i; epoch = e; waits = false }

-- a reply with this label is the one that the caller waits for
abbrev pub awaits : Caller → Label → Bool
awaits c l = c.waits && (nat_eq l.incarnation c.incarnation && (nat_eq l.epoch c.epoch && nat_eq l.number c.last))

-- the label of the caller's last call
abbrev pub label_of : ℕ → Caller → Label
label_of n c = record { node = n; incarnation = c.incarnation; epoch = c.epoch; number = c.last }
