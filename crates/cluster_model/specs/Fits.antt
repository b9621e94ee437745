-- Stated: what a cluster can be asked.
use Rattle.std.specs.Prelude.{◌≡◌, ℕ, ◌+◌, ◌<◌, ◌≤◌, List, [], ◌∷◌}
use Rattle.cluster_model.specs.declared.events.Event.{Event}
use Rattle.cluster_model.specs.declared.events.Event.TheVariants as event
use Rattle.cluster_model.specs.declared.scripts.Line.{Line}
use Rattle.cluster_model.specs.declared.scripts.Order.{Order}
use Rattle.cluster_model.specs.declared.scripts.Order.TheVariants as order
use Rattle.cluster_model.specs.declared.scripts.Script.{Script}
use Rattle.cluster_model.specs.declared.shape.Shape.{Shape}
use Rattle.cluster_model.specs.Limits.{IsInLimits}

-- The event's nodes and slabs are of the shape, and its page chunk is one. With so many sessions declared, one
-- that it declares has the next number, and any other is among them.
abbrev pub FitsEvent : Shape → ℕ → Event → Type 0
FitsEvent shape count (event.Session s name n) = (s ≡ count) × (count < 64) × (n < shape.nodes)
FitsEvent shape count (event.Submit s text) = s < count
FitsEvent shape count (event.Turn n) = n < shape.nodes
FitsEvent shape count (event.TurnLost n) = n < shape.nodes
FitsEvent shape count (event.TurnUnseen n) = n < shape.nodes
FitsEvent shape count (event.Deliver k) = 1 ≤ k
FitsEvent shape count event.DeliverLast = Unit {0}
FitsEvent shape count event.DeliverAll = Unit {0}
FitsEvent shape count event.Home = Unit {0}
FitsEvent shape count (event.Ship c) = c < 128
FitsEvent shape count (event.Fold p) = Unit {0}
FitsEvent shape count (event.Evict n p) = n < shape.nodes
FitsEvent shape count (event.Timeout s) = s < count
FitsEvent shape count (event.CrashNode n) = n < shape.nodes
FitsEvent shape count (event.CrashSlab k) = k < shape.slabs
FitsEvent shape count event.CrashHome = Unit {0}
FitsEvent shape count (event.Kick n) = n < shape.nodes
FitsEvent shape count (event.Restart n) = n < shape.nodes
FitsEvent shape count (event.DropSlab k) = k < shape.slabs
FitsEvent shape count (event.RestartSlab k) = k < shape.slabs
FitsEvent shape count (event.Takeover n) = n < shape.nodes
FitsEvent shape count event.Renew = Unit {0}

-- 1 to 100,000 rounds
abbrev pub FitsOrder : Shape → ℕ → Order → Type 0
FitsOrder shape count (order.One e) = FitsEvent shape count e
FitsOrder shape count (order.Drain rounds) = (1 ≤ rounds) × (rounds ≤ 100000)
FitsOrder shape count (order.Until n kind rounds) = (n < shape.nodes) × (1 ≤ rounds) × (rounds ≤ 100000)

-- how many sessions are declared behind an event, and behind an order
abbrev pub count_behind : ℕ → Event → ℕ
count_behind count (event.Session s name n) = count + 1
count_behind count _ = count

abbrev pub count_after : ℕ → Order → ℕ
count_after count (order.One e) = count_behind count e
count_after count (order.Drain rounds) = count
count_after count (order.Until n kind rounds) = count

-- each order fits, with so many sessions declared before the first
abbrev pub AreFit : Shape → ℕ → List Line → Type 0
AreFit shape count [] = Unit {0}
AreFit shape count (l ∷ lines) = FitsOrder shape count l.order × AreFit shape (count_after count l.order) lines

-- the shape is within the limits, and each order fits
abbrev pub IsFit : Script → Type 0
IsFit s = IsInLimits s.shape × AreFit s.shape 0 s.orders
