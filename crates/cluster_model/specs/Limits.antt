-- Stated: how large a cluster may be.
use Rattle.std.specs.Prelude.{◌≤◌}
use Rattle.cluster_model.specs.declared.shape.Shape.{Shape}

-- 1 to 16 nodes, 1 to 16 slabs of 8 to 4,096 slots, and 16 to 1,024 pages in each node's cache
abbrev pub IsInLimits : Shape → Type 0
IsInLimits s =
    (1 ≤ s.nodes) × (s.nodes ≤ 16) × (1 ≤ s.slabs) × (s.slabs ≤ 16)
    × (8 ≤ s.slots) × (s.slots ≤ 4096) × (16 ≤ s.cache) × (s.cache ≤ 1024)
