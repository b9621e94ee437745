-- For the proofs: the first line of a script, as a function.
use Rattle.std.specs.Prelude.{ℕ, Bool, ◌&&◌, nat_le, Option, Some, None, List, [], ◌∷◌, if◌then◌else◌, codes}
use Rattle.cluster_model.specs.declared.shape.Shape.{Shape}
use Rattle.script_text.specs.Forms.{◌>>=◌}
use Rattle.script_text.specs.Numbers.{number_of}
use Rattle.script_text.specs.Words.{is}

-- a number between two bounds
unfoldable pub within : List ℕ → ℕ → ℕ → Option ℕ
within word low high = do
  n ← number_of word
  if nat_le low n && nat_le n high then Some n else None

unfoldable pub are_shape_words : List ℕ → List ℕ → List ℕ → List ℕ → List ℕ → Bool
are_shape_words first second fourth sixth eighth =
    is first (codes "cluster") && (is second (codes "nodes") && (is fourth (codes "slabs")
    && (is sixth (codes "slots") && is eighth (codes "cache"))))

-- 1 to 16 nodes, 1 to 16 slabs of 8 to 4,096 slots, and 16 to 1,024 pages in each node's cache
unfoldable pub shape_from : List ℕ → List ℕ → List ℕ → List ℕ → Option Shape
shape_from nodes slabs slots cache = do
  n ← within nodes 1 16
  k ← within slabs 1 16
  m ← within slots 8 4096
  c ← within cache 16 1024
  Some (record { nodes = n; slabs = k; slots = m; cache = c })

-- `cluster nodes 2 slabs 1 slots 64 cache 16`
abbrev pub shape_of : List (List ℕ) → Option Shape
shape_of (first ∷ second ∷ nodes ∷ fourth ∷ slabs ∷ sixth ∷ slots ∷ eighth ∷ cache ∷ []) =
    if are_shape_words first second fourth sixth eighth then shape_from nodes slabs slots cache else None
shape_of _ = None
