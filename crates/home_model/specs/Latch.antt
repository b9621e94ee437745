-- Stated: the latch of a page, who may take it, and what each call does to it.
use Rattle.std.specs.Prelude.{◌≡◌, ◌≢◌, ℕ, Bool, true, false, Option, Some, None, if◌then◌else◌, nat_eq, not}
use Rattle.home_model.specs.Numbered.{put, nobody}

-- the nodes that hold it in S, and the one that holds it in X
pub record Latch : Type 0 where
  pub shared : ℕ → Bool
  pub exclusive : Option ℕ

abbrev pub free_latch : Latch
free_latch = record { shared = nobody; exclusive = None }

-- a holder other than n
abbrev pub other_has : Option ℕ → ℕ → Bool
other_has None n = false
other_has (Some m) n = not (nat_eq m n)

-- a try of S is granted where no other node holds X
abbrev pub may_share : Latch → ℕ → Bool
may_share L n = not (other_has L.exclusive n)

-- a try of X is granted where no other node holds S or X
abbrev pub MayExclude : Latch → ℕ → Type 0
MayExclude L n = ((m : ℕ) → m ≢ n → L.shared m ≡ false) × (other_has L.exclusive n ≡ false)

-- n holds it in S, and no longer in X
abbrev pub grant_s : Latch → ℕ → Latch
grant_s L n = record { shared = put L.shared n true; exclusive = None }

-- n holds it in X, and no longer in S
abbrev pub grant_x : Latch → ℕ → Latch
grant_x L n = record { shared = nobody; exclusive = Some n }

-- the holder of X, but for n
abbrev pub without : Option ℕ → ℕ → Option ℕ
without None n = None
without (Some m) n = if nat_eq m n then None else Some m

-- n no longer holds it
abbrev pub released : Latch → ℕ → Latch
released L n = record { shared = put L.shared n false; exclusive = without L.exclusive n }

-- it is free, held in S by some nodes, or held in X by one
abbrev pub Excludes : Latch → Type 0
Excludes L = (n m : ℕ) → L.exclusive ≡ Some n → L.shared m ≡ true → ⊥

-- n does not hold it
abbrev pub Without : Latch → ℕ → Type 0
Without L n = (L.shared n ≡ false) × (L.exclusive ≢ Some n)
