-- Stated: the holders of a latch, and the answers to a try.
use Rattle.std.specs.Prelude.{◌≢◌, ℕ, Bool, true, Some, None, [], nat_eq}
use Rattle.std.specs.List.{list_all}
use Rattle.home_model.specs.Numbered.{nobody}
use Rattle.home_model.specs.Latch.{Latch, free_latch}
use Rattle.page_latches.specs.Set.{has}
use Rattle.page_latches.specs.declared.latch.Holders.{Holders}
use Rattle.page_latches.specs.declared.latch.Holders.TheVariants.{Free, Shared, Exclusive}
use Rattle.page_latches.specs.declared.latch.Latch.{Latch as Answer}
use Rattle.page_latches.specs.declared.latch.Latch.TheVariants.{Granted, Busy}

-- the latch with these holders
abbrev pub latch_of : Holders → Latch
latch_of Free = free_latch
latch_of (Shared nodes) = record { shared = has nodes; exclusive = None }
latch_of (Exclusive n) = record { shared = nobody; exclusive = Some n }

-- some nodes hold it where it is held in S
abbrev pub IsHeld : Holders → Type 0
IsHeld Free = Unit {0}
IsHeld (Shared nodes) = nodes ≢ []
IsHeld (Exclusive n) = Unit {0}

abbrev pub IsGranted : Answer → Type 0
IsGranted Granted = Unit {0}
IsGranted (Busy holders) = ⊥

-- a fact of an answer that grants, and one of the holders in an answer that does not
abbrev pub OnGranted : Answer → Type 0 → Type 0
OnGranted Granted p = p
OnGranted (Busy holders) p = Unit {0}

abbrev pub OnBusy : Answer → (Holders → Type 0) → Type 0
OnBusy Granted p = Unit {0}
OnBusy (Busy holders) p = p holders

-- n may hold it in X: no other node is among the holders
abbrev pub lets_exclude : Holders → ℕ → Bool
lets_exclude Free n = true
lets_exclude (Shared nodes) n = list_all (λ m. nat_eq m n) nodes
lets_exclude (Exclusive m) n = nat_eq m n
