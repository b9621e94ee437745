-- Stated: which pages an event touches, and which lists of events stay in a span.
use Rattle.std.specs.Prelude.{◌≡◌, ◌⊎◌, ℕ, Bool, true, false, Some, None, List, [], ◌∷◌, nat_eq, if◌then◌else◌}
use Rattle.page_image.specs.Image.{Image}
use Rattle.node_model.specs.Step.{Step.Idle}
use Rattle.node_model.specs.Call.{Call.Quiet}
use Rattle.page_coherence.specs.Page.{Page, HasX}
use Rattle.page_coherence.specs.Cluster.{Event, Event.Act, Event.Write, Event.Enter, Event.Remove, Event.DropSlab, Event.CrashHome, Event.Renew, Event.Tail, Event.Sweep}

abbrev pub touches : Event → ℕ → Bool
touches (Act n ps move) p = ps p
touches (Write n q a) p = nat_eq p q
touches (Enter n q a) p = nat_eq p q
touches (Remove q) p = nat_eq p q
touches (DropSlab ps) p = ps p
touches CrashHome p = false
touches _ p = true

-- a page's history is as it was, or the RW, which holds the page in X, put an image in front that is its copy
abbrev pub Extends : ℕ → Page → Page → Type 0
Extends r P Q =
    (Q.log ≡ P.log)
    ⊎ ((image : Image) × (Q.log ≡ image ∷ P.log) × HasX P r × ((Q.node r).copy ≡ Some image))

abbrev pub is_tail : Event → Bool
is_tail (Tail t) = true
is_tail _ = false

abbrev pub is_renewal : Event → Bool
is_renewal (Renew ds) = true
is_renewal _ = false

abbrev pub is_sweep : Event → Bool
is_sweep (Sweep n) = true
is_sweep _ = false

abbrev pub has_sweep : List Event → Bool
has_sweep [] = false
has_sweep (e ∷ es) = if is_sweep e then true else has_sweep es

-- the page has no entry, and no node knows anything of it
abbrev pub IsBare : Page → Type 0
IsBare P =
    (P.entry.there ≡ false)
    × ((n : ℕ) → ((P.node n).copy ≡ None) × ((P.node n).kept ≡ false) × ((P.node n).step ≡ Idle) × ((P.node n).call ≡ Quiet))
