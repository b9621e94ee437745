-- Stated: what the home and storage do to pages and log for a call that they handle, and a node for an answer that it
-- accepts.
use Rattle.std.specs.Prelude.{◌≡◌, ◌≤◌, ℕ, Bool, true, false, if◌then◌else◌, nat_le, length}
use Rattle.home_model.specs.Entry.{takes_slot, told_address, due_beside}
use Rattle.node_model.specs.Learning.{answered}
use Rattle.page_coherence.specs.History.{image_at}
use Rattle.page_coherence.specs.Page.{Page, set_node}
use Rattle.page_coherence.specs.Moves.{handled_register, handled_unregister, handled_invalidate, fresh_of}
use Rattle.page_coherence.specs.Cluster.{State as Pages, IsFree, IsUp}
use Rattle.call_model.specs.Stages.{Effect, Effect.Nothing, Effect.Handles, Effect.Accepts}
use Rattle.redo_durability.specs.Store.{answer_to}
use Rattle.redo_durability.specs.Machine.{State as Log, Phase.Open, handling, accepting}
use Rattle.pool_laws.specs.Calls.{HomeCall, HomeCall.RegisterPage, HomeCall.UnregisterPage, HomeCall.InvalidatePages, HomeAnswer, HomeAnswer.Registered, HomeAnswer.PoolFull, HomeAnswer.Unregistered, HomeAnswer.Done, HomeAnswer.Started, StorageCall, StorageCall.GetPage, StorageCall.AppendGroups, StorageAnswer, StorageAnswer.GotImage, StorageAnswer.NotYet, StorageAnswer.Appended, only, about}

-- the same change at each of these pages
abbrev pub at_pages : (ℕ → Bool) → (Page → Page) → Pages → Pages
at_pages ps f s = record s { page = λ p. if ps p then f (s.page p) else s.page p }

-- a slot may be taken for the page, if it takes one
abbrev pub MayTake : Pages → (p a : ℕ) → Type 0
MayTake s p a = takes_slot (s.page p).entry ≡ true → (s.slots.dead a ≡ false) × IsFree s a

-- the node learns the answer at the pages that the call was about
abbrev pub accepted : (n : ℕ) → (ℕ → Bool) → Pages → Pages
accepted n ps s = at_pages ps (λ P. set_node P n (answered s.rw n (P.node n))) s

-- a call that the home handles, or whose answer the node accepts, leads from pages s to pages t
abbrev pub Serves : Effect HomeCall HomeAnswer → Pages → Pages → Type 0
Serves Nothing s t = t ≡ s
Serves (Handles n (RegisterPage p) (Registered v)) s t =
    (a : ℕ) × MayTake s p a × (v ≡ told_address (s.page p).entry a)
    × (t ≡ at_pages (only p) (λ P. handled_register P s.watermark a (s.slots.holds a) n) s)
Serves (Handles n (RegisterPage p) PoolFull) s t = t ≡ s
Serves (Handles n (UnregisterPage p) Unregistered) s t = t ≡ at_pages (only p) (λ P. handled_unregister P n) s
Serves (Handles n (InvalidatePages ps) Done) s t =
    ((p : ℕ) → ps p ≡ true
    → ((s.page p).entry.there ≡ true) × ((m : ℕ) → due_beside (s.page p).entry (fresh_of (s.page p)) n m ≡ false))
    × (t ≡ at_pages ps (λ P. handled_invalidate P n true) s)
Serves (Handles n (InvalidatePages ps) Started) s t =
    ((p : ℕ) → ps p ≡ true → (s.page p).entry.there ≡ true) × (t ≡ at_pages ps (λ P. handled_invalidate P n false) s)
Serves (Accepts n q r) s t = IsUp s n true × (t ≡ accepted n (about q) s)
Serves _ s t = ⊥

-- storage has applied this many groups; it answers where these reach the floor
abbrev pub got : Page → (floor applied : ℕ) → StorageAnswer
got P floor applied = if nat_le floor applied then GotImage (image_at P.number P.log applied) else NotYet

-- a call that storage handles, or whose answer the node accepts, leads from pages s and log k to pages t and log l
abbrev pub Stores : {G : Type 0} → (G → ℕ) → Effect (StorageCall G) StorageAnswer
    → Pages → Log G → Pages → Log G → Type 0
Stores size Nothing s k t l = (t ≡ s) × (l ≡ k)
Stores size (Handles n (GetPage p floor) r) s k t l =
    (applied : ℕ) × (applied ≤ length k.store.groups) × (r ≡ got (s.page p) floor applied) × (t ≡ s) × (l ≡ k)
Stores size (Handles n (AppendGroups o gs) (Appended a)) s k t l =
    (a ≡ answer_to size k.store k.epoch o gs) × (t ≡ s) × (l ≡ handling size k k.epoch o gs)
Stores size (Accepts n (GetPage p floor) r) s k t l = IsUp s n true × (t ≡ accepted n (only p) s) × (l ≡ k)
Stores size (Accepts n (AppendGroups o gs) (Appended a)) s k t l =
    IsUp s n true × (k.phase ≡ Open) × (t ≡ s) × (l ≡ accepting k gs a)
Stores size _ s k t l = ⊥
