-- Stated: the home's side in the words of the laws of the pool.
use Rattle.std.specs.Prelude.{◌≡◌, ◌<◌, ℕ, Bool, true, false, List, [], length, slice_index, slice_index_or}
use Rattle.home_model.specs.Numbered.{put}
use Rattle.node_model.specs.Slots.{Slots}
use Rattle.slab_node.specs.Slab.{SlabState, IsPart}
use Rattle.slab_node.specs.Slabs.{slab_at}
use Rattle.home_tables.specs.Home.{entry_at}
use Rattle.home_tables.specs.Table.{address_number}
use Rattle.page_coherence.specs.Page.{Page}
use Rattle.page_coherence.specs.Moves.{handled_register, fresh_of}
use Rattle.page_coherence.specs.Cluster.{State as Pages, raised_by, removed}
use Rattle.message_network.specs.declared.calls.Reply.{Reply}
use Rattle.message_network.specs.declared.calls.Reply.TheVariants.{Registered, PoolFull, Unregistered, Started, Done, Appended, Got, Fenced}
use Rattle.pool_laws.specs.Serving.{at_pages}
use Rattle.pool_laws.specs.Calls.{only, HomeAnswer, HomeAnswer.Registered as RegisteredAt, HomeAnswer.PoolFull as Full, HomeAnswer.Unregistered as Parted, HomeAnswer.Done as AllSet, HomeAnswer.Started as SomeDue}
use Rattle.page_latches.specs.Set.{has}
use Rattle.rmem_calls.specs.Invalidating.{is_among}
use Rattle.home_service.specs.HomeSide.{HomeSide}

-- each slab is a part of one memory of slots
abbrev pub AreParts : List SlabState → Slots → Type 0
AreParts slabs slots = (k : ℕ) → k < length slabs → IsPart (slab_at slabs k) slots

-- the pages of those laws have the entries, the watermark and the slots that the home's side has
pub record Sees (s : Pages) (S : HomeSide) : Type 0 where
  pub entries : (p : ℕ) → (s.page p).entry ≡ entry_at S.home p
  pub watermark : s.watermark ≡ S.home.watermark
  pub parts : AreParts S.slabs s.slots

-- page p alone becomes Q
abbrev pub with_page : Pages → ℕ → Page → Pages
with_page s p Q = record s { page = put s.page p Q }

-- a reply of the home as those laws have it
abbrev pub answer_as : Reply → HomeAnswer
answer_as (Registered a bit floor) = RegisteredAt (address_number a)
answer_as (PoolFull slots) = Full
answer_as Unregistered = Parted
answer_as (Started due) = SomeDue
answer_as Done = AllSet
answer_as (Appended answer) = Full
answer_as (Got answer) = Full
answer_as (Fenced epoch) = Full

-- no pair is due any more
abbrev pub is_done : Reply → Bool
is_done Done = true
is_done _ = false

-- the entry of page p goes, and the watermark rises to what it knew
abbrev pub without_page : Pages → ℕ → Pages
without_page s p = record s { watermark = raised_by (s.page p) s.watermark; page = put s.page p (removed (s.page p)) }

-- page p is registered by node n, and has the slot at that address if it takes one
abbrev pub handled : Pages → (p fresh n : ℕ) → Pages
handled s p fresh n = at_pages (only p) (λ P. handled_register P s.watermark fresh (s.slots.holds fresh) n) s

-- the pages of a list
abbrev pub among : List ℕ → ℕ → Bool
among pages q = is_among q pages

-- beside each page stand the nodes whose local bit of it is not set
pub record AreClear (s : Pages) (pages : List ℕ) (clear : List (List ℕ)) : Type 0 where
  pub size : length clear ≡ length pages
  pub each : (i m : ℕ) → i < length pages → has (slice_index_or clear i []) m ≡ fresh_of (s.page (slice_index pages i)) m
