-- Stated: what a kick of a node, a drop of a slab and a sweep do to the entries.
use Rattle.std.specs.Prelude.{◌≡◌, ◌≢◌, ℕ, Bool, false, Option, Some, None, nat_eq, if◌then◌else◌}
use Rattle.home_model.specs.Entry.{Entry as HomeEntry, kicked, dropped, swept}
use Rattle.home_tables.specs.Table.{slab_in}
use Rattle.home_tables.specs.Home.{HomeState, kept, entry_at}

-- the entry after the node was kicked
abbrev pub kept_from : ℕ → HomeEntry → HomeEntry
kept_from node E = kicked E node

-- the address is one of the slab
abbrev pub is_at : ℕ → Option ℕ → Bool
is_at slab None = false
is_at slab (Some x) = nat_eq (slab_in x) slab

-- the entry after the slab was dropped: it has lost its slot where that was one of the slab
abbrev pub lost_on : ℕ → HomeEntry → HomeEntry
lost_on slab E = if is_at slab E.address then dropped E else E

-- the entry after a sweep at that tail
abbrev pub swept_to : ℕ → HomeEntry → HomeEntry
swept_to tail E = swept E tail

-- the entry of page p has become f of what it was; all else stays
pub record Becomes (before after : HomeState) (p : ℕ) (f : HomeEntry → HomeEntry) : Type 0 where
  pub here : entry_at after p ≡ f (entry_at before p)
  pub beside : (q : ℕ) → q ≢ p → kept after q ≡ kept before q
  pub watermark : after.watermark ≡ before.watermark

-- the entry of each page has become f of what it was
pub record AllBecome (before after : HomeState) (f : HomeEntry → HomeEntry) : Type 0 where
  pub entries : entry_at after ≡ (λ p. f (entry_at before p))
  pub watermark : after.watermark ≡ before.watermark
