-- Stated: the home as the entries of the pages, and the watermark.
use Rattle.std.specs.Prelude.{◌≡◌, ◌<◌, ◌≤◌, ℕ, Bool, true, false, List, nat_eq, Option, None, length}
use Rattle.std.specs.Map.{lookup}
use Rattle.home_model.specs.Numbered.{put}
use Rattle.home_model.specs.Entry.{Entry as HomeEntry}
use Rattle.home_tables.specs.Numbers.{has_page}
use Rattle.home_tables.specs.Table.{entry_of, is_idle_on}
use Rattle.home_tables.specs.declared.entry.Entry.{Entry}

-- the entries by page, and the floor of pages that have none
pub record HomeState : Type 0 where
  pub entries : List (ℕ × Entry)
  pub watermark : ℕ

abbrev pub home_of : List (ℕ × Entry) → ℕ → HomeState
home_of es w = record { entries = es; watermark = w }

abbrev pub kept_in : List (ℕ × Entry) → ℕ → Option Entry
kept_in es p = lookup (nat_eq p) es

-- the entry of page p, if there is one
abbrev pub kept : HomeState → ℕ → Option Entry
kept H p = kept_in H.entries p

-- the entry of each page, whether it is there or not
abbrev pub entry_at : HomeState → ℕ → HomeEntry
entry_at H = λ p. entry_of (kept H p)

-- the call changes the entry of page p by f and no other; where there is none it changes nothing
pub record ChangesAt (before after : HomeState) (p : ℕ) (f : HomeEntry → HomeEntry) : Type 0 where
  pub there : (entry_at before p).there ≡ true → entry_at after ≡ put (entry_at before) p (f (entry_at before p))
  pub none : (entry_at before p).there ≡ false → after ≡ before
  pub watermark : after.watermark ≡ before.watermark

-- the sets beside the entries say which pages may be given away for a slot of each slab, and which are due at each node
pub record AreKept (es : List (ℕ × Entry)) (idle due : List Bool) : Type 0 where
  pub idle_pages : (s p : ℕ) → s < 16 → p < 32768 → has_page idle s p ≡ is_idle_on s (kept_in es p)
  pub due_pages : (n p : ℕ) → n < 16 → p < 32768 → has_page due n p ≡ (entry_of (kept_in es p)).due n
  pub room : (524288 ≤ length idle) × (524288 ≤ length due)
  pub few : (p : ℕ) → 32768 ≤ p → kept_in es p ≡ None
