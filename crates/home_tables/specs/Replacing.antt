-- Stated: a page that is given away for its slot, which another page gets.
use Rattle.std.specs.Prelude.{◌≡◌, ℕ}
use Rattle.home_model.specs.Numbered.{put}
use Rattle.home_model.specs.Entry.{no_entry, raised, registered}
use Rattle.home_tables.specs.Home.{HomeState, entry_at}

-- the entry of the given page goes first and the watermark rises to what it knew; then n registers page p and gets the slot
pub record Replaces (before after : HomeState) (given p n slot : ℕ) : Type 0 where
  pub watermark : after.watermark ≡ raised (entry_at before given) before.watermark
  pub entries : entry_at after ≡ put (put (entry_at before) given no_entry) p (registered (entry_at before p) after.watermark slot n)
