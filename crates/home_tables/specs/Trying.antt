-- Stated: a try of the latch of one page.
use Rattle.std.specs.Prelude.{◌≡◌, ◌↔◌, ℕ}
use Rattle.home_model.specs.Numbered.{put}
use Rattle.page_latches.specs.declared.latch.Mode.{Mode}
use Rattle.page_latches.specs.declared.latch.Latch.{Latch as Answer}
use Rattle.page_latches.specs.Holding.{IsGranted, OnGranted, OnBusy, latch_of}
use Rattle.home_tables.specs.Home.{HomeState, entry_at}
use Rattle.home_tables.specs.Access.{MayTake, taken_by}

-- the try is granted by the latch's rule. Granted, the entry of page p changes and no other; else none does, and the answer
-- has the holders
pub record Tries (before after : HomeState) (p n : ℕ) (mode : Mode) (answer : Answer) : Type 0 where
  pub rule : IsGranted answer ↔ MayTake mode (entry_at before p).latch n
  pub taken : OnGranted answer (entry_at after ≡ put (entry_at before) p (taken_by mode (entry_at before p) n))
  pub busy : OnBusy answer (λ holders. latch_of holders ≡ (entry_at before p).latch)
  pub stays : OnBusy answer (λ holders. entry_at after ≡ entry_at before)
  pub watermark : after.watermark ≡ before.watermark
