-- Stated: pages that stand still, and how many acts are still to come over them.
use Rattle.std.specs.Prelude.{◌+◌, ℕ, Bool, true, false}
use Rattle.page_image.specs.Image.{Image}
use Rattle.question_tree.specs.Questions.{left}
use Rattle.range_reader.specs.declared.fetch.Fetch.{Fetch}
use Rattle.statement_work.specs.declared.acts.FixedPage.{FixedPage}
use Rattle.statement_work.specs.declared.acts.Deed.{Deed}
use Rattle.statement_work.specs.declared.acts.Deed.TheVariants as deed
use Rattle.statement_work.specs.declared.acts.Act.{Act}
use Rattle.statement_work.specs.declared.acts.Act.TheVariants as act
use Rattle.statement_work.specs.Works.{Wish, Fetches, FetchesFixed, FetchesSure, claimed, Releases, Runs, Stamps, Appends, Input, Handed, Stamped, Made, WorkOf}

-- the pages, and the stamp of a snapshot that is taken now
pub record Standing : Type 0 where
  pub page : Fetch → Image
  pub fixed : FixedPage → Image
  pub stamp : ℕ

-- what comes of an act
abbrev pub deed_input : Standing → Deed → Input
deed_input s (deed.Fetch q) = Handed (s.page q)
deed_input s (deed.FetchFixed p) = Handed (s.fixed p)
deed_input s (deed.FetchSure q) = Handed (s.page q)
deed_input s (deed.Release p) = Made
deed_input s (deed.Run plan) = Made
deed_input s deed.Stamp = Stamped s.stamp
deed_input s deed.Append = Made

-- a page that has to be what the work takes it for
abbrev pub is_sure : Deed → Bool
is_sure (deed.Fetch q) = false
is_sure (deed.FetchFixed p) = false
is_sure (deed.FetchSure q) = true
is_sure (deed.Release p) = false
is_sure (deed.Run plan) = false
is_sure deed.Stamp = false
is_sure deed.Append = false

-- what comes of a wish
abbrev pub wish_input : {A : Type 0} → Standing → Wish A → Input
wish_input s (Fetches calm q) = Handed (s.page q)
wish_input s (FetchesFixed calm p) = Handed (s.fixed p)
wish_input s (FetchesSure calm c) = Handed (s.page (claimed c))
wish_input s (Releases p) = Made
wish_input s (Runs calm a) = Made
wish_input s Stamps = Stamped s.stamp
wish_input s Appends = Made

-- how many acts are still to come, with the present one
abbrev pub acts_left : {A F : Type 0} → Standing → Act → WorkOf A F → ℕ
acts_left s (act.Reply r) w = 0
acts_left s act.Rest w = 0
acts_left s (act.Do d) w = 1 + left (wish_input s) w
