-- For the proofs: what holds of a plan's pages in every state, and what becomes of each where one is told of its act.
use Rattle.std.specs.Prelude.{◌≡◌, ◌<◌, ℕ, Bool, true, List, Some, None, length, map, slice_index_or, MatchBool}
use Rattle.fetch_steps.specs.declared.acts.Told.{Told}
use Rattle.mini_transactions.specs.declared.page_work.PageWork.{PageWork}
use Rattle.mini_transactions.specs.Work.{next_of}
use Rattle.mini_transactions.specs.Progress.{Progress, is_in, is_joint, holds_x, span}
use Rattle.fetch_steps.specs.Fetch.{may_hold}
use Rattle.mini_transactions.specs.Hearing.{quit}
use Rattle.mini_transactions.specs.Fetching.{Hears}

-- the pages stand in the plan's order
abbrev pub numbers : List PageWork → List ℕ
numbers works = map (λ w. w.fetch.page) works

-- all pages are as far
abbrev pub Together : List PageWork → Type 0
Together works = (j : ℕ) → j < length works → (k : ℕ) → k < length works → (d : PageWork) → span (slice_index_or works j d).stage ≡ span (slice_index_or works k d).stage

-- each page is fetched as the RW does
abbrev pub Writers : List PageWork → Type 0
Writers works = (k : ℕ) → k < length works → (d : PageWork) → (slice_index_or works k d).fetch.writer ≡ true

-- each page whose latch was granted holds it
abbrev pub Holding : List PageWork → Type 0
Holding works = (k : ℕ) → k < length works → (d : PageWork) → holds_x (slice_index_or works k d).stage ≡ true → (slice_index_or works k d).claimed ≡ true

pub record IsProgress (m : Progress) : Type 0 where
  pub pages : numbers m.works ≡ m.plan.pages
  pub together : Together m.works
  pub writers : Writers m.works
  pub holds : Holding m.works

-- a page that takes part is told, and another stays as it is
abbrev pub Takes : ℕ → Bool → Told → PageWork → PageWork → Type 0
Takes page joint told before now = MatchBool (is_in page joint before) (Hears before told now) (now ≡ before)

abbrev pub AllTake : ℕ → Bool → Told → List PageWork → List PageWork → Type 0
AllTake page joint told before now = (k : ℕ) → k < length before → (d : PageWork) → Takes page joint told (slice_index_or before k d) (slice_index_or now k d)

-- the pages that take part in the act of the page whose turn it is are told
pub record Turns (told : Told) (before now : List PageWork) : Type 0 where
  pub long : length now ≡ length before
  pub each : (turn : PageWork) → next_of before ≡ Some turn → AllTake turn.fetch.page (is_joint turn.stage) told before now
  pub none : next_of before ≡ None → now ≡ before

-- the plan is given up, page by page
abbrev pub AllQuit : List PageWork → List PageWork → Type 0
AllQuit before now = (k : ℕ) → k < length before → (d : PageWork) → slice_index_or now k d ≡ quit (slice_index_or before k d) (may_hold (slice_index_or before k d).fetch)
