-- Stated: the fetches of a node by their pages, and what becomes of each.
use Rattle.std.specs.Prelude.{◌≡◌, ◌≢◌, ◌<◌, ℕ, Bool, Option, List, length, slice_index_or, nat_eq, option_map}
use Rattle.std.specs.List.{find}
use Rattle.page_image.specs.Image.{Image}
use Rattle.fetch_steps.specs.declared.acts.Told.{Told}
use Rattle.fetch_steps.specs.Fetch.{Fetch}
use Rattle.fetch_steps.specs.Places.{after}
use Rattle.coherent_pool.specs.declared.works.FetchWork.{FetchWork}
use Rattle.coherent_pool.specs.declared.works.Stage.{Stage}

abbrev pub is_of : ℕ → FetchWork → Bool
is_of p w = nat_eq w.step.page p

-- the fetch of page p
abbrev pub work_at : List FetchWork → ℕ → Option FetchWork
work_at works p = find (is_of p) works

-- no two fetches are of one page
abbrev pub AreApart : List FetchWork → Type 0
AreApart works = (i j : ℕ) (d : FetchWork) → i < length works → j < length works
    → (slice_index_or works i d).step.page ≡ (slice_index_or works j d).step.page → i ≡ j

-- the fetch of page p is w, and each other page has the fetch that it had
pub record SetsWork (p : ℕ) (w : Option FetchWork) (before now : List FetchWork) : Type 0 where
  pub here : work_at now p ≡ w
  pub beside : (q : ℕ) → q ≢ p → work_at now q ≡ work_at before q

-- the fetch is told of its act
abbrev pub heard_work : Told → FetchWork → FetchWork
heard_work told w = record w { step = after w.step told }

abbrev pub told_work : Told → Option FetchWork → Option FetchWork
told_work told work = option_map (heard_work told) work

abbrev pub at_stage : Stage → FetchWork → FetchWork
at_stage stage w = record w { stage = stage }

abbrev pub staged_work : Stage → Option FetchWork → Option FetchWork
staged_work stage work = option_map (at_stage stage) work

-- the fetch stands there
abbrev pub at_fetch : Fetch → FetchWork → FetchWork
at_fetch step w = record w { step = step }

abbrev pub stepped_work : Fetch → Option FetchWork → Option FetchWork
stepped_work step work = option_map (at_fetch step) work

-- the fetch has that image, or none
abbrev pub having : Option Image → FetchWork → FetchWork
having image w = record w { image = image }

abbrev pub loaded_work : Option Image → Option FetchWork → Option FetchWork
loaded_work image work = option_map (having image) work
