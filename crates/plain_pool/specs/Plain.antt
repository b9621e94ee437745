-- Stated: what contracts see of a plain pool, and what its acts do.
use Rattle.std.specs.Prelude.{◌≡◌, ◌≢◌, ℕ, Bool, true, false, MatchOption, Option, Some, None, List, [], length, sum_by}
use Rattle.page_image.specs.Image.{Image, unmade}
use Rattle.redo_record.specs.declared.redo.Record.{Record}
use Rattle.redo_record.specs.declared.plans.Plan.{Plan}
use Rattle.page_store.specs.Stored.{Stored, groups_of, pages_of, with_group, all_kept}
use Rattle.page_store.specs.Opening.{opened}
use Rattle.page_pool.specs.State.{bytes_of}
use Rattle.page_pool.specs.Calls.{IsRunnable}
use Rattle.plain_pool.specs.declared.work.Work.{Work}
use Rattle.plain_pool.specs.declared.work.Work.TheVariants.{Rest, Fetch, Run}

-- the log, of which the kept groups are those in storage; what is under way; and the page that was handed out
pub record Plain : Type 0 where
  pub store : Stored
  pub work : Work
  pub handed : Option ℕ

abbrev pub begun : Plain
begun = record { store = opened; work = Rest; handed = None }

abbrev pub fetching : Plain → ℕ → Plain
fetching s page = record s { work = Fetch page; handed = None }

abbrev pub running : Plain → Plan → Plain
running s plan = record s { work = Run plan; handed = None }

abbrev pub resting : Plain → Plain
resting s = record s { work = Rest; handed = None }

-- the page of the fetch is handed out
abbrev pub looked : Plain → ℕ → Plain
looked s page = record s { work = Rest; handed = Some page }

-- the records of the plan
abbrev pub records_of : Work → List Record
records_of Rest = []
records_of (Fetch page) = []
records_of (Run plan) = plan.records

-- the group of the plan joins the log
abbrev pub installed : Plain → Plain
installed s = record { store = with_group s.store (records_of s.work); work = Rest; handed = None }

-- all groups are in storage
abbrev pub kept : Plain → Plain
kept s = record s { store = all_kept s.store }

abbrev pub released : Plain → Plain
released s = record s { handed = None }

-- page p is apart where it is not made
abbrev pub IsApart : Stored → ℕ → Option Image → Type 0
IsApart store p blank = MatchOption blank (pages_of store p ≢ unmade p) (λ page. page ≡ pages_of store p)

-- a plan that is under way can be run; the page that was handed out is apart where it is not made; a mark says whether a group is
-- not kept; and two counters have the log's last LSN and its end
pub record IsPlain (store : Stored) (work : Work) (handed : Option ℕ) (blank : Option Image) (unkept : Bool) (last end : ℕ) : Type 0 where
  pub runs : (plan : Plan) → work ≡ Run plan → IsRunnable (groups_of store) plan
  pub blank_is : (p : ℕ) → handed ≡ Some p → IsApart store p blank
  pub unkept_is : (unkept ≡ true → store.own ≢ []) × (unkept ≡ false → store.own ≡ [])
  pub last_is : last ≡ length (groups_of store)
  pub end_is : end ≡ sum_by bytes_of (groups_of store)
