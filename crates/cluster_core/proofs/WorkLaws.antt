-- For the proofs: a turn's premises, by what is wanted.
use Rattle.std.proofs.Common.{◌≡◌, ◌≢◌, ℕ, Bool, true, false, Option, Some, None, IsSome, inl, refl, sym, subst}
use Rattle.range_reader.specs.declared.fetch.Fetch.{Fetch}
use Rattle.range_reader.specs.Finding.{page_of}
use Rattle.statement_work.specs.declared.acts.FixedPage.{FixedPage}
use Rattle.statement_work.specs.Latches.{number_of}
use Rattle.statement_work.specs.Terms.{Terms}
use Rattle.statement_work.specs.Works.{Work, AskedFor, Stamped}
use Rattle.page_pool.specs.State.{PoolState}
use Rattle.question_tree.specs.Questions.{wanted, after}
use Rattle.statement_work.specs.declared.acts.Deed.TheVariants as deed
use Rattle.page_pool.specs.Nodes.{NodeState}
use Rattle.cluster_core.specs.Stages.{HandsAsked, IsReady, PlansRun, RunsAfter, Stands, page_wanted}
use Rattle.statement_work.specs.Acting.{anew}
use Rattle.cluster_core.specs.Turns.{FetchTurn, Turns}
use Rattle.cluster_core.specs.declared.stages.Turned.{Turned}
use Rattle.cluster_core.specs.declared.stages.Stage.{Stage}
use Rattle.cluster_core.specs.declared.stages.Stage.TheVariants.{Fetching, FetchingFixed, FetchingSure, Releasing, Running, Stamping, Appending, Quitting, Replying, Resting}
use Rattle.cluster_core.proofs.PlanLaws.{deed_wants}

pub fetch_turns : (t : Terms) (undoes : ℕ → Work t) (n p : ℕ) (w : Work t) (s : PoolState) (stage : Stage) → IsReady t undoes n w s stage
    → page_wanted stage ≡ Some p → HandsAsked t n p s w
fetch_turns t undoes n p w s stage h e = h.pages p e

-- who fetches a page wants one
pub wants_stage : (t : Terms) (w : Work t) (p : ℕ) (node : NodeState) (stage : Stage) → Stands t w node stage → page_wanted stage ≡ Some p → IsSome (wanted w)
wants_stage t w p node (Fetching q) h e = deed_wants t w (deed.Fetch q) h.0
wants_stage t w p node (FetchingFixed place) h e = deed_wants t w (deed.FetchFixed place) h.0
wants_stage t w p node (FetchingSure q) h e = deed_wants t w (deed.FetchSure q) h.0
wants_stage t w p node (Releasing page) h e = deed_wants t w (deed.Release page) h.0
wants_stage t w p node (Running installed) h e = deed_wants t w (deed.Run h.0) h.1
wants_stage t w p node Stamping h e = deed_wants t w deed.Stamp h.0
wants_stage t w p node Appending h e = deed_wants t w deed.Append h.0
wants_stage t w p node (Quitting slots) h e = h
wants_stage t w p node (Replying r) h e = absurd (none_some p e)
  where
    none_some : (x : ℕ) → None ≡ Some x → ⊥
    none_some x e = cc
wants_stage t w p node Resting h e = absurd (none_some p e)
  where
    none_some : (x : ℕ) → None ≡ Some x → ⊥
    none_some x e = cc

pub fetching_turns : (t : Terms) (undoes : ℕ → Work t) (n p stamp : ℕ) (q : Fetch) (stage : Stage) (w new : Work t) (s now : PoolState) (turned : Turned)
    → FetchTurn t undoes n p (Fetching q) w s now new turned → stage ≡ Fetching q → p ≡ page_of q → Turns t undoes n stamp stage w s now new turned
fetching_turns t undoes n p stamp q stage w new s now turned h e f =
    subst (λ (x : Stage). Turns t undoes n stamp x w s now new turned) (sym e)
    (subst (λ (x : ℕ). FetchTurn t undoes n x (Fetching q) w s now new turned) f h)

pub fixed_turns : (t : Terms) (undoes : ℕ → Work t) (n p stamp : ℕ) (place : FixedPage) (stage : Stage) (w new : Work t) (s now : PoolState) (turned : Turned)
    → FetchTurn t undoes n p (FetchingFixed place) w s now new turned → stage ≡ FetchingFixed place → p ≡ number_of place
    → Turns t undoes n stamp stage w s now new turned
fixed_turns t undoes n p stamp place stage w new s now turned h e f =
    subst (λ (x : Stage). Turns t undoes n stamp x w s now new turned) (sym e)
    (subst (λ (x : ℕ). FetchTurn t undoes n x (FetchingFixed place) w s now new turned) f h)

pub sure_turns : (t : Terms) (undoes : ℕ → Work t) (n p stamp : ℕ) (q : Fetch) (stage : Stage) (w new : Work t) (s now : PoolState) (turned : Turned)
    → FetchTurn t undoes n p (FetchingSure q) w s now new turned → stage ≡ FetchingSure q → p ≡ page_of q → Turns t undoes n stamp stage w s now new turned
sure_turns t undoes n p stamp q stage w new s now turned h e f =
    subst (λ (x : Stage). Turns t undoes n stamp x w s now new turned) (sym e)
    (subst (λ (x : ℕ). FetchTurn t undoes n x (FetchingSure q) w s now new turned) f h)

pub stamp_runs : (t : Terms) (undoes : ℕ → Work t) (n stamp : ℕ) (w : Work t) (s : PoolState) (stage : Stage) → IsReady t undoes n w s stage
    → AskedFor w (Stamped stamp) → PlansRun t s (anew undoes (after w (Stamped stamp)))
unfolding RunsAfter
stamp_runs t undoes n stamp w s stage h a = h.plans (Stamped stamp) a s (inl refl) tt
