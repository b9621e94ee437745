-- Stated: a call that is served once, and what the home does with a call that it handles.
use Rattle.std.specs.Prelude.{◌≡◌, ℕ, List, Option, Some, None}
use Rattle.call_model.specs.Callers.{Label}
use Rattle.call_model.specs.Servers.{Admission, Admission.Fenced as FencedCall, Admission.Old, Admission.Again, Admission.New, admit, keeping, fenced, forgetting}
use Rattle.message_network.specs.declared.calls.Reply.{Reply}
use Rattle.message_network.specs.declared.calls.Reply.TheVariants.{Unregistered, Fenced}
use Rattle.home_model.specs.Entry.{unregistered}
use Rattle.home_tables.specs.Home.{entry_at, ChangesAt}
use Rattle.rmem_calls.specs.Registering.{RegisterAnswers}
use Rattle.rmem_calls.specs.Invalidating.{invalidated_all, due_pairs, InvalidateAnswers}
use Rattle.home_service.specs.HomeSide.{HomeSide}

-- by what the server says to the call: of an older epoch it answers so; an older call has no answer; the last one that was
-- handled has its answer again; a new one is handled with a reply
abbrev pub ServedBy : Admission → (handles : HomeSide → Reply → HomeSide → Type 0) → Label → HomeSide → Option Reply → HomeSide → Type 0
ServedBy (FencedCall e) handles l S reply T = (reply ≡ Some (Fenced e)) × (T ≡ S)
ServedBy Old handles l S reply T = (reply ≡ None) × (T ≡ S)
ServedBy Again handles l S reply T = (reply ≡ (S.server.memory l.node).reply) × (T ≡ S)
ServedBy New handles l S reply T = (r : Reply) × (reply ≡ Some r) × handles S r T

abbrev pub Served : (handles : HomeSide → Reply → HomeSide → Type 0) → Label → HomeSide → Option Reply → HomeSide → Type 0
Served handles l S reply T = ServedBy (admit S.server l) handles l S reply T

-- `register` of page p: the page has its slot, a free one or that of a page that is given away, or the pool is full
pub record HandlesRegister (l : Label) (p : ℕ) (S : HomeSide) (r : Reply) (T : HomeSide) : Type 0 where
  pub answer : RegisterAnswers S.home T.home S.slabs T.slabs l.node p r
  pub server : T.server ≡ keeping S.server l r

-- `unregister` of page p: the node refers to it no longer
pub record HandlesUnregister (l : Label) (p : ℕ) (S : HomeSide) (r : Reply) (T : HomeSide) : Type 0 where
  pub reply : r ≡ Unregistered
  pub entry : ChangesAt S.home T.home p (λ E. unregistered E l.node)
  pub slabs : T.slabs ≡ S.slabs
  pub server : T.server ≡ keeping S.server l r

-- `invalidate` of pages, beside each of which stand the nodes whose local bit of it is not set
pub record HandlesInvalidate (l : Label) (pages : List ℕ) (clear : List (List ℕ)) (S : HomeSide) (r : Reply) (T : HomeSide) : Type 0 where
  pub answer : InvalidateAnswers (due_pairs T.home pages) r
  pub entries : entry_at T.home ≡ invalidated_all (entry_at S.home) l.node pages clear
  pub watermark : T.home.watermark ≡ S.home.watermark
  pub slabs : T.slabs ≡ S.slabs
  pub server : T.server ≡ keeping S.server l r

-- nothing but the home's tables has changed
abbrev pub OnlyHome : HomeSide → HomeSide → Type 0
OnlyHome S T = T ≡ record S { home = T.home }

-- from now on calls of an epoch before e are fenced
abbrev pub fenced_to : HomeSide → ℕ → HomeSide
fenced_to S e = record S { server = fenced S.server e }

-- a newer incarnation of node n is known, of which nothing was handled
abbrev pub renewed : HomeSide → (n incarnation : ℕ) → HomeSide
renewed S n i = record S { server = forgetting S.server n i }
