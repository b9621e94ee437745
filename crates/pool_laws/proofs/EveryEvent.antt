-- For the proofs: every event of the pool, and every list of them.
use Rattle.std.proofs.Common.{◌≡◌, ℕ, List, [], ◌∷◌, ◌++◌, length, inl, refl, sym, ap, subst}
use Rattle.page_image.specs.Image.{Image}
use Rattle.page_coherence.specs.Cluster.{State as Pages, Event as PageEvent, Run as PagesRun, MayStart, start as start_pages, Reached as PagesReached}
use Rattle.page_coherence.proofs.EveryEvent.{step_holds, reached_holds}
use Rattle.page_coherence.proofs.Promises.{coherent}
use Rattle.call_model.specs.Stages.{Stage.Handled}
use Rattle.call_model.specs.Laws.{stage_of}
use Rattle.call_model.proofs.Steps.{delivered-new}
use Rattle.redo_durability.specs.Machine.{Event as LogEvent, Run as LogRuns, pending, Append.Answered}
use Rattle.redo_durability.proofs.Durable.{Durable, durable-start}
use Rattle.pool_laws.specs.Calls.{StorageCall.AppendGroups, StorageAnswer.Appended, append_seen, has_append}
use Rattle.pool_laws.specs.Pool.{Pool, pages_seen, log_seen, seen}
use Rattle.pool_laws.specs.Events.{Event, Event.Work, Event.Install, Event.SendRegister, Event.SendUnregister, Event.SendInvalidate, Event.SendGet, Event.SendAppend, Event.DeliverHome, Event.DeliverStorage, Event.Crash, Event.Kick, Event.Restart, Event.Rejoin, Event.CrashHome, Event.Renew, Event.Fence, Event.Tail, Event.Sweep, Does, Happens, Run, start, back}
use Rattle.pool_laws.specs.Laws.{Reached, EventsAreSteps, PagesAreReached, PagesAreCoherent, HandledOnce, LogIsDurable, AppendsAreKept}
use Rattle.pool_laws.proofs.Joined.{Joined, Goes, goes-joined}
use Rattle.pool_laws.proofs.Sends.{goes-register, goes-unregister, goes-invalidate, goes-get, goes-append}
use Rattle.pool_laws.proofs.HomeCalls.{goes-home}
use Rattle.pool_laws.proofs.StorageCalls.{goes-storage}
use Rattle.pool_laws.proofs.Nodes.{goes-work, goes-install, goes-crash, goes-kick, goes-restart, goes-rejoin}
use Rattle.pool_laws.proofs.Takeovers.{goes-crash_home, goes-fence, goes-renew, goes-tail, goes-sweep}

module _ {G : Type 0} (size : G → ℕ) where
  abbrev pub Comes : Pool G → Pool G → Type 0
  Comes x z = (t : Pages) × Goes size (seen x) z t

  goes : (e : Event G) (x z : Pool G) → Joined size x → Does size e (seen x) z → Comes x z
  goes (Work e) x z j d = subst (Comes x) (sym d.1.2) (d.1.0, goes-work size x e d.1.0 j d.0 d.1.1)
  goes (Install n ps images g) x z j d = subst (Comes x) (sym d.1.2) (d.1.0, goes-install size x n ps images g d.1.0 j d.0 d.1.1)
  goes (SendRegister n p) x z j d = subst (Comes x) (sym d.3.2) (goes-register size x n p d.3.0 j d.0 d.1 d.2 d.3.1)
  goes (SendUnregister n p) x z j d = subst (Comes x) (sym d.3.2) (goes-unregister size x n p d.3.0 j d.0 d.1 d.2 d.3.1)
  goes (SendInvalidate n ps) x z j d = subst (Comes x) (sym d.2.2) (goes-invalidate size x n ps d.2.0 j d.0 d.1 d.2.1)
  goes (SendGet n p v) x z j d = subst (Comes x) (sym d.2.2) (goes-get size x n p v d.2.0 j d.0 d.1 d.2.1)
  goes (SendAppend n) x z j d = subst (Comes x) (sym d.4.2) (goes-append size x n d.4.0 j d.0 d.1 d.2 d.4.1)
  goes (DeliverHome m) x z j d = subst (Comes x) (sym d.5) (goes-home size x m d.0 d.1 d.2 j d.3 d.4)
  goes (DeliverStorage m) x z j d = subst (Comes x) (sym d.6) (goes-storage size x m d.0 d.1 d.2 d.3 j d.4 d.5)
  goes (Crash n) x z j d = subst (Comes x) (sym d.6) (d.2, goes-crash size x n d.0 d.1 d.2 j d.3 d.4 d.5)
  goes (Kick n) x z j d = subst (Comes x) (sym d.6) (d.2, goes-kick size x n d.0 d.1 d.2 j d.3 d.4 d.5)
  goes (Restart n e) x z j d = subst (Comes x) (sym d.6) (back n (pages_seen x), goes-restart size x n e d.0 d.1 j d.2 d.3 d.4 d.5)
  goes (Rejoin n e) x z j d = subst (Comes x) (sym d.7) (back n (pages_seen x), goes-rejoin size x n e d.0 d.1 j d.2 d.3 d.4 d.5 d.6)
  goes CrashHome x z j d = subst (Comes x) (sym d.4) (d.1, goes-crash_home size x d.0 d.1 j d.2 d.3)
  goes (Renew ds e fs es) x z j d = subst (Comes x) (sym d.11) (d.3, goes-renew size x ds e fs es d.0 d.1 d.2 d.3 j d.5 d.6 d.8 d.9 d.10)
  goes (Fence e) x z j d = subst (Comes x) (sym d.8) (d.2, goes-fence size x e d.0 d.1 d.2 d.3 j d.4 d.5 d.6 d.7)
  goes Tail x z j d = subst (Comes x) (sym d.4) (d.0, goes-tail size x d.0 d.1 j d.2 d.3)
  goes (Sweep n) x z j d = subst (Comes x) (sym d.4) (d.0, goes-sweep size x n d.0 d.1 j d.2 d.3)

  -- what one event comes to
  abbrev pub Steps : Pool G → Pool G → Type 0
  Steps x y =
      Joined size y
      × ((es : List PageEvent) × PagesRun (pages_seen x) es (pages_seen y))
      × ((ls : List (LogEvent G)) × LogRuns size (log_seen x) ls (log_seen y))

  pub steps : (e : Event G) (x y : Pool G) → Joined size x → Happens size e x y → Steps x y
  steps e x y j h =
      let g = goes e x h.0 j h.1 in
      subst (λ z. Steps x z) (sym h.2) (goes-joined size step_holds x h.0 g.0 j g.1)

  -- ---- every list of events
  runs-on : (s m t : Pages) (es fs : List PageEvent) → PagesRun s es m → PagesRun m fs t → PagesRun s (es ++ fs) t
  runs-on s m t [] fs r q = subst (λ z. PagesRun z fs t) r q
  runs-on s m t (e ∷ es) fs r q = (r.0, r.1, runs-on r.0 m t es fs r.2 q)

  pub run-steps : (x y : Pool G) (es : List (Event G)) → Joined size x → Run size x es y
      → Joined size y × ((ps : List PageEvent) × PagesRun (pages_seen x) ps (pages_seen y))
  run-steps x y [] j r = subst (λ z. Joined size z × ((ps : List PageEvent) × PagesRun (pages_seen x) ps (pages_seen z))) (sym r) (j, ([], refl))
  run-steps x y (e ∷ es) j r =
      let s = steps e x r.0 j r.1 in
      let o = run-steps r.0 y es s.0 r.2 in
      (o.0, (s.1.0 ++ o.1.0, runs-on (pages_seen x) (pages_seen r.0) (pages_seen y) s.1.0 o.1.0 s.1.1 o.1.1))

  -- ---- the start
  start-seen : (r : ℕ) (log : List G) (histories : ℕ → List Image) → pages_seen (start size r log histories) ≡ start_pages r (length log) histories
  start-seen r log histories = refl

  start-joined : (r : ℕ) (log : List G) (histories : ℕ → List Image) → MayStart (length log) histories → Joined size (start size r log histories)
  start-joined r log histories m = record {
    pages = reached_holds (start_pages r (length log) histories) (r, length log, histories, [], m, refl);
    home = delivered-new;
    storage = delivered-new;
    log = durable-start size log;
    apart = λ p n. inl refl;
    owner = λ n h. absurd Prim.cc;
    serves = refl;
    calm = λ ne n. refl;
  }

  pub reached-joined : (x : Pool G) → Reached size x → Joined size x × PagesReached (pages_seen x)
  reached-joined x h =
      let j = start-joined h.rw h.log h.histories h.may_start in
      let s = run-steps (start size h.rw h.log h.histories) x h.events j h.run in
      (s.0, (h.rw, length h.log, h.histories, s.1.0, h.may_start, s.1.1))

module _ {G : Type 0} where
  pub events_are_steps : EventsAreSteps G
  events_are_steps size e x y r h = let s = steps size e x y (reached-joined size x r).0 h in (s.1, s.2)

  pub pages_are_reached : PagesAreReached G
  pages_are_reached size x r = (reached-joined size x r).1

  pub pages_are_coherent : PagesAreCoherent G
  pages_are_coherent size x r p = coherent (pages_seen x) (pages_are_reached size x r) p

  pub appends_are_kept : AppendsAreKept G
  appends_are_kept size x r n off gs a h =
      let j = (reached-joined size x r).0 in
      let i : n ≡ x.pages.rw = j.owner n (ap has_append h) in
      let k : append_seen x.log.epoch (stage_of x.storage x.pages.rw) ≡ Answered gs a =
      ap (append_seen x.log.epoch) (subst (λ z. stage_of x.storage z ≡ Handled (AppendGroups off gs) (Appended a)) i h) in
      let d = j.log.answered gs a k in
      (i, d.0, d.1)

  pub handled_once : HandledOnce G
  handled_once size x r = let j = (reached-joined size x r).0 in (j.home.past.rising, j.storage.past.rising)

  pub log_is_durable : LogIsDurable G
  log_is_durable size x r =
      let d : Durable size (log_seen x) = (reached-joined size x r).0.log in
      ((pending (log_seen x).append ++ d.front.0, d.front.1), d.known)
