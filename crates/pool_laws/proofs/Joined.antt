-- For the proofs: what holds of the pool in every state, and what an event comes to.
use Rattle.std.proofs.Common.{◌≡◌, ◌≢◌, ℕ, true, List, [], ◌∷◌, refl, sym, ap, subst, ◌∙◌, eqb-true}
use Rattle.page_coherence.specs.Mode.{Mode, Mode.Normal, Mode.Fenced, Mode.Tailed, Mode.Renewed}
use Rattle.page_coherence.specs.Cluster.{State as Pages, Event as PageEvent, Happens as PagesDo, Run as PagesRun}
use Rattle.page_coherence.specs.AllPages.{AllHold}
use Rattle.call_model.specs.Stages.{Stage.Quiet as NoCall}
use Rattle.call_model.specs.Laws.{stage_of}
use Rattle.call_model.proofs.Steps.{Delivered}
use Rattle.redo_durability.specs.Machine.{Event as LogEvent, Run as LogRuns}
use Rattle.redo_durability.proofs.Durable.{Durable, durable-run}
use Rattle.pool_laws.specs.Calls.{append_seen, has_append, only}
use Rattle.pool_laws.specs.Pool.{Pool, with_calls, no_calls, pages_seen, log_seen, seen, bare}
use Rattle.pool_laws.proofs.Fill.{pages_seen-as, log_seen-as}
use Rattle.pool_laws.proofs.Relink.{ApartAt, Linked}

pub at_one : (X : ℕ → Type 0) (p : ℕ) → X p → (k : ℕ) → only p k ≡ true → X k
at_one X p x k e = subst X (sym (eqb-true k p e)) x

pub normal_if : (m : Mode) → ((m ≢ Normal) → ⊥) → m ≡ Normal
normal_if Normal h = refl
normal_if Fenced h = absurd (h (λ e. Prim.cc))
normal_if (Tailed t) h = absurd (h (λ e. Prim.cc))
normal_if Renewed h = absurd (h (λ e. Prim.cc))

module _ {G : Type 0} (size : G → ℕ) where
  pub record Joined (x : Pool G) : Type 0 where
    pub pages : AllHold (pages_seen x)
    pub home : Delivered x.home
    pub storage : Delivered x.storage
    pub log : Durable size (log_seen x)
    pub apart : (p n : ℕ) → ApartAt p (stage_of x.home n) (stage_of x.storage n)
    pub owner : (n : ℕ) → has_append (stage_of x.storage n) ≡ true → n ≡ x.pages.rw
    pub serves : x.pages.home_up ≡ x.home.serves
    pub calm : x.pages.mode ≢ Normal → (n : ℕ) → stage_of x.home n ≡ NoCall

  -- an event from a pool as the messages show it to z comes to these events of pages, which lead to t, and of the log
  pub record Goes (x z : Pool G) (t : Pages) : Type 0 where
    pub quiet : with_calls no_calls z.pages ≡ with_calls no_calls t
    pub events : List PageEvent
    pub run : PagesRun x.pages events t
    pub linked : Linked t (stage_of z.home) (stage_of z.storage)
    pub logs : List (LogEvent G)
    pub log : LogRuns size x.log logs z.log
    pub append : z.log.append ≡ append_seen z.log.epoch (stage_of z.storage t.rw)
    pub home : Delivered z.home
    pub storage : Delivered z.storage
    pub owner : (n : ℕ) → has_append (stage_of z.storage n) ≡ true → n ≡ t.rw
    pub serves : t.home_up ≡ z.home.serves
    pub calm : t.mode ≢ Normal → (n : ℕ) → stage_of z.home n ≡ NoCall

  pub linked-seen : (x : Pool G) → Joined x → Linked (pages_seen x) (stage_of x.home) (stage_of x.storage)
  linked-seen x j p n = (refl, j.apart p n)

  module _ (law : (e : PageEvent) (s t : Pages) → PagesDo e s t → AllHold s → AllHold t) where
    pub run_holds : (s t : Pages) (es : List PageEvent) → PagesRun s es t → AllHold s → AllHold t
    run_holds s t [] r h = subst AllHold (sym r) h
    run_holds s t (e ∷ es) r h = run_holds r.0 t es r.2 (law e s r.0 r.1 h)

    pub goes-joined : (x z : Pool G) (t : Pages) → Joined x → Goes (seen x) z t
        → Joined (bare z)
        × ((es : List PageEvent) × PagesRun (pages_seen x) es (pages_seen (bare z)))
        × ((ls : List (LogEvent G)) × LogRuns size (log_seen x) ls (log_seen (bare z)))
    goes-joined x z t j g =
        let e1 : pages_seen (bare z) ≡ t = pages_seen-as z t g.quiet (λ p n. (g.linked p n).0) in
        let r : z.pages.rw ≡ t.rw = ap (λ (s : Pages). s.rw) g.quiet in
        let u : z.pages.home_up ≡ t.home_up = ap (λ (s : Pages). s.home_up) g.quiet in
        let m : z.pages.mode ≡ t.mode = ap (λ (s : Pages). s.mode) g.quiet in
        let a : z.log.append ≡ append_seen z.log.epoch (stage_of z.storage z.pages.rw) =
        subst (λ k. z.log.append ≡ append_seen z.log.epoch (stage_of z.storage k)) (sym r) g.append in
        let e2 : log_seen (bare z) ≡ z.log = log_seen-as z a in (
          record {
            pages = subst AllHold (sym e1) (run_holds (pages_seen x) t g.events g.run j.pages);
            home = g.home;
            storage = g.storage;
            log = subst (Durable size) (sym e2) (durable-run size (log_seen x) z.log g.logs j.log g.log);
            apart = λ p n. (g.linked p n).1;
            owner = λ n h. g.owner n h ∙ sym r;
            serves = u ∙ g.serves;
            calm = λ ne. g.calm (λ e. ne (m ∙ e));
          },
          (g.events, subst (λ s. PagesRun (pages_seen x) g.events s) (sym e1) g.run),
          (g.logs, subst (λ l. LogRuns size (log_seen x) g.logs l) (sym e2) g.log),
        )
