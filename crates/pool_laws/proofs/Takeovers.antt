-- For the proofs: the home goes down and is renewed; a takeover.
use Rattle.std.proofs.Common.{◌≡◌, ℕ, Bool, true, false, List, [], ◌∷◌, length, inl, inr, refl, sym, ap, subst, ◌∙◌}
use Rattle.page_coherence.specs.Cluster.{State as Pages, Event.CrashHome as CrashTables, Event.Renew as RenewPages, Event.Fence as FencePages, Event.Tail as TailPages, Event.Sweep as SweepPages, Happens as PagesDo, MayTail}
use Rattle.call_model.specs.Stages.{Stage.Quiet as NoCall}
use Rattle.call_model.specs.Network.{Network, Event as CallEvent, Event.Fence as FenceCalls, Event.CrashServer, Event.RenewServer, Run as CallsRun}
use Rattle.call_model.specs.Laws.{stage_of}
use Rattle.call_model.proofs.Steps.{reached}
use Rattle.redo_durability.specs.Machine.{State as Log, Phase, Phase.Open, Phase.Down, Phase.Stopped, Phase.Tailed, Append.NoAppend, Event as LogEvent, Event.Crash as CrashLog, Event.End, Event.Fence as FenceLog, Event.Tail as TailLog, Event.Sweep as SweepLog, Happens as LogDoes, Run as LogRuns, crashed, ended}
use Rattle.redo_durability.proofs.Durable.{Durable}
use Rattle.pool_laws.specs.Calls.{HomeCall, HomeAnswer, StorageCall, StorageAnswer, append_seen, has_append}
use Rattle.pool_laws.specs.Pool.{Pool, pages_seen, log_seen, seen}
use Rattle.pool_laws.specs.Events.{Calls, renewed_in}
use Rattle.pool_laws.proofs.Parts.{none-appended, some-appended}
use Rattle.pool_laws.proofs.Relink.{linked-same, linked-none}
use Rattle.pool_laws.proofs.Networks.{after-server_crash, after-fence, after-renewal}
use Rattle.pool_laws.proofs.Joined.{Joined, Goes, linked-seen}

module _ {G : Type 0} (size : G → ℕ) where
  pub goes-crash_home : (x : Pool G) (h : Network HomeCall HomeAnswer) (t : Pages) → Joined size x → Calls CrashServer x.home h
      → PagesDo CrashTables (pages_seen x) t → Goes size (seen x) (record (seen x) { pages = t; home = h }) t
  goes-crash_home x h t j a k =
      let p = after-server_crash x.home h j.home a in
      let r : t.rw ≡ x.pages.rw = ap (λ (z : Pages). z.rw) k.1 in record {
        quiet = refl;
        events = CrashTables ∷ [];
        run = (t, k, refl);
        linked = linked-same (pages_seen x) t (stage_of x.home) (stage_of h) (stage_of x.storage) (stage_of x.storage) (linked-seen size x j)
            (λ y m. ap (λ (z : Pages). ((z.page y).node m).call) k.1) (p.0).stages (λ m. refl);
        logs = [];
        log = refl;
        append = ap (λ z. append_seen x.log.epoch (stage_of x.storage z)) (sym r);
        home = (p.0).delivered;
        storage = j.storage;
        owner = λ n w. j.owner n w ∙ sym r;
        serves = ap (λ (z : Pages). z.home_up) k.1 ∙ sym p.1;
        calm = λ ne n. (p.0).stages n ∙ j.calm (λ e. ne (ap (λ (z : Pages). z.mode) k.1 ∙ e)) n;
      }

  -- ---- all calls end
  none_owned : (d : Network (StorageCall G) StorageAnswer) (r : ℕ) → ((n : ℕ) → stage_of d n ≡ NoCall) → (n : ℕ) → has_append (stage_of d n) ≡ true → n ≡ r
  none_owned d r a n w = let z : has_append (stage_of d n) ≡ false = ap has_append (a n) in absurd Prim.cc

  pub goes-fence : (x : Pool G) (e : ℕ) (h : Network HomeCall HomeAnswer) (d : Network (StorageCall G) StorageAnswer) (t : Pages) (l : Log G) → Joined size x
      → Calls (FenceCalls e) x.home h → Calls (FenceCalls e) x.storage d → PagesDo FencePages (pages_seen x) t → LogDoes size (FenceLog e) (log_seen x) l
      → Goes size (seen x) (record { pages = t; home = h; storage = d; log = l }) t
  goes-fence x e h d t l j a b k g =
      let p = after-fence e x.home h j.home a in
      let q = after-fence e x.storage d j.storage b in record {
        quiet = refl;
        events = FencePages ∷ [];
        run = (t, k, refl);
        linked = linked-none t (stage_of h) (stage_of d) (λ y m. ap (λ (z : Pages). ((z.page y).node m).call) k.1) p.1 q.1;
        logs = FenceLog e ∷ [];
        log = (l, g, refl);
        append = ap (λ (z : Log G). z.append) g.1 ∙ sym (ap (append_seen l.epoch) (q.1 t.rw));
        home = p.0;
        storage = q.0;
        owner = none_owned d t.rw q.1;
        serves = ap (λ (z : Pages). z.home_up) k.1 ∙ (k.0 ∙ sym p.2);
        calm = λ ne n. p.1 n;
      }

  -- what a renewal does to the log
  record Renews (k l : Log G) : Type 0 where
    events : List (LogEvent G)
    run : LogRuns size k events l
    append : l.append ≡ NoAppend

  renews : (k : Log G) (ph : Phase) → Durable size k → k.phase ≡ ph → Renews k (renewed_in ph k)
  renews k Open d e = record { events = CrashLog ∷ End ∷ []; run = (crashed k, (e, refl), (ended (crashed k), (refl, refl), refl)); append = refl }
  renews k Down d e = record { events = End ∷ []; run = (ended k, (e, refl), refl); append = refl }
  renews k Stopped d e = record { events = []; run = refl; append = (d.still (inl e)).0 }
  renews k Tailed d e = record { events = []; run = refl; append = (d.still (inr e)).0 }

  pub goes-renew : (x : Pool G) (ds : ℕ → Bool) (e : ℕ) (fs : List (CallEvent HomeCall HomeAnswer)) (es : List (CallEvent (StorageCall G) StorageAnswer)) (i h : Network HomeCall HomeAnswer) (d : Network (StorageCall G) StorageAnswer) (t : Pages)
      → Joined size x → CallsRun x.home fs i → Calls (RenewServer e) i h → CallsRun x.storage es d → ((n : ℕ) → stage_of d n ≡ NoCall) → PagesDo (RenewPages ds) (pages_seen x) t
      → Goes size (seen x) (record { pages = t; home = h; storage = d; log = renewed_in x.log.phase (log_seen x) }) t
  goes-renew x ds e fs es i h d t j c a b q k =
      let p = after-renewal e i h (reached x.home i fs j.home c) a in
      let g = renews (log_seen x) x.log.phase j.log refl in record {
        quiet = refl;
        events = RenewPages ds ∷ [];
        run = (t, k, refl);
        linked = linked-none t (stage_of h) (stage_of d) (λ y m. ap (λ (z : Pages). ((z.page y).node m).call) k.1) p.1 q;
        logs = g.events;
        log = g.run;
        append = g.append ∙ sym (ap (append_seen (renewed_in x.log.phase (log_seen x)).epoch) (q t.rw));
        home = p.0;
        storage = reached x.storage d es j.storage b;
        owner = none_owned d t.rw q;
        serves = ap (λ (z : Pages). z.home_up) k.1 ∙ sym p.2;
        calm = λ ne n. p.1 n;
      }

  -- ---- the log is read, and the next RW begins
  pub goes-tail : (x : Pool G) (t : Pages) (l : Log G) → Joined size x → PagesDo (TailPages (length x.log.store.groups)) (pages_seen x) t
      → LogDoes size TailLog (log_seen x) l → Goes size (seen x) (record (seen x) { pages = t; log = l }) t
  goes-tail x t l j k g =
      let r : t.rw ≡ x.pages.rw = ap (λ (z : Pages). z.rw) k.1 in record {
        quiet = refl;
        events = TailPages (length x.log.store.groups) ∷ [];
        run = (t, k, refl);
        linked = linked-same (pages_seen x) t (stage_of x.home) (stage_of x.home) (stage_of x.storage) (stage_of x.storage) (linked-seen size x j)
            (λ y m. ap (λ (z : Pages). ((z.page y).node m).call) k.1) (λ m. refl) (λ m. refl);
        logs = TailLog ∷ [];
        log = (l, g, refl);
        append = ap (λ (z : Log G). z.append) g.1 ∙ ap (λ z. append_seen x.log.epoch (stage_of x.storage z)) (sym r)
            ∙ ap (λ z. append_seen z (stage_of x.storage t.rw)) (sym (ap (λ (z : Log G). z.epoch) g.1));
        home = j.home;
        storage = j.storage;
        owner = λ n w. j.owner n w ∙ sym r;
        serves = ap (λ (z : Pages). z.home_up) k.1 ∙ j.serves;
        calm = λ ne. j.calm (λ e. subst (λ m. MayTail m (length x.log.store.groups)) e k.0);
      }

  -- from the fence to the sweep no node has an append
  none_tailed : (x : Pool G) → Joined size x → x.log.phase ≡ Tailed → (n : ℕ) → has_append (stage_of x.storage n) ≡ false
  none_tailed x j e n = by_owner (has_append (stage_of x.storage n)) refl
    where
      by_owner : (b : Bool) → has_append (stage_of x.storage n) ≡ b → b ≡ false
      by_owner false h = refl
      by_owner true h =
          let i = j.owner n h in
          let a : append_seen x.log.epoch (stage_of x.storage x.pages.rw) ≡ NoAppend = (j.log.still (inr e)).0 in
          let c : has_append (stage_of x.storage x.pages.rw) ≡ false = some-appended x.log.epoch (stage_of x.storage x.pages.rw) a in
          sym h ∙ subst (λ z. has_append (stage_of x.storage z) ≡ false) (sym i) c

  pub goes-sweep : (x : Pool G) (n : ℕ) (t : Pages) (l : Log G) → Joined size x → PagesDo (SweepPages n) (pages_seen x) t
      → LogDoes size SweepLog (log_seen x) l → Goes size (seen x) (record (seen x) { pages = t; log = l }) t
  goes-sweep x n t l j k g =
      let none = none_tailed x j g.0 in record {
        quiet = refl;
        events = SweepPages n ∷ [];
        run = (t, k, refl);
        linked = linked-same (pages_seen x) t (stage_of x.home) (stage_of x.home) (stage_of x.storage) (stage_of x.storage) (linked-seen size x j)
            (λ y m. ap (λ (z : Pages). ((z.page y).node m).call) k.3) (λ m. refl) (λ m. refl);
        logs = SweepLog ∷ [];
        log = (l, g, refl);
        append = ap (λ (z : Log G). z.append) g.1 ∙ (j.log.still (inr g.0)).0 ∙ sym (none-appended l.epoch (stage_of x.storage t.rw) (none t.rw));
        home = j.home;
        storage = j.storage;
        owner = λ m w. let z = none m in absurd Prim.cc;
        serves = ap (λ (z : Pages). z.home_up) k.3 ∙ j.serves;
        calm = λ ne. absurd (ne (ap (λ (z : Pages). z.mode) k.3));
      }
