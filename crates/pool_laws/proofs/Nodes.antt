-- For the proofs: work, installs, and nodes, home and log that go down, are kicked and come back.
use Rattle.std.proofs.Common.{◌≡◌, ◌≢◌, ℕ, Bool, true, false, List, [], ◌∷◌, if◌then◌else◌, nat_eq, ◌⊎◌, inl, inr, refl, sym, ap, subst, ◌∙◌, eqb-true, arith}
use Rattle.page_image.specs.Image.{Image}
use Rattle.node_model.specs.Call.{Call.Quiet}
use Rattle.node_model.specs.Node.{blank}
use Rattle.page_coherence.specs.Page.{Page}
use Rattle.page_coherence.specs.Mode.{Mode.Normal}
use Rattle.page_coherence.specs.Moves.{Move.Install}
use Rattle.page_coherence.specs.Cluster.{State as Pages, Event as PageEvent, Event.Act, Event.Crash as CrashPages, Event.Kick as KickPages, Event.Restart as RestartPages, Event.Rejoin as RejoinPages, Happens as PagesDo, Run as PagesRun, IsUp, kicked_at, returned}
use Rattle.call_model.specs.Stages.{Stage.Quiet as NoCall}
use Rattle.call_model.specs.Network.{Network, Event.Crash as CrashCaller, Event.Kick as KickCaller, Event.Restart as RestartCaller, Event.Rejoin as RejoinCaller}
use Rattle.call_model.specs.Laws.{stage_of}
use Rattle.redo_durability.specs.Machine.{State as Log, Phase, Phase.Open, Phase.Down, Phase.Stopped, Phase.Tailed, Event as LogEvent, Event.Install as InstallGroup, Event.Crash as CrashLog, Run as LogRuns, installed, crashed}
use Rattle.pool_laws.specs.Calls.{HomeCall, HomeAnswer, StorageCall, StorageAnswer, call_seen, append_seen, has_append}
use Rattle.pool_laws.specs.Pool.{Pool, pages_seen, log_seen, seen}
use Rattle.pool_laws.specs.Local.{IsWork}
use Rattle.pool_laws.specs.Events.{Calls, HasNothing, back, lost_in, log_without}
use Rattle.pool_laws.proofs.LocalCalls.{put_call, works, act_calls, install_calls, AllSame}
use Rattle.pool_laws.proofs.Relink.{Linked, linked-same, relink}
use Rattle.pool_laws.proofs.Networks.{Leaves, after-crash, after-restart, after-rejoin, after-kick}
use Rattle.pool_laws.proofs.Joined.{Joined, Goes, linked-seen}

module _ {G : Type 0} (size : G → ℕ) where
  -- ---- work and installs
  pub goes-work : (x : Pool G) (e : PageEvent) (t : Pages) → Joined size x → IsWork e → PagesDo e (pages_seen x) t
      → Goes size (seen x) (record (seen x) { pages = t }) t
  goes-work x e t j w h =
      let k = works e (pages_seen x) t w h in record {
        quiet = refl;
        events = e ∷ [];
        run = (t, h, refl);
        linked = linked-same (pages_seen x) t (stage_of x.home) (stage_of x.home) (stage_of x.storage) (stage_of x.storage) (linked-seen size x j) k.calls (λ m. refl) (λ m. refl);
        logs = [];
        log = refl;
        append = ap (λ z. append_seen x.log.epoch (stage_of x.storage z)) (sym k.rw);
        home = j.home;
        storage = j.storage;
        owner = λ n a. j.owner n a ∙ sym k.rw;
        serves = k.up ∙ j.serves;
        calm = λ ne. j.calm (λ q. ne (k.mode ∙ q));
      }

  pub goes-install : (x : Pool G) (n : ℕ) (ps : ℕ → Bool) (images : ℕ → Image) (g : G) (t : Pages) → Joined size x → x.log.phase ≡ Open
      → PagesDo (Act n ps (λ p. Install (images p))) (pages_seen x) t
      → Goes size (seen x) (record (seen x) { pages = t; log = installed (log_seen x) g }) t
  goes-install x n ps images g t j o h =
      let s : Pages = pages_seen x in
      let c : AllSame s t = act_calls n ps (λ p. Install (images p)) s t h (λ p Q e k. install_calls x.pages.rw x.pages.watermark n (images p) (s.page p) Q k) in
      let r : t.rw ≡ x.pages.rw = ap (λ (z : Pages). z.rw) h.1.3 in record {
        quiet = refl;
        events = Act n ps (λ p. Install (images p)) ∷ [];
        run = (t, h, refl);
        linked = linked-same s t (stage_of x.home) (stage_of x.home) (stage_of x.storage) (stage_of x.storage) (linked-seen size x j) c (λ m. refl) (λ m. refl);
        logs = InstallGroup g ∷ [];
        log = (installed (log_seen x) g, (o, refl), refl);
        append = ap (λ z. append_seen x.log.epoch (stage_of x.storage z)) (sym r);
        home = j.home;
        storage = j.storage;
        owner = λ m a. j.owner m a ∙ sym r;
        serves = ap (λ (z : Pages). z.home_up) h.1.3 ∙ j.serves;
        calm = λ ne. j.calm (λ q. ne (ap (λ (z : Pages). z.mode) h.1.3 ∙ q));
      }

  -- ---- the log of a RW that goes down
  record LogGoes (k l : Log G) : Type 0 where
    events : List (LogEvent G)
    run : LogRuns size k events l
    append : l.append ≡ k.append
    epoch : l.epoch ≡ k.epoch

  loses : (k : Log G) (ph : Phase) → k.phase ≡ ph → LogGoes k (lost_in ph k)
  loses k Open e = record { events = CrashLog ∷ []; run = (crashed k, (e, refl), refl); append = refl; epoch = refl }
  loses k Down e = record { events = []; run = refl; append = refl; epoch = refl }
  loses k Stopped e = record { events = []; run = refl; append = refl; epoch = refl }
  loses k Tailed e = record { events = []; run = refl; append = refl; epoch = refl }

  goes_without : (k : Log G) (b : Bool) → LogGoes k (if b then lost_in k.phase k else k)
  goes_without k true = loses k k.phase refl
  goes_without k false = record { events = []; run = refl; append = refl; epoch = refl }

  -- ---- a node crashes
  crash_calls : (x : Pool G) (n : ℕ) (t : Pages) → PagesDo (CrashPages n) (pages_seen x) t → AllSame (pages_seen x) t
  crash_calls x n t h p m = subst (λ (z : Pages). ((z.page p).node m).call ≡ (((pages_seen x).page p).node m).call) (sym h.1)
      (put_call ((pages_seen x).page p).node n (blank false (((pages_seen x).page p).node n).call) m refl)

  goes_down : (x : Pool G) (h : Network HomeCall HomeAnswer) (d : Network (StorageCall G) StorageAnswer) (t : Pages) (l : Log G) (es : List PageEvent)
      → Joined size x → Leaves x.home h → h.serves ≡ x.home.serves → Leaves x.storage d → LogGoes (log_seen x) l
      → AllSame (pages_seen x) t → t.rw ≡ x.pages.rw → t.home_up ≡ x.pages.home_up → t.mode ≡ x.pages.mode → PagesRun (pages_seen x) es t
      → Goes size (seen x) (record { pages = t; home = h; storage = d; log = l }) t
  goes_down x h d t l es j a v b g c r u m run = record {
    quiet = refl;
    events = es;
    run = run;
    linked = linked-same (pages_seen x) t (stage_of x.home) (stage_of h) (stage_of x.storage) (stage_of d) (linked-seen size x j) c a.stages b.stages;
    logs = g.events;
    log = g.run;
    append = g.append ∙ ap (append_seen x.log.epoch) (sym (b.stages x.pages.rw)) ∙ ap (λ z. append_seen x.log.epoch (stage_of d z)) (sym r)
        ∙ ap (λ z. append_seen z (stage_of d t.rw)) (sym g.epoch);
    home = a.delivered;
    storage = b.delivered;
    owner = λ k w. j.owner k (subst (λ z. has_append z ≡ true) (b.stages k) w) ∙ sym r;
    serves = u ∙ j.serves ∙ sym v;
    calm = λ ne k. a.stages k ∙ j.calm (λ q. ne (m ∙ q)) k;
  }

  pub goes-crash : (x : Pool G) (n : ℕ) (h : Network HomeCall HomeAnswer) (d : Network (StorageCall G) StorageAnswer) (t : Pages) → Joined size x
      → Calls (CrashCaller n) x.home h → Calls (CrashCaller n) x.storage d
      → PagesDo (CrashPages n) (pages_seen x) t ⊎ (IsUp (pages_seen x) n false × (t ≡ pages_seen x))
      → Goes size (seen x) (record { pages = t; home = h; storage = d; log = log_without n x.pages.rw (log_seen x) }) t
  goes-crash x n h d t j a b (inl k) =
      let p = after-crash n x.home h j.home a in let q = after-crash n x.storage d j.storage b in
      goes_down x h d t (log_without n x.pages.rw (log_seen x)) (CrashPages n ∷ []) j p.0 p.1 q.0 (goes_without (log_seen x) (nat_eq n x.pages.rw))
      (crash_calls x n t k) (ap (λ (z : Pages). z.rw) k.1) (ap (λ (z : Pages). z.home_up) k.1) (ap (λ (z : Pages). z.mode) k.1) (t, k, refl)
  goes-crash x n h d t j a b (inr k) =
      let p = after-crash n x.home h j.home a in let q = after-crash n x.storage d j.storage b in
      goes_down x h d t (log_without n x.pages.rw (log_seen x)) [] j p.0 p.1 q.0 (goes_without (log_seen x) (nat_eq n x.pages.rw))
      (λ r m. ap (λ (z : Pages). ((z.page r).node m).call) k.1) (ap (λ (z : Pages). z.rw) k.1) (ap (λ (z : Pages). z.home_up) k.1) (ap (λ (z : Pages). z.mode) k.1) k.1

  -- ---- a node is kicked
  kicked_beside : (P : Page) (n m : ℕ) → m ≢ n → ((kicked_at P n).node m).call ≡ (P.node m).call
  kicked_beside P n m ne = grind arith

  kicked_here : (P : Page) (n : ℕ) → ((kicked_at P n).node n).call ≡ Quiet
  kicked_here P n = grind arith

  pub goes-kick : (x : Pool G) (n : ℕ) (h : Network HomeCall HomeAnswer) (d : Network (StorageCall G) StorageAnswer) (t : Pages) → Joined size x
      → Calls (KickCaller n) x.home h → Calls (KickCaller n) x.storage d → PagesDo (KickPages n) (pages_seen x) t
      → Goes size (seen x) (record (seen x) { pages = t; home = h; storage = d }) t
  goes-kick x n h d t j a b k =
      let s : Pages = pages_seen x in
      let p = after-kick n x.home h j.home a in
      let q = after-kick n x.storage d j.storage b in
      let r : t.rw ≡ x.pages.rw = ap (λ (z : Pages). z.rw) k.3 in
      let same : stage_of d x.pages.rw ≡ stage_of x.storage x.pages.rw = q.2 x.pages.rw (λ e. k.1 (sym e)) in record {
        quiet = refl;
        events = KickPages n ∷ [];
        run = (t, k, refl);
        linked = subst (λ (z : Pages). Linked z (stage_of h) (stage_of d)) (sym k.3)
            (relink s n (λ y. true) (λ P. kicked_at P n) (stage_of x.home) (stage_of h) (stage_of x.storage) (stage_of d) (linked-seen size x j)
            (λ y m ne. kicked_beside (s.page y) n m ne)
            (λ y e. rw (p.1, q.1) (kicked_here (s.page y) n, inl refl))
            (λ y e. absurd Prim.cc) p.2 q.2);
        logs = [];
        log = refl;
        append = ap (append_seen x.log.epoch) (sym same) ∙ ap (λ z. append_seen x.log.epoch (stage_of d z)) (sym r);
        home = p.0;
        storage = q.0;
        owner = λ m w. owner-kick q.1 q.2 m w (nat_eq m n) refl ∙ sym r;
        serves = ap (λ (z : Pages). z.home_up) k.3 ∙ j.serves ∙ sym p.3;
        calm = λ ne m. calm-kick p.1 p.2 (λ e. ne (ap (λ (z : Pages). z.mode) k.3 ∙ e)) m (nat_eq m n) refl;
      }
    where
      owner-kick : stage_of d n ≡ NoCall → ((m : ℕ) → m ≢ n → stage_of d m ≡ stage_of x.storage m) → (m : ℕ) → has_append (stage_of d m) ≡ true
          → (c : Bool) → nat_eq m n ≡ c → m ≡ x.pages.rw
      owner-kick e o m w true q = let f : has_append (stage_of d n) ≡ false = ap has_append e in
          let g : has_append (stage_of d n) ≡ true = subst (λ z. has_append (stage_of d z) ≡ true) (eqb-true m n q) w in absurd Prim.cc
      owner-kick e o m w false q = let ne : m ≢ n = grind arith in j.owner m (subst (λ z. has_append z ≡ true) (o m ne) w)

      calm-kick : stage_of h n ≡ NoCall → ((m : ℕ) → m ≢ n → stage_of h m ≡ stage_of x.home m) → (x.pages.mode ≢ Normal) → (m : ℕ)
          → (c : Bool) → nat_eq m n ≡ c → stage_of h m ≡ NoCall
      calm-kick e o ne m true q = subst (λ z. stage_of h z ≡ NoCall) (sym (eqb-true m n q)) e
      calm-kick e o ne m false q = let nm : m ≢ n = grind arith in o m nm ∙ j.calm ne m

  -- ---- a node comes back
  returned_beside : (P : Page) (n m : ℕ) → m ≢ n → ((returned P n).node m).call ≡ (P.node m).call
  returned_beside P n m ne = grind arith

  returned_here : (P : Page) (n : ℕ) → ((returned P n).node n).call ≡ Quiet
  returned_here P n = grind arith

  goes_back : (x : Pool G) (n : ℕ) (h : Network HomeCall HomeAnswer) (d : Network (StorageCall G) StorageAnswer) (e : PageEvent) → Joined size x
      → Leaves x.home h → h.serves ≡ x.home.serves → stage_of h n ≡ NoCall → Leaves x.storage d → stage_of d n ≡ NoCall
      → PagesDo e (pages_seen x) (back n (pages_seen x))
      → Goes size (seen x) (record (seen x) { pages = back n (pages_seen x); home = h; storage = d }) (back n (pages_seen x))
  goes_back x n h d e j a v hn b dn k =
      let s : Pages = pages_seen x in record {
        quiet = refl;
        events = e ∷ [];
        run = (back n s, k, refl);
        linked = relink s n (λ y. true) (λ P. returned P n) (stage_of x.home) (stage_of h) (stage_of x.storage) (stage_of d) (linked-seen size x j)
            (λ y m ne. returned_beside (s.page y) n m ne)
            (λ y t. rw (hn, dn) (returned_here (s.page y) n, inl refl))
            (λ y t. absurd Prim.cc) (λ m ne. a.stages m) (λ m ne. b.stages m);
        logs = [];
        log = refl;
        append = ap (append_seen x.log.epoch) (sym (b.stages x.pages.rw));
        home = a.delivered;
        storage = b.delivered;
        owner = λ m w. j.owner m (subst (λ z. has_append z ≡ true) (b.stages m) w);
        serves = j.serves ∙ sym v;
        calm = λ ne m. a.stages m ∙ j.calm ne m;
      }

  -- a node without calls has none at any page
  none_seen : (x : Pool G) (n p : ℕ) → stage_of x.home n ≡ NoCall → stage_of x.storage n ≡ NoCall → (((pages_seen x).page p).node n).call ≡ Quiet
  none_seen x n p a b = ap (λ z. call_seen p z (stage_of x.storage n)) a ∙ ap (λ z. call_seen p NoCall z) b

  pub goes-restart : (x : Pool G) (n e : ℕ) (h : Network HomeCall HomeAnswer) (d : Network (StorageCall G) StorageAnswer) → Joined size x
      → Calls (RestartCaller n e) x.home h → Calls (RestartCaller n e) x.storage d → IsUp (pages_seen x) n false → HasNothing (pages_seen x) n
      → Goes size (seen x) (record (seen x) { pages = back n (pages_seen x); home = h; storage = d }) (back n (pages_seen x))
  goes-restart x n e h d j a b u o =
      let p = after-restart n e x.home h j.home a in
      let q = after-restart n e x.storage d j.storage b in
      goes_back x n h d (RestartPages n) j p.0 p.1 p.3 q.0 q.3 (u, (λ y. ((o y).0, (o y).1, none_seen x n y p.2 q.2)), refl)

  pub goes-rejoin : (x : Pool G) (n e : ℕ) (h : Network HomeCall HomeAnswer) (d : Network (StorageCall G) StorageAnswer) → Joined size x
      → Calls (RejoinCaller n e) x.home h → Calls (RejoinCaller n e) x.storage d → x.pages.mode ≡ Normal → IsUp (pages_seen x) n false → HasNothing (pages_seen x) n
      → Goes size (seen x) (record (seen x) { pages = back n (pages_seen x); home = h; storage = d }) (back n (pages_seen x))
  goes-rejoin x n e h d j a b m u o =
      let p = after-rejoin n e x.home h j.home a in
      let q = after-rejoin n e x.storage d j.storage b in
      goes_back x n h d (RejoinPages n) j p.0 p.1 p.3 q.0 q.3 (m, (u, (λ y. ((o y).0, (o y).1, none_seen x n y p.2 q.2)), refl))
