-- The laws that are told, from what holds of the whole cluster.
use Rattle.std.proofs.Common.{◌≡◌, ℕ, ◌≢◌, ◌≤◌, Bool, true, false, Some, None, List, [], ◌∷◌, if◌then◌else◌, nat_eq, arith, inl, inr, refl, sym, subst, ap, ◌∙◌, le_trans}
use Rattle.home_model.specs.Numbered.{put}
use Rattle.node_model.specs.Step.{Step.Idle, Step.Write}
use Rattle.node_model.specs.Call.{Call.Quiet}
use Rattle.node_model.specs.Node.{blank}
use Rattle.page_coherence.specs.Page.{Page, HasS, set_node}
use Rattle.page_coherence.specs.Mode.{Mode, Mode.Normal, Mode.Fenced, Mode.Tailed, Mode.Renewed, fence_mode}
use Rattle.page_coherence.specs.Invariant.{Holds}
use Rattle.page_coherence.specs.Moves.{Move.DoWrite, Move.HandleRegister, asks_home}
use Rattle.page_coherence.specs.Cluster.{State, Event, Event.Act, Event.Write, Event.Enter, Event.Remove, Event.LoseSlots, Event.DropSlab, Event.Crash, Event.Kick, Event.Restart, Event.CrashHome, Event.Renew, Event.Fence, Event.Tail, Event.Sweep, Event.Rejoin, removed, dropped_at, crashed, Happens, Run, Reached}
use Rattle.page_coherence.specs.Coherence.{Coherent, OneMemory}
use Rattle.page_coherence.specs.AllPages.{AllHold}
use Rattle.page_coherence.specs.Frame.{Extends, touches, is_tail, is_renewal, is_sweep, has_sweep, IsBare}
use Rattle.page_coherence.proofs.Beside.{by_node, put_at, put_off}
use Rattle.page_coherence.proofs.MoveFrames.{home_entry, install_log}
use Rattle.page_coherence.proofs.EveryEvent.{reached_holds}

pub shows_page : (m : Mode) (r w : ℕ) (P : Page) → Holds m r w P → Coherent m r w P
shows_page m r w P g = record {
  clean = g.clean_lsn;
  slot = g.clean_slot;
  copies = λ n v u. let gn = g.each n u in grind arith;
  dirty = let gr = g.each r in grind arith;
  absent = g.absent;
  exempt = let gr = g.each r in grind arith;
  after_done = λ u. let gr = g.each r u in grind arith;
  told_done = λ u. let gr = g.each r u in grind arith;
  kept = λ n a u. (g.each n u).address a;
  told = λ n a u. let gn = g.each n u in grind arith;
  asked = λ n f u. let gn = g.each n u in grind arith;
  given = λ n v u. let gn = g.each n u in grind arith;
  image = λ n f u. let gn = g.each n u in grind arith;
  latch = g.shape;
  rw_copies = λ v u. (g.each r u).of_rw refl v;
  install = λ n u. let gn = g.each n u in grind arith;
  held = λ n u. let gn = g.each n u in grind arith;
}

pub coherent : (t : State) → Reached t → (p : ℕ) → Coherent t.mode t.rw t.watermark (t.page p)
coherent t h p = shows_page t.mode t.rw t.watermark (t.page p) ((reached_holds t h).pages p)

pub shows : (t : State) → AllHold t → (p : ℕ) → Coherent t.mode t.rw t.watermark (t.page p)
shows t g p = shows_page t.mode t.rw t.watermark (t.page p) (g.pages p)

pub one_memory : (t : State) → Reached t → OneMemory t.slots t.page
one_memory t h = (reached_holds t h).memory

-- ---------------- what an event leaves as it was

-- the page, the mode and the RW are as before, and the watermark is no lower
abbrev Unmoved : State → ℕ → State → Type 0
Unmoved s p t = (t.page p ≡ s.page p) × (t.mode ≡ s.mode) × (t.rw ≡ s.rw) × (s.watermark ≤ t.watermark)

put_beside : (old : ℕ → Page) (q : ℕ) (Q : Page) (p : ℕ) → nat_eq p q ≡ false → put old q Q p ≡ old p
put_beside old q Q p e = rw e refl

dropped_beside : (P : Page) (b : Bool) → b ≡ false → (if b then dropped_at P else P) ≡ P
dropped_beside P true e = absurd cc
dropped_beside P false e = refl

unmoved : (e : Event) (s t : State) (p : ℕ) → Happens e s t → touches e p ≡ false → Unmoved s p t
unmoved (Act n ps move) s t p h e = subst (Unmoved s p) (sym h.1.3) (h.1.2 p e, refl, refl, omega arith)
unmoved (Write n q a) s t p h e = subst (Unmoved s p) (sym h.3.2) (put_beside s.page q h.3.0 p e, refl, refl, omega arith)
unmoved (Enter n q a) s t p h e = subst (Unmoved s p) (sym h.3.2) (put_beside s.page q h.3.0 p e, refl, refl, omega arith)
unmoved (Remove q) s t p h e = subst (Unmoved s p) (sym h.4) (put_beside s.page q (removed (s.page q)) p e, refl, refl, omega arith)
unmoved (DropSlab ps) s t p h e = subst (Unmoved s p) (sym h.2) (dropped_beside (s.page p) (ps p) e, refl, refl, omega arith)
unmoved CrashHome s t p h e = subst (Unmoved s p) (sym h.1) (refl, refl, refl, omega arith)
unmoved _ s t p h e = absurd Prim.cc

coherent_rises : (m : Mode) (r w v : ℕ) (P : Page) → w ≤ v → Coherent m r w P → Coherent m r v P
coherent_rises m r w v P le c = record { clean = c.clean; slot = c.slot; copies = c.copies; dirty = c.dirty; absent = λ a b. le_trans (c.absent a b) le; exempt = c.exempt; after_done = c.after_done; told_done = c.told_done; kept = c.kept; told = c.told; asked = c.asked; given = c.given; image = c.image; latch = c.latch; rw_copies = c.rw_copies; install = c.install; held = c.held }

pub same_page : (e : Event) (s t : State) (p : ℕ) → Happens e s t → touches e p ≡ false → t.page p ≡ s.page p
same_page e s t p h u = (unmoved e s t p h u).0

pub stays_coherent : (e : Event) (s t : State) (p : ℕ) → Happens e s t → touches e p ≡ false → Coherent s.mode s.rw s.watermark (s.page p) → Coherent t.mode t.rw t.watermark (t.page p)
stays_coherent e s t p h u c =
    let q : Unmoved s p t = unmoved e s t p h u in
    rw (q.0, q.1, q.2) (coherent_rises s.mode s.rw s.watermark t.watermark (s.page p) q.3 c)

-- ---------------- histories

abbrev Logged : State → State → ℕ → Type 0
Logged s t p = Extends s.rw (s.page p) (t.page p)

log_put : (old : ℕ → Page) (q r : ℕ) (Q : Page) → Extends r (old q) Q → (p : ℕ) → Extends r (old p) (put old q Q p)
log_put old q r Q here = by_node (λ p. Extends r (old p) (put old q Q p)) q
    (subst (λ (Z : Page). Extends r (old q) Z) (sym (put_at old q Q)) here)
    (λ p ne. inl (ap (λ (Z : Page). Z.log) (put_off old q Q p ne)))

dropped_log : (P : Page) (b : Bool) → (if b then dropped_at P else P).log ≡ P.log
dropped_log P true = refl
dropped_log P false = refl

normal_page : (s : State) → Reached s → s.mode ≡ Normal → (p : ℕ) → Holds Normal s.rw s.watermark (s.page p)
normal_page s g m p = subst (λ k. Holds k s.rw s.watermark (s.page p)) m ((reached_holds s g).pages p)

pub installs : (e : Event) (s t : State) → Reached s → Happens e s t → is_tail e ≡ false → (p : ℕ) → Extends s.rw (s.page p) (t.page p)
installs (Act n ps move) s t g h e p = subst (λ z. Logged s z p) (sym h.1.3) (by_page (ps p) refl)
  where
    by_page : (b : Bool) → ps p ≡ b → Extends s.rw (s.page p) (h.1.0 p)
    by_page true q = install_log s.rw s.watermark n (move p) (s.page p) (h.1.0 p) (normal_page s g h.0 p) (h.1.1 p q).2
    by_page false q = inl (ap (λ (Z : Page). Z.log) (h.1.2 p q))
installs (Write n q a) s t g h e p = subst (λ z. Logged s z p) (sym h.3.2) (log_put s.page q s.rw h.3.0 (install_log s.rw s.watermark n DoWrite (s.page q) h.3.0 (normal_page s g h.0 q) h.3.1) p)
installs (Enter n q a) s t g h e p = subst (λ z. Logged s z p) (sym h.3.2) (log_put s.page q s.rw h.3.0 (install_log s.rw s.watermark n (HandleRegister a (s.slots.holds a)) (s.page q) h.3.0 (normal_page s g h.0 q) h.3.1) p)
installs (Remove q) s t g h e p = subst (λ z. Logged s z p) (sym h.4) (log_put s.page q s.rw (removed (s.page q)) (inl refl) p)
installs (LoseSlots ds) s t g h e p = subst (λ z. Logged s z p) (sym h) (inl refl)
installs (DropSlab ps) s t g h e p = subst (λ z. Logged s z p) (sym h.2) (inl (dropped_log (s.page p) (ps p)))
installs (Crash n) s t g h e p = subst (λ z. Logged s z p) (sym h.1) (inl refl)
installs (Kick n) s t g h e p = subst (λ z. Logged s z p) (sym h.3) (inl refl)
installs (Restart n) s t g h e p = subst (λ z. Logged s z p) (sym h.2) (inl refl)
installs (Rejoin n) s t g h e p = subst (λ z. Logged s z p) (sym h.1.2) (inl refl)
installs CrashHome s t g h e p = subst (λ z. Logged s z p) (sym h.1) (inl refl)
installs (Renew ds) s t g h e p = subst (λ z. Logged s z p) (sym h.1) (inl refl)
installs Fence s t g h e p = subst (λ z. Logged s z p) (sym h.1) (inl refl)
installs (Tail l) s t g h e p = absurd cc
installs (Sweep n) s t g h e p = subst (λ z. Logged s z p) (sym h.3) (inl refl)

-- a page that some node holds in S does not change
pub stays_shared : (e : Event) (s t : State) → Reached s → Happens e s t → is_tail e ≡ false → (p n : ℕ) → HasS (s.page p) n → (t.page p).log ≡ (s.page p).log
stays_shared e s t g h i p n has = by_case (installs e s t g h i p)
  where
    by_case : Extends s.rw (s.page p) (t.page p) → (t.page p).log ≡ (s.page p).log
    by_case (inl same) = same
    by_case (inr more) = absurd (((reached_holds s g).pages p).shape s.rw n more.2 has)

-- what a node reads at the address that it keeps is the page's slot
pub reads : (t : State) → Reached t → (p n a : ℕ) → ((t.page p).node n).up ≡ true → ((t.page p).node n).address ≡ Some a → t.slots.dead a ≡ false → (t.page p).slot ≡ t.slots.holds a
reads t h p n a u e d =
    let m : OneMemory t.slots t.page = one_memory t h in
    m.slot p a ((coherent t h p).kept n a u e (ap (λ f. f a) (m.dead p) ∙ d)) d

-- ---------------- while the home is down

entry_put : (old : ℕ → Page) (q : ℕ) (Q : Page) → Q.entry ≡ (old q).entry → (p : ℕ) → (put old q Q p).entry ≡ (old p).entry
entry_put old q Q here = by_node (λ p. (put old q Q p).entry ≡ (old p).entry) q
    (subst (λ (Z : Page). Z.entry ≡ (old q).entry) (sym (put_at old q Q)) here)
    (λ p ne. ap (λ (Z : Page). Z.entry) (put_off old q Q p ne))

pub tables_stand : (e : Event) (s t : State) → s.home_up ≡ false → Happens e s t → is_renewal e ≡ false → (p : ℕ) → (t.page p).entry ≡ (s.page p).entry
tables_stand (Act n ps move) s t d h e p = subst (λ z. (z.page p).entry ≡ (s.page p).entry) (sym h.1.3) (by_page (ps p) refl (asks_home (move p)) refl)
  where
    by_page : (b : Bool) → ps p ≡ b → (c : Bool) → asks_home (move p) ≡ c → (h.1.0 p).entry ≡ (s.page p).entry
    by_page true q true a = absurd (let up : s.home_up ≡ true = (h.1.1 p q).1 a in cc)
    by_page true q false a = home_entry s.rw s.watermark n (move p) (s.page p) (h.1.0 p) a (h.1.1 p q).2
    by_page false q c a = ap (λ (Z : Page). Z.entry) (h.1.2 p q)
tables_stand (Write n q a) s t d h e p = subst (λ z. (z.page p).entry ≡ (s.page p).entry) (sym h.3.2) (entry_put s.page q h.3.0 (home_entry s.rw s.watermark n DoWrite (s.page q) h.3.0 refl h.3.1) p)
tables_stand (Enter n q a) s t d h e p = absurd (let up : s.home_up ≡ true = h.1 in cc)
tables_stand (Remove q) s t d h e p = absurd (let up : s.home_up ≡ true = h.1 in cc)
tables_stand (LoseSlots ds) s t d h e p = subst (λ z. (z.page p).entry ≡ (s.page p).entry) (sym h) refl
tables_stand (DropSlab ps) s t d h e p = absurd (let up : s.home_up ≡ true = h.0 in cc)
tables_stand (Crash n) s t d h e p = subst (λ z. (z.page p).entry ≡ (s.page p).entry) (sym h.1) refl
tables_stand (Kick n) s t d h e p = absurd (let up : s.home_up ≡ true = h.0 in cc)
tables_stand (Restart n) s t d h e p = subst (λ z. (z.page p).entry ≡ (s.page p).entry) (sym h.2) refl
tables_stand (Rejoin n) s t d h e p = subst (λ z. (z.page p).entry ≡ (s.page p).entry) (sym h.1.2) refl
tables_stand CrashHome s t d h e p = absurd (let up : s.home_up ≡ true = h.0 in cc)
tables_stand (Renew ds) s t d h e p = absurd cc
tables_stand Fence s t d h e p = absurd (let up : s.home_up ≡ true = h.0 in cc)
tables_stand (Tail l) s t d h e p = subst (λ z. (z.page p).entry ≡ (s.page p).entry) (sym h.1) refl
tables_stand (Sweep n) s t d h e p = absurd (let up : s.home_up ≡ true = h.0 in cc)

-- ---------------- from a renewal to Sweep

abbrev Bare : State → Type 0
Bare s = (s.mode ≢ Normal) × ((p : ℕ) → IsBare (s.page p))

fence_other : (m : Mode) → m ≢ Normal → fence_mode m ≢ Normal
fence_other Normal h = absurd (h refl)
fence_other Fenced h = h
fence_other (Tailed t) h = h
fence_other Renewed h = h

bare_but : (P : Page) (n : ℕ) (up : Bool) → IsBare P → IsBare (set_node P n (blank up Quiet))
bare_but P n up b = (b.0, by_node (λ m. (((set_node P n (blank up Quiet)).node m).copy ≡ None) × (((set_node P n (blank up Quiet)).node m).kept ≡ false) × (((set_node P n (blank up Quiet)).node m).step ≡ Idle) × (((set_node P n (blank up Quiet)).node m).call ≡ Quiet)) n (grind arith) (λ m ne. let bm = b.1 m in grind arith))

bare_crashed : (P : Page) (n : ℕ) → IsBare P → IsBare (crashed P n)
bare_crashed P n b = subst (λ c. IsBare (set_node P n (blank false c))) (sym (b.1 n).3) (bare_but P n false b)

bare_dropped : (P : Page) (b : Bool) → IsBare P → IsBare (if b then dropped_at P else P)
bare_dropped P true h = h
bare_dropped P false h = h

bare_step : (e : Event) (s t : State) → Happens e s t → is_sweep e ≡ false → Bare s → Bare t
bare_step (Act n ps move) s t h e b = absurd (b.0 h.0)
bare_step (Write n q a) s t h e b = absurd (b.0 h.0)
bare_step (Enter n q a) s t h e b = absurd (b.0 h.0)
bare_step (Remove q) s t h e b = absurd (b.0 h.0)
bare_step (LoseSlots ds) s t h e b = subst Bare (sym h) (b.0, b.1)
bare_step (DropSlab ps) s t h e b = subst Bare (sym h.2) (b.0, λ p. bare_dropped (s.page p) (ps p) (b.1 p))
bare_step (Crash n) s t h e b = subst Bare (sym h.1) (b.0, λ p. bare_crashed (s.page p) n (b.1 p))
bare_step (Kick n) s t h e b = subst Bare (sym h.3) (b.0, λ p. bare_but (s.page p) n false (b.1 p))
bare_step (Restart n) s t h e b = subst Bare (sym h.2) (b.0, λ p. bare_but (s.page p) n true (b.1 p))
bare_step (Rejoin n) s t h e b = absurd (b.0 h.0)
bare_step CrashHome s t h e b = subst Bare (sym h.1) (b.0, b.1)
bare_step (Renew ds) s t h e b = subst Bare (sym h.1) ((λ q. absurd cc), λ p. (refl, λ n. (refl, refl, refl, refl)))
bare_step Fence s t h e b = subst Bare (sym h.1) (fence_other s.mode b.0, λ p. ((b.1 p).0, λ n. (refl, refl, refl, refl)))
bare_step (Tail l) s t h e b = subst Bare (sym h.1) ((λ q. absurd cc), λ p. b.1 p)
bare_step (Sweep n) s t h e b = absurd cc

bare_run : (events : List Event) (s t : State) → Run s events t → has_sweep events ≡ false → Bare s → Bare t
bare_run [] s t h e b = subst Bare (sym h) b
bare_run (x ∷ xs) s t h e b = by_test (is_sweep x) refl e (λ q f. bare_run xs h.0 t h.2 f (bare_step x s h.0 h.1 q b))
  where
    by_test : (c : Bool) → is_sweep x ≡ c → (if c then true else has_sweep xs) ≡ false → (is_sweep x ≡ false → has_sweep xs ≡ false → Bare t) → Bare t
    by_test true q f rest = absurd cc
    by_test false q f rest = rest q f

pub bare_span : (ds : ℕ → Bool) (s m t : State) (events : List Event) → Happens (Renew ds) s m → Run m events t → has_sweep events ≡ false → (p : ℕ) → IsBare (t.page p)
bare_span ds s m t events h run none p = (bare_run events m t run none (subst Bare (sym h.1) ((λ q. absurd cc), λ k. (refl, λ n. (refl, refl, refl, refl))))).1 p
