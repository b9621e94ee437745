-- What a change of one node, or of the home alone, leaves as it was.
use Rattle.std.proofs.Common.{◌≡◌, ℕ, ◌≢◌, ◌≤◌, Bool, true, false, Option, Some, if◌then◌else◌, nat_eq, arith, ◌⊎◌, inl, inr, eqb-true, refl, sym, subst, ap, ◌∙◌}
use Rattle.home_model.specs.Numbered.{put}
use Rattle.page_image.specs.Image.{Image}
use Rattle.node_model.specs.Step.{Step, Step.Idle, Step.Look, Step.Read, Step.LookAgain, Step.Get, Step.Write, Step.Clean, Step.LastS, Step.Held, Step.RwRead, Step.RwEnd, Step.PlanLatch, Step.PlanInvalidate, Step.PlanInstall, Step.PlanWrite, Step.PlanClean, Step.PlanRegister, Step.PlanRelease}
use Rattle.node_model.specs.Call.{Call, Call.Quiet, Call.ToldRegistered, Call.AskGet, Call.ToldImage, Call.AskInvalidate, Call.ToldDone}
use Rattle.node_model.specs.Node.{Node}
use Rattle.page_coherence.specs.Page.{Page, OthersStale, latest, HasS, HasX, WhereAlive, set_node}
use Rattle.page_coherence.specs.Mode.{Mode, Mode.Normal, is_whole}
use Rattle.page_coherence.specs.Invariant.{Holds, NodeHolds, Needs, CallNeeds, exempts}

-- a fact of each node, from that of n and those of the others
pub by_node : (F : ℕ → Type 0) (n : ℕ) → F n → ((m : ℕ) → m ≢ n → F m) → (m : ℕ) → F m
by_node F n here there m = by_test (nat_eq m n) refl
  where
    by_test : (b : Bool) → nat_eq m n ≡ b → F m
    by_test true e = subst F (sym (eqb-true m n e)) here
    by_test false e = there m (grind arith)

pub put_at : (f : ℕ → Page) (n : ℕ) (v : Page) → put f n v n ≡ v
put_at f n v = grind arith

pub put_off : (f : ℕ → Page) (n : ℕ) (v : Page) (m : ℕ) → m ≢ n → put f n v m ≡ f m
put_off f n v m ne = grind arith

pub quit_fresh : (b stale : Bool) (L : Image) (c : Option Image) → ((v : Image) → c ≡ Some v → stale ≡ false → b ≡ false → v ≡ L) → (v : Image) → c ≡ Some v → (if b then true else stale) ≡ false → v ≡ L
quit_fresh b stale L c h v e q = grind arith

pub exempt_put : (f : ℕ → Node) (n r : ℕ) (N : Node) → exempts N ≡ exempts (f n) → exempts (put f n N r) ≡ exempts (f r)
exempt_put f n r N e = by_test (nat_eq r n) refl
  where
    by_test : (b : Bool) → nat_eq r n ≡ b → exempts (if b then N else f r) ≡ exempts (f r)
    by_test true q = subst (λ k. exempts N ≡ exempts (f k)) (sym (eqb-true r n q)) e
    by_test false q = refl

-- what node m sees of a page is as it was where another node, or the home for another node, changed it
pub record Beside (r : ℕ) (P Q : Page) (m : ℕ) : Type 0 where
  pub node : Q.node m ≡ P.node m
  pub image : latest Q ≡ latest P
  pub dead : Q.dead ≡ P.dead
  pub has_s : HasS P m → HasS Q m
  pub has_x : HasX P m → HasX Q m
  pub had_x : m ≡ r → HasX Q m → HasX P m
  pub refs : P.entry.refs m ≡ true → Q.entry.refs m ≡ true
  pub address : (a : ℕ) → P.entry.address ≡ Some a → P.dead a ≡ false → Q.entry.address ≡ Some a
  pub slot : HasX P m → (a : ℕ) → P.entry.address ≡ Some a → P.dead a ≡ false → P.slot ≡ latest P → Q.slot ≡ latest P
  pub low : HasS P m ⊎ (m ≡ r) → (a : ℕ) → P.entry.address ≡ Some a → P.dead a ≡ false → P.entry.bit ≡ false → Q.entry.bit ≡ false
  pub high : m ≡ r → HasX P m → P.entry.bit ≡ true → Q.entry.bit ≡ true
  pub stale : m ≡ r → HasX P m → OthersStale P m → OthersStale Q m

alive_before : (r : ℕ) (P Q : Page) (m a : ℕ) → Beside r P Q m → Q.dead a ≡ false → P.dead a ≡ false
alive_before r P Q m a b d = sym (ap (λ f. f a) b.dead) ∙ d

-- the slot at the address that m keeps
kept_slot : (r : ℕ) (P Q : Page) (m : ℕ) (M : Node) → Beside r P Q m → ((a : ℕ) → M.address ≡ Some a → P.dead a ≡ false → P.entry.address ≡ Some a)
    → HasX P m → WhereAlive P M (P.slot ≡ latest P) → WhereAlive Q M (Q.slot ≡ latest Q)
kept_slot r P Q m M b ad x h a k d =
    let d' : P.dead a ≡ false = alive_before r P Q m a b d in
    b.slot x a (ad a k d') d' (h a k d') ∙ sym b.image

kept_bit : (r : ℕ) (P Q : Page) (m : ℕ) (M : Node) → Beside r P Q m → ((a : ℕ) → M.address ≡ Some a → P.dead a ≡ false → P.entry.address ≡ Some a)
    → HasS P m ⊎ (m ≡ r) → WhereAlive P M (P.entry.bit ≡ false) → WhereAlive Q M (Q.entry.bit ≡ false)
kept_bit r P Q m M b ad sr h a k d =
    let d' : P.dead a ≡ false = alive_before r P Q m a b d in
    b.low sr a (ad a k d') d' (h a k d')

either_latch : (r : ℕ) (P Q : Page) (m : ℕ) → Beside r P Q m → HasX P m ⊎ HasS P m → HasX Q m ⊎ HasS Q m
either_latch r P Q m b (inl x) = inl (b.has_x x)
either_latch r P Q m b (inr s) = inr (b.has_s s)

current_is : (r : ℕ) (P Q : Page) (m : ℕ) (v : Image) → Beside r P Q m → v ≡ latest P → v ≡ latest Q
current_is r P Q m v b e = e ∙ sym b.image

copy_is : (r : ℕ) (P Q : Page) (m : ℕ) (M : Node) → Beside r P Q m → M.copy ≡ Some (latest P) → M.copy ≡ Some (latest Q)
copy_is r P Q m M b e = e ∙ ap (λ v. Some v) (sym b.image)

floor_is : (r : ℕ) (P Q : Page) (m f : ℕ) → Beside r P Q m → (latest P).lsn ≤ f → (latest Q).lsn ≤ f
floor_is r P Q m f b le = subst (λ (v : Image). v.lsn ≤ f) (sym b.image) le

needs_beside : (r : ℕ) (P Q : Page) (m : ℕ) (M : Node) (st : Step) → Beside r P Q m → ((a : ℕ) → M.address ≡ Some a → P.dead a ≡ false → P.entry.address ≡ Some a) → Needs r P m M st → Needs r Q m M st
needs_beside r P Q m M Look b ad h = b.has_s h
needs_beside r P Q m M Read b ad h = (b.has_s h.0, kept_bit r P Q m M b ad (inl h.0) h.1)
needs_beside r P Q m M LookAgain b ad h = b.has_x h
needs_beside r P Q m M (Get f) b ad h = (b.has_x h.0, floor_is r P Q m f b h.1)
needs_beside r P Q m M (Write v) b ad h = (b.has_x h.0, current_is r P Q m v b h.1)
needs_beside r P Q m M (Clean v) b ad h = (b.has_x h.0, current_is r P Q m v b h.1, kept_slot r P Q m M b ad h.0 h.2)
needs_beside r P Q m M (LastS v) b ad h = (either_latch r P Q m b h.0, current_is r P Q m v b h.1)
needs_beside r P Q m M Held b ad h = (b.has_s h.0, copy_is r P Q m M b h.1)
needs_beside r P Q m M RwRead b ad h = (h.0, kept_bit r P Q m M b ad (inr h.0) h.1)
needs_beside r P Q m M (RwEnd v) b ad h = (h.0, current_is r P Q m v b h.1)
needs_beside r P Q m M PlanLatch b ad h = (h.0, copy_is r P Q m M b h.1)
needs_beside r P Q m M PlanInvalidate b ad h = (h.0, b.has_x h.1, copy_is r P Q m M b h.2)
needs_beside r P Q m M PlanInstall b ad h = (h.0, b.has_x h.1, copy_is r P Q m M b h.2, b.high h.0 h.1 h.3, b.stale h.0 h.1 h.4)
needs_beside r P Q m M PlanWrite b ad h = (h.0, b.has_x h.1, copy_is r P Q m M b h.2, b.stale h.0 h.1 h.3)
needs_beside r P Q m M PlanClean b ad h = (h.0, b.has_x h.1, copy_is r P Q m M b h.2, b.stale h.0 h.1 h.3, kept_slot r P Q m M b ad h.1 h.4)
needs_beside r P Q m M PlanRegister b ad h = (h.0, b.has_x h.1, copy_is r P Q m M b h.2, b.stale h.0 h.1 h.3, h.4)
needs_beside r P Q m M PlanRelease b ad h = (h.0, λ x. b.stale h.0 (b.had_x h.0 x) (h.1 (b.had_x h.0 x)))
needs_beside r P Q m M st b ad h = h

told_beside : (r : ℕ) (P Q : Page) (m a : ℕ) → Beside r P Q m → (P.dead a ≡ false → P.entry.address ≡ Some a) → Q.dead a ≡ false → Q.entry.address ≡ Some a
told_beside r P Q m a b h d = let d' : P.dead a ≡ false = alive_before r P Q m a b d in b.address a (h d') d'

calls_beside : (r : ℕ) (P Q : Page) (m : ℕ) (M : Node) (c : Call) → Beside r P Q m → CallNeeds r P m M c → CallNeeds r Q m M c
calls_beside r P Q m M (ToldRegistered a) b h = (h.0, h.1, told_beside r P Q m a b h.2, b.refs h.3)
calls_beside r P Q m M (AskGet f) b h = (h.0, b.has_x h.1, floor_is r P Q m f b h.2)
calls_beside r P Q m M (ToldImage v) b h = (h.0, b.has_x h.1, current_is r P Q m v b h.2)
calls_beside r P Q m M AskInvalidate b h = (h.0, h.1, b.has_x h.2)
calls_beside r P Q m M ToldDone b h = (h.0, h.1, b.has_x h.2, b.high h.1 h.2 h.3, b.stale h.1 h.2 h.4)
calls_beside r P Q m M c b h = h

beside_as : (r : ℕ) (P Q : Page) (m : ℕ) (M : Node) → Beside r P Q m → NodeHolds r P m M → NodeHolds r Q m M
beside_as r P Q m M b g = record {
  address = λ a k d. let d' : P.dead a ≡ false = alive_before r P Q m a b d in b.address a (g.address a k d') d';
  refs = λ k. b.refs (g.refs k);
  nothing = g.nothing;
  fresh = λ v c s rd. current_is r P Q m v b (g.fresh v c s rd);
  of_rw = λ own v c. current_is r P Q m v b (g.of_rw own v c);
  needs = needs_beside r P Q m M M.step b g.address g.needs;
  calls = calls_beside r P Q m M M.call b g.calls;
  leaves = g.leaves;
}

pub beside_holds : (r : ℕ) (P Q : Page) (m : ℕ) → Beside r P Q m → ((P.node m).up ≡ true → NodeHolds r P m (P.node m)) → (Q.node m).up ≡ true → NodeHolds r Q m (Q.node m)
beside_holds r P Q m b g = subst (λ M. M.up ≡ true → NodeHolds r Q m M) (sym b.node) (λ u. beside_as r P Q m (P.node m) b (g u))

-- a change of one node alone: what holds of that node, that it stays stale while the RW changes the page, that a plan is not
-- lost, that no call appears, that a node that is down keeps nothing, and that it rests while no RW is there
pub set_node_holds : (mode : Mode) (r w : ℕ) (P : Page) (n : ℕ) (N : Node) → Holds mode r w P
    → (N.up ≡ true → NodeHolds r (set_node P n N) n N)
    → (HasX P r → OthersStale P r → n ≢ r → N.kept ≡ true → N.stale ≡ true)
    → (n ≡ r → is_whole mode ≡ true → P.entry.there ≡ true → P.entry.bit ≡ true → (HasX P r → exempts N ≡ false) → (latest P).lsn ≤ P.entry.floor)
    → (N.call ≡ AskInvalidate → (n ≡ r) × HasX P n)
    → (N.up ≡ false → N.kept ≡ false)
    → (mode ≢ Normal → (N.kept ≡ false) × (N.step ≡ Idle) × (N.call ≡ Quiet))
    → Holds mode r w (set_node P n N)
set_node_holds mode r w P n N g here calm plan orph dn rests = record {
  shape = g.shape;
  clean_lsn = g.clean_lsn;
  clean_slot = g.clean_slot;
  clean_address = g.clean_address;
  gone = g.gone;
  dirty = grind arith;
  absent = g.absent;
  no_refs = g.no_refs;
  orphan = grind arith;
  down = grind arith;
  stopped = λ other. by_node (λ m. ((set_node P n N).node m).kept ≡ false × (((set_node P n N).node m).step ≡ Idle) × (((set_node P n N).node m).call ≡ Quiet)) n (let q = rests other in grind arith) (λ m ne. let q = g.stopped other m in grind arith);
  below = g.below;
  each =
      let Q : Page = set_node P n N in
      by_node (λ m. (Q.node m).up ≡ true → NodeHolds r Q m (Q.node m)) n
      (subst (λ M. M.up ≡ true → NodeHolds r Q n M) (grind arith) here)
      (λ m ne. beside_holds r P Q m (record {
        node = grind arith;
        image = refl;
        dead = refl;
        has_s = λ h. h;
        has_x = λ h. h;
        had_x = λ own h. h;
        refs = λ h. h;
        address = λ a e d. e;
        slot = λ x a e d h. h;
        low = λ sr a e d h. h;
        high = λ own x h. h;
        stale = grind arith;
      }) (g.each m));
}
