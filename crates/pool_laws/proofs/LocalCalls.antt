-- For the proofs: what is no send, no handling and no acceptance leaves the calls.
use Rattle.std.proofs.Common.{◌≡◌, ℕ, Bool, true, false, if◌then◌else◌, nat_eq, refl, sym, ap, subst, eqb-true}
use Rattle.home_model.specs.Numbered.{put}
use Rattle.page_image.specs.Image.{Image}
use Rattle.node_model.specs.Node.{Node}
use Rattle.page_coherence.specs.Page.{Page, set_node}
use Rattle.page_coherence.specs.Moves.{Move, Moves, Move.Begin, Move.Finish, Move.BeginMake, Move.BeginMade, Move.BeginPlan, Move.GiveUp, Move.Evict, Move.Install, Move.TryS, Move.SeeS, Move.SeeLook, Move.SeeRwLook, Move.DoRead, Move.DoRwRead, Move.DoRelease, Move.SeeRelease, Move.TryX, Move.SeeX, Move.SeeLookAgain, Move.SeeNoAddress, Move.DoWrite, Move.SeeWrite, Move.DoClean, Move.SeeClean, Move.ReadDown, Move.RwReadDown, Move.WriteDown, Move.PlanWriteDown, Move.HomeTurn}
use Rattle.page_coherence.specs.Cluster.{State as Pages, Event as PageEvent, Event.Act, Event.Write, Event.Enter, Event.Remove, Event.LoseSlots, Event.DropSlab, Event.Crash, Event.Kick, Event.Restart, Event.CrashHome, Event.Renew, Event.Fence, Event.Tail, Event.Sweep, Event.Rejoin, Happens as PagesDo, removed, dropped_at}
use Rattle.pool_laws.specs.Local.{is_local, IsWork}

pub put_call : (f : ℕ → Node) (n : ℕ) (N : Node) (m : ℕ) → N.call ≡ (f n).call → (put f n N m).call ≡ (f m).call
put_call f n N m e = by_test (nat_eq m n) refl
  where
    by_test : (b : Bool) → nat_eq m n ≡ b → (if b then N else f m).call ≡ (f m).call
    by_test true q = subst (λ k. N.call ≡ (f k).call) (sym (eqb-true m n q)) e
    by_test false q = refl

-- the calls of two pages are the same
abbrev pub SameCalls : Page → Page → Type 0
SameCalls P Q = (m : ℕ) → (Q.node m).call ≡ (P.node m).call

node_moved : (P Q : Page) (n : ℕ) (N : Node) → Q ≡ set_node P n N → N.call ≡ (P.node n).call → SameCalls P Q
node_moved P Q n N e h m = subst (λ Z. (Z.node m).call ≡ (P.node m).call) (sym e) (put_call P.node n N m h)

pub local_calls : (r w n : ℕ) (move : Move) (P Q : Page) → is_local move ≡ true → Moves r w n move P Q → SameCalls P Q
local_calls r w n Begin P Q l h m = node_moved P Q n _ h.3 refl m
local_calls r w n Finish P Q l h m = node_moved P Q n _ h.2 refl m
local_calls r w n BeginMake P Q l h m = node_moved P Q n _ h.5 refl m
local_calls r w n BeginMade P Q l h m = node_moved P Q n _ h.6 refl m
local_calls r w n BeginPlan P Q l h m = node_moved P Q n _ h.4 refl m
local_calls r w n GiveUp P Q l h m = node_moved P Q n _ h.2 refl m
local_calls r w n Evict P Q l h m = node_moved P Q n _ h.3 refl m
local_calls r w n TryS P Q l h m = ap (λ (Z : Page). (Z.node m).call) h.3
local_calls r w n SeeS P Q l h m = node_moved P Q n _ h.3 refl m
local_calls r w n SeeLook P Q l h m = node_moved P Q n _ h.2 refl m
local_calls r w n SeeRwLook P Q l h m = node_moved P Q n _ h.2 refl m
local_calls r w n DoRead P Q l h m = node_moved P Q n _ h.3 refl m
local_calls r w n DoRwRead P Q l h m = node_moved P Q n _ h.3 refl m
local_calls r w n DoRelease P Q l h m = ap (λ (Z : Page). (Z.node m).call) h.2
local_calls r w n SeeRelease P Q l h m = node_moved P Q n _ h.3 refl m
local_calls r w n TryX P Q l h m = ap (λ (Z : Page). (Z.node m).call) h.3
local_calls r w n SeeX P Q l h m = node_moved P Q n _ h.3 refl m
local_calls r w n SeeLookAgain P Q l h m = node_moved P Q n _ h.3 refl m
local_calls r w n SeeNoAddress P Q l h m = node_moved P Q n _ h.3 refl m
local_calls r w n DoWrite P Q l h m = ap (λ (Z : Page). (Z.node m).call) h.4
local_calls r w n SeeWrite P Q l h m = node_moved P Q n _ h.4 refl m
local_calls r w n DoClean P Q l h m = ap (λ (Z : Page). (Z.node m).call) h.5
local_calls r w n SeeClean P Q l h m = node_moved P Q n _ h.5 refl m
local_calls r w n ReadDown P Q l h m = node_moved P Q n _ h.2 refl m
local_calls r w n RwReadDown P Q l h m = node_moved P Q n _ h.2 refl m
local_calls r w n WriteDown P Q l h m = node_moved P Q n _ h.3 refl m
local_calls r w n PlanWriteDown P Q l h m = node_moved P Q n _ h.2 refl m
local_calls r w n HomeTurn P Q l h m = subst (λ Z. (Z.node m).call ≡ (P.node m).call) (sym h.2) (put_call P.node n _ m refl)
local_calls r w n _ P Q l h m = absurd Prim.cc

pub install_calls : (r w n : ℕ) (v : Image) (P Q : Page) → Moves r w n (Install v) P Q → SameCalls P Q
install_calls r w n v P Q h m = subst (λ Z. (Z.node m).call ≡ (P.node m).call) (sym h.2) (put_call P.node n _ m refl)

-- ---- events
abbrev pub AllSame : Pages → Pages → Type 0
AllSame s t = (p : ℕ) → SameCalls (s.page p) (t.page p)

pub act_calls : (n : ℕ) (ps : ℕ → Bool) (move : ℕ → Move) (s t : Pages) → PagesDo (Act n ps move) s t
    → ((p : ℕ) (Q : Page) → ps p ≡ true → Moves s.rw s.watermark n (move p) (s.page p) Q → SameCalls (s.page p) Q) → AllSame s t
act_calls n ps move s t h k p m = subst (λ z. ((z.page p).node m).call ≡ ((s.page p).node m).call) (sym h.1.3) (by_page (ps p) refl)
  where
    by_page : (b : Bool) → ps p ≡ b → ((h.1.0 p).node m).call ≡ ((s.page p).node m).call
    by_page true e = k p (h.1.0 p) e (h.1.1 p e).2 m
    by_page false e = ap (λ (Z : Page). (Z.node m).call) (h.1.2 p e)

put_page : (f : ℕ → Page) (p : ℕ) (Q : Page) (q m : ℕ) → (Q.node m).call ≡ ((f p).node m).call → ((put f p Q q).node m).call ≡ ((f q).node m).call
put_page f p Q q m e = by_test (nat_eq q p) refl
  where
    by_test : (b : Bool) → nat_eq q p ≡ b → ((if b then Q else f q).node m).call ≡ ((f q).node m).call
    by_test true t = subst (λ k. (Q.node m).call ≡ ((f k).node m).call) (sym (eqb-true q p t)) e
    by_test false t = refl

dropped_call : (P : Page) (b : Bool) (m : ℕ) → ((if b then dropped_at P else P).node m).call ≡ (P.node m).call
dropped_call P true m = refl
dropped_call P false m = refl

-- what is the same after work
pub record Works (s t : Pages) : Type 0 where
  pub calls : AllSame s t
  pub rw : t.rw ≡ s.rw
  pub up : t.home_up ≡ s.home_up
  pub mode : t.mode ≡ s.mode

pub works : (e : PageEvent) (s t : Pages) → IsWork e → PagesDo e s t → Works s t
works (Act n ps move) s t w h = record {
  calls = act_calls n ps move s t h (λ p Q e k. local_calls s.rw s.watermark n (move p) (s.page p) Q (w p e) k);
  rw = ap (λ (z : Pages). z.rw) h.1.3;
  up = ap (λ (z : Pages). z.home_up) h.1.3;
  mode = ap (λ (z : Pages). z.mode) h.1.3;
}
works (Write n p a) s t w h = record {
  calls = λ q m. subst (λ z. ((z.page q).node m).call ≡ ((s.page q).node m).call) (sym h.3.2)
      (put_page s.page p h.3.0 q m (local_calls s.rw s.watermark n DoWrite (s.page p) h.3.0 refl h.3.1 m));
  rw = ap (λ (z : Pages). z.rw) h.3.2;
  up = ap (λ (z : Pages). z.home_up) h.3.2;
  mode = ap (λ (z : Pages). z.mode) h.3.2;
}
works (Remove p) s t w h = record {
  calls = λ q m. subst (λ z. ((z.page q).node m).call ≡ ((s.page q).node m).call) (sym h.4) (put_page s.page p (removed (s.page p)) q m refl);
  rw = ap (λ (z : Pages). z.rw) h.4;
  up = ap (λ (z : Pages). z.home_up) h.4;
  mode = ap (λ (z : Pages). z.mode) h.4;
}
works (LoseSlots ds) s t w h = record {
  calls = λ q m. ap (λ (z : Pages). ((z.page q).node m).call) h;
  rw = ap (λ (z : Pages). z.rw) h;
  up = ap (λ (z : Pages). z.home_up) h;
  mode = ap (λ (z : Pages). z.mode) h;
}
works (DropSlab ps) s t w h = record {
  calls = λ q m. subst (λ z. ((z.page q).node m).call ≡ ((s.page q).node m).call) (sym h.2) (dropped_call (s.page q) (ps q) m);
  rw = ap (λ (z : Pages). z.rw) h.2;
  up = ap (λ (z : Pages). z.home_up) h.2;
  mode = ap (λ (z : Pages). z.mode) h.2;
}
works (Enter n p a) s t w h = absurd w
works (Crash n) s t w h = absurd w
works (Kick n) s t w h = absurd w
works (Restart n) s t w h = absurd w
works CrashHome s t w h = absurd w
works (Renew ds) s t w h = absurd w
works Fence s t w h = absurd w
works (Tail l) s t w h = absurd w
works (Sweep n) s t w h = absurd w
works (Rejoin n) s t w h = absurd w
