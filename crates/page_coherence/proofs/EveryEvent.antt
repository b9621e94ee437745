-- Each event keeps what holds of the whole cluster.
use Rattle.std.proofs.Common.{◌≡◌, ℕ, Bool, true, false, Some, List, [], ◌∷◌, ◌++◌, if◌then◌else◌, arith, inl, inr, refl, sym, subst, ap, ◌∙◌}
use Rattle.home_model.specs.Numbered.{put, nobody}
use Rattle.home_model.specs.Latch.{free_latch}
use Rattle.home_model.specs.Entry.{no_entry, takes_slot, stays}
use Rattle.page_image.specs.Image.{Image}
use Rattle.node_model.specs.Slots.{written}
use Rattle.node_model.specs.Step.{Step.Write}
use Rattle.node_model.specs.Call.{Call.AskRegister}
use Rattle.node_model.specs.Learning.{writes}
use Rattle.page_coherence.specs.Page.{Page, Alive, set_entry}
use Rattle.page_coherence.specs.Mode.{Mode, Mode.Normal}
use Rattle.page_coherence.specs.Invariant.{Holds}
use Rattle.page_coherence.specs.Moves.{Move, Move.DoWrite, Move.HandleRegister, handled_register}
use Rattle.page_coherence.specs.Cluster.{State, Event, raised_by, Event.Act, Event.Write, Event.Enter, Event.Remove, Event.LoseSlots, Event.DropSlab, Event.Crash, Event.Kick, Event.Restart, Event.CrashHome, Event.Renew, Event.Fence, Event.Tail, Event.Sweep, Event.Rejoin, removed, lost_at, dropped_at, crashed, kicked_at, returned, fenced, cut, swept_at, renewed, IsFree, IsUnused, Returns, Makes, Happens, Run, start, MayStart, Reached}
use Rattle.page_coherence.specs.AllPages.{AllHold}
use Rattle.page_coherence.proofs.Beside.{by_node, put_at, put_off}
use Rattle.page_coherence.proofs.EachMove.{keeps}
use Rattle.page_coherence.proofs.MoveFrames.{SamePlace, calm_place}
use Rattle.page_coherence.proofs.Events.{starts, rises, keeps_removed, keeps_lost, keeps_dropped, keeps_crashed, keeps_returned, keeps_kicked, keeps_fenced, keeps_cut, keeps_swept, keeps_renewed}
use Rattle.page_coherence.proofs.Memory.{KeepsPlace, placed, placed_lost, writes_memory, enters_memory}

-- in Normal mode
normal : (s : State) → AllHold s → s.mode ≡ Normal → (p : ℕ) → Holds Normal s.rw s.watermark (s.page p)
normal s g m p = subst (λ k. Holds k s.rw s.watermark (s.page p)) m (g.pages p)

back : (s : State) (P : Page) → s.mode ≡ Normal → Holds Normal s.rw s.watermark P → Holds s.mode s.rw s.watermark P
back s P m g = subst (λ k. Holds k s.rw s.watermark P) (sym m) g

-- one page is changed
one_page : (mode : Mode) (r w : ℕ) (old : ℕ → Page) (p : ℕ) (Q : Page) → ((q : ℕ) → Holds mode r w (old q)) → Holds mode r w Q → (q : ℕ) → Holds mode r w (put old p Q q)
one_page mode r w old p Q g here = by_node (λ q. Holds mode r w (put old p Q q)) p
    (subst (λ Z. Holds mode r w Z) (grind arith) here)
    (λ q ne. subst (λ Z. Holds mode r w Z) (grind arith) (g q))

acts : (s : State) (n : ℕ) (ps : ℕ → Bool) (move : ℕ → Move) (new : ℕ → Page) → AllHold s → s.mode ≡ Normal
    → ((p : ℕ) → ps p ≡ true → Makes s n (move p) (s.page p) (new p)) → ((p : ℕ) → ps p ≡ false → new p ≡ s.page p) → AllHold (record s { page = new })
acts s n ps move new g m made rest = record { pages = λ p. by_page p (ps p) refl; memory = placed s.slots s.page new g.memory (λ p. by_place p (ps p) refl) }
  where
    by_page : (p : ℕ) (b : Bool) → ps p ≡ b → Holds s.mode s.rw s.watermark (new p)
    by_page p true e = back s (new p) m (keeps s.rw s.watermark (s.page p) (new p) n (move p) (normal s g m p) (made p e).2)
    by_page p false e = subst (λ Q. Holds s.mode s.rw s.watermark Q) (sym (rest p e)) (g.pages p)

    by_place : (p : ℕ) (b : Bool) → ps p ≡ b → KeepsPlace (s.page p) (new p)
    by_place p true e = let h : SamePlace (s.page p) (new p) = calm_place s.rw s.watermark n (move p) (s.page p) (new p) (made p e).0 (made p e).2 in (inl h.0, h.1, h.2, h.3)
    by_place p false e = rw (rest p e) (inl refl, refl, refl, refl)

dead_at : (s : State) (p a : ℕ) (b : Bool) → AllHold s → s.slots.dead a ≡ b → (s.page p).dead a ≡ b
dead_at s p a b g d = ap (λ f. f a) (g.memory.dead p) ∙ d

writes_all : (s : State) (n p a : ℕ) (v : Image) → AllHold s → s.mode ≡ Normal → ((s.page p).node n).address ≡ Some a → s.slots.dead a ≡ false
    → ((s.page p).node n).up ≡ true → writes ((s.page p).node n) ≡ Some v → Alive (s.page p) ((s.page p).node n)
    → AllHold (record s { slots = written s.slots a v; page = put s.page p (record (s.page p) { slot = v }) })
writes_all s n p a v g m k d u w alive =
    let P : Page = s.page p in
    let here : P.entry.address ≡ Some a = ((normal s g m p).each n u).address a k (dead_at s p a false g d) in
    record {
      pages = one_page s.mode s.rw s.watermark s.page p (record P { slot = v }) g.pages (back s (record P { slot = v }) m (keeps s.rw s.watermark P (record P { slot = v }) n DoWrite (normal s g m p) (u, v, w, alive, refl)));
      memory = writes_memory s.slots s.page p a v g.memory here d;
    }

enters_all : (s : State) (n p a : ℕ) → AllHold s → s.mode ≡ Normal → (takes_slot (s.page p).entry ≡ true → (s.slots.dead a ≡ false) × IsFree s a)
    → ((s.page p).node n).call ≡ AskRegister
    → AllHold (record s { page = put s.page p (handled_register (s.page p) s.watermark a (s.slots.holds a) n) })
enters_all s n p a g m may c =
    let P : Page = s.page p in
    let Q : Page = handled_register P s.watermark a (s.slots.holds a) n in
    record {
      pages = one_page s.mode s.rw s.watermark s.page p Q g.pages (back s Q m (keeps s.rw s.watermark P Q n (HandleRegister a (s.slots.holds a)) (normal s g m p) (c, (λ t. dead_at s p a false g (may t).0), refl)));
      memory = enters_memory s.slots s.page p a n s.watermark g.memory may;
    }

removes_all : (s : State) (p : ℕ) → AllHold s → s.mode ≡ Normal → IsUnused (s.page p).entry → (s.page p).entry.there ≡ true
    → AllHold (record s { watermark = raised_by (s.page p) s.watermark; page = put s.page p (removed (s.page p)) })
removes_all s p g m un e =
    let w : ℕ = raised_by (s.page p) s.watermark in
    record {
      pages = one_page s.mode s.rw w s.page p (removed (s.page p)) (λ q. rises s.mode s.rw s.watermark w (s.page q) (omega arith) (g.pages q))
          (subst (λ k. Holds k s.rw w (removed (s.page p))) (sym m) (keeps_removed s.rw s.watermark (s.page p) (normal s g m p) un e));
      memory = placed s.slots s.page (put s.page p (removed (s.page p))) g.memory
          (by_node (λ q. KeepsPlace (s.page q) (put s.page p (removed (s.page p)) q)) p
          (subst (λ Z. KeepsPlace (s.page p) Z) (sym (put_at s.page p (removed (s.page p)))) (inr refl, refl, refl, refl))
          (λ q ne. subst (λ Z. KeepsPlace (s.page q) Z) (sym (put_off s.page p (removed (s.page p)) q ne)) (inl refl, refl, refl, refl)));
    }

drops_all : (s : State) (ps : ℕ → Bool) → AllHold s → ((p : ℕ) → ps p ≡ true → (a : ℕ) × ((s.page p).entry.address ≡ Some a) × (s.slots.dead a ≡ true))
    → AllHold (record s { page = λ p. if ps p then dropped_at (s.page p) else s.page p })
drops_all s ps g may = record {
  pages = λ p. by_page p (ps p) refl;
  memory = placed s.slots s.page (λ p. if ps p then dropped_at (s.page p) else s.page p) g.memory (λ p. by_place p (ps p));
}
  where
    by_page : (p : ℕ) (b : Bool) → ps p ≡ b → Holds s.mode s.rw s.watermark (if b then dropped_at (s.page p) else s.page p)
    by_page p true e = let h = may p e in keeps_dropped s.mode s.rw s.watermark h.0 (s.page p) (g.pages p) h.1 (dead_at s p h.0 true g h.2)
    by_page p false e = g.pages p

    by_place : (p : ℕ) (b : Bool) → KeepsPlace (s.page p) (if b then dropped_at (s.page p) else s.page p)
    by_place p true = (inr refl, refl, refl, refl)
    by_place p false = (inl refl, refl, refl, refl)

swept_place : (P : Page) (t : ℕ) (b : Bool) → KeepsPlace P (set_entry P (if b then record (P.entry) { floor = t; refs = nobody; due = nobody; latch = free_latch } else no_entry))
swept_place P t true = (inl refl, refl, refl, refl)
swept_place P t false = (inr refl, refl, refl, refl)

returns_all : (n : ℕ) (s t : State) → Returns n s t → AllHold s → AllHold t
returns_all n s t h g = subst AllHold (sym h.2) (record {
  pages = λ p. keeps_returned s.mode s.rw s.watermark (s.page p) n (g.pages p) (h.0 p) (h.1 p);
  memory = placed s.slots s.page (λ p. returned (s.page p) n) g.memory (λ p. (inl refl, refl, refl, refl));
})

pub step_holds : (e : Event) (s t : State) → Happens e s t → AllHold s → AllHold t
step_holds (Act n ps move) s t h g = subst AllHold (sym h.1.3) (acts s n ps move h.1.0 g h.0 h.1.1 h.1.2)
step_holds (Write n p a) s t h g =
    subst AllHold (sym h.3.2) (subst (λ Z. AllHold (record s { slots = written s.slots a Z.slot; page = put s.page p Z })) (sym h.3.1.4)
    (writes_all s n p a h.3.1.1 g h.0 h.1 h.2 h.3.1.0 h.3.1.2 h.3.1.3))
step_holds (Enter n p a) s t h g =
    subst AllHold (sym h.3.2) (subst (λ Z. AllHold (record s { page = put s.page p Z })) (sym h.3.1.2) (enters_all s n p a g h.0 h.2 h.3.1.0))
step_holds (Remove p) s t h g = subst AllHold (sym h.4) (removes_all s p g h.0 h.2 h.3)
step_holds (LoseSlots ds) s t h g = subst AllHold (sym h) (record {
  pages = λ p. keeps_lost s.mode s.rw s.watermark ds (s.page p) (g.pages p);
  memory = placed_lost s.slots ds s.page (λ p. lost_at (s.page p) ds) g.memory (λ p. (inl refl, refl, refl, refl));
})
step_holds (DropSlab ps) s t h g = subst AllHold (sym h.2) (drops_all s ps g h.1)
step_holds (Crash n) s t h g = subst AllHold (sym h.1) (record {
  pages = λ p. keeps_crashed s.mode s.rw s.watermark (s.page p) n (g.pages p) (h.0 p);
  memory = placed s.slots s.page (λ p. crashed (s.page p) n) g.memory (λ p. (inl refl, refl, refl, refl));
})
step_holds (Kick n) s t h g = subst AllHold (sym h.3) (record {
  pages = λ p. keeps_kicked s.mode s.rw s.watermark (s.page p) n (g.pages p) (h.2 p) h.1;
  memory = placed s.slots s.page (λ p. kicked_at (s.page p) n) g.memory (λ p. (inl refl, refl, refl, refl));
})
step_holds (Restart n) s t h g = returns_all n s t h g
step_holds (Rejoin n) s t h g = returns_all n s t h.1 g
step_holds CrashHome s t h g = subst AllHold (sym h.1) (record { pages = g.pages; memory = g.memory })
step_holds (Renew ds) s t h g = subst AllHold (sym h.1) (record {
  pages = λ p. keeps_renewed s.mode s.rw s.watermark ds (s.page p) (g.pages p);
  memory = placed_lost s.slots ds s.page (λ p. renewed (s.page p) ds) g.memory (λ p. (inr refl, refl, refl, refl));
})
step_holds Fence s t h g = subst AllHold (sym h.1) (record {
  pages = λ p. keeps_fenced s.mode s.rw s.watermark (s.page p) (g.pages p);
  memory = placed s.slots s.page (λ p. fenced (s.page p)) g.memory (λ p. (inl refl, refl, refl, refl));
})
step_holds (Tail l) s t h g = subst AllHold (sym h.1) (record {
  pages = λ p. keeps_cut l s.rw s.watermark s.mode (s.page p) h.0 (g.pages p);
  memory = placed s.slots s.page (λ p. cut (s.page p) l) g.memory (λ p. (inl refl, refl, refl, refl));
})
step_holds (Sweep n) s t h g = subst AllHold (sym h.3) (record {
  pages = λ p. keeps_swept h.1 s.rw n s.watermark (s.page p) (subst (λ k. Holds k s.rw s.watermark (s.page p)) h.2 (g.pages p));
  memory = placed s.slots s.page (λ p. swept_at (s.page p) h.1) g.memory (λ p. swept_place (s.page p) h.1 (stays (s.page p).entry h.1));
})

pub run_holds : (events : List Event) (s t : State) → Run s events t → AllHold s → AllHold t
run_holds [] s t h g = subst AllHold (sym h) g
run_holds (e ∷ es) s t h g = run_holds es h.0 t h.2 (step_holds e s h.0 h.1 g)

pub start_holds : (r w : ℕ) (histories : ℕ → List Image) → MayStart w histories → AllHold (start r w histories)
start_holds r w histories may = record {
  pages = λ p. starts r w p (histories p) (may p);
  memory = record { slot = λ p a e d. absurd cc; apart = λ p q a e f d. absurd cc; dead = λ p. refl; number = λ p. refl };
}

-- a run goes on
run_on : (events more : List Event) (s m t : State) → Run s events m → Run m more t → Run s (events ++ more) t
run_on [] more s m t h rest = subst (λ z. Run z more t) h rest
run_on (e ∷ es) more s m t h rest = (h.0, h.1, run_on es more h.0 m t h.2 rest)

pub reached_on : (s t : State) (events : List Event) → Reached s → Run s events t → Reached t
reached_on s t events h more = (h.0, h.1, h.2, h.3 ++ events, h.4, run_on h.3 events (start h.0 h.1 h.2) s t h.5 more)

pub goes : (s t : State) (e : Event) → Reached s → Happens e s t → Reached t
goes s t e h step = reached_on s t (e ∷ []) h (t, step, refl)

pub reached_holds : (t : State) → Reached t → AllHold t
reached_holds t h = run_holds h.3 (start h.0 h.1 h.2) t h.5 (start_holds h.0 h.1 h.2 h.4)
