-- The run goes on: the RW dies within its next plan, another node takes over.
use Rattle.std.proofs.Common.{◌≡◌, ℕ, ◌≢◌, Bool, true, false, if◌then◌else◌, nat_eq, ◌&&◌, not, eqb-true, refl, sym, subst, ap, ◌∙◌}
use Rattle.home_model.specs.Numbered.{put, nobody}
use Rattle.home_model.specs.Latch.{Without, free_latch}
use Rattle.home_model.specs.Entry.{Entry, no_entry, swept, stays}
use Rattle.node_model.specs.Step.{Step.ReleaseEnd, Step.PlanLatch}
use Rattle.node_model.specs.Call.{Call.AskInvalidate}
use Rattle.page_coherence.specs.Page.{Page, set_node, set_entry}
use Rattle.page_coherence.specs.Mode.{Mode.Normal, Mode.Tailed, fence_mode}
use Rattle.page_coherence.specs.Cluster.{State, Event.Act, Event.Crash, Event.Fence, Event.Tail, Event.Sweep, Event.Rejoin, crashed, returned, fenced, cut, swept_at, Happens, Reached}
use Rattle.node_model.specs.Learning.{stands, calls, after_x, after_release, answered}
use Rattle.page_coherence.specs.Moves.{Move.SendInvalidate, Move.Finish, Move.BeginPlan, Move.Install, Move.DoRelease, Move.SeeRelease, Move.TryX, Move.SeeX, Move.HandleInvalidate, Move.Accept, Move.HomeTurn, installed, fresh_of, handled_invalidate, turned}
use Rattle.home_model.specs.Entry.{excluded_by, released_by}
use Rattle.page_coherence.specs.Runs.{leaf_at}
use Rattle.page_coherence.proofs.Beside.{by_node, put_off}
use Rattle.page_coherence.proofs.EveryEvent.{goes}
use Rattle.page_coherence.proofs.PlanRun.{only, act_at, alone, base0, s25, off25, reached25}

-- a latch that one node took and released is as it was
pub cleared : (m n : ℕ) (before : Bool) → before ≡ false → (if nat_eq m n then false else (if nat_eq m n then true else before)) ≡ false
cleared m n before h = by_test (nat_eq m n)
  where
    by_test : (b : Bool) → (if b then false else (if b then true else before)) ≡ false
    by_test true = refl
    by_test false = h

never : (m n : ℕ) → (if nat_eq m n then false else false) ≡ false
never m n = by_test (nat_eq m n)
  where
    by_test : (b : Bool) → (if b then false else false) ≡ false
    by_test true = refl
    by_test false = refl

and_false : (b : Bool) → (true && not b && false) ≡ false
and_false true = refl
and_false false = refl

-- nobody is due where the other node's local bit is set
both : (m : ℕ) (fresh : ℕ → Bool) → fresh 1 ≡ false → ((if nat_eq m 1 then true else (if nat_eq m 0 then true else false)) && not (nat_eq m 0) && fresh m) ≡ false
both m fresh h = by_test (nat_eq m 1) refl
  where
    by_test : (b : Bool) → nat_eq m 1 ≡ b → ((if b then true else (if nat_eq m 0 then true else false)) && not (nat_eq m 0) && fresh m) ≡ false
    by_test true e = let q : fresh m ≡ false = subst (λ k. fresh k ≡ false) (sym (eqb-true m 1 e)) h in rw q (and_false (nat_eq m 0))
    by_test false e = alone m (fresh m)

swept_free : (E : Entry) (t n : ℕ) → ((swept E t).refs n ≡ false) × Without (swept E t).latch n
swept_free E t n = by_test (stays E t)
  where
    by_test : (b : Bool) → ((if b then record E { floor = t; refs = nobody; due = nobody; latch = free_latch } else no_entry).refs n ≡ false) × Without (if b then record E { floor = t; refs = nobody; due = nobody; latch = free_latch } else no_entry).latch n
    by_test true = (refl, (refl, λ e. absurd cc))
    by_test false = (refl, (refl, λ e. absurd cc))

abbrev q26 : Page
q26 = set_node (s25.page 7) 1 (stands ((s25.page 7).node 1) ReleaseEnd)

abbrev s26 : State
s26 = record s25 { page = put s25.page 7 q26 }

step26 : Happens (Act 1 only (λ p. Finish)) s25 s26
step26 = act_at s25 1 Finish q26 refl refl refl (refl, refl, refl)

off26 : (q : ℕ) → q ≢ 7 → s26.page q ≡ base0 q
off26 q ne = put_off s25.page 7 q26 q ne ∙ off25 q ne

reached26 : Reached s26
reached26 = goes s25 s26 (Act 1 only (λ p. Finish)) reached25 step26

abbrev q27 : Page
q27 = set_entry (s26.page 7) (released_by (s26.page 7).entry 1)

abbrev s27 : State
s27 = record s26 { page = put s26.page 7 q27 }

step27 : Happens (Act 1 only (λ p. DoRelease)) s26 s27
step27 = act_at s26 1 DoRelease q27 refl refl refl (refl, refl, refl)

off27 : (q : ℕ) → q ≢ 7 → s27.page q ≡ base0 q
off27 q ne = put_off s26.page 7 q27 q ne ∙ off26 q ne

reached27 : Reached s27
reached27 = goes s26 s27 (Act 1 only (λ p. DoRelease)) reached26 step27

abbrev q28 : Page
q28 = set_node (s27.page 7) 1 (after_release ((s27.page 7).node 1))

abbrev s28 : State
s28 = record s27 { page = put s27.page 7 q28 }

step28 : Happens (Act 1 only (λ p. SeeRelease)) s27 s28
step28 = act_at s27 1 SeeRelease q28 refl refl refl (refl, refl, (refl, λ e. absurd cc), refl)

off28 : (q : ℕ) → q ≢ 7 → s28.page q ≡ base0 q
off28 q ne = put_off s27.page 7 q28 q ne ∙ off27 q ne

reached28 : Reached s28
reached28 = goes s27 s28 (Act 1 only (λ p. SeeRelease)) reached27 step28

abbrev q29 : Page
q29 = set_node (s28.page 7) 0 (stands ((s28.page 7).node 0) PlanLatch)

abbrev s29 : State
s29 = record s28 { page = put s28.page 7 q29 }

step29 : Happens (Act 0 only (λ p. BeginPlan)) s28 s29
step29 = act_at s28 0 BeginPlan q29 refl refl refl (refl, refl, refl, (λ e. absurd cc), refl)

off29 : (q : ℕ) → q ≢ 7 → s29.page q ≡ base0 q
off29 q ne = put_off s28.page 7 q29 q ne ∙ off28 q ne

reached29 : Reached s29
reached29 = goes s28 s29 (Act 0 only (λ p. BeginPlan)) reached28 step29

abbrev q30 : Page
q30 = set_entry (s29.page 7) (excluded_by (s29.page 7).entry 0)

abbrev s30 : State
s30 = record s29 { page = put s29.page 7 q30 }

step30 : Happens (Act 0 only (λ p. TryX)) s29 s30
step30 = act_at s29 0 TryX q30 refl refl refl (refl, refl, ((λ m ne. cleared m 1 (if nat_eq m 0 then false else false) (never m 0)), refl), refl)

off30 : (q : ℕ) → q ≢ 7 → s30.page q ≡ base0 q
off30 q ne = put_off s29.page 7 q30 q ne ∙ off29 q ne

reached30 : Reached s30
reached30 = goes s29 s30 (Act 0 only (λ p. TryX)) reached29 step30

abbrev q31 : Page
q31 = set_node (s30.page 7) 0 (stands ((s30.page 7).node 0) (after_x ((s30.page 7).node 0).step))

abbrev s31 : State
s31 = record s30 { page = put s30.page 7 q31 }

step31 : Happens (Act 0 only (λ p. SeeX)) s30 s31
step31 = act_at s30 0 SeeX q31 refl refl refl (refl, refl, refl, refl)

off31 : (q : ℕ) → q ≢ 7 → s31.page q ≡ base0 q
off31 q ne = put_off s30.page 7 q31 q ne ∙ off30 q ne

reached31 : Reached s31
reached31 = goes s30 s31 (Act 0 only (λ p. SeeX)) reached30 step31

abbrev q32 : Page
q32 = set_node (s31.page 7) 0 (calls ((s31.page 7).node 0) AskInvalidate)

abbrev s32 : State
s32 = record s31 { page = put s31.page 7 q32 }

step32 : Happens (Act 0 only (λ p. SendInvalidate)) s31 s32
step32 = act_at s31 0 SendInvalidate q32 refl refl refl (refl, refl, refl, refl)

off32 : (q : ℕ) → q ≢ 7 → s32.page q ≡ base0 q
off32 q ne = put_off s31.page 7 q32 q ne ∙ off31 q ne

reached32 : Reached s32
reached32 = goes s31 s32 (Act 0 only (λ p. SendInvalidate)) reached31 step32

abbrev q33 : Page
q33 = handled_invalidate (s32.page 7) 0 false

abbrev s33 : State
s33 = record s32 { page = put s32.page 7 q33 }

step33 : Happens (Act 0 only (λ p. (HandleInvalidate false))) s32 s33
step33 = act_at s32 0 (HandleInvalidate false) q33 refl refl refl (refl, refl, (λ e. absurd cc), refl)

off33 : (q : ℕ) → q ≢ 7 → s33.page q ≡ base0 q
off33 q ne = put_off s32.page 7 q33 q ne ∙ off32 q ne

reached33 : Reached s33
reached33 = goes s32 s33 (Act 0 only (λ p. (HandleInvalidate false))) reached32 step33

abbrev q34 : Page
q34 = set_node (s33.page 7) 0 (answered s33.rw 0 ((s33.page 7).node 0))

abbrev s34 : State
s34 = record s33 { page = put s33.page 7 q34 }

step34 : Happens (Act 0 only (λ p. Accept)) s33 s34
step34 = act_at s33 0 Accept q34 refl refl refl (refl, refl, refl)

off34 : (q : ℕ) → q ≢ 7 → s34.page q ≡ base0 q
off34 q ne = put_off s33.page 7 q34 q ne ∙ off33 q ne

reached34 : Reached s34
reached34 = goes s33 s34 (Act 0 only (λ p. Accept)) reached33 step34

abbrev q35 : Page
q35 = turned (s34.page 7) 1

abbrev s35 : State
s35 = record s34 { page = put s34.page 7 q35 }

step35 : Happens (Act 1 only (λ p. HomeTurn)) s34 s35
step35 = act_at s34 1 HomeTurn q35 refl refl refl (refl, refl, refl)

off35 : (q : ℕ) → q ≢ 7 → s35.page q ≡ base0 q
off35 q ne = put_off s34.page 7 q35 q ne ∙ off34 q ne

reached35 : Reached s35
reached35 = goes s34 s35 (Act 1 only (λ p. HomeTurn)) reached34 step35

abbrev q36 : Page
q36 = set_node (s35.page 7) 0 (calls ((s35.page 7).node 0) AskInvalidate)

abbrev s36 : State
s36 = record s35 { page = put s35.page 7 q36 }

step36 : Happens (Act 0 only (λ p. SendInvalidate)) s35 s36
step36 = act_at s35 0 SendInvalidate q36 refl refl refl (refl, refl, refl, refl)

off36 : (q : ℕ) → q ≢ 7 → s36.page q ≡ base0 q
off36 q ne = put_off s35.page 7 q36 q ne ∙ off35 q ne

reached36 : Reached s36
reached36 = goes s35 s36 (Act 0 only (λ p. SendInvalidate)) reached35 step36

abbrev q37 : Page
q37 = handled_invalidate (s36.page 7) 0 true

abbrev s37 : State
s37 = record s36 { page = put s36.page 7 q37 }

step37 : Happens (Act 0 only (λ p. (HandleInvalidate true))) s36 s37
step37 = act_at s36 0 (HandleInvalidate true) q37 refl refl refl (refl, refl, (λ e m. both m (fresh_of (s36.page 7)) refl), refl)

off37 : (q : ℕ) → q ≢ 7 → s37.page q ≡ base0 q
off37 q ne = put_off s36.page 7 q37 q ne ∙ off36 q ne

reached37 : Reached s37
reached37 = goes s36 s37 (Act 0 only (λ p. (HandleInvalidate true))) reached36 step37

abbrev q38 : Page
q38 = set_node (s37.page 7) 0 (answered s37.rw 0 ((s37.page 7).node 0))

abbrev s38 : State
s38 = record s37 { page = put s37.page 7 q38 }

step38 : Happens (Act 0 only (λ p. Accept)) s37 s38
step38 = act_at s37 0 Accept q38 refl refl refl (refl, refl, refl)

off38 : (q : ℕ) → q ≢ 7 → s38.page q ≡ base0 q
off38 q ne = put_off s37.page 7 q38 q ne ∙ off37 q ne

reached38 : Reached s38
reached38 = goes s37 s38 (Act 0 only (λ p. Accept)) reached37 step38

abbrev q39 : Page
q39 = installed (s38.page 7) 0 (leaf_at 4)

abbrev s39 : State
s39 = record s38 { page = put s38.page 7 q39 }

step39 : Happens (Act 0 only (λ p. (Install (leaf_at 4)))) s38 s39
step39 = act_at s38 0 (Install (leaf_at 4)) q39 refl refl refl (refl, refl, refl)

off39 : (q : ℕ) → q ≢ 7 → s39.page q ≡ base0 q
off39 q ne = put_off s38.page 7 q39 q ne ∙ off38 q ne

reached39 : Reached s39
reached39 = goes s38 s39 (Act 0 only (λ p. (Install (leaf_at 4)))) reached38 step39

abbrev s40 : State
s40 = record s39 { page = λ p. crashed (s39.page p) 0 }

step40 : Happens (Crash 0) s39 s40
step40 = (by_node (λ q. ((s39.page q).node 0).up ≡ true) 7 refl (λ q ne. ap (λ Z. (Z.node 0).up) (off39 q ne)), refl)

abbrev base1 : ℕ → Page
base1 q = crashed (base0 q) 0

off40 : (q : ℕ) → q ≢ 7 → s40.page q ≡ base1 q
off40 q ne = ap (λ Z. crashed Z 0) (off39 q ne)

reached40 : Reached s40
reached40 = goes s39 s40 (Crash 0) reached39 step40

abbrev s41 : State
s41 = record s40 { mode = fence_mode s40.mode; page = λ p. fenced (s40.page p) }

step41 : Happens Fence s40 s41
step41 = (refl, refl)

abbrev base2 : ℕ → Page
base2 q = fenced (base1 q)

off41 : (q : ℕ) → q ≢ 7 → s41.page q ≡ base2 q
off41 q ne = ap (λ Z. fenced Z) (off40 q ne)

reached41 : Reached s41
reached41 = goes s40 s41 Fence reached40 step41

abbrev s42 : State
s42 = record s41 { mode = Tailed 3; page = λ p. cut (s41.page p) 3 }

step42 : Happens (Tail 3) s41 s42
step42 = (tt, refl)

abbrev base3 : ℕ → Page
base3 q = cut (base2 q) 3

off42 : (q : ℕ) → q ≢ 7 → s42.page q ≡ base3 q
off42 q ne = ap (λ Z. cut Z 3) (off41 q ne)

reached42 : Reached s42
reached42 = goes s41 s42 (Tail 3) reached41 step42

abbrev s43 : State
s43 = record s42 { mode = Normal; rw = 1; watermark = 3; page = λ p. swept_at (s42.page p) 3 }

step43 : Happens (Sweep 1) s42 s43
step43 = (refl, 3, refl, refl)

abbrev base4 : ℕ → Page
base4 q = swept_at (base3 q) 3

off43 : (q : ℕ) → q ≢ 7 → s43.page q ≡ base4 q
off43 q ne = ap (λ Z. swept_at Z 3) (off42 q ne)

reached43 : Reached s43
reached43 = goes s42 s43 (Sweep 1) reached42 step43

abbrev pub s44 : State
s44 = record s43 { page = λ p. returned (s43.page p) 2 }

step44 : Happens (Rejoin 2) s43 s44
step44 = (refl, ((λ p. refl), (λ p. let r = swept_free (s42.page p).entry 3 2 in (r.0, r.1, refl)), refl))

abbrev pub base5 : ℕ → Page
base5 q = returned (base4 q) 2

pub off44 : (q : ℕ) → q ≢ 7 → s44.page q ≡ base5 q
off44 q ne = ap (λ Z. returned Z 2) (off43 q ne)

pub reached44 : Reached s44
reached44 = goes s43 s44 (Rejoin 2) reached43 step44
