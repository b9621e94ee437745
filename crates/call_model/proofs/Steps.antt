-- For the proofs: each event keeps what holds in every state, and is one step of the calls or none.
use Rattle.std.proofs.Common.{◌≡◌, ℕ, ◌≤◌, ◌<◌, ◌+◌, Bool, true, false, Option, Some, None, List, [], ◌∷◌, nat_eq, arith, Contains, ◌⊎◌, inl, inr, refl, sym, ◌∙◌}
use Rattle.call_model.specs.Callers.{Label, Caller, awaits}
use Rattle.call_model.specs.Servers.{Server, Admission, Admission.Fenced, Admission.Old, Admission.Again, Admission.New, admit, fenced, new_server}
use Rattle.call_model.specs.Stages.{Stage, Stage.Quiet, Effect, Effect.Nothing, Effect.Asks, Effect.Handles, Effect.Accepts, Effect.Ends, Effect.EndsAll, After, Beside}
use Rattle.call_model.specs.Network.{Message.ask, Message.answer, Message.refusal, Network, new_network, is_live, with_ask, with_handling, with_answer, with_up, kicked, rejoined, with_server, Event, Event.Ask, Event.Deliver, Event.Crash, Event.Kick, Event.Restart, Event.Rejoin, Event.Fence, Event.CrashServer, Event.RenewServer, Receives, Delivers, IsReleased, Happens, Run}
use Rattle.call_model.specs.Laws.{stage, is_handled, stage_of}
use Rattle.call_model.proofs.Admissions.{admit-new, admit-again, admit-fenced}
use Rattle.call_model.proofs.Sound.{Once, Sound, SoundAsk, IsPresent, present, once-new, once-ask, once-message, once-handling, once-answer, once-down, once-kicked, once-rejoined, once-fenced, once-renewed}
use Rattle.call_model.proofs.Past.{Past, past-new, past-same, past-ask, past-refusal, past-again, past-handling, again_handled, kept_kicked, kept_renewed}

-- what a reply is that a node waits for
awaited : (c : Caller) (l : Label) → awaits c l ≡ true → (c.waits ≡ true) × (l.incarnation ≡ c.incarnation) × (l.epoch ≡ c.epoch) × (l.number ≡ c.last)
awaited c l e = (grind arith, grind arith, grind arith, grind arith)

module _ {Q R : Type 0} where
  -- what holds in every state
  pub record Delivered (N : Network Q R) : Type 0 where
    pub once : Once N
    pub past : Past N

  pub delivered-new : Delivered new_network
  delivered-new = record { once = once-new; past = past-new }

  -- ---- a call that nobody waits for, or that no server takes, is none
  stage-idle : (a : Option Q) (l h : Bool) (o : Option R) → stage a false l h o ≡ Quiet
  stage-idle None l h o = refl
  stage-idle (Some q) l h o = refl

  stage-dead : (a : Option Q) (w h : Bool) (o : Option R) → stage a w false h o ≡ Quiet
  stage-dead None w h o = refl
  stage-dead (Some q) true h o = refl
  stage-dead (Some q) false h o = refl

  pub idle : (N : Network Q R) (n : ℕ) → (N.caller n).waits ≡ false → stage_of N n ≡ Quiet
  idle N n w = rw w (stage-idle (N.asked n) (is_live N n) (is_handled (N.caller n) (N.server.memory n).incarnation (N.server.memory n).number) (N.server.memory n).reply)

  dead : (N : Network Q R) (n : ℕ) → is_live N n ≡ false → stage_of N n ≡ Quiet
  dead N n l = rw l (stage-dead (N.asked n) (N.caller n).waits (is_handled (N.caller n) (N.server.memory n).incarnation (N.server.memory n).number) (N.server.memory n).reply)

  -- the stage of a node depends on its own parts alone
  stage-by : (N M : Network Q R) (n : ℕ) → M.caller n ≡ N.caller n → M.asked n ≡ N.asked n → M.server.epoch ≡ N.server.epoch → M.server.memory n ≡ N.server.memory n → stage_of M n ≡ stage_of N n
  stage-by N M n a b c d = rw (a, b, c, d) refl

  -- ---- the stages after each change
  sees_ask : (N : Network Q R) (n : ℕ) (q : Q) → Once N → (N.caller n).waits ≡ false → is_live N n ≡ true → After (Asks n q) (stage_of N) (stage_of (with_ask N n q))
  sees_ask N n q o w l = let b = o.behind n in (idle N n w, grind arith, λ m d. grind arith)

  -- n's call is none before and after, and the others stay
  around : (c d : ℕ → Stage Q R) (n : ℕ) → c n ≡ Quiet → d n ≡ Quiet → Beside n c d → (m : ℕ) → d m ≡ c m
  around c d n a b x m = at (nat_eq m n) refl
    where
      at : (t : Bool) → nat_eq m n ≡ t → d m ≡ c m
      at true e = let f : m ≡ n = grind arith in rw f (b ∙ sym a)
      at false e = x m (grind arith)

  sees_dead_ask : (N : Network Q R) (n : ℕ) (q : Q) → is_live N n ≡ false → After Nothing (stage_of N) (stage_of (with_ask N n q))
  sees_dead_ask N n q l = around (stage_of N) (stage_of (with_ask N n q)) n (dead N n l) (dead (with_ask N n q) n (grind arith)) (λ m d. grind arith)

  sees_dead_answer : (N : Network Q R) (n : ℕ) → is_live N n ≡ false → After Nothing (stage_of N) (stage_of (with_answer N n))
  sees_dead_answer N n l = around (stage_of N) (stage_of (with_answer N n)) n (dead N n l) (idle (with_answer N n) n (grind arith)) (λ m d. grind arith)

  -- a released node has no call before it comes back, and none after
  sees_rejoined : (N : Network Q R) (n e : ℕ) → IsReleased N n → After Nothing (stage_of N) (stage_of (rejoined N n e))
  sees_rejoined N n e r = around (stage_of N) (stage_of (rejoined N n e)) n (dead N n (grind arith)) (idle (rejoined N n e) n (grind arith)) (λ m d. grind arith)

  sees_handling : (N : Network Q R) (l : Label) (q : Q) (r : R) → IsPresent N l q → After (Handles l.node q r) (stage_of N) (stage_of (with_handling N l q r))
  sees_handling N l q r p = (grind arith, grind arith, λ m d. grind arith)

  sees_answer : (N : Network Q R) (n : ℕ) (q : Q) (r : R) → (N.caller n).waits ≡ true → N.asked n ≡ Some q → is_live N n ≡ true
      → (N.server.memory n).incarnation ≡ (N.caller n).incarnation → (N.server.memory n).number ≡ (N.caller n).last → (N.server.memory n).reply ≡ Some r
      → After (Accepts n q r) (stage_of N) (stage_of (with_answer N n))
  sees_answer N n q r w a l i k e = (grind arith, idle (with_answer N n) n (grind arith), λ m d. grind arith)

  sees_kicked : (N : Network Q R) (n : ℕ) → After (Ends n) (stage_of N) (stage_of (kicked N n))
  sees_kicked N n = (dead (kicked N n) n (grind arith), λ m d. grind arith)

  sees_fenced : (N : Network Q R) (s : Server R) → ((n : ℕ) → (N.caller n).epoch < s.epoch) → After EndsAll (stage_of N) (stage_of (with_server N s))
  sees_fenced N s x m = let a = x m in dead (with_server N s) m (grind arith)

  -- ---- a message reaches the server
  sound_again : (N : Network Q R) (l : Label) (q : Q) (r : R) → SoundAsk N l q → N.server.epoch ≤ l.epoch → (N.server.memory l.node).incarnation ≡ l.incarnation
      → (N.server.memory l.node).number ≡ l.number → (N.server.memory l.node).reply ≡ Some r → Sound N (answer l r)
  sound_again N l q r w a b c e = grind arith

  receives : (N M : Network Q R) (l : Label) (q : Q) (f : Effect Q R) → Delivered N → Contains N.sent (ask l q) → (a : Admission) → admit N.server l ≡ a
      → Receives a N l q f M → Delivered M × After f (stage_of N) (stage_of M)
  receives N M l q f d c (Fenced e) a h =
      let s = admit-fenced N.server l e a in
      rw (h.0, h.1) (record { once = once-message N (refusal l e) d.once (omega (arith, s.0, s.1), omega (arith, s.1)); past = past-refusal N l e d.past }, λ m. refl)
  receives N M l q f d c Old a h = rw (h.0, h.1) (d, λ m. refl)
  receives N M l q f d c Again a h =
      let s = admit-again N.server l a in
      let w : SoundAsk N l q = d.once.sound (ask l q) c in
      let r : R = h.0 in
      let k : (N.server.memory l.node).reply ≡ Some r = h.1 in
      let g = again_handled N l q r d.once d.past w s.0 s.1 s.2 k in
      rw (h.2, h.3) (record { once = once-message N (answer l r) d.once (sound_again N l q r w s.0 s.1 s.2 k); past = past-again N l g.0 r g.1 d.past }, λ m. refl)
  receives N M l q f d c New a h =
      let s = admit-new N.server l a in
      let w : SoundAsk N l q = d.once.sound (ask l q) c in
      let p = present N l q d.once w s.0 s.1 s.2 in
      rw (h.1, h.2) (record { once = once-handling N l q h.0 d.once p; past = past-handling N l q h.0 d.once d.past p c }, sees_handling N l q h.0 p)

  -- ---- a reply reaches a node
  live : (N : Network Q R) (n : ℕ) → is_live N n ≡ true → (N.server.epoch ≤ (N.caller n).epoch) × ((N.server.memory n).incarnation ≤ (N.caller n).incarnation)
  live N n l = (grind arith, grind arith)

  -- a node that is up and whose call no server takes is of an older epoch
  older : (N : Network Q R) (n : ℕ) → Once N → N.up n ≡ true → is_live N n ≡ false → (N.caller n).epoch < N.server.epoch
  older N n o u l = let k = o.lives n u in grind arith

  past-answer : (N : Network Q R) (n : ℕ) → Past N → Past (with_answer N n)
  past-answer N n p = past-same N (with_answer N n) refl refl p.kept p

  accepts : (N M : Network Q R) (l : Label) (r : R) (f : Effect Q R) → Delivered N → Contains N.sent (answer l r)
      → Delivers (answer l r) N f M → Delivered M × After f (stage_of N) (stage_of M)
  accepts N M l r f d c (inl h) = rw (h.1, h.2) (d, λ m. refl)
  accepts N M l r f d c (inr (inl h)) =
      let n : ℕ = l.node in
      let a = awaited (N.caller n) l h.0.1 in
      let v = live N n h.1 in
      let s = d.once.sound (answer l r) c in
      let t = s.1 a.1 v.0 in
      let i : (N.server.memory n).incarnation ≡ (N.caller n).incarnation = omega (arith, t.0, v.1) in
      let u = t.1 i in
      let b = d.once.behind n t.0 in
      let k : (N.server.memory n).number ≡ (N.caller n).last = omega (arith, u.0, b, a.3) in
      let e : (N.server.memory n).reply ≡ Some r = u.1 (omega (arith, k, a.3)) in
      rw (h.2.2, h.3) (
        record { once = once-answer N n d.once (inr (i, omega (arith, k))); past = past-answer N n d.past },
        sees_answer N n h.2.0 r a.0 h.2.1 h.1 i k e,
      )
  accepts N M l r f d c (inr (inr h)) =
      let n : ℕ = l.node in
      rw (h.2, h.3) (
        record { once = once-answer N n d.once (inl (older N n d.once h.0.0 h.1)); past = past-answer N n d.past },
        sees_dead_answer N n h.1,
      )

  refused : (N M : Network Q R) (l : Label) (e : ℕ) (f : Effect Q R) → Delivered N → Contains N.sent (refusal l e)
      → Delivers (refusal l e) N f M → Delivered M × After f (stage_of N) (stage_of M)
  refused N M l e f d c (inl h) = rw (h.1, h.2) (d, λ m. refl)
  refused N M l e f d c (inr h) =
      let n : ℕ = l.node in
      let a = awaited (N.caller n) l h.0.1 in
      let s = d.once.sound (refusal l e) c in
      let o : (N.caller n).epoch < N.server.epoch = omega (arith, s.0, s.1, a.2) in
      rw (h.1, h.2) (
        record { once = once-answer N n d.once (inl o); past = past-answer N n d.past },
        sees_dead_answer N n (grind arith),
      )

  -- ---- each event
  asks : (N M : Network Q R) (n : ℕ) (q : Q) (f : Effect Q R) → Delivered N → Happens (Ask n q) N f M → Delivered M × After f (stage_of N) (stage_of M)
  asks N M n q f d h =
      rw h.3 (record { once = once-ask N n q d.once h.1; past = past-ask N n q d.once d.past }, in_case h.2)
    where
      in_case : ((is_live N n ≡ true) × (f ≡ Asks n q)) ⊎ ((is_live N n ≡ false) × (f ≡ Nothing)) → After f (stage_of N) (stage_of (with_ask N n q))
      in_case (inl e) = rw e.1 (sees_ask N n q d.once h.1 e.0)
      in_case (inr e) = rw e.1 (sees_dead_ask N n q e.0)

  pub happens : (e : Event Q R) (N M : Network Q R) (f : Effect Q R) → Delivered N → Happens e N f M → Delivered M × After f (stage_of N) (stage_of M)
  happens (Ask n q) N M f d h = asks N M n q f d h
  happens (Deliver (ask l q)) N M f d (c, inl h) = rw (h.1, h.2) (d, λ m. refl)
  happens (Deliver (ask l q)) N M f d (c, inr h) = receives N M l q f d c (admit N.server l) refl h.1
  happens (Deliver (answer l r)) N M f d h = accepts N M l r f d h.0 h.1
  happens (Deliver (refusal l e)) N M f d h = refused N M l e f d h.0 h.1
  happens (Crash n) N M f d h =
      rw (h.1, h.2) (record { once = once-down N n d.once; past = past-same N (with_up N n false) refl refl d.past.kept d.past }, λ m. refl)
  happens (Kick n) N M f d h =
      rw (h.3, h.4) (
        record { once = once-kicked N n d.once h.1 h.2; past = past-same N (kicked N n) refl refl (kept_kicked N n ((N.caller n).incarnation + 1) d.past) d.past },
        sees_kicked N n,
      )
  happens (Restart n e) N M f d h =
      rw (h.3, h.4) (
        record { once = once-rejoined N n e d.once h.1 h.2.1; past = past-same N (rejoined N n e) refl refl d.past.kept d.past },
        sees_rejoined N n e h.1,
      )
  happens (Rejoin n e) N M f d h =
      rw (h.3, h.4) (
        record { once = once-rejoined N n e d.once (inr h.1) h.2.1; past = past-same N (rejoined N n e) refl refl d.past.kept d.past },
        sees_rejoined N n e (inr h.1),
      )
  happens (Fence e) N M f d h =
      rw (h.2, h.3) (
        record { once = once-fenced N e d.once h.1; past = past-same N (with_server N (fenced N.server e)) refl refl d.past.kept d.past },
        sees_fenced N (fenced N.server e) h.1.1,
      )
  happens CrashServer N M f d h = rw (h.1, h.2) (
    record {
      once = record { knows = d.once.knows; lives = d.once.lives; behind = d.once.behind; blank = d.once.blank; sound = d.once.sound; past = d.once.past };
      past = past-same N (record N { serves = false }) refl refl d.past.kept d.past;
    },
    λ m. refl,
  )
  happens (RenewServer e) N M f d h =
      rw (h.2, h.3) (
        record { once = once-renewed N e d.once h.1; past = past-same N (with_server N (new_server e)) refl refl (kept_renewed N e) d.past },
        sees_fenced N (new_server e) h.1.1,
      )

  pub reached : (N M : Network Q R) (events : List (Event Q R)) → Delivered N → Run N events M → Delivered M
  reached N M [] d h = rw h d
  reached N M (e ∷ es) d h = reached h.0 M es (happens e N h.0 h.1 d h.2).0 h.3
