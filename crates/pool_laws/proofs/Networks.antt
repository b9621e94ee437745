-- For the proofs: what each event of the calls leaves.
use Rattle.std.proofs.Common.{◌≡◌, ℕ, true, false, inl, inr, sym, ap, subst, ◌∙◌, arith}
use Rattle.call_model.specs.Callers.{Label}
use Rattle.call_model.specs.Servers.{Admission, Admission.Fenced, Admission.Old, Admission.Again, Admission.New, admit}
use Rattle.call_model.specs.Stages.{Stage.Quiet as NoCall, Effect, Effect.Nothing, Effect.Handles, Effect.Ends, Effect.EndsAll, After, Beside}
use Rattle.call_model.specs.Network.{Message, Message.ask, Message.answer, Message.refusal, Network, rejoined, Event as CallEvent, Event.Deliver, Event.Crash, Event.Kick, Event.Restart, Event.Rejoin, Event.Fence, Event.CrashServer, Event.RenewServer, Receives, Happens as CallsDo}
use Rattle.call_model.specs.Laws.{stage_of}
use Rattle.call_model.proofs.Steps.{Delivered, happens, idle}
use Rattle.pool_laws.specs.Events.{Calls}

module _ {Q R : Type 0} where
  -- ---- a delivery leaves the server up or down, and what is handled is handled by one that is up
  receives-serves : (a : Admission) (N M : Network Q R) (l : Label) (q : Q) (f : Effect Q R) → Receives a N l q f M → M.serves ≡ N.serves
  receives-serves (Fenced e) N M l q f h = ap (λ (z : Network Q R). z.serves) h.1
  receives-serves Old N M l q f h = ap (λ (z : Network Q R). z.serves) h.1
  receives-serves Again N M l q f h = ap (λ (z : Network Q R). z.serves) h.3
  receives-serves New N M l q f h = ap (λ (z : Network Q R). z.serves) h.2

  pub deliver-serves : (m : Message Q R) (N M : Network Q R) (f : Effect Q R) → CallsDo (Deliver m) N f M → M.serves ≡ N.serves
  deliver-serves (ask l q) N M f (c, inl h) = ap (λ (z : Network Q R). z.serves) h.2
  deliver-serves (ask l q) N M f (c, inr h) = receives-serves (admit N.server l) N M l q f h.1
  deliver-serves (answer l r) N M f (c, inl h) = ap (λ (z : Network Q R). z.serves) h.2
  deliver-serves (answer l r) N M f (c, inr (inl h)) = ap (λ (z : Network Q R). z.serves) h.3
  deliver-serves (answer l r) N M f (c, inr (inr h)) = ap (λ (z : Network Q R). z.serves) h.3
  deliver-serves (refusal l e) N M f (c, inl h) = ap (λ (z : Network Q R). z.serves) h.2
  deliver-serves (refusal l e) N M f (c, inr h) = ap (λ (z : Network Q R). z.serves) h.2

  pub handled-serves : (m : Message Q R) (N M : Network Q R) (n : ℕ) (q : Q) (r : R) → CallsDo (Deliver m) N (Handles n q r) M → N.serves ≡ true
  handled-serves (ask l x) N M n q r (c, inl h) = let e = h.1 in absurd Prim.cc
  handled-serves (ask l x) N M n q r (c, inr h) = h.0
  handled-serves (answer l x) N M n q r (c, inl h) = let e = h.1 in absurd Prim.cc
  handled-serves (answer l x) N M n q r (c, inr (inl h)) = let e = h.2.2 in absurd Prim.cc
  handled-serves (answer l x) N M n q r (c, inr (inr h)) = let e = h.2 in absurd Prim.cc
  handled-serves (refusal l e) N M n q r (c, inl h) = let f = h.1 in absurd Prim.cc
  handled-serves (refusal l e) N M n q r (c, inr h) = let f = h.1 in absurd Prim.cc

  -- ---- events that leave the stages
  pub record Leaves (N M : Network Q R) : Type 0 where
    pub delivered : Delivered M
    pub stages : (m : ℕ) → stage_of M m ≡ stage_of N m

  by_effect : (e : CallEvent Q R) (N M : Network Q R) (f g : Effect Q R) → Delivered N → f ≡ g → CallsDo e N f M → Delivered M × After g (stage_of N) (stage_of M)
  by_effect e N M f g d k h = let x = happens e N M f d h in (x.0, subst (λ z. After z (stage_of N) (stage_of M)) k x.1)

  pub after-crash : (n : ℕ) (N M : Network Q R) → Delivered N → Calls (Crash n) N M → Leaves N M × (M.serves ≡ N.serves)
  after-crash n N M d h =
      let x = by_effect (Crash n) N M h.0 Nothing d h.1.1 h.1 in
      (record { delivered = x.0; stages = x.1 }, ap (λ (z : Network Q R). z.serves) h.1.2)

  pub after-server_crash : (N M : Network Q R) → Delivered N → Calls CrashServer N M → Leaves N M × (M.serves ≡ false)
  after-server_crash N M d h =
      let x = by_effect CrashServer N M h.0 Nothing d h.1.1 h.1 in
      (record { delivered = x.0; stages = x.1 }, ap (λ (z : Network Q R). z.serves) h.1.2)

  -- a node that comes back had no call, and has none
  back_idle : (N M : Network Q R) (n e : ℕ) → M ≡ rejoined N n e → stage_of M n ≡ NoCall
  back_idle N M n e h = subst (λ (z : Network Q R). stage_of z n ≡ NoCall) (sym h) (idle (rejoined N n e) n (grind arith))

  pub after-restart : (n e : ℕ) (N M : Network Q R) → Delivered N → Calls (Restart n e) N M
      → Leaves N M × (M.serves ≡ N.serves) × (stage_of N n ≡ NoCall) × (stage_of M n ≡ NoCall)
  after-restart n e N M d h =
      let x = by_effect (Restart n e) N M h.0 Nothing d h.1.3 h.1 in
      let i = back_idle N M n e h.1.4 in
      (record { delivered = x.0; stages = x.1 }, ap (λ (z : Network Q R). z.serves) h.1.4, sym (x.1 n) ∙ i, i)

  pub after-rejoin : (n e : ℕ) (N M : Network Q R) → Delivered N → Calls (Rejoin n e) N M
      → Leaves N M × (M.serves ≡ N.serves) × (stage_of N n ≡ NoCall) × (stage_of M n ≡ NoCall)
  after-rejoin n e N M d h =
      let x = by_effect (Rejoin n e) N M h.0 Nothing d h.1.3 h.1 in
      let i = back_idle N M n e h.1.4 in
      (record { delivered = x.0; stages = x.1 }, ap (λ (z : Network Q R). z.serves) h.1.4, sym (x.1 n) ∙ i, i)

  -- ---- events that end calls
  pub after-kick : (n : ℕ) (N M : Network Q R) → Delivered N → Calls (Kick n) N M
      → Delivered M × (stage_of M n ≡ NoCall) × Beside n (stage_of N) (stage_of M) × (M.serves ≡ N.serves)
  after-kick n N M d h =
      let x = by_effect (Kick n) N M h.0 (Ends n) d h.1.3 h.1 in
      (x.0, x.1.0, x.1.1, ap (λ (z : Network Q R). z.serves) h.1.4)

  pub after-fence : (e : ℕ) (N M : Network Q R) → Delivered N → Calls (Fence e) N M
      → Delivered M × ((m : ℕ) → stage_of M m ≡ NoCall) × (M.serves ≡ true) × (N.serves ≡ true)
  after-fence e N M d h =
      let x = by_effect (Fence e) N M h.0 EndsAll d h.1.2 h.1 in
      (x.0, x.1, ap (λ (z : Network Q R). z.serves) h.1.3, h.1.0)

  pub after-renewal : (e : ℕ) (N M : Network Q R) → Delivered N → Calls (RenewServer e) N M
      → Delivered M × ((m : ℕ) → stage_of M m ≡ NoCall) × (M.serves ≡ true)
  after-renewal e N M d h =
      let x = by_effect (RenewServer e) N M h.0 EndsAll d h.1.2 h.1 in
      (x.0, x.1, ap (λ (z : Network Q R). z.serves) h.1.3)
