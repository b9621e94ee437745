-- For the proofs: each event of a service is an event of the model of calls, or changes nothing that the model sees.
use Rattle.std.proofs.Common.{◌≡◌, ℕ, zero, suc, Bool, true, false, Option, Some, None, List, nat_eq, ◌&&◌, refl, sym, ◌∙◌, ap, subst, arith, Contains, ◌⊎◌, inl, inr, if◌then◌else◌}
use Rattle.call_model.specs.Callers.{Label, Caller, asking, awaits, label_of as caller_label}
use Rattle.call_model.specs.Servers.{Admission, Admission.Fenced as FencedCall, Admission.Old, Admission.Again, Admission.New, admit}
use Rattle.call_model.specs.Stages.{Effect, Effect.Nothing, Effect.Asks as EffectAsks, Effect.Handles, Effect.Accepts}
use Rattle.call_model.specs.Network.{Message as Seen, Message.ask, Message.answer, Message.refusal, Handling, Network, is_live, with_ask, with_message, with_handling as handled_with, with_answer as answered_with, Event as SeenEvent, Event.Ask as AskSeen, Event.Deliver as DeliverSeen, Event.Crash, Event.Kick, Event.Restart, Event.Rejoin, Event.Fence, Event.CrashServer, Event.RenewServer, Receives as CallReceives, Delivers as CallDelivers, Happens, IsAwaited}
use Rattle.message_network.specs.declared.calls.Ask.{Ask}
use Rattle.message_network.specs.declared.calls.Reply.{Reply}
use Rattle.message_network.specs.declared.calls.Reply.TheVariants.{Registered, PoolFull, Unregistered, Started, Done, Appended, Got, Fenced}
use Rattle.message_network.specs.declared.messages.Party.{Party}
use Rattle.message_network.specs.declared.messages.Party.TheVariants.{Node, Home, Storage}
use Rattle.message_network.specs.declared.messages.Body.{Body}
use Rattle.message_network.specs.declared.messages.Body.TheVariants.{Ask as Asked, Reply as Replied}
use Rattle.message_network.specs.declared.messages.Draft.{Draft}
use Rattle.message_network.specs.Labels.{label_of, answer_of, IsServed, same_party, seen_body, message_of, messages_of}
use Rattle.message_network.specs.Post.{draft_at}
use Rattle.message_network.specs.CallerView.{reply_of, accepted}
use Rattle.message_network.specs.Service.{Service, network_of, asking_draft, answering_draft, sending, Receives, Serves, Takes, Reaches, Comes, is_of, IsTurn, turned, Event, Event.Asks, Event.Delivers, Event.Sends, Event.Turns, Does}
use Rattle.message_network.proofs.Sending.{newest, none_new, sent_in}
use Rattle.message_network.proofs.Kept.{Sound, IsAddressed, contains_at}

pub same_itself : (s : Party) → same_party s s ≡ true
same_itself (Node n) = grind arith
same_itself Home = refl
same_itself Storage = refl

-- the model sees the same, or one event
abbrev pub Follows : Party → Service → Service → Type 0
Follows s S T =
    (network_of s T ≡ network_of s S)
    ⊎ ((e : SeenEvent Ask Reply) × (f : Effect Ask Reply) × Happens e (network_of s S) f (network_of s T))

unchanged : (s : Party) (S T : Service) → T ≡ S → Follows s S T
unchanged s S T e = inl (ap (network_of s) e)

abbrev sent_as : Network Ask Reply → List (Seen Ask Reply) → Network Ask Reply
sent_as N ms = record N { sent = ms }

-- ---- a node asks
asks_seen : (s : Party) (n : ℕ) (c : Caller) (q : Ask) → message_of s (asking_draft s n c q) ≡ Some (ask (caller_label n c) q)
asks_seen s n c q = ap (λ (b : Bool). let o : Option (Seen Ask Reply) = if b then Some (ask (caller_label n c) q) else None in o) (same_itself s)

ask_effect : (N : Network Ask Reply) (n : ℕ) (q : Ask) (b : Bool) → is_live N n ≡ b
    → (f : Effect Ask Reply) × (((is_live N n ≡ true) × (f ≡ EffectAsks n q)) ⊎ ((is_live N n ≡ false) × (f ≡ Nothing)))
ask_effect N n q true e = (EffectAsks n q, inl (e, refl))
ask_effect N n q false e = (Nothing, inr (e, refl))

asks : (s : Party) (S T : Service) (n : ℕ) (q : Ask) → Does s (Asks n q) S T → Follows s S T
asks s S T n q h =
    let N = network_of s S in
    let f = ask_effect N n q (is_live N n) refl in
    let c = asking (S.caller n) in
    let more = newest (message_of s) S.drafts (asking_draft s n c q) (ask (caller_label n c) q) (asks_seen s n c q) in
    let is : network_of s T ≡ with_ask N n q = ap (network_of s) h.2 ∙ ap (sent_as (with_ask N n q)) more in
    inr (AskSeen n q, f.0, (h.0, h.1, f.1, is))

-- ---- a server answers
answers_seen : (s : Party) (d : Draft) (r : Reply) → message_of s (answering_draft s d r) ≡ Some (answer_of (label_of d) r)
answers_seen s d r = ap (λ (b : Bool). let o : Option (Seen Ask Reply) = if b then Some (answer_of (label_of d) r) else None in o) (same_itself s)

pub answer_is : (l : Label) (r : Reply) → IsServed r → answer_of l r ≡ answer l r
answer_is l (Registered a b f) h = refl
answer_is l (PoolFull n) h = refl
answer_is l Unregistered h = refl
answer_is l (Started n) h = refl
answer_is l Done h = refl
answer_is l (Appended a) h = refl
answer_is l (Got g) h = refl
answer_is l (Fenced e) h = absurd h

serves_seen : (s : Party) (d : Draft) (r : Reply) → IsServed r → message_of s (answering_draft s d r) ≡ Some (answer (label_of d) r)
serves_seen s d r h = answers_seen s d r ∙ ap (λ (m : Seen Ask Reply). let o : Option (Seen Ask Reply) = Some m in o) (answer_is (label_of d) r h)

sends : (s : Party) (S T : Service) (d : Draft) (m : Seen Ask Reply) → message_of s d ≡ Some m → T ≡ sending S d
    → network_of s T ≡ with_message (network_of s S) m
sends s S T d m is e = ap (network_of s) e ∙ ap (sent_as (network_of s S)) (newest (message_of s) S.drafts d m is)

-- what a server that is up does with a call
receives : (s : Party) (S T : Service) (d : Draft) (q : Ask) → Sound s S → (a : Admission) → Receives s a S d q T
    → (T ≡ S) ⊎ ((f : Effect Ask Reply) × CallReceives a (network_of s S) (label_of d) q f (network_of s T))
receives s S T d q sound (FencedCall e) h = inr (Nothing, (refl, sends s S T (answering_draft s d (Fenced e)) (refusal (label_of d) e) (answers_seen s d (Fenced e)) h))
receives s S T d q sound Old h = inl h
receives s S T d q sound Again h =
    let r = h.0 in
    let served = sound.served d.token.node r h.1 in
    inr (Nothing, (r, h.1, refl, sends s S T (answering_draft s d r) (answer (label_of d) r) (serves_seen s d r served) h.2))
receives s S T d q sound New h =
    let r = h.0 in
    let more = newest (message_of s) S.drafts (answering_draft s d r) (answer (label_of d) r) (serves_seen s d r h.1) in
    let N = network_of s S in
    inr (Handles d.token.node q r, (r, refl, ap (network_of s) h.2 ∙ ap (sent_as (handled_with N (label_of d) q r)) more))

serves : (s : Party) (S T : Service) (d : Draft) (q : Ask) → Sound s S → Contains (messages_of s S.drafts) (ask (label_of d) q)
    → (b : Bool) → S.serves ≡ b → Serves s b S d q T → Follows s S T
serves s S T d q sound sent false e h = unchanged s S T h
serves s S T d q sound sent true e h =
    elim (receives s S T d q sound (admit S.server (label_of d)) h) [
      | inl same ↦ unchanged s S T same
      | inr g ↦ inr (DeliverSeen (ask (label_of d) q), g.0, (sent, inr (e, g.1)))
    ]

-- ---- a node takes an answer
taken : (N M : Network Ask Reply) (l : Label) (q : Ask) → IsAwaited N l → N.asked l.node ≡ Some q → M ≡ answered_with N l.node
    → (r : Reply) (b : Bool) → is_live N l.node ≡ b → (f : Effect Ask Reply) × CallDelivers (answer l r) N f M
taken N M l q w a e r true live = (Accepts l.node q r, inr (inl (w, live, (q, a, refl), e)))
taken N M l q w a e r false live = (Nothing, inr (inr (w, live, refl, e)))

takes : (N M : Network Ask Reply) (l : Label) (q : Ask) → IsAwaited N l → N.asked l.node ≡ Some q → M ≡ answered_with N l.node
    → (r : Reply) → (f : Effect Ask Reply) × CallDelivers (answer_of l r) N f M
takes N M l q w a e (Registered x b f) = taken N M l q w a e (Registered x b f) (is_live N l.node) refl
takes N M l q w a e (PoolFull n) = taken N M l q w a e (PoolFull n) (is_live N l.node) refl
takes N M l q w a e Unregistered = taken N M l q w a e Unregistered (is_live N l.node) refl
takes N M l q w a e (Started n) = taken N M l q w a e (Started n) (is_live N l.node) refl
takes N M l q w a e Done = taken N M l q w a e Done (is_live N l.node) refl
takes N M l q w a e (Appended x) = taken N M l q w a e (Appended x) (is_live N l.node) refl
takes N M l q w a e (Got g) = taken N M l q w a e (Got g) (is_live N l.node) refl
takes N M l q w a e (Fenced n) = (Nothing, inr (w, refl, e))

waits_when : (c : Caller) (l : Label) → awaits c l ≡ true → c.waits ≡ true
waits_when c l e = first c.waits refl
  where
    first : (b : Bool) → c.waits ≡ b → c.waits ≡ true
    first true w = w
    first false w = absurd (let f : awaits c l ≡ false = ap (λ (b : Bool). b && (nat_eq l.incarnation c.incarnation && (nat_eq l.epoch c.epoch && nat_eq l.number c.last))) w in cc)

reaches : (s : Party) (S T : Service) (d : Draft) (r : Reply) → Sound s S → Contains (messages_of s S.drafts) (answer_of (label_of d) r)
    → (n : ℕ) → n ≡ d.token.node → (b : Bool) → awaits (S.caller n) (label_of d) ≡ b → (u : Bool) → S.up n ≡ u
    → Takes (if b then Some r else None) u S n T → Follows s S T
reaches s S T d r sound sent n node false a u up h = unchanged s S T h
reaches s S T d r sound sent n node true a false up h = unchanged s S T h
reaches s S T d r sound sent n node true a true up h =
    let N = network_of s S in
    let l = label_of d in
    let asked = sound.asks n (waits_when (S.caller n) l a) in
    let here : (k : ℕ) → k ≡ n → (N.up k ≡ true) × (awaits (N.caller k) l ≡ true) × (N.asked k ≡ Some asked.0) × (network_of s T ≡ answered_with N k)
    = λ k e. subst (λ (j : ℕ). (N.up j ≡ true) × (awaits (N.caller j) l ≡ true) × (N.asked j ≡ Some asked.0) × (network_of s T ≡ answered_with N j)) (sym e) (up, a, asked.1, ap (network_of s) h) in
    let g = here d.token.node (sym node) in
    let f = takes N (network_of s T) l asked.0 (g.0, g.1) g.2 g.3 r in
    inr (DeliverSeen (answer_of l r), f.0, (sent, f.1))

abbrev chosen : Caller → Draft → Body → Option Reply
chosen c d b = if awaits c (label_of d) then reply_of b else None

comes_back : (s : Party) (S T : Service) (d : Draft) (r : Reply) → Sound s S → Contains (messages_of s S.drafts) (answer_of (label_of d) r)
    → d.body ≡ Replied r → (p : Party) → p ≡ Node d.token.node → Reaches p S d T → Follows s S T
comes_back s S T d r sound sent is (Node n) to h =
    let node : n ≡ d.token.node = cc in
    let same : accepted (S.caller n) d ≡ chosen (S.caller n) d (Replied r) = ap (chosen (S.caller n) d) is in
    let g : Takes (chosen (S.caller n) d (Replied r)) (S.up n) S n T = subst (λ (o : Option Reply). Takes o (S.up n) S n T) same h in
    reaches s S T d r sound sent n node (awaits (S.caller n) (label_of d)) refl (S.up n) refl g
comes_back s S T d r sound sent is Home to h = unchanged s S T h
comes_back s S T d r sound sent is Storage to h = unchanged s S T h

-- ---- a message is delivered
seen_of : (s : Party) (d : Draft) (b : Body) (m : Seen Ask Reply) → d.body ≡ b → seen_body s d.from d.to (label_of d) b ≡ Some m → message_of s d ≡ Some m
seen_of s d b m is e = ap (seen_body s d.from d.to (label_of d)) is ∙ e

abbrev pub when : Seen Ask Reply → Bool → Option (Seen Ask Reply)
when m b = if b then Some m else None

pub sent_at : (s : Party) (drafts : List Draft) (k : ℕ) (d : Draft) (m : Seen Ask Reply) → draft_at drafts k ≡ Some d → message_of s d ≡ Some m
    → Contains (messages_of s drafts) m
sent_at s drafts zero d m at is = absurd cc
sent_at s drafts (suc i) d m at is = sent_in (message_of s) drafts i d m at is

comes : (s : Party) (S T : Service) (k : ℕ) (d : Draft) → Sound s S → draft_at S.drafts k ≡ Some d
    → (of : Bool) (b : Body) → is_of s b d ≡ of → d.body ≡ b → Comes s of b S d T → Follows s S T
comes s S T k d sound at false b of is h = unchanged s S T h
comes s S T k d sound at true (Asked q) of is h =
    let seen = seen_of s d (Asked q) (ask (label_of d) q) is (ap (when (ask (label_of d) q)) of) in
    serves s S T d q sound (sent_at s S.drafts k d (ask (label_of d) q) at seen) S.serves refl h
comes s S T k d sound at true (Replied r) of is h =
    let m = answer_of (label_of d) r in
    let seen = seen_of s d (Replied r) m is (ap (when m) of) in
    let addressed = sound.addressed d (contains_at S.drafts k d at) in
    let to : d.to ≡ Node d.token.node = subst (λ (b : Body). IsAddressed s b d) is addressed of in
    comes_back s S T d r sound (sent_at s S.drafts k d m at seen) is d.to to h

-- ---- another part sends
not_seen : (s : Party) (d : Draft) (b : Body) → d.body ≡ b → is_of s b d ≡ false → message_of s d ≡ None
not_seen s d (Asked q) is of = ap (seen_body s d.from d.to (label_of d)) is ∙ ap (when (ask (label_of d) q)) of
not_seen s d (Replied r) is of = ap (seen_body s d.from d.to (label_of d)) is ∙ ap (when (answer_of (label_of d) r)) of

beside : (s : Party) (S T : Service) (d : Draft) → is_of s d.body d ≡ false → T ≡ sending S d → Follows s S T
beside s S T d of e =
    inl (ap (network_of s) e ∙ ap (sent_as (network_of s S)) (none_new (message_of s) S.drafts d (not_seen s d d.body refl of)))

-- ---- a part goes down or comes back
record SeesSame (N M : Network Ask Reply) : Type 0 where
  pub asked : M.asked ≡ N.asked
  pub sent : M.sent ≡ N.sent
  pub handled : M.handled ≡ N.handled

same_seen : (N M K : Network Ask Reply) → M ≡ K → SeesSame N K → SeesSame N M
same_seen N M K e h = subst (λ (z : Network Ask Reply). SeesSame N z) (sym e) h

turn_sees : (N M : Network Ask Reply) (e : SeenEvent Ask Reply) (f : Effect Ask Reply) → IsTurn e → Happens e N f M → SeesSame N M
turn_sees N M (AskSeen n q) f t h = absurd t
turn_sees N M (DeliverSeen m) f t h = absurd t
turn_sees N M (Crash n) f t h = same_seen N M _ h.2 (record { asked = refl; sent = refl; handled = refl })
turn_sees N M (Kick n) f t h = same_seen N M _ h.4 (record { asked = refl; sent = refl; handled = refl })
turn_sees N M (Restart n e) f t h = same_seen N M _ h.4 (record { asked = refl; sent = refl; handled = refl })
turn_sees N M (Rejoin n e) f t h = same_seen N M _ h.4 (record { asked = refl; sent = refl; handled = refl })
turn_sees N M (Fence e) f t h = same_seen N M _ h.3 (record { asked = refl; sent = refl; handled = refl })
turn_sees N M CrashServer f t h = same_seen N M _ h.2 (record { asked = refl; sent = refl; handled = refl })
turn_sees N M (RenewServer e) f t h = same_seen N M _ h.3 (record { asked = refl; sent = refl; handled = refl })

abbrev joined : (N : Network Ask Reply) → (ℕ → Option Ask) → List (Seen Ask Reply) → List (Handling Ask Reply) → Network Ask Reply
joined N a ms hs = record N { asked = a; sent = ms; handled = hs }

turned_is : (s : Party) (S : Service) (N : Network Ask Reply) → SeesSame (network_of s S) N → network_of s (turned S N) ≡ N
turned_is s S N h =
    ap (λ (a : ℕ → Option Ask). joined N a (messages_of s S.drafts) S.handled) (sym h.asked)
    ∙ (ap (λ (ms : List (Seen Ask Reply)). joined N N.asked ms S.handled) (sym h.sent)
    ∙ ap (joined N N.asked N.sent) (sym h.handled))

turns : (s : Party) (S T : Service) (e : SeenEvent Ask Reply) → Does s (Turns e) S T → Follows s S T
turns s S T e h =
    let g = h.1 in
    let N = g.0 in
    let is : network_of s T ≡ N = ap (network_of s) g.3 ∙ turned_is s S N (turn_sees (network_of s S) N e g.1 h.0 g.2) in
    inr (e, g.1, subst (λ (M : Network Ask Reply). Happens e (network_of s S) g.1 M) (sym is) g.2)

pub follows : (s : Party) (S T : Service) (e : Event) → Sound s S → Does s e S T → Follows s S T
follows s S T (Asks n q) sound h = asks s S T n q h
follows s S T (Delivers k) sound h = comes s S T k h.0 sound h.1 (is_of s h.0.body h.0) h.0.body refl refl h.2
follows s S T (Sends d) sound h = beside s S T d h.0 h.1
follows s S T (Turns e) sound h = turns s S T e h
