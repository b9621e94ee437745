-- For the proofs: what holds of a service in every state, and that each event keeps it.
use Rattle.std.proofs.Common.{◌≡◌, ℕ, zero, suc, Bool, true, false, Option, Some, None, List, [], ◌∷◌, ◌++◌, nat_eq, refl, sym, ◌∙◌, ap, subst, arith, Contains, inl, inr, if◌then◌else◌}
use Rattle.std.proofs.lemmas.List.Elements.{Contains-push_cases}
use Rattle.std.proofs.lemmas.Option.{get_or_from_slice_get, slice_get_within}
use Rattle.call_model.specs.Callers.{Label, Caller, asking, answered}
use Rattle.call_model.specs.Servers.{put, Memory, Server, Admission, Admission.Fenced as FencedCall, Admission.Old, Admission.Again, Admission.New, admit, keeping, fenced, new_server}
use Rattle.call_model.specs.Stages.{Effect}
use Rattle.call_model.specs.Network.{Network, with_up, kicked, rejoined, with_server, Event as SeenEvent, Event.Ask as AskSeen, Event.Deliver as DeliverSeen, Event.Crash, Event.Kick, Event.Restart, Event.Rejoin, Event.Fence, Event.CrashServer, Event.RenewServer, Happens}
use Rattle.message_network.specs.declared.calls.Ask.{Ask}
use Rattle.message_network.specs.declared.calls.Reply.{Reply}
use Rattle.message_network.specs.declared.messages.Party.{Party}
use Rattle.message_network.specs.declared.messages.Party.TheVariants.{Node, Home, Storage}
use Rattle.message_network.specs.declared.messages.Body.{Body}
use Rattle.message_network.specs.declared.messages.Body.TheVariants.{Ask as Asked, Reply as Replied}
use Rattle.message_network.specs.declared.messages.Draft.{Draft}
use Rattle.message_network.specs.Labels.{label_of, IsServed, same_party}
use Rattle.message_network.specs.Post.{draft_at}
use Rattle.message_network.specs.CallerView.{accepted}
use Rattle.message_network.specs.Service.{Service, new_service, network_of, asking_draft, answering_draft, sending, with_call, with_handling, with_answer, Receives, Serves, Takes, Reaches, Comes, is_of, IsTurn, turned, Event, Event.Asks, Event.Delivers, Event.Sends, Event.Turns, Does}

-- ---- what stands at a place stands in the list
pub contains_at : (drafts : List Draft) (k : ℕ) (d : Draft) → draft_at drafts k ≡ Some d → Contains drafts d
contains_at drafts zero d at = absurd cc
contains_at drafts (suc i) d at = (i, slice_get_within drafts i d at, get_or_from_slice_get drafts i d d at)

-- an answer of server s goes to the node whose call it answers
abbrev pub IsAddressed : Party → Body → Draft → Type 0
IsAddressed s (Asked q) d = Unit {0}
IsAddressed s (Replied r) d = same_party d.from s ≡ true → d.to ≡ Node d.token.node

abbrev pub AreAddressed : Party → List Draft → Type 0
AreAddressed s drafts = (d : Draft) → Contains drafts d → IsAddressed s d.body d

abbrev pub AreServed : (ℕ → Memory Reply) → Type 0
AreServed memory = (n : ℕ) (r : Reply) → (memory n).reply ≡ Some r → IsServed r

abbrev pub WereAsked : (ℕ → Caller) → (ℕ → Option Ask) → Type 0
WereAsked caller asked = (n : ℕ) → (caller n).waits ≡ true → (q : Ask) × (asked n ≡ Some q)

pub record Sound (s : Party) (S : Service) : Type 0 where
  pub addressed : AreAddressed s S.drafts
  pub served : AreServed S.server.memory
  pub asks : WereAsked S.caller S.asked

pub sound-new : (s : Party) → Sound s new_service
sound-new s = record {
  addressed = λ d c. absurd (omega (arith, c.1));
  served = λ n r e. cc;
  asks = λ n e. absurd cc;
}

-- ---- one more message
addressed_more : (s : Party) (drafts : List Draft) (d : Draft) → AreAddressed s drafts → IsAddressed s d.body d → AreAddressed s (drafts ++ d ∷ [])
addressed_more s drafts d all this e c =
    elim (Contains-push_cases drafts d e c) [ inl old ↦ all e old | inr same ↦ subst (λ (z : Draft). IsAddressed s z.body z) same this ]

not_of : (s : Party) (d : Draft) (b : Body) → is_of s b d ≡ false → IsAddressed s b d
not_of s d (Asked q) e = tt
not_of s d (Replied r) e = λ t. absurd cc

-- ---- a node asks
asked_beside : (caller : ℕ → Caller) (asked : ℕ → Option Ask) (n : ℕ) (q : Ask) → WereAsked caller asked → (m : ℕ) (b : Bool) → nat_eq m n ≡ b
    → (put caller n (asking (caller n)) m).waits ≡ true → (p : Ask) × (put asked n (Some q) m ≡ Some p)
asked_beside caller asked n q all m true e w = (q, ap (λ (b : Bool). if b then Some q else asked m) e)
asked_beside caller asked n q all m false e w =
    let old : (caller m).waits ≡ true = grind arith in
    let p = all m old in
    (p.0, ap (λ (b : Bool). if b then Some q else asked m) e ∙ p.1)

-- ---- the server keeps a reply
served_beside : (S : Server Reply) (l : Label) (r : Reply) → AreServed S.memory → IsServed r → (n : ℕ) (b : Bool) → nat_eq n l.node ≡ b
    → (p : Reply) → ((keeping S l r).memory n).reply ≡ Some p → IsServed p
served_beside S l r all this n true e p is = let same : r ≡ p = grind arith in subst IsServed same this
served_beside S l r all this n false e p is = let old : (S.memory n).reply ≡ Some p = grind arith in all n p old

served_kept : (S : Server Reply) (l : Label) (r : Reply) → AreServed S.memory → IsServed r → AreServed (keeping S l r).memory
served_kept S l r all this n p is = served_beside S l r all this n (nat_eq n l.node) refl p is

-- ---- a node takes an answer
taken_beside : (caller : ℕ → Caller) (n m : ℕ) (b : Bool) → nat_eq m n ≡ b → (put caller n (answered (caller n)) m).waits ≡ true → (caller m).waits ≡ true
taken_beside caller n m true e w = absurd (let f : false ≡ true = grind arith in cc)
taken_beside caller n m false e w = grind arith

same_sound : (s : Party) (S T : Service) → T ≡ S → Sound s S → Sound s T
same_sound s S T e h = subst (Sound s) (sym e) h

sends_sound : (s : Party) (S T : Service) (d : Draft) → T ≡ sending S d → IsAddressed s d.body d → Sound s S → Sound s T
sends_sound s S T d e this h =
    same_sound s (sending S d) T e (record { addressed = addressed_more s S.drafts d h.addressed this; served = h.served; asks = h.asks })

receives_sound : (s : Party) (S T : Service) (d : Draft) (q : Ask) (a : Admission) → Receives s a S d q T → Sound s S → Sound s T
receives_sound s S T d q (FencedCall e) h sound = sends_sound s S T _ h (λ t. refl) sound
receives_sound s S T d q Old h sound = same_sound s S T h sound
receives_sound s S T d q Again h sound = sends_sound s S T _ h.2 (λ t. refl) sound
receives_sound s S T d q New h sound =
    same_sound s (with_handling s S d q h.0) T h.2 (record {
      addressed = addressed_more s S.drafts (answering_draft s d h.0) sound.addressed (λ t. refl);
      served = served_kept S.server (label_of d) h.0 sound.served h.1;
      asks = sound.asks;
    })

serves_sound : (s : Party) (S T : Service) (d : Draft) (q : Ask) (b : Bool) → Serves s b S d q T → Sound s S → Sound s T
serves_sound s S T d q false h sound = same_sound s S T h sound
serves_sound s S T d q true h sound = receives_sound s S T d q (admit S.server (label_of d)) h sound

takes_sound : (s : Party) (S T : Service) (n : ℕ) (o : Option Reply) (b : Bool) → Takes o b S n T → Sound s S → Sound s T
takes_sound s S T n (Some r) true h sound =
    same_sound s (with_answer S n) T h (record {
      addressed = sound.addressed;
      served = sound.served;
      asks = λ m w. sound.asks m (taken_beside S.caller n m (nat_eq m n) refl w);
    })
takes_sound s S T n (Some r) false h sound = same_sound s S T h sound
takes_sound s S T n None b h sound = same_sound s S T h sound

reaches_sound : (s : Party) (S T : Service) (d : Draft) (p : Party) → Reaches p S d T → Sound s S → Sound s T
reaches_sound s S T d (Node n) h sound = takes_sound s S T n (accepted (S.caller n) d) (S.up n) h sound
reaches_sound s S T d Home h sound = same_sound s S T h sound
reaches_sound s S T d Storage h sound = same_sound s S T h sound

comes_sound : (s : Party) (S T : Service) (d : Draft) (of : Bool) (b : Body) → Comes s of b S d T → Sound s S → Sound s T
comes_sound s S T d true (Asked q) h sound = serves_sound s S T d q S.serves h sound
comes_sound s S T d true (Replied r) h sound = reaches_sound s S T d d.to h sound
comes_sound s S T d false b h sound = same_sound s S T h sound

-- ---- a part goes down or comes back: no reply is new, and no node begins to wait
record KeepsCalls (N M : Network Ask Reply) : Type 0 where
  pub replies : (n : ℕ) (r : Reply) → (M.server.memory n).reply ≡ Some r → (N.server.memory n).reply ≡ Some r
  pub waits : (n : ℕ) → (M.caller n).waits ≡ true → (N.caller n).waits ≡ true

kicked_beside : (N : Network Ask Reply) (n m : ℕ) (r : Reply) (b : Bool) → nat_eq m n ≡ b → ((kicked N n).server.memory m).reply ≡ Some r → (N.server.memory m).reply ≡ Some r
kicked_beside N n m r true e h = absurd (let f : None ≡ Some r = grind arith in cc)
kicked_beside N n m r false e h = grind arith

rejoined_beside : (N : Network Ask Reply) (n e m : ℕ) (b : Bool) → nat_eq m n ≡ b → ((rejoined N n e).caller m).waits ≡ true → (N.caller m).waits ≡ true
rejoined_beside N n e m true t w = absurd (let f : false ≡ true = grind arith in cc)
rejoined_beside N n e m false t w = grind arith

kept_along : (N M K : Network Ask Reply) → M ≡ K → KeepsCalls N K → KeepsCalls N M
kept_along N M K e h = subst (λ (z : Network Ask Reply). KeepsCalls N z) (sym e) h

turn_keeps : (N M : Network Ask Reply) (e : SeenEvent Ask Reply) (f : Effect Ask Reply) → IsTurn e → Happens e N f M → KeepsCalls N M
turn_keeps N M (AskSeen n q) f t h = absurd t
turn_keeps N M (DeliverSeen m) f t h = absurd t
turn_keeps N M (Crash n) f t h = kept_along N M (with_up N n false) h.2 (record { replies = λ m r e. e; waits = λ m w. w })
turn_keeps N M (Kick n) f t h = kept_along N M (kicked N n) h.4 (record { replies = λ m r e. kicked_beside N n m r (nat_eq m n) refl e; waits = λ m w. w })
turn_keeps N M (Restart n e) f t h = kept_along N M (rejoined N n e) h.4 (record { replies = λ m r k. k; waits = λ m w. rejoined_beside N n e m (nat_eq m n) refl w })
turn_keeps N M (Rejoin n e) f t h = kept_along N M (rejoined N n e) h.4 (record { replies = λ m r k. k; waits = λ m w. rejoined_beside N n e m (nat_eq m n) refl w })
turn_keeps N M (Fence e) f t h = kept_along N M (with_server N (fenced N.server e)) h.3 (record { replies = λ m r k. k; waits = λ m w. w })
turn_keeps N M CrashServer f t h = kept_along N M (record N { serves = false }) h.2 (record { replies = λ m r k. k; waits = λ m w. w })
turn_keeps N M (RenewServer e) f t h = kept_along N M (with_server N (new_server e)) h.3 (record { replies = λ m r k. absurd (let g : None ≡ Some r = k in cc); waits = λ m w. w })

turns_sound : (s : Party) (S T : Service) (e : SeenEvent Ask Reply) → Does s (Turns e) S T → Sound s S → Sound s T
turns_sound s S T e h sound =
    let g = h.1 in
    let k = turn_keeps (network_of s S) g.0 e g.1 h.0 g.2 in
    same_sound s (turned S g.0) T g.3 (record {
      addressed = sound.addressed;
      served = λ n r is. sound.served n r (k.replies n r is);
      asks = λ n w. sound.asks n (k.waits n w);
    })

asks_sound : (s : Party) (S T : Service) (n : ℕ) (q : Ask) → Does s (Asks n q) S T → Sound s S → Sound s T
asks_sound s S T n q h sound =
    same_sound s (with_call s S n q) T h.2 (record {
      addressed = addressed_more s S.drafts (asking_draft s n (asking (S.caller n)) q) sound.addressed tt;
      served = sound.served;
      asks = λ m w. asked_beside S.caller S.asked n q sound.asks m (nat_eq m n) refl w;
    })

pub stays_sound : (s : Party) (S T : Service) (e : Event) → Does s e S T → Sound s S → Sound s T
stays_sound s S T (Asks n q) h sound = asks_sound s S T n q h sound
stays_sound s S T (Delivers k) h sound = comes_sound s S T h.0 (is_of s h.0.body h.0) h.0.body h.2 sound
stays_sound s S T (Sends d) h sound = sends_sound s S T d h.1 (not_of s d d.body h.0) sound
stays_sound s S T (Turns e) h sound = turns_sound s S T e h sound
