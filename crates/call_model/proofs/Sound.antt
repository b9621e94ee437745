-- For the proofs: what holds of numbers, incarnations and epochs in every state, and that each change keeps it.
use Rattle.std.proofs.Common.{◌≡◌, ℕ, ◌≤◌, ◌<◌, ◌+◌, true, false, Some, None, arith, Contains, ◌⊎◌, refl}
use Rattle.call_model.specs.Callers.{Label, asking, label_of}
use Rattle.call_model.specs.Servers.{fenced, new_server}
use Rattle.call_model.specs.Network.{Message, Message.ask, Message.answer, Message.refusal, Handling, Network, new_network, with_ask, with_message, with_handling, with_answer, with_up, kicked, rejoined, with_server, IsReleased, IsNext}
use Rattle.call_model.proofs.Members.{each_of, none_in-nil}

module _ {Q R : Type 0} where
  -- a call of the present incarnation is the awaited one, or handled, or of an epoch that is past
  abbrev pub AskNow : Network Q R → Label → Q → Type 0
  AskNow N l q =
      let c = N.caller l.node in let m = N.server.memory l.node in
      (l.epoch ≡ c.epoch) × (l.number ≤ c.last) × (l.number ≡ c.last → N.asked l.node ≡ Some q)
      × (N.server.epoch ≤ l.epoch → m.incarnation ≤ c.incarnation
      → ((l.number ≡ c.last) × (c.waits ≡ true)) ⊎ ((m.incarnation ≡ c.incarnation) × (l.number ≤ m.number)))

  abbrev pub AnswerNow : Network Q R → Label → R → Type 0
  AnswerNow N l r =
      let c = N.caller l.node in let m = N.server.memory l.node in
      (c.incarnation ≤ m.incarnation)
      × (m.incarnation ≡ c.incarnation → (l.number ≤ m.number) × (l.number ≡ m.number → m.reply ≡ Some r))

  abbrev pub SoundAsk : Network Q R → Label → Q → Type 0
  SoundAsk N l q =
      let c = N.caller l.node in let m = N.server.memory l.node in
      (1 ≤ l.number) × (l.incarnation ≤ c.incarnation) × (l.epoch ≤ c.epoch)
      × (l.incarnation < c.incarnation → (l.incarnation < m.incarnation) ⊎ (l.epoch < N.server.epoch))
      × (l.incarnation ≡ c.incarnation → AskNow N l q)

  abbrev pub Sound : Network Q R → Message Q R → Type 0
  Sound N (ask l q) = SoundAsk N l q
  Sound N (answer l r) =
      (l.incarnation ≤ (N.caller l.node).incarnation)
      × (l.incarnation ≡ (N.caller l.node).incarnation → N.server.epoch ≤ (N.caller l.node).epoch → AnswerNow N l r)
  Sound N (refusal l e) = (l.epoch < e) × (e ≤ N.server.epoch)

  -- a handled call is of the present incarnation only up to the number that the server keeps
  abbrev pub SoundHandling : Network Q R → Label → Type 0
  SoundHandling N l =
      let c = N.caller l.node in let m = N.server.memory l.node in
      (l.incarnation ≤ c.incarnation)
      × (l.incarnation ≡ c.incarnation → N.server.epoch ≤ c.epoch → m.incarnation ≤ c.incarnation
      → (m.incarnation ≡ c.incarnation) × (l.number ≤ m.number))

  pub record Once (N : Network Q R) : Type 0 where
    pub knows : (n : ℕ) → (N.server.memory n).incarnation ≤ (N.caller n).incarnation + 1
    pub lives : (n : ℕ) → N.up n ≡ true → (N.server.memory n).incarnation ≤ (N.caller n).incarnation
    pub behind : (n : ℕ) → (N.caller n).incarnation ≤ (N.server.memory n).incarnation → (N.server.memory n).number ≤ (N.caller n).last
    pub blank : (n : ℕ) → (N.server.memory n).reply ≡ None → (N.server.memory n).number ≡ 0
    pub sound : (m : Message Q R) → Contains N.sent m → Sound N m
    pub past : (h : Handling Q R) → Contains N.handled h → SoundHandling N h.label

  pub once-new : Once new_network
  once-new = record {
    knows = λ n. omega arith;
    lives = λ n u. omega arith;
    behind = λ n h. omega arith;
    blank = λ n e. refl;
    sound = λ m c. absurd (none_in-nil m c);
    past = λ h c. absurd (none_in-nil h c);
  }

  -- ---- a node asks
  still_ask : (N : Network Q R) (n : ℕ) (q : Q) → (N.caller n).waits ≡ false → (m : Message Q R) → Sound N m → Sound (with_ask N n q) m
  still_ask N n q w (ask l p) h = (h.0, grind arith, grind arith, grind arith, grind arith)
  still_ask N n q w (answer l r) h = grind arith
  still_ask N n q w (refusal l e) h = h

  pub once-ask : (N : Network Q R) (n : ℕ) (q : Q) → Once N → (N.caller n).waits ≡ false → Once (with_ask N n q)
  once-ask N n q o w = record {
    knows = λ m. let a = o.knows m in grind arith;
    lives = λ m u. let a = o.lives m u in grind arith;
    behind = λ m h. let a = o.behind m in grind arith;
    blank = o.blank;
    sound = each_of (Sound (with_ask N n q)) (ask (label_of n (asking (N.caller n))) q) N.sent (grind arith) (λ m c. still_ask N n q w m (o.sound m c));
    past = λ h c. let a = o.past h c in grind arith;
  }

  -- ---- a message more
  pub once-message : (N : Network Q R) (m : Message Q R) → Once N → Sound N m → Once (with_message N m)
  once-message N m o h = record {
    knows = o.knows;
    lives = o.lives;
    behind = o.behind;
    blank = o.blank;
    sound = each_of (Sound N) m N.sent h o.sound;
    past = o.past;
  }

  -- ---- the server handles a call
  -- the call is the one that the node waits for
  abbrev pub IsPresent : Network Q R → Label → Q → Type 0
  IsPresent N l q =
      let c = N.caller l.node in let m = N.server.memory l.node in
      (l.incarnation ≡ c.incarnation) × (l.epoch ≡ c.epoch) × (l.number ≡ c.last) × (c.waits ≡ true) × (N.asked l.node ≡ Some q)
      × (N.server.epoch ≤ c.epoch) × (m.incarnation ≤ c.incarnation) × (m.incarnation ≡ c.incarnation → m.number < c.last)

  pub present : (N : Network Q R) (l : Label) (q : Q) → Once N → SoundAsk N l q → N.server.epoch ≤ l.epoch → (N.server.memory l.node).incarnation ≤ l.incarnation
      → ((N.server.memory l.node).incarnation ≡ l.incarnation → ((N.server.memory l.node).reply ≡ None) ⊎ ((N.server.memory l.node).number < l.number)) → IsPresent N l q
  present N l q o s a b c =
      let k = o.knows l.node in let z = o.blank l.node in
      let now : l.incarnation ≡ (N.caller l.node).incarnation = grind arith in
      let t = s.4 now in
      (now, t.0, grind arith, grind arith, grind arith, grind arith, grind arith, grind arith)

  still_handling : (N : Network Q R) (l : Label) (q : Q) (r : R) → IsPresent N l q → (m : Message Q R) → Sound N m → Sound (with_handling N l q r) m
  still_handling N l q r p (ask k x) h = (h.0, h.1, h.2, grind arith, grind arith)
  still_handling N l q r p (answer k x) h = grind arith
  still_handling N l q r p (refusal k e) h = h

  pub once-handling : (N : Network Q R) (l : Label) (q : Q) (r : R) → Once N → IsPresent N l q → Once (with_handling N l q r)
  once-handling N l q r o p = record {
    knows = λ m. let a = o.knows m in grind arith;
    lives = λ m u. let a = o.lives m u in grind arith;
    behind = λ m h. let a = o.behind m in grind arith;
    blank = λ m e. let a = o.blank m in grind arith;
    sound = each_of (Sound (with_handling N l q r)) (answer l r) N.sent (grind arith) (λ m c. still_handling N l q r p m (o.sound m c));
    past = each_of (λ (h : Handling Q R). SoundHandling (with_handling N l q r) h.label) (record { label = l; call = q; reply = r }) N.handled (grind arith) (λ h c. let a = o.past h c in grind arith);
  }

  -- ---- a node accepts a reply
  -- the call was handled, or the server would not take it any more
  abbrev pub IsDone : Network Q R → ℕ → Type 0
  IsDone N n =
      ((N.caller n).epoch < N.server.epoch)
      ⊎ (((N.server.memory n).incarnation ≡ (N.caller n).incarnation) × ((N.caller n).last ≤ (N.server.memory n).number))

  still_answer : (N : Network Q R) (n : ℕ) → IsDone N n → (m : Message Q R) → Sound N m → Sound (with_answer N n) m
  still_answer N n d (ask l q) h = (h.0, grind arith, grind arith, grind arith, grind arith)
  still_answer N n d (answer l r) h = grind arith
  still_answer N n d (refusal l e) h = h

  pub once-answer : (N : Network Q R) (n : ℕ) → Once N → IsDone N n → Once (with_answer N n)
  once-answer N n o d = record {
    knows = λ m. let a = o.knows m in grind arith;
    lives = λ m u. let a = o.lives m u in grind arith;
    behind = λ m h. let a = o.behind m in grind arith;
    blank = o.blank;
    sound = λ m c. still_answer N n d m (o.sound m c);
    past = λ h c. let a = o.past h c in grind arith;
  }

  -- ---- a node crashes, is kicked, comes back
  pub once-down : (N : Network Q R) (n : ℕ) → Once N → Once (with_up N n false)
  once-down N n o = record {
    knows = o.knows;
    lives = λ m u. let a = o.lives m in grind arith;
    behind = o.behind;
    blank = o.blank;
    sound = o.sound;
    past = o.past;
  }

  still_kicked : (N : Network Q R) (n : ℕ) → (N.server.memory n).incarnation ≤ (N.caller n).incarnation → (m : Message Q R) → Sound N m → Sound (kicked N n) m
  still_kicked N n k (ask l q) h = (h.0, h.1, h.2, grind arith, grind arith)
  still_kicked N n k (answer l r) h = grind arith
  still_kicked N n k (refusal l e) h = h

  pub once-kicked : (N : Network Q R) (n : ℕ) → Once N → N.up n ≡ false → (N.server.memory n).incarnation ≤ (N.caller n).incarnation → Once (kicked N n)
  once-kicked N n o d k = record {
    knows = λ m. let a = o.knows m in grind arith;
    lives = λ m u. let a = o.lives m in grind arith;
    behind = λ m h. let a = o.behind m in grind arith;
    blank = λ m e. let a = o.blank m in grind arith;
    sound = λ m c. still_kicked N n k m (o.sound m c);
    past = λ h c. let a = o.past h c in grind arith;
  }

  still_rejoined : (N : Network Q R) (n e : ℕ) → IsReleased N n → (N.caller n).epoch ≤ e → (m : Message Q R) → Sound N m → Sound (rejoined N n e) m
  still_rejoined N n e r x (ask l q) h = (h.0, grind arith, grind arith, grind arith, grind arith)
  still_rejoined N n e r x (answer l y) h = grind arith
  still_rejoined N n e r x (refusal l f) h = h

  pub once-rejoined : (N : Network Q R) (n e : ℕ) → Once N → IsReleased N n → (N.caller n).epoch ≤ e → Once (rejoined N n e)
  once-rejoined N n e o r x = record {
    knows = λ m. let a = o.knows m in grind arith;
    lives = λ m u. let a = o.lives m in let b = o.knows m in grind arith;
    behind = λ m h. let a = o.behind m in let b = o.knows m in grind arith;
    blank = o.blank;
    sound = λ m c. still_rejoined N n e r x m (o.sound m c);
    past = λ h c. let a = o.past h c in grind arith;
  }

  -- ---- a fence, a crash of the server, a renewal
  still_fenced : (N : Network Q R) (e : ℕ) → IsNext N e → (m : Message Q R) → Sound N m → Sound (with_server N (fenced N.server e)) m
  still_fenced N e x (ask l q) h = let a = x.1 l.node in (h.0, h.1, h.2, grind arith, grind arith)
  still_fenced N e x (answer l r) h = let a = x.1 l.node in grind arith
  still_fenced N e x (refusal l f) h = grind arith

  pub once-fenced : (N : Network Q R) (e : ℕ) → Once N → IsNext N e → Once (with_server N (fenced N.server e))
  once-fenced N e o x = record {
    knows = o.knows;
    lives = o.lives;
    behind = o.behind;
    blank = o.blank;
    sound = λ m c. still_fenced N e x m (o.sound m c);
    past = λ h c. let a = o.past h c in let b = x.1 h.label.node in grind arith;
  }

  still_new : (N : Network Q R) (e : ℕ) → IsNext N e → (m : Message Q R) → Sound N m → Sound (with_server N (new_server e)) m
  still_new N e x (ask l q) h = let a = x.1 l.node in (h.0, h.1, h.2, grind arith, grind arith)
  still_new N e x (answer l r) h = let a = x.1 l.node in grind arith
  still_new N e x (refusal l f) h = grind arith

  pub once-renewed : (N : Network Q R) (e : ℕ) → Once N → IsNext N e → Once (with_server N (new_server e))
  once-renewed N e o x = record {
    knows = λ n. omega arith;
    lives = λ n u. omega arith;
    behind = λ n h. omega arith;
    blank = λ n f. refl;
    sound = λ m c. still_new N e x m (o.sound m c);
    past = λ h c. let a = o.past h c in let b = x.1 h.label.node in grind arith;
  }
