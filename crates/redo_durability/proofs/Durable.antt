-- For the proofs: what holds in every state, and that each event keeps it.
use Rattle.std.proofs.Common.{◌≡◌, ℕ, ◌+◌, ◌<◌, Bool, true, false, List, [], ◌∷◌, ◌++◌, if◌then◌else◌, sum_by, ◌⊎◌, inl, inr, refl, sym, ◌∙◌, ap, subst, append_assoc, append-nil, arith}
use Rattle.std.proofs.lemmas.List.Sums.{sum_by-append}
use Rattle.redo_durability.specs.Store.{Store, tail_of, Answer, Answer.Kept, Answer.Fenced, answer_to, is_kept, received}
use Rattle.redo_durability.specs.Machine.{Append.NoAppend, Append.Sent, Append.Answered, Phase.Open, Phase.Down, Phase.Stopped, Phase.Tailed, State, start, pending, Event, Event.Install, Event.Send, Event.Handle, Event.Late, Event.Accept, Event.Crash, Event.End, Event.Fence, Event.Tail, Event.Sweep, installed, sending, handling, accepting, crashed, ended, fenced, tailed, swept, Happens, Run}
use Rattle.redo_durability.specs.Laws.{IsFront}

-- ---- the store's answer
module _ {G : Type 0} (size : G → ℕ) where
  pub older-answer : (s : Store G) (e o : ℕ) (gs : List G) → e < s.epoch → answer_to size s e o gs ≡ Fenced s.epoch
  older-answer s e o gs h = grind arith

  pub older-received : (s : Store G) (e o : ℕ) (gs : List G) → e < s.epoch → received size s e o gs ≡ s
  older-received s e o gs h = let a = older-answer s e o gs h in rw a refl

  pub right-answer : (s : Store G) (e o : ℕ) (gs : List G) → e ≡ s.epoch → o ≡ tail_of size s
      → answer_to size s e o gs ≡ Kept (tail_of size s + sum_by size gs)
  right-answer s e o gs a b = grind arith

  pub right-received : (s : Store G) (e o : ℕ) (gs : List G) → e ≡ s.epoch → o ≡ tail_of size s
      → received size s e o gs ≡ record s { groups = s.groups ++ gs }
  right-received s e o gs a b = let k = right-answer s e o gs a b in rw k refl

  -- whatever the answer, nothing is lost
  grows : (s : Store G) (e o : ℕ) (gs : List G) (b : Bool) → IsFront s.groups (if b then record s { groups = s.groups ++ gs } else s).groups
  grows s e o gs true = (gs, refl)
  grows s e o gs false = ([], sym (append-nil s.groups))

  pub received-grows : (s : Store G) (e o : ℕ) (gs : List G) → IsFront s.groups (received size s e o gs).groups
  received-grows s e o gs = grows s e o gs (is_kept (answer_to size s e o gs))

  -- ---- what holds in every state
  pub record Durable (s : State G) : Type 0 where
    pub whole : s.phase ≡ Open → s.made ≡ s.store.groups ++ (pending s.append ++ s.buffer)
    pub front : (rest : List G) × (s.made ≡ s.store.groups ++ (pending s.append ++ rest))
    pub next : s.phase ≡ Open → s.next ≡ sum_by size (s.store.groups ++ pending s.append)
    pub epoch : s.phase ≡ Open → s.epoch ≡ s.store.epoch
    pub idle : s.phase ≡ Open → s.append ≡ NoAppend → s.store.groups ≡ s.acknowledged
    pub sent : (e o : ℕ) (gs : List G) → s.append ≡ Sent e o gs
        → (e ≡ s.store.epoch) × (o ≡ tail_of size s.store) × (s.store.groups ≡ s.acknowledged)
    pub answered : (gs : List G) (a : Answer) → s.append ≡ Answered gs a
        → (a ≡ Kept (tail_of size s.store)) × (s.store.groups ≡ s.acknowledged ++ gs)
    pub known : IsFront s.acknowledged s.store.groups
    pub still : (s.phase ≡ Stopped) ⊎ (s.phase ≡ Tailed) → (s.append ≡ NoAppend) × (s.buffer ≡ [])
    pub cut : s.phase ≡ Tailed → (s.made ≡ s.store.groups) × (s.acknowledged ≡ s.store.groups)

  nil-right : (xs : List G) → xs ≡ xs ++ ([] ++ [])
  nil-right xs = sym (append-nil xs)

  pub durable-start : (log : List G) → Durable (start size log)
  durable-start log = record {
    whole = λ o. nil-right log;
    front = ([], nil-right log);
    next = λ o. ap (sum_by size) (sym (append-nil log));
    epoch = λ o. refl;
    idle = λ o e. refl;
    sent = λ e o gs h. cc;
    answered = λ gs a h. cc;
    known = ([], sym (append-nil log));
    still = λ h. elim h [ inl e ↦ cc | inr e ↦ cc ];
    cut = λ e. cc;
  }

  -- a group more behind what stands
  behind : (made store sent rest : List G) (g : G) → made ≡ store ++ (sent ++ rest) → made ++ (g ∷ []) ≡ store ++ (sent ++ (rest ++ (g ∷ [])))
  behind made store sent rest g e =
      ap (λ (x : List G). x ++ (g ∷ [])) e ∙ append_assoc store (sent ++ rest) (g ∷ [])
      ∙ ap (λ (x : List G). store ++ x) (append_assoc sent rest (g ∷ []))

  pub durable-install : (s : State G) (g : G) → Durable s → s.phase ≡ Open → Durable (installed s g)
  durable-install s g d o = record {
    whole = λ p. behind s.made s.store.groups (pending s.append) s.buffer g (d.whole p);
    front = (d.front.0 ++ (g ∷ []), behind s.made s.store.groups (pending s.append) d.front.0 g d.front.1);
    next = d.next;
    epoch = d.epoch;
    idle = d.idle;
    sent = d.sent;
    answered = d.answered;
    known = d.known;
    still = λ h. elim h [ inl e ↦ cc | inr e ↦ cc ];
    cut = λ e. cc;
  }

  pub durable-send : (s : State G) → Durable s → s.phase ≡ Open → s.append ≡ NoAppend → Durable (sending size s)
  durable-send s d o n =
      let w : s.made ≡ s.store.groups ++ s.buffer = subst (λ x. s.made ≡ s.store.groups ++ (pending x ++ s.buffer)) n (d.whole o) in
      let m : s.next ≡ sum_by size s.store.groups =
      subst (λ x. s.next ≡ sum_by size (s.store.groups ++ pending x)) n (d.next o) ∙ ap (sum_by size) (append-nil s.store.groups) in
      let v : s.made ≡ s.store.groups ++ (s.buffer ++ []) = w ∙ ap (λ (x : List G). s.store.groups ++ x) (sym (append-nil s.buffer)) in record {
        whole = λ q. v;
        front = ([], v);
        next = λ q. ap (λ x. x + sum_by size s.buffer) m ∙ sym (sum_by-append size s.store.groups s.buffer);
        epoch = d.epoch;
        idle = λ q e. cc;
        sent = λ e f gs h. let a : s.epoch ≡ e = cc in let b : s.next ≡ f = cc in (sym a ∙ d.epoch o, sym b ∙ m, d.idle o n);
        answered = λ gs a h. cc;
        known = d.known;
        still = λ h. elim h [ inl e ↦ cc | inr e ↦ cc ];
        cut = λ e. cc;
      }

  -- the state after an append that goes on in the present epoch where the log ends
  kept_as : State G → List G → State G
  kept_as s gs = record s { store = record s.store { groups = s.store.groups ++ gs }; append = Answered gs (Kept (tail_of size s.store + sum_by size gs)) }

  handled-as : (s : State G) (e o : ℕ) (gs : List G) → e ≡ s.store.epoch → o ≡ tail_of size s.store → handling size s e o gs ≡ kept_as s gs
  unfolding kept_as
  handled-as s e o gs a b =
      ap (λ (x : Store G). record s { store = x; append = Answered gs (answer_to size s.store e o gs) }) (right-received s.store e o gs a b)
      ∙ ap (λ (x : Answer). record s { store = record s.store { groups = s.store.groups ++ gs }; append = Answered gs x }) (right-answer s.store e o gs a b)

  pub durable-handle : (s : State G) (e o : ℕ) (gs : List G) → Durable s → s.append ≡ Sent e o gs → Durable (handling size s e o gs)
  unfolding kept_as
  durable-handle s e o gs d h =
      let t = d.sent e o gs h in
      let w : (rest : List G) → s.made ≡ s.store.groups ++ (pending s.append ++ rest) → s.made ≡ (s.store.groups ++ gs) ++ rest =
      λ rest x. subst (λ y. s.made ≡ s.store.groups ++ (pending y ++ rest)) h x ∙ sym (append_assoc s.store.groups gs rest) in
      subst Durable (sym (handled-as s e o gs t.0 t.1)) (record {
        whole = λ q. w s.buffer (d.whole q);
        front = (d.front.0, w d.front.0 d.front.1);
        next = λ q. subst (λ y. s.next ≡ sum_by size (s.store.groups ++ pending y)) h (d.next q) ∙ ap (sum_by size) (sym (append-nil (s.store.groups ++ gs)));
        epoch = d.epoch;
        idle = λ q f. cc;
        sent = λ f p hs k. cc;
        answered = λ hs a k. let g : gs ≡ hs = cc in let b : Kept (tail_of size s.store + sum_by size gs) ≡ a = cc in
            (sym b ∙ ap Kept (sym (sum_by-append size s.store.groups gs)), ap (λ (x : List G). x ++ gs) t.2 ∙ ap (λ (x : List G). s.acknowledged ++ x) g);
        known = (gs, ap (λ (x : List G). x ++ gs) t.2);
        still = λ f. let i = (d.still f).0 in let z : ⊥ = cc in absurd z;
        cut = λ f. let i = (d.still (inr f)).0 in let z : ⊥ = cc in absurd z;
      })

  pub durable-accept : (s : State G) (gs : List G) (a : Answer) → Durable s → s.phase ≡ Open → s.append ≡ Answered gs a → Durable (accepting s gs a)
  durable-accept s gs a d o h =
      let t = d.answered gs a h in
      let w : (rest : List G) → s.made ≡ s.store.groups ++ (pending s.append ++ rest) → s.made ≡ s.store.groups ++ rest =
      λ rest x. subst (λ y. s.made ≡ s.store.groups ++ (pending y ++ rest)) h x in
      rw t.0 (record {
        whole = λ q. w s.buffer (d.whole q);
        front = (d.front.0, w d.front.0 d.front.1);
        next = λ q. subst (λ y. s.next ≡ sum_by size (s.store.groups ++ pending y)) h (d.next q);
        epoch = d.epoch;
        idle = λ q f. t.1;
        sent = λ f p hs k. cc;
        answered = λ hs b k. cc;
        known = ([], t.1 ∙ sym (append-nil (s.acknowledged ++ gs)));
        still = λ f. elim f [ inl e ↦ cc | inr e ↦ cc ];
        cut = λ f. cc;
      })

  pub durable-crash : (s : State G) → Durable s → Durable (crashed s)
  durable-crash s d = record {
    whole = λ p. cc;
    front = d.front;
    next = λ p. cc;
    epoch = λ p. cc;
    idle = λ p e. cc;
    sent = d.sent;
    answered = d.answered;
    known = d.known;
    still = λ h. elim h [ inl e ↦ cc | inr e ↦ cc ];
    cut = λ e. cc;
  }

  pub durable-end : (s : State G) → Durable s → s.phase ≡ Down → Durable (ended s)
  durable-end s d p = record {
    whole = λ q. cc;
    front = (pending s.append ++ d.front.0, d.front.1);
    next = λ q. cc;
    epoch = λ q. cc;
    idle = λ q e. cc;
    sent = λ e o gs h. cc;
    answered = λ gs a h. cc;
    known = d.known;
    still = λ h. elim h [ inl e ↦ cc | inr e ↦ cc ];
    cut = λ e. cc;
  }

  pub durable-fence : (s : State G) (e : ℕ) → Durable s → Durable (fenced s e)
  durable-fence s e d = record {
    whole = λ q. cc;
    front = (pending s.append ++ d.front.0, d.front.1);
    next = λ q. cc;
    epoch = λ q. cc;
    idle = λ q f. cc;
    sent = λ f o gs h. cc;
    answered = λ gs a h. cc;
    known = d.known;
    still = λ h. (refl, refl);
    cut = λ f. cc;
  }

  pub durable-tail : (s : State G) → Durable s → (s.phase ≡ Stopped) ⊎ (s.phase ≡ Tailed) → Durable (tailed s)
  durable-tail s d h = let i = d.still h in record {
    whole = λ q. cc;
    front = ([], subst (λ x. s.store.groups ≡ s.store.groups ++ (pending x ++ [])) (sym i.0) (nil-right s.store.groups));
    next = λ q. cc;
    epoch = λ q. cc;
    idle = λ q f. cc;
    sent = λ e o gs f. cc;
    answered = λ gs a f. cc;
    known = ([], sym (append-nil s.store.groups));
    still = λ f. i;
    cut = λ f. (refl, refl);
  }

  pub durable-sweep : (s : State G) → Durable s → s.phase ≡ Tailed → Durable (swept size s)
  durable-sweep s d p = let i = d.still (inr p) in let c = d.cut p in record {
    whole = λ q. rw (i.0, i.1) (c.0 ∙ nil-right s.store.groups);
    front = ([], rw i.0 (c.0 ∙ nil-right s.store.groups));
    next = λ q. rw i.0 (ap (sum_by size) (sym (append-nil s.store.groups)));
    epoch = λ q. refl;
    idle = λ q f. sym c.1;
    sent = λ e o gs f. cc;
    answered = λ gs a f. cc;
    known = d.known;
    still = λ f. elim f [ inl e ↦ cc | inr e ↦ cc ];
    cut = λ f. cc;
  }

  -- ---- every event, and every list of events
  pub durable : (e : Event G) (s t : State G) → Durable s → Happens size e s t → Durable t
  durable (Install g) s t d h = rw h.1 (durable-install s g d h.0)
  durable Send s t d h = rw h.3 (durable-send s d h.0 h.1)
  durable Handle s t d h = rw h.4 (durable-handle s h.0 h.1 h.2 d h.3)
  durable (Late e o gs) s t d h = rw h.1 (rw (older-received s.store e o gs h.0) d)
  durable Accept s t d h = rw h.4 (durable-accept s h.1 h.2 d h.0 h.3)
  durable Crash s t d h = rw h.1 (durable-crash s d)
  durable End s t d h = rw h.1 (durable-end s d h.0)
  durable (Fence e) s t d h = rw h.1 (durable-fence s e d)
  durable Tail s t d h = rw h.1 (durable-tail s d h.0)
  durable Sweep s t d h = rw h.1 (durable-sweep s d h.0)

  pub durable-run : (s t : State G) (events : List (Event G)) → Durable s → Run size s events t → Durable t
  durable-run s t [] d h = rw h d
  durable-run s t (e ∷ es) d h = durable-run h.0 t es (durable e s h.0 d h.1) h.2
