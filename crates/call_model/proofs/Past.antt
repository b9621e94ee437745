-- For the proofs: what holds of the calls that were handled, and that each change keeps it.
use Rattle.std.proofs.Common.{◌≡◌, ℕ, ◌≤◌, Bool, true, false, Some, None, List, ◌∷◌, nat_eq, arith, Contains, inl, inr, refl, sym, subst}
use Rattle.call_model.specs.Callers.{Label, asking, label_of}
use Rattle.call_model.specs.Servers.{Memory, keeping, forgetting, new_server}
use Rattle.call_model.specs.Network.{Message, Message.ask, Message.answer, Message.refusal, Handling, Network, new_network, with_ask, with_message, with_handling}
use Rattle.call_model.specs.Laws.{IsBefore, AreRising}
use Rattle.call_model.proofs.Members.{none_in-nil, at_front, behind_front, front_or_behind}
use Rattle.call_model.proofs.Sound.{Once, SoundAsk, SoundHandling, IsPresent}

-- a label by its fields
labelled : (node incarnation epoch number : ℕ) → Label
labelled n i e k = record { node = n; incarnation = i; epoch = e; number = k }

labelled-fields : (l : Label) → l ≡ labelled l.node l.incarnation l.epoch l.number
unfolding labelled
labelled-fields l = refl

same_label : (k l : Label) → k.node ≡ l.node → k.incarnation ≡ l.incarnation → k.epoch ≡ l.epoch → k.number ≡ l.number → k ≡ l
same_label k l a b c d = let x = labelled-fields k in let y = labelled-fields l in cc

module _ {Q R : Type 0} where
  -- what the server keeps of a node is the reply of a handling
  abbrev pub IsKept : (ℕ → Memory R) → List (Handling Q R) → Type 0
  IsKept memory hs = (n : ℕ) (r : R) → (memory n).reply ≡ Some r
      → (h : Handling Q R) × Contains hs h × (h.label.node ≡ n) × (h.label.incarnation ≡ (memory n).incarnation)
      × (h.label.number ≡ (memory n).number) × (h.reply ≡ r)

  pub record Past (N : Network Q R) : Type 0 where
    pub asked : (h : Handling Q R) → Contains N.handled h → Contains N.sent (ask h.label h.call)
    pub answers : (l : Label) (r : R) → Contains N.sent (answer l r) → (q : Q) × Contains N.handled (record { label = l; call = q; reply = r })
    pub kept : IsKept N.server.memory N.handled
    pub labels : (l : Label) (p q : Q) → Contains N.sent (ask l p) → Contains N.sent (ask l q) → p ≡ q
    pub rising : AreRising N.handled

  pub past-new : Past new_network
  past-new = record {
    asked = λ h c. absurd (none_in-nil h c);
    answers = λ l r c. absurd (none_in-nil (answer l r) c);
    kept = λ n r e. cc;
    labels = λ l p q c d. absurd (none_in-nil (ask l p) c);
    rising = tt;
  }

  -- a network with the same messages, handlings and memory
  pub past-same : (N M : Network Q R) → M.sent ≡ N.sent → M.handled ≡ N.handled → IsKept M.server.memory N.handled → Past N → Past M
  past-same N M s h k p = record {
    asked = λ g c. subst (λ xs. Contains xs (ask g.label g.call)) (sym s) (p.asked g (subst (λ xs. Contains xs g) h c));
    answers = λ l r c. let a = p.answers l r (subst (λ xs. Contains xs (answer l r)) s c) in (a.0, subst (λ xs. Contains xs (record { label = l; call = a.0; reply = r })) (sym h) a.1);
    kept = subst (λ xs. IsKept M.server.memory xs) (sym h) k;
    labels = λ l x y c d. p.labels l x y (subst (λ xs. Contains xs (ask l x)) s c) (subst (λ xs. Contains xs (ask l y)) s d);
    rising = subst (λ xs. AreRising xs) (sym h) p.rising;
  }

  -- ---- a node asks
  -- the new label is that of no earlier call
  fresh_label : (N : Network Q R) (n : ℕ) (p : Q) → Once N → Contains N.sent (ask (label_of n (asking (N.caller n))) p) → ⊥
  fresh_label N n p o c = let s = o.sound (ask (label_of n (asking (N.caller n))) p) c in let t = s.4 refl in omega (arith, t.1)

  pub past-ask : (N : Network Q R) (n : ℕ) (q : Q) → Once N → Past N → Past (with_ask N n q)
  past-ask N n q o p =
      let k = label_of n (asking (N.caller n)) in
      let m : Message Q R = ask k q in record {
        asked = λ h c. behind_front m N.sent (ask h.label h.call) (p.asked h c);
        answers = λ l r c. elim (front_or_behind m N.sent (answer l r) c) [ inl e ↦ cc | inr d ↦ p.answers l r d ];
        kept = p.kept;
        labels = λ l x y c d. elim (front_or_behind m N.sent (ask l x) c) [
          | inl e ↦ elim (front_or_behind m N.sent (ask l y) d) [
            | inl f ↦ cc
            | inr f ↦ let g : k ≡ l = cc in absurd (fresh_label N n y o (subst (λ z. Contains N.sent (ask z y)) (sym g) f))
          ]
          | inr e ↦ elim (front_or_behind m N.sent (ask l y) d) [
            | inl f ↦ let g : k ≡ l = cc in absurd (fresh_label N n x o (subst (λ z. Contains N.sent (ask z x)) (sym g) e))
            | inr f ↦ p.labels l x y e f
          ]
        ];
        rising = p.rising;
      }

  -- ---- a refusal, or an answer again
  pub past-refusal : (N : Network Q R) (k : Label) (e : ℕ) → Past N → Past (with_message N (refusal k e))
  past-refusal N k e p = let m : Message Q R = refusal k e in record {
    asked = λ h c. behind_front m N.sent (ask h.label h.call) (p.asked h c);
    answers = λ l r c. elim (front_or_behind m N.sent (answer l r) c) [ inl e ↦ cc | inr d ↦ p.answers l r d ];
    kept = p.kept;
    labels = λ l x y c d. elim (front_or_behind m N.sent (ask l x) c) [
      | inl e ↦ cc
      | inr e ↦ elim (front_or_behind m N.sent (ask l y) d) [ inl f ↦ cc | inr f ↦ p.labels l x y e f ]
    ];
    rising = p.rising;
  }

  pub past-again : (N : Network Q R) (k : Label) (q : Q) (s : R) → Contains N.handled (record { label = k; call = q; reply = s }) → Past N → Past (with_message N (answer k s))
  past-again N k q s h p = let m : Message Q R = answer k s in record {
    asked = λ h c. behind_front m N.sent (ask h.label h.call) (p.asked h c);
    answers = λ l r c. elim (front_or_behind m N.sent (answer l r) c) [
      | inl e ↦ let kl : k ≡ l = cc in let sr : s ≡ r = cc in
          (q, subst (λ z. Contains N.handled (record { label = z; call = q; reply = r })) kl (subst (λ z. Contains N.handled (record { label = k; call = q; reply = z })) sr h))
      | inr d ↦ p.answers l r d
    ];
    kept = p.kept;
    labels = λ l x y c d. elim (front_or_behind m N.sent (ask l x) c) [
      | inl e ↦ cc
      | inr e ↦ elim (front_or_behind m N.sent (ask l y) d) [ inl f ↦ cc | inr f ↦ p.labels l x y e f ]
    ];
    rising = p.rising;
  }

  -- a call that comes again has the label of the handling whose reply is kept
  handled_as : (h : Handling Q R) (l : Label) (r : R) → h.label ≡ l → h.reply ≡ r → h ≡ record { label = l; call = h.call; reply = r }
  handled_as h l r a b =
      subst (λ z. h ≡ record { label = l; call = h.call; reply = z }) b (subst (λ z. h ≡ record { label = z; call = h.call; reply = h.reply }) a refl)

  pub again_handled : (N : Network Q R) (l : Label) (q : Q) (r : R) → Once N → Past N → SoundAsk N l q → N.server.epoch ≤ l.epoch
      → (N.server.memory l.node).incarnation ≡ l.incarnation → (N.server.memory l.node).number ≡ l.number → (N.server.memory l.node).reply ≡ Some r
      → (p : Q) × Contains N.handled (record { label = l; call = p; reply = r })
  again_handled N l q r o p s a b c e =
      let g = p.kept l.node r e in
      let h = g.0 in
      let t = o.sound (ask h.label h.call) (p.asked h g.1) in
      let now : l.incarnation ≡ (N.caller l.node).incarnation = grind arith in
      let node : h.label.node ≡ l.node = g.2 in
      let old : h.label.incarnation ≡ (N.caller h.label.node).incarnation = grind arith in
      let u = t.4 old in
      let v = s.4 now in
      let epoch : h.label.epoch ≡ l.epoch = grind arith in
      let same : h.label ≡ l = same_label h.label l node (grind arith) epoch (grind arith) in
      let reply : h.reply ≡ r = g.5 in
      let w = handled_as h l r same reply in
      (h.call, subst (λ z. Contains N.handled z) w g.1)

  -- ---- the server handles a call
  before_present : (N : Network Q R) (l : Label) (q : Q) (g : Handling Q R) → IsPresent N l q → SoundHandling N g.label → g.label.node ≡ l.node → IsBefore g.label l
  before_present N l q g p s e = grind arith

  kept_at : (N : Network Q R) (l : Label) (q : Q) (r : R) → Past N → (n : ℕ) (s : R) (b : Bool) → nat_eq n l.node ≡ b
      → ((keeping N.server l r).memory n).reply ≡ Some s
      → (h : Handling Q R) × Contains (record { label = l; call = q; reply = r } ∷ N.handled) h × (h.label.node ≡ n)
      × (h.label.incarnation ≡ ((keeping N.server l r).memory n).incarnation)
      × (h.label.number ≡ ((keeping N.server l r).memory n).number) × (h.reply ≡ s)
  kept_at N l q r p n s true b e =
      let h : Handling Q R = record { label = l; call = q; reply = r } in
      (h, at_front h N.handled, grind arith, grind arith, grind arith, grind arith)
  kept_at N l q r p n s false b e =
      let h : Handling Q R = record { label = l; call = q; reply = r } in
      let f : (N.server.memory n).reply ≡ Some s = grind arith in
      let g = p.kept n s f in
      (g.0, behind_front h N.handled g.0 g.1, g.2, grind arith, grind arith, g.5)

  kept_handling : (N : Network Q R) (l : Label) (q : Q) (r : R) → Past N
      → IsKept (keeping N.server l r).memory (record { label = l; call = q; reply = r } ∷ N.handled)
  kept_handling N l q r p n s e = kept_at N l q r p n s (nat_eq n l.node) refl e

  pub past-handling : (N : Network Q R) (l : Label) (q : Q) (r : R) → Once N → Past N → IsPresent N l q → Contains N.sent (ask l q) → Past (with_handling N l q r)
  past-handling N l q r o p x c =
      let m : Message Q R = answer l r in
      let h : Handling Q R = record { label = l; call = q; reply = r } in record {
        asked = λ g d. elim (front_or_behind h N.handled g d) [
          | inl e ↦ behind_front m N.sent (ask g.label g.call) (subst (λ z. Contains N.sent (ask z.label z.call)) e c)
          | inr e ↦ behind_front m N.sent (ask g.label g.call) (p.asked g e)
        ];
        answers = λ k s d. elim (front_or_behind m N.sent (answer k s) d) [
          | inl e ↦ let lk : l ≡ k = cc in let rs : r ≡ s = cc in let w : h ≡ record { label = k; call = q; reply = s } = cc in
              (q, subst (λ z. Contains (h ∷ N.handled) z) w (at_front h N.handled))
          | inr e ↦ let a = p.answers k s e in (a.0, behind_front h N.handled (record { label = k; call = a.0; reply = s }) a.1)
        ];
        kept = kept_handling N l q r p;
        labels = λ k y z d e. elim (front_or_behind m N.sent (ask k y) d) [
          | inl f ↦ cc
          | inr f ↦ elim (front_or_behind m N.sent (ask k z) e) [ inl g ↦ cc | inr g ↦ p.labels k y z f g ]
        ];
        rising = (λ g d e. before_present N l q g x (o.past g d) e, p.rising);
      }

  -- ---- what the server forgets
  kept_beside : (N : Network Q R) (n i : ℕ) → Past N → (m : ℕ) (r : R) (b : Bool) → nat_eq m n ≡ b
      → ((forgetting N.server n i).memory m).reply ≡ Some r
      → (h : Handling Q R) × Contains N.handled h × (h.label.node ≡ m)
      × (h.label.incarnation ≡ ((forgetting N.server n i).memory m).incarnation)
      × (h.label.number ≡ ((forgetting N.server n i).memory m).number) × (h.reply ≡ r)
  kept_beside N n i p m r true b e = let f : None ≡ Some r = grind arith in cc
  kept_beside N n i p m r false b e =
      let f : (N.server.memory m).reply ≡ Some r = grind arith in
      let g = p.kept m r f in
      (g.0, g.1, g.2, grind arith, grind arith, g.5)

  pub kept_kicked : (N : Network Q R) (n i : ℕ) → Past N → IsKept (forgetting N.server n i).memory N.handled
  kept_kicked N n i p m r e = kept_beside N n i p m r (nat_eq m n) refl e

  pub kept_renewed : (N : Network Q R) (e : ℕ) → IsKept (new_server {R = R} e).memory N.handled
  kept_renewed N e n r h = cc
