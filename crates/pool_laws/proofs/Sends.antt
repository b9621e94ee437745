-- For the proofs: a node sends a call.
use Rattle.std.proofs.Common.{◌≡◌, ◌≢◌, ℕ, Bool, true, false, [], ◌∷◌, nat_eq, inl, inr, refl, sym, ap, subst, ◌∙◌, eqb-true, arith}
use Rattle.node_model.specs.Step.{Step.Get, Step.PlanInvalidate, wants_register}
use Rattle.node_model.specs.Call.{Call.Quiet, Call.AskRegister, Call.AskUnregister, Call.AskGet, Call.AskInvalidate}
use Rattle.node_model.specs.Node.{Node}
use Rattle.node_model.specs.Learning.{calls, parted}
use Rattle.page_coherence.specs.Page.{Page, set_node}
use Rattle.page_coherence.specs.Mode.{Mode.Normal}
use Rattle.page_coherence.specs.Moves.{Move, Move.SendRegister, Move.SendGet, Move.SendInvalidate, Move.SendUnregister}
use Rattle.page_coherence.specs.Invariant.{waits_image}
use Rattle.page_coherence.specs.Cluster.{State as Pages, Event.Act, Makes}
use Rattle.call_model.specs.Stages.{Stage, Stage.Quiet as NoCall, Stage.Asked, Effect.Asks, Beside}
use Rattle.call_model.specs.Network.{Network, Event.Ask}
use Rattle.call_model.specs.Laws.{stage_of}
use Rattle.call_model.proofs.Steps.{happens}
use Rattle.redo_durability.specs.Machine.{Phase.Open, Event.Send, sending}
use Rattle.pool_laws.specs.Calls.{HomeCall, HomeCall.RegisterPage, HomeCall.UnregisterPage, HomeCall.InvalidatePages, HomeAnswer, StorageCall, StorageCall.GetPage, StorageCall.AppendGroups, StorageAnswer, only, about, asks_home, home_part, storage_part, over, call_seen, append_seen, has_append}
use Rattle.pool_laws.specs.Pool.{Pool, with_calls, no_calls, pages_seen, log_seen, seen}
use Rattle.pool_laws.specs.Serving.{at_pages}
use Rattle.pool_laws.specs.Events.{Sends, Stands}
use Rattle.pool_laws.proofs.Fill.{quiet-at}
use Rattle.pool_laws.proofs.Parts.{over-quiet, over-left, asks-some, part-asked, part-not_asked, get-asked, get-not_asked, no_get, no_home, register-waits, invalidate-waits, idle-waits}
use Rattle.pool_laws.proofs.Relink.{LinkedAt, relink, set_beside, set_here, act-at}
use Rattle.pool_laws.proofs.Joined.{Joined, Goes, linked-seen, at_one}

module _ {G : Type 0} (size : G → ℕ) where
  -- an append is the RW's also after a step of one node's call
  pub owner-on : (n r : ℕ) (d e : ℕ → Stage (StorageCall G) StorageAnswer) → (has_append (e n) ≡ true → n ≡ r) → Beside n d e
      → ((m : ℕ) → has_append (d m) ≡ true → m ≡ r) → (m : ℕ) → has_append (e m) ≡ true → m ≡ r
  owner-on n r d e here beside old m h = at (nat_eq m n) refl
    where
      at : (b : Bool) → nat_eq m n ≡ b → m ≡ r
      at true q = let k : m ≡ n = eqb-true m n q in k ∙ here (subst (λ z. has_append (e z) ≡ true) k h)
      at false q = let ne : m ≢ n = grind arith in old m (subst (λ z. has_append z ≡ true) (beside m ne) h)

  -- ---- to the home
  -- what a step leaves of the node's call to storage about a page, when it has none to the home
  no_storage_call : (x : Pool G) (n p : ℕ) → Joined size x → (((pages_seen x).page p).node n).up ≡ true
      → waits_image (((pages_seen x).page p).node n).step ≡ false → stage_of x.home n ≡ NoCall
      → ((((pages_seen x).page p).node n).call ≡ Quiet) × (storage_part p (stage_of x.storage n) ≡ Quiet)
  no_storage_call x n p j u w a =
      let P : Page = (pages_seen x).page p in
      let N : Node = P.node n in
      let l : N.call ≡ storage_part p (stage_of x.storage n) = ap (λ c. call_seen p c (stage_of x.storage n)) a in
      let q : N.call ≡ Quiet = no_get x.pages.rw P n p N (stage_of x.storage n) l ((j.pages.pages p).each n u).calls w in
      (q, sym l ∙ q)

  home_sent : (x : Pool G) (n : ℕ) (q : HomeCall) (h : Network HomeCall HomeAnswer) (move : Move) (f : Page → Page) (s : Pages)
      → Joined size x → Sends n q x.home h → x.pages.mode ≡ Normal
      → ((p m : ℕ) → m ≢ n → ((f ((pages_seen x).page p)).node m).call ≡ (((pages_seen x).page p).node m).call)
      → ((p : ℕ) → about q p ≡ true → Makes (pages_seen x) n move ((pages_seen x).page p) (f ((pages_seen x).page p))
      × (((f ((pages_seen x).page p)).node n).call ≡ asks_home q) × (storage_part p (stage_of x.storage n) ≡ Quiet))
      → with_calls no_calls s ≡ with_calls no_calls (at_pages (about q) f (pages_seen x))
      → Goes size (seen x) (record (seen x) { home = h; pages = s }) (at_pages (about q) f (pages_seen x))
  home_sent x n q h move f s j k e beside here same =
      let a = happens (Ask n q) x.home h (Asks n q) j.home k in
      let b : stage_of x.home n ≡ NoCall = a.1.0 in
      let c : stage_of h n ≡ Asked q = a.1.1 in
      record {
        quiet = same;
        events = Act n (about q) (λ p. move) ∷ [];
        run = (at_pages (about q) f (pages_seen x), act-at (pages_seen x) n (about q) (λ p. move) f e (λ p t. (here p t).0), refl);
        linked = relink (pages_seen x) n (about q) f (stage_of x.home) (stage_of h) (stage_of x.storage) (stage_of x.storage) (linked-seen size x j) beside
            (λ p t.
            let o = here p t in
            let hp : home_part p (stage_of h n) ≡ asks_home q = ap (home_part p) c ∙ part-asked p q t in
            let z : over (home_part p (stage_of h n)) (storage_part p (stage_of x.storage n)) ≡ asks_home q =
            ap (λ y. over y (storage_part p (stage_of x.storage n))) hp ∙ over-left (asks_home q) (storage_part p (stage_of x.storage n)) (asks-some q) in
            (o.1 ∙ sym z, inr o.2))
            (λ p t. (ap (home_part p) c ∙ part-not_asked p q t ∙ sym (ap (home_part p) b), refl))
            a.1.2
            (λ m ne. refl);
        logs = [];
        log = refl;
        append = refl;
        home = a.0;
        storage = j.storage;
        owner = j.owner;
        serves = j.serves ∙ sym (ap (λ (z : Network HomeCall HomeAnswer). z.serves) k.3);
        calm = λ ne. absurd (ne e);
      }

  pub goes-register : (x : Pool G) (n p : ℕ) (h : Network HomeCall HomeAnswer) → Joined size x → x.pages.mode ≡ Normal
      → (((pages_seen x).page p).node n).up ≡ true → wants_register (((pages_seen x).page p).node n).step ≡ true
      → Sends n (RegisterPage p) x.home h
      → (t : Pages) × Goes size (seen x) (record (seen x) { home = h }) t
  goes-register x n p h j e u w k =
      let a = happens (Ask n (RegisterPage p)) x.home h (Asks n (RegisterPage p)) j.home k in
      let o = no_storage_call x n p j u (register-waits (((pages_seen x).page p).node n).step w) a.1.0 in
      let f : Page → Page = λ P. set_node P n (calls (P.node n) AskRegister) in (
        at_pages (only p) f (pages_seen x),
        home_sent x n (RegisterPage p) h SendRegister f (pages_seen x) j k e
            (λ q m ne. set_beside ((pages_seen x).page q) n (calls (((pages_seen x).page q).node n) AskRegister) m ne)
            (at_one (λ q. Makes (pages_seen x) n SendRegister ((pages_seen x).page q) (f ((pages_seen x).page q))
            × (((f ((pages_seen x).page q)).node n).call ≡ AskRegister) × (storage_part q (stage_of x.storage n) ≡ Quiet)) p
            ((refl, (λ b. Prim.cc), (u, w, o.0, refl)), set_here ((pages_seen x).page p) n (calls (((pages_seen x).page p).node n) AskRegister), o.1))
            (sym (quiet-at (only p) n (λ P. AskRegister) (pages_seen x))),
      )

  pub goes-unregister : (x : Pool G) (n p : ℕ) (h : Network HomeCall HomeAnswer) → Joined size x → x.pages.mode ≡ Normal
      → (((pages_seen x).page p).node n).up ≡ true → (((pages_seen x).page p).node n).leaving ≡ true
      → Sends n (UnregisterPage p) x.home h
      → (t : Pages) × Goes size (seen x) (record (seen x) { home = h; pages = at_pages (only p) (λ P. set_node P n (parted (P.node n))) (pages_seen x) }) t
  goes-unregister x n p h j e u w k =
      let a = happens (Ask n (UnregisterPage p)) x.home h (Asks n (UnregisterPage p)) j.home k in
      let i = ((j.pages.pages p).each n u).leaves w in
      let o = no_storage_call x n p j u (idle-waits (((pages_seen x).page p).node n).step i.0) a.1.0 in
      let f : Page → Page = λ P. set_node P n (parted (P.node n)) in (
        at_pages (only p) f (pages_seen x),
        home_sent x n (UnregisterPage p) h SendUnregister f (at_pages (only p) f (pages_seen x)) j k e
            (λ q m ne. set_beside ((pages_seen x).page q) n (parted (((pages_seen x).page q).node n)) m ne)
            (at_one (λ q. Makes (pages_seen x) n SendUnregister ((pages_seen x).page q) (f ((pages_seen x).page q))
            × (((f ((pages_seen x).page q)).node n).call ≡ AskUnregister) × (storage_part q (stage_of x.storage n) ≡ Quiet)) p
            ((refl, (λ b. Prim.cc), (u, w, o.0, refl)), set_here ((pages_seen x).page p) n (parted (((pages_seen x).page p).node n)), o.1))
            refl,
      )

  pub goes-invalidate : (x : Pool G) (n : ℕ) (ps : ℕ → Bool) (h : Network HomeCall HomeAnswer) → Joined size x → x.pages.mode ≡ Normal
      → ((p : ℕ) → ps p ≡ true → Stands (pages_seen x) n p PlanInvalidate)
      → Sends n (InvalidatePages ps) x.home h
      → (t : Pages) × Goes size (seen x) (record (seen x) { home = h }) t
  goes-invalidate x n ps h j e w k =
      let a = happens (Ask n (InvalidatePages ps)) x.home h (Asks n (InvalidatePages ps)) j.home k in
      let f : Page → Page = λ P. set_node P n (calls (P.node n) AskInvalidate) in (
        at_pages ps f (pages_seen x),
        home_sent x n (InvalidatePages ps) h SendInvalidate f (pages_seen x) j k e
            (λ q m ne. set_beside ((pages_seen x).page q) n (calls (((pages_seen x).page q).node n) AskInvalidate) m ne)
            (λ p t.
            let o = no_storage_call x n p j (w p t).0 (invalidate-waits (((pages_seen x).page p).node n).step (w p t).1) a.1.0 in
            ((refl, (λ b. Prim.cc), ((w p t).0, (w p t).1, o.0, refl)), set_here ((pages_seen x).page p) n (calls (((pages_seen x).page p).node n) AskInvalidate), o.1))
            (sym (quiet-at ps n (λ P. AskInvalidate) (pages_seen x))),
      )

  -- ---- to storage
  pub goes-get : (x : Pool G) (n p v : ℕ) (d : Network (StorageCall G) StorageAnswer) → Joined size x → x.pages.mode ≡ Normal
      → Stands (pages_seen x) n p (Get v) → Sends n (GetPage p v) x.storage d
      → (t : Pages) × Goes size (seen x) (record (seen x) { storage = d }) t
  goes-get x n p v d j e w k =
      let s : Pages = pages_seen x in
      let a = happens (Ask n (GetPage p v)) x.storage d (Asks n (GetPage p v)) j.storage k in
      let b : stage_of x.storage n ≡ NoCall = a.1.0 in
      let c : stage_of d n ≡ Asked (GetPage p v) = a.1.1 in
      let f : Page → Page = λ P. set_node P n (calls (P.node n) (AskGet v)) in
      let N : Node = (s.page p).node n in
      let l : N.call ≡ home_part p (stage_of x.home n) = ap (λ z. call_seen p (stage_of x.home n) z) b ∙ over-quiet (home_part p (stage_of x.home n)) in
      let q : N.call ≡ Quiet = no_home x.pages.rw (s.page p) n p v N (stage_of x.home n) l ((j.pages.pages p).each n w.0).calls w.1 in
      let hq : home_part p (stage_of x.home n) ≡ Quiet = sym l ∙ q in (
        at_pages (only p) f s,
        record {
          quiet = sym (quiet-at (only p) n (λ P. AskGet v) s);
          events = Act n (only p) (λ r. SendGet) ∷ [];
          run = (
            at_pages (only p) f s,
            act-at s n (only p) (λ r. SendGet) f e
                (at_one (λ r. Makes s n SendGet (s.page r) (f (s.page r))) p (refl, (λ z. Prim.cc), (w.0, v, w.1, q, refl))),
            refl,
          );
          linked = relink s n (only p) f (stage_of x.home) (stage_of x.home) (stage_of x.storage) (stage_of d) (linked-seen size x j)
              (λ r m ne. set_beside (s.page r) n (calls ((s.page r).node n) (AskGet v)) m ne)
              (λ r t. at_one (λ y. LinkedAt y ((f (s.page y)).node n).call (stage_of x.home n) (stage_of d n)) p
              (let sp : storage_part p (stage_of d n) ≡ AskGet v = ap (storage_part p) c ∙ get-asked G p p v (same p) in
              (set_here (s.page p) n (calls ((s.page p).node n) (AskGet v)) ∙ sym (ap (λ y. over y (storage_part p (stage_of d n))) hq ∙ sp), inl hq)) r t)
              (λ r t. (refl, ap (storage_part r) c ∙ get-not_asked G r p v t ∙ sym (ap (storage_part r) b)))
              (λ m ne. refl)
              a.1.2;
          logs = [];
          log = refl;
          append = append_rw a.1.0 a.1.1 a.1.2 (nat_eq x.pages.rw n) refl;
          home = j.home;
          storage = a.0;
          owner = owner-on n x.pages.rw (stage_of x.storage) (stage_of d) (λ h. let z : has_append (stage_of d n) ≡ false = ap has_append c in absurd Prim.cc) a.1.2 j.owner;
          serves = j.serves;
          calm = j.calm;
        },
      )
    where
      same : (y : ℕ) → only y y ≡ true
      same y = grind arith

      append_rw : stage_of x.storage n ≡ NoCall → stage_of d n ≡ Asked (GetPage p v) → Beside n (stage_of x.storage) (stage_of d)
          → (t : Bool) → nat_eq x.pages.rw n ≡ t → append_seen x.log.epoch (stage_of x.storage x.pages.rw) ≡ append_seen x.log.epoch (stage_of d x.pages.rw)
      append_rw b c o true q =
          let i : x.pages.rw ≡ n = eqb-true x.pages.rw n q in
          subst (λ z. append_seen x.log.epoch (stage_of x.storage z) ≡ append_seen x.log.epoch (stage_of d z)) (sym i) (ap (append_seen x.log.epoch) b ∙ sym (ap (append_seen x.log.epoch) c))
      append_rw b c o false q = let ne : x.pages.rw ≢ n = grind arith in ap (append_seen x.log.epoch) (sym (o x.pages.rw ne))

  pub goes-append : (x : Pool G) (n : ℕ) (d : Network (StorageCall G) StorageAnswer) → Joined size x
      → x.log.phase ≡ Open → n ≡ x.pages.rw → x.log.buffer ≢ [] → Sends n (AppendGroups x.log.next x.log.buffer) x.storage d
      → (t : Pages) × Goes size (seen x) (record (seen x) { storage = d; log = sending size (log_seen x) }) t
  goes-append x n d j o i ne k =
      let s : Pages = pages_seen x in
      let q : StorageCall G = AppendGroups x.log.next x.log.buffer in
      let a = happens (Ask n q) x.storage d (Asks n q) j.storage k in
      let b : stage_of x.storage n ≡ NoCall = a.1.0 in
      let c : stage_of d n ≡ Asked q = a.1.1 in
      let b' : stage_of x.storage x.pages.rw ≡ NoCall = subst (λ z. stage_of x.storage z ≡ NoCall) i b in
      let c' : stage_of d x.pages.rw ≡ Asked q = subst (λ z. stage_of d z ≡ Asked q) i c in (
        s,
        record {
          quiet = refl;
          events = [];
          run = refl;
          linked = relink s n (λ p. false) (λ P. P) (stage_of x.home) (stage_of x.home) (stage_of x.storage) (stage_of d) (linked-seen size x j)
              (λ p m z. refl) (λ p t. absurd Prim.cc) (λ p t. (refl, ap (storage_part p) c ∙ sym (ap (storage_part p) b))) (λ m z. refl) a.1.2;
          logs = Send ∷ [];
          log = (sending size (log_seen x), (o, ap (append_seen x.log.epoch) b', ne, refl), refl);
          append = sym (ap (append_seen x.log.epoch) c');
          home = j.home;
          storage = a.0;
          owner = owner-on n x.pages.rw (stage_of x.storage) (stage_of d) (λ h. i) a.1.2 j.owner;
          serves = j.serves;
          calm = j.calm;
        },
      )
