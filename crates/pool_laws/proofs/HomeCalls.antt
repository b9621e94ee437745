-- For the proofs: the home handles a call, or a node accepts its answer.
use Rattle.std.proofs.Common.{◌≡◌, ◌≢◌, ℕ, Bool, true, false, List, [], ◌∷◌, inl, inr, refl, sym, ap, subst, ◌∙◌, arith}
use Rattle.home_model.specs.Entry.{takes_slot, told_address}
use Rattle.page_image.specs.Image.{Image}
use Rattle.node_model.specs.Call.{Call, Call.Quiet, Call.AskRegister, Call.ToldRegistered, Call.ToldFull, Call.ToldUnregistered, Call.ToldDone, Call.ToldStarted, is_told}
use Rattle.node_model.specs.Learning.{calls, answered}
use Rattle.page_coherence.specs.Page.{Page, set_node}
use Rattle.page_coherence.specs.Mode.{Mode.Normal}
use Rattle.page_coherence.specs.Moves.{Move, Move.HandleFull, Move.HandleUnregister, Move.HandleInvalidate, Move.Accept, handled_register, handled_unregister, handled_invalidate}
use Rattle.page_coherence.specs.Cluster.{State as Pages, Event as PageEvent, Event.Act, Event.Enter, Happens as PagesDo, Run as PagesRun, Makes, IsUp}
use Rattle.call_model.specs.Stages.{Stage, Stage.Quiet as NoCall, Stage.Asked, Stage.Handled, Effect, Effect.Nothing, Effect.Asks, Effect.Handles, Effect.Accepts, Effect.Ends, Effect.EndsAll, After}
use Rattle.call_model.specs.Network.{Message, Network, Event.Deliver, Happens as CallsDo}
use Rattle.call_model.specs.Laws.{stage_of}
use Rattle.call_model.proofs.Steps.{Delivered, happens}
use Rattle.pool_laws.specs.Calls.{HomeCall, HomeCall.RegisterPage, HomeCall.UnregisterPage, HomeCall.InvalidatePages, HomeAnswer, HomeAnswer.Registered, HomeAnswer.PoolFull, HomeAnswer.Unregistered, HomeAnswer.Done, HomeAnswer.Started, only, about, asks_home, told_home, home_part, storage_part, over, call_seen}
use Rattle.pool_laws.specs.Pool.{Pool, with_calls, no_calls, pages_seen, seen}
use Rattle.pool_laws.specs.Serving.{at_pages, accepted, Serves, MayTake}
use Rattle.pool_laws.proofs.Fill.{quiet-at, put-at}
use Rattle.pool_laws.proofs.Parts.{over-left, asks-some, home-told, told-some, part-asked, part-not_asked, part-handled, part-not_handled}
use Rattle.pool_laws.proofs.Relink.{linked-same, relink, set_beside, set_here, act-at}
use Rattle.pool_laws.proofs.Networks.{deliver-serves, handled-serves}
use Rattle.pool_laws.proofs.Joined.{Joined, Goes, linked-seen, at_one, normal_if}

module _ {G : Type 0} (size : G → ℕ) where
  -- what a home call under way says of its pages
  sees : (x : Pool G) (n p : ℕ) (c : Stage HomeCall HomeAnswer) (k : Call) → Joined size x → stage_of x.home n ≡ c → home_part p c ≡ k → k ≢ Quiet
      → ((((pages_seen x).page p).node n).call ≡ k) × (storage_part p (stage_of x.storage n) ≡ Quiet)
  sees x n p c k j e h ne =
      let hp : home_part p (stage_of x.home n) ≡ k = ap (home_part p) e ∙ h in
      let d = storage_part p (stage_of x.storage n) in (
        ap (λ y. over y d) hp ∙ over-left k d ne,
        elim (j.apart p n) [ inl z ↦ absurd (ne (sym hp ∙ z)) | inr z ↦ z ],
      )

  normal : (x : Pool G) (n : ℕ) → Joined size x → stage_of x.home n ≢ NoCall → x.pages.mode ≡ Normal
  normal x n j ne = normal_if x.pages.mode (λ m. ne (j.calm m n))

  -- ---- the pages after a call is handled
  home_handled : (x : Pool G) (n : ℕ) (q : HomeCall) (r : HomeAnswer) (h : Network HomeCall HomeAnswer) (f : Page → Page) (s : Pages) (es : List PageEvent)
      → Joined size x → Delivered h → After (Handles n q r) (stage_of x.home) (stage_of h) → h.serves ≡ x.home.serves
      → ((p m : ℕ) → m ≢ n → ((f ((pages_seen x).page p)).node m).call ≡ (((pages_seen x).page p).node m).call)
      → ((p : ℕ) → about q p ≡ true → ((f ((pages_seen x).page p)).node n).call ≡ told_home q r)
      → PagesRun (pages_seen x) es (at_pages (about q) f (pages_seen x))
      → with_calls no_calls s ≡ with_calls no_calls (at_pages (about q) f (pages_seen x))
      → Goes size (seen x) (record (seen x) { home = h; pages = s }) (at_pages (about q) f (pages_seen x))
  home_handled x n q r h f s es j o a v beside here run same =
      let b : stage_of x.home n ≡ Asked q = a.0 in
      let c : stage_of h n ≡ Handled q r = a.1 in
      record {
        quiet = same;
        events = es;
        run = run;
        linked = relink (pages_seen x) n (about q) f (stage_of x.home) (stage_of h) (stage_of x.storage) (stage_of x.storage) (linked-seen size x j) beside
            (λ p t.
            let d = storage_part p (stage_of x.storage n) in
            let w = sees x n p (Asked q) (asks_home q) j b (part-asked p q t) (asks-some q) in
            let hp : home_part p (stage_of h n) ≡ told_home q r = ap (home_part p) c ∙ part-handled p q r t in
            let z : over (home_part p (stage_of h n)) d ≡ told_home q r =
            ap (λ y. over y d) hp ∙ over-left (told_home q r) d (told-some (told_home q r) (home-told q r)) in
            (here p t ∙ sym z, inr w.1))
            (λ p t. (ap (home_part p) c ∙ part-not_handled p q r t ∙ sym (ap (home_part p) b ∙ part-not_asked p q t), refl))
            a.2
            (λ m ne. refl);
        logs = [];
        log = refl;
        append = refl;
        home = o;
        storage = j.storage;
        owner = j.owner;
        serves = j.serves ∙ sym v;
        calm = λ ne. absurd (ne (normal x n j (λ e. let z : Asked q ≡ NoCall = sym b ∙ e in absurd Prim.cc)));
      }

  register_beside : (P : Page) (w a : ℕ) (v : Image) (n m : ℕ) → m ≢ n → ((handled_register P w a v n).node m).call ≡ (P.node m).call
  register_beside P w a v n m ne = grind arith

  register_here : (P : Page) (w a : ℕ) (v : Image) (n : ℕ) → ((handled_register P w a v n).node n).call ≡ ToldRegistered (told_address P.entry a)
  register_here P w a v n = grind arith

  handles_register : (x : Pool G) (n p a v : ℕ) (h : Network HomeCall HomeAnswer) → Joined size x → Delivered h
      → After (Handles n (RegisterPage p) (Registered v)) (stage_of x.home) (stage_of h) → h.serves ≡ x.home.serves → x.home.serves ≡ true
      → MayTake (pages_seen x) p a → v ≡ told_address ((pages_seen x).page p).entry a
      → let t : Pages = at_pages (only p) (λ P. handled_register P x.pages.watermark a (x.pages.slots.holds a) n) (pages_seen x) in
      Goes size (seen x) (record (seen x) { home = h; pages = t }) t
  handles_register x n p a v h j o e k u may va =
      let s : Pages = pages_seen x in
      let f : Page → Page = λ P. handled_register P x.pages.watermark a (x.pages.slots.holds a) n in
      let b : stage_of x.home n ≡ Asked (RegisterPage p) = e.0 in
      let m : x.pages.mode ≡ Normal = normal x n j (λ y. let z : Asked (RegisterPage p) ≡ NoCall = sym b ∙ y in absurd Prim.cc) in
      let w = sees x n p (Asked (RegisterPage p)) AskRegister j b (part-asked p (RegisterPage p) (same p)) (λ y. Prim.cc) in
      let dead : takes_slot (s.page p).entry ≡ true → (s.page p).dead a ≡ false = λ y. ap (λ (g : ℕ → Bool). g a) (j.pages.memory.dead p) ∙ (may y).0 in
      home_handled x n (RegisterPage p) (Registered v) h f (at_pages (only p) f s) (Enter n p a ∷ []) j o e k
      (λ r m ne. register_beside (s.page r) x.pages.watermark a (x.pages.slots.holds a) n m ne)
      (at_one (λ r. ((f (s.page r)).node n).call ≡ ToldRegistered v) p
      (register_here (s.page p) x.pages.watermark a (x.pages.slots.holds a) n ∙ ap ToldRegistered (sym va))) (
        at_pages (only p) f s,
        subst (λ z. PagesDo (Enter n p a) s z) (put-at s p f) (m, j.serves ∙ u, may, (f (s.page p), (w.0, dead, refl), refl)),
        refl,
      )
      refl
    where
      same : (y : ℕ) → only y y ≡ true
      same y = grind arith

  -- a call that is handled by a move of its node at its pages
  handles_by : (x : Pool G) (n : ℕ) (q : HomeCall) (r : HomeAnswer) (h : Network HomeCall HomeAnswer) (move : Move) (f : Page → Page) (s : Pages)
      → Joined size x → Delivered h → After (Handles n q r) (stage_of x.home) (stage_of h) → h.serves ≡ x.home.serves
      → ((p m : ℕ) → m ≢ n → ((f ((pages_seen x).page p)).node m).call ≡ (((pages_seen x).page p).node m).call)
      → ((p : ℕ) → about q p ≡ true → ((f ((pages_seen x).page p)).node n).call ≡ told_home q r)
      → ((p : ℕ) → about q p ≡ true → (((pages_seen x).page p).node n).call ≡ asks_home q → Makes (pages_seen x) n move ((pages_seen x).page p) (f ((pages_seen x).page p)))
      → with_calls no_calls s ≡ with_calls no_calls (at_pages (about q) f (pages_seen x))
      → Goes size (seen x) (record (seen x) { home = h; pages = s }) (at_pages (about q) f (pages_seen x))
  handles_by x n q r h move f s j o e k beside here makes same =
      let b : stage_of x.home n ≡ Asked q = e.0 in
      let m : x.pages.mode ≡ Normal = normal x n j (λ y. let z : Asked q ≡ NoCall = sym b ∙ y in absurd Prim.cc) in
      home_handled x n q r h f s (Act n (about q) (λ p. move) ∷ []) j o e k beside here (
        at_pages (about q) f (pages_seen x),
        act-at (pages_seen x) n (about q) (λ p. move) f m
            (λ p t. makes p t (sees x n p (Asked q) (asks_home q) j b (part-asked p q t) (asks-some q)).0),
        refl,
      )
      same

  unregister_beside : (P : Page) (n m : ℕ) → m ≢ n → ((handled_unregister P n).node m).call ≡ (P.node m).call
  unregister_beside P n m ne = grind arith

  unregister_here : (P : Page) (n : ℕ) → ((handled_unregister P n).node n).call ≡ ToldUnregistered
  unregister_here P n = grind arith

  invalidate_beside : (P : Page) (n : ℕ) (done : Bool) (m : ℕ) → m ≢ n → ((handled_invalidate P n done).node m).call ≡ (P.node m).call
  invalidate_beside P n done m ne = grind arith

  done_here : (P : Page) (n : ℕ) → ((handled_invalidate P n true).node n).call ≡ ToldDone
  done_here P n = grind arith

  started_here : (P : Page) (n : ℕ) → ((handled_invalidate P n false).node n).call ≡ ToldStarted
  started_here P n = grind arith

  -- ---- the node accepts the answer
  answered_quiet : (P : Page) (r n : ℕ) → ((set_node P n (answered r n (P.node n))).node n).call ≡ Quiet
  answered_quiet P r n = grind arith

  home_accepted : (x : Pool G) (n : ℕ) (q : HomeCall) (r : HomeAnswer) (h : Network HomeCall HomeAnswer)
      → Joined size x → Delivered h → After (Accepts n q r) (stage_of x.home) (stage_of h) → h.serves ≡ x.home.serves
      → IsUp (pages_seen x) n true
      → Goes size (seen x) (record (seen x) { home = h; pages = accepted n (about q) (pages_seen x) }) (accepted n (about q) (pages_seen x))
  home_accepted x n q r h j o e k up =
      let s : Pages = pages_seen x in
      let f : Page → Page = λ P. set_node P n (answered x.pages.rw n (P.node n)) in
      let b : stage_of x.home n ≡ Handled q r = e.0 in
      let c : stage_of h n ≡ NoCall = e.1 in
      let m : x.pages.mode ≡ Normal = normal x n j (λ y. let z : Handled q r ≡ NoCall = sym b ∙ y in absurd Prim.cc) in
      let some : told_home q r ≢ Quiet = told-some (told_home q r) (home-told q r) in
      record {
        quiet = refl;
        events = Act n (about q) (λ p. Accept) ∷ [];
        run = (
          at_pages (about q) f s,
          act-at s n (about q) (λ p. Accept) f m
              (λ p t.
              let w = sees x n p (Handled q r) (told_home q r) j b (part-handled p q r t) some in
              (refl, (λ z. Prim.cc), (up p, ap is_told w.0 ∙ home-told q r, refl))),
          refl,
        );
        linked = relink s n (about q) f (stage_of x.home) (stage_of h) (stage_of x.storage) (stage_of x.storage) (linked-seen size x j)
            (λ p l ne. set_beside (s.page p) n (answered x.pages.rw n ((s.page p).node n)) l ne)
            (λ p t.
            let w = sees x n p (Handled q r) (told_home q r) j b (part-handled p q r t) some in
            let z : call_seen p (stage_of h n) (stage_of x.storage n) ≡ Quiet = ap (λ y. call_seen p y (stage_of x.storage n)) c ∙ w.1 in
            (answered_quiet (s.page p) x.pages.rw n ∙ sym z, inr w.1))
            (λ p t. (ap (home_part p) c ∙ sym (ap (home_part p) b ∙ part-not_handled p q r t), refl))
            e.2
            (λ l ne. refl);
        logs = [];
        log = refl;
        append = refl;
        home = o;
        storage = j.storage;
        owner = j.owner;
        serves = j.serves ∙ sym k;
        calm = λ ne. absurd (ne m);
      }

  -- nothing is done
  home_nothing : (x : Pool G) (h : Network HomeCall HomeAnswer) → Joined size x → Delivered h → After Nothing (stage_of x.home) (stage_of h)
      → h.serves ≡ x.home.serves → Goes size (seen x) (record (seen x) { home = h }) (pages_seen x)
  home_nothing x h j o e k = record {
    quiet = refl;
    events = [];
    run = refl;
    linked = linked-same (pages_seen x) (pages_seen x) (stage_of x.home) (stage_of h) (stage_of x.storage) (stage_of x.storage) (linked-seen size x j) (λ p m. refl) e (λ m. refl);
    logs = [];
    log = refl;
    append = refl;
    home = o;
    storage = j.storage;
    owner = j.owner;
    serves = j.serves ∙ sym k;
    calm = λ ne n. e n ∙ j.calm ne n;
  }

  -- ---- every delivery
  serves : (x : Pool G) (f : Effect HomeCall HomeAnswer) (h : Network HomeCall HomeAnswer) (s : Pages) → Joined size x → Delivered h
      → After f (stage_of x.home) (stage_of h) → h.serves ≡ x.home.serves
      → ((n : ℕ) (q : HomeCall) (r : HomeAnswer) → f ≡ Handles n q r → x.home.serves ≡ true)
      → Serves f (pages_seen x) s → (t : Pages) × Goes size (seen x) (record (seen x) { home = h; pages = s }) t
  serves x Nothing h s j o e k u d =
      (pages_seen x, subst (λ z. Goes size (seen x) (record (seen x) { home = h; pages = z }) (pages_seen x)) (sym d) (home_nothing x h j o e k))
  serves x (Handles n (RegisterPage p) (Registered v)) h s j o e k u d =
      let t : Pages = at_pages (only p) (λ P. handled_register P x.pages.watermark d.0 (x.pages.slots.holds d.0) n) (pages_seen x) in (
        t,
        subst (λ z. Goes size (seen x) (record (seen x) { home = h; pages = z }) t) (sym d.3)
            (handles_register x n p d.0 v h j o e k (u n (RegisterPage p) (Registered v) refl) d.1 d.2),
      )
  serves x (Handles n (RegisterPage p) PoolFull) h s j o e k u d =
      let f : Page → Page = λ P. set_node P n (calls (P.node n) ToldFull) in
      let v = u n (RegisterPage p) PoolFull refl in (
        at_pages (only p) f (pages_seen x),
        handles_by x n (RegisterPage p) PoolFull h HandleFull f s j o e k
            (λ q m ne. set_beside ((pages_seen x).page q) n (calls (((pages_seen x).page q).node n) ToldFull) m ne)
            (λ q t. set_here ((pages_seen x).page q) n (calls (((pages_seen x).page q).node n) ToldFull))
            (λ q t c. (refl, (λ z. j.serves ∙ v), (c, refl)))
            (ap (λ z. with_calls no_calls z) d ∙ sym (quiet-at (only p) n (λ P. ToldFull) (pages_seen x))),
      )
  serves x (Handles n (RegisterPage p) Unregistered) h s j o e k u d = absurd d
  serves x (Handles n (RegisterPage p) Done) h s j o e k u d = absurd d
  serves x (Handles n (RegisterPage p) Started) h s j o e k u d = absurd d
  serves x (Handles n (UnregisterPage p) Unregistered) h s j o e k u d =
      let f : Page → Page = λ P. handled_unregister P n in
      let v = u n (UnregisterPage p) Unregistered refl in (
        at_pages (only p) f (pages_seen x),
        handles_by x n (UnregisterPage p) Unregistered h HandleUnregister f s j o e k
            (λ q m ne. unregister_beside ((pages_seen x).page q) n m ne)
            (λ q t. unregister_here ((pages_seen x).page q) n)
            (λ q t c. (refl, (λ z. j.serves ∙ v), (c, refl)))
            (ap (λ z. with_calls no_calls z) d),
      )
  serves x (Handles n (UnregisterPage p) (Registered v)) h s j o e k u d = absurd d
  serves x (Handles n (UnregisterPage p) PoolFull) h s j o e k u d = absurd d
  serves x (Handles n (UnregisterPage p) Done) h s j o e k u d = absurd d
  serves x (Handles n (UnregisterPage p) Started) h s j o e k u d = absurd d
  serves x (Handles n (InvalidatePages ps) Done) h s j o e k u d =
      let f : Page → Page = λ P. handled_invalidate P n true in
      let v = u n (InvalidatePages ps) Done refl in (
        at_pages ps f (pages_seen x),
        handles_by x n (InvalidatePages ps) Done h (HandleInvalidate true) f s j o e k
            (λ q m ne. invalidate_beside ((pages_seen x).page q) n true m ne)
            (λ q t. done_here ((pages_seen x).page q) n)
            (λ q t c. (refl, (λ z. j.serves ∙ v), (c, (d.0 q t).0, (λ z. (d.0 q t).1), refl)))
            (ap (λ z. with_calls no_calls z) d.1),
      )
  serves x (Handles n (InvalidatePages ps) Started) h s j o e k u d =
      let f : Page → Page = λ P. handled_invalidate P n false in
      let v = u n (InvalidatePages ps) Started refl in (
        at_pages ps f (pages_seen x),
        handles_by x n (InvalidatePages ps) Started h (HandleInvalidate false) f s j o e k
            (λ q m ne. invalidate_beside ((pages_seen x).page q) n false m ne)
            (λ q t. started_here ((pages_seen x).page q) n)
            (λ q t c. (refl, (λ z. j.serves ∙ v), (c, d.0 q t, (λ z. absurd Prim.cc), refl)))
            (ap (λ z. with_calls no_calls z) d.1),
      )
  serves x (Handles n (InvalidatePages ps) (Registered v)) h s j o e k u d = absurd d
  serves x (Handles n (InvalidatePages ps) PoolFull) h s j o e k u d = absurd d
  serves x (Handles n (InvalidatePages ps) Unregistered) h s j o e k u d = absurd d
  serves x (Accepts n q r) h s j o e k u d = (
    accepted n (about q) (pages_seen x),
    subst (λ z. Goes size (seen x) (record (seen x) { home = h; pages = z }) (accepted n (about q) (pages_seen x))) (sym d.1)
        (home_accepted x n q r h j o e k d.0),
  )
  serves x (Asks n q) h s j o e k u d = absurd d
  serves x (Ends n) h s j o e k u d = absurd d
  serves x EndsAll h s j o e k u d = absurd d

  pub goes-home : (x : Pool G) (m : Message HomeCall HomeAnswer) (f : Effect HomeCall HomeAnswer) (h : Network HomeCall HomeAnswer) (s : Pages) → Joined size x
      → CallsDo (Deliver m) x.home f h → Serves f (pages_seen x) s → (t : Pages) × Goes size (seen x) (record (seen x) { home = h; pages = s }) t
  goes-home x m f h s j k d =
      let a = happens (Deliver m) x.home h f j.home k in
      serves x f h s j a.0 a.1 (deliver-serves m x.home h f k)
      (λ n q r e. handled-serves m x.home h n q r (subst (λ z. CallsDo (Deliver m) x.home z h) e k)) d
