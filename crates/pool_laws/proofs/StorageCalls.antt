-- For the proofs: storage handles a call, or a node accepts its answer.
use Rattle.std.proofs.Common.{◌≡◌, ◌≢◌, ℕ, Bool, true, false, List, [], ◌∷◌, nat_eq, inl, inr, refl, sym, ap, subst, ◌∙◌, eqb-true, arith}
use Rattle.node_model.specs.Call.{Call, Call.Quiet, Call.AskGet, is_told}
use Rattle.node_model.specs.Learning.{calls, answered}
use Rattle.page_coherence.specs.Page.{Page, set_node}
use Rattle.page_coherence.specs.Mode.{Mode.Normal}
use Rattle.page_coherence.specs.Moves.{Move.HandleGet, Move.Accept, answer_get}
use Rattle.page_coherence.specs.Cluster.{State as Pages, Event.Act, Makes, IsUp}
use Rattle.call_model.specs.Stages.{Stage, Stage.Quiet as NoCall, Stage.Asked, Stage.Handled, Effect, Effect.Nothing, Effect.Asks, Effect.Handles, Effect.Accepts, Effect.Ends, Effect.EndsAll, Beside, After}
use Rattle.call_model.specs.Network.{Message, Network, Event.Deliver, Happens as CallsDo}
use Rattle.call_model.specs.Laws.{stage_of}
use Rattle.call_model.proofs.Steps.{Delivered, happens}
use Rattle.redo_durability.specs.Store.{Answer, answer_to}
use Rattle.redo_durability.specs.Machine.{State as Log, Phase.Open, Append.Answered, Event.Handle, Event.Accept as AcceptAnswer, handling, accepting}
use Rattle.pool_laws.specs.Calls.{StorageCall, StorageCall.GetPage, StorageCall.AppendGroups, StorageAnswer, StorageAnswer.GotImage, StorageAnswer.NotYet, StorageAnswer.Appended, only, told_get, home_part, storage_part, over, append_seen, has_append}
use Rattle.pool_laws.specs.Pool.{Pool, pages_seen, log_seen, seen}
use Rattle.pool_laws.specs.Serving.{at_pages, accepted, got, Stores}
use Rattle.pool_laws.proofs.Fill.{quiet-at}
use Rattle.pool_laws.proofs.Parts.{told-some, get-told, get-asked, get-not_asked, get-handled, get-not_handled}
use Rattle.pool_laws.proofs.Relink.{LinkedAt, Linked, linked-same, relink, set_beside, set_here, act-at}
use Rattle.pool_laws.proofs.Joined.{Joined, Goes, linked-seen, at_one, normal_if}
use Rattle.pool_laws.proofs.Sends.{owner-on}

same : (y : ℕ) → only y y ≡ true
same y = grind arith

told_image : (v applied : ℕ) (P : Page) → told_get (got P v applied) ≡ answer_get P v applied
told_image v applied P = grind arith

told_some : (v applied : ℕ) (P : Page) → is_told (answer_get P v applied) ≡ true
told_some v applied P = grind arith

answered_quiet : (P : Page) (r n : ℕ) → ((set_node P n (answered r n (P.node n))).node n).call ≡ Quiet
answered_quiet P r n = grind arith

module _ {G : Type 0} (size : G → ℕ) where
  -- what a call to storage under way says of its page
  sees : (x : Pool G) (n p : ℕ) (d : Stage (StorageCall G) StorageAnswer) (k : Call) → Joined size x → stage_of x.storage n ≡ d → storage_part p d ≡ k → k ≢ Quiet
      → ((((pages_seen x).page p).node n).call ≡ k) × (home_part p (stage_of x.home n) ≡ Quiet)
  sees x n p d k j e h ne =
      let sp : storage_part p (stage_of x.storage n) ≡ k = ap (storage_part p) e ∙ h in
      let hq : home_part p (stage_of x.home n) ≡ Quiet = elim (j.apart p n) [ inl z ↦ z | inr z ↦ absurd (ne (sym sp ∙ z)) ] in
      (ap (λ y. over y (storage_part p (stage_of x.storage n))) hq ∙ sp, hq)

  -- a node with a call of a page: no takeover is under way
  normal : (x : Pool G) (n p : ℕ) (k : Call) → Joined size x → (((pages_seen x).page p).node n).call ≡ k → k ≢ Quiet → x.pages.mode ≡ Normal
  normal x n p k j e ne = normal_if x.pages.mode (λ m. ne (sym e ∙ ((j.pages.pages p).stopped m n).2))

  -- the RW's append is as before where the stage of its call has none before and after
  append-on : (x : Pool G) (d : Network (StorageCall G) StorageAnswer) (n : ℕ)
      → append_seen x.log.epoch (stage_of d n) ≡ append_seen x.log.epoch (stage_of x.storage n)
      → Beside n (stage_of x.storage) (stage_of d)
      → append_seen x.log.epoch (stage_of x.storage x.pages.rw) ≡ append_seen x.log.epoch (stage_of d x.pages.rw)
  append-on x d n e o = at (nat_eq x.pages.rw n) refl
    where
      at : (t : Bool) → nat_eq x.pages.rw n ≡ t → append_seen x.log.epoch (stage_of x.storage x.pages.rw) ≡ append_seen x.log.epoch (stage_of d x.pages.rw)
      at true q = subst (λ z. append_seen x.log.epoch (stage_of x.storage z) ≡ append_seen x.log.epoch (stage_of d z)) (sym (eqb-true x.pages.rw n q)) (sym e)
      at false q = let ne : x.pages.rw ≢ n = grind arith in ap (append_seen x.log.epoch) (sym (o x.pages.rw ne))

  -- ---- a page is asked for
  get_handled : (x : Pool G) (n p v applied : ℕ) (r : StorageAnswer) (d : Network (StorageCall G) StorageAnswer) → Joined size x → Delivered d
      → After (Handles n (GetPage p v) r) (stage_of x.storage) (stage_of d) → r ≡ got ((pages_seen x).page p) v applied
      → (t : Pages) × Goes size (seen x) (record (seen x) { storage = d }) t
  get_handled x n p v applied r d j o e g =
      let s : Pages = pages_seen x in
      let f : Page → Page = λ P. set_node P n (calls (P.node n) (answer_get P v applied)) in
      let b : stage_of x.storage n ≡ Asked (GetPage p v) = e.0 in
      let c : stage_of d n ≡ Handled (GetPage p v) r = e.1 in
      let w = sees x n p (Asked (GetPage p v)) (AskGet v) j b (get-asked G p p v (same p)) (λ z. Prim.cc) in
      let m : x.pages.mode ≡ Normal = normal x n p (AskGet v) j w.0 (λ z. Prim.cc) in
      let k : told_get r ≡ answer_get (s.page p) v applied = ap told_get g ∙ told_image v applied (s.page p) in (
        at_pages (only p) f s,
        record {
          quiet = sym (quiet-at (only p) n (λ P. answer_get P v applied) s);
          events = Act n (only p) (λ q. HandleGet applied) ∷ [];
          run = (
            at_pages (only p) f s,
            act-at s n (only p) (λ q. HandleGet applied) f m
                (at_one (λ q. Makes s n (HandleGet applied) (s.page q) (f (s.page q))) p (refl, (λ z. Prim.cc), (v, w.0, refl))),
            refl,
          );
          linked = relink s n (only p) f (stage_of x.home) (stage_of x.home) (stage_of x.storage) (stage_of d) (linked-seen size x j)
              (λ q l ne. set_beside (s.page q) n (calls ((s.page q).node n) (answer_get (s.page q) v applied)) l ne)
              (at_one (λ q. LinkedAt q ((f (s.page q)).node n).call (stage_of x.home n) (stage_of d n)) p
              (let sp : storage_part p (stage_of d n) ≡ answer_get (s.page p) v applied = ap (storage_part p) c ∙ get-handled G p p v r (same p) ∙ k in
              (set_here (s.page p) n (calls ((s.page p).node n) (answer_get (s.page p) v applied)) ∙ sym (ap (λ y. over y (storage_part p (stage_of d n))) w.1 ∙ sp), inl w.1)))
              (λ q t. (refl, ap (storage_part q) c ∙ get-not_handled G q p v r t ∙ sym (ap (storage_part q) b ∙ get-not_asked G q p v t)))
              (λ l ne. refl)
              e.2;
          logs = [];
          log = refl;
          append = append-on x d n (ap (append_seen x.log.epoch) c ∙ sym (ap (append_seen x.log.epoch) b)) e.2;
          home = j.home;
          storage = o;
          owner = owner-on size n x.pages.rw (stage_of x.storage) (stage_of d) (λ h. let z : has_append (stage_of d n) ≡ false = ap has_append c in absurd Prim.cc) e.2 j.owner;
          serves = j.serves;
          calm = j.calm;
        },
      )

  get_accepted : (x : Pool G) (n p v : ℕ) (r : StorageAnswer) (d : Network (StorageCall G) StorageAnswer) → Joined size x → Delivered d
      → After (Accepts n (GetPage p v) r) (stage_of x.storage) (stage_of d) → IsUp (pages_seen x) n true
      → Goes size (seen x) (record (seen x) { storage = d; pages = accepted n (only p) (pages_seen x) }) (accepted n (only p) (pages_seen x))
  get_accepted x n p v r d j o e up =
      let s : Pages = pages_seen x in
      let f : Page → Page = λ P. set_node P n (answered x.pages.rw n (P.node n)) in
      let b : stage_of x.storage n ≡ Handled (GetPage p v) r = e.0 in
      let c : stage_of d n ≡ NoCall = e.1 in
      let some : told_get r ≢ Quiet = told-some (told_get r) (get-told r) in
      let w = sees x n p (Handled (GetPage p v) r) (told_get r) j b (get-handled G p p v r (same p)) some in
      let m : x.pages.mode ≡ Normal = normal x n p (told_get r) j w.0 some in
      record {
        quiet = refl;
        events = Act n (only p) (λ q. Accept) ∷ [];
        run = (
          at_pages (only p) f s,
          act-at s n (only p) (λ q. Accept) f m
              (at_one (λ q. Makes s n Accept (s.page q) (f (s.page q))) p (refl, (λ z. Prim.cc), (up p, ap is_told w.0 ∙ get-told r, refl))),
          refl,
        );
        linked = relink s n (only p) f (stage_of x.home) (stage_of x.home) (stage_of x.storage) (stage_of d) (linked-seen size x j)
            (λ q l ne. set_beside (s.page q) n (answered x.pages.rw n ((s.page q).node n)) l ne)
            (at_one (λ q. LinkedAt q ((f (s.page q)).node n).call (stage_of x.home n) (stage_of d n)) p
            (let sp : storage_part p (stage_of d n) ≡ Quiet = ap (storage_part p) c in
            (answered_quiet (s.page p) x.pages.rw n ∙ sym (ap (λ y. over y (storage_part p (stage_of d n))) w.1 ∙ sp), inl w.1)))
            (λ q t. (refl, ap (storage_part q) c ∙ sym (ap (storage_part q) b ∙ get-not_handled G q p v r t)))
            (λ l ne. refl)
            e.2;
        logs = [];
        log = refl;
        append = append-on x d n (ap (append_seen x.log.epoch) c ∙ sym (ap (append_seen x.log.epoch) b)) e.2;
        home = j.home;
        storage = o;
        owner = owner-on size n x.pages.rw (stage_of x.storage) (stage_of d) (λ h. let z : has_append (stage_of d n) ≡ false = ap has_append c in absurd Prim.cc) e.2 j.owner;
        serves = j.serves;
        calm = j.calm;
      }

  -- ---- groups are appended
  -- the calls of pages are as before where a call of node n has no page before and after
  no_page : (x : Pool G) (d : Network (StorageCall G) StorageAnswer) (n : ℕ) → Joined size x
      → ((p : ℕ) → storage_part p (stage_of d n) ≡ storage_part p (stage_of x.storage n)) → Beside n (stage_of x.storage) (stage_of d)
      → Linked (pages_seen x) (stage_of x.home) (stage_of d)
  no_page x d n j e o = relink (pages_seen x) n (λ p. false) (λ P. P) (stage_of x.home) (stage_of x.home) (stage_of x.storage) (stage_of d) (linked-seen size x j)
      (λ p m z. refl) (λ p t. absurd Prim.cc) (λ p t. (refl, e p)) (λ m z. refl) o

  append_handled : (x : Pool G) (n off : ℕ) (gs : List G) (a : Answer) (d : Network (StorageCall G) StorageAnswer) → Joined size x → Delivered d
      → After (Handles n (AppendGroups off gs) (Appended a)) (stage_of x.storage) (stage_of d)
      → a ≡ answer_to size x.log.store x.log.epoch off gs
      → Goes size (seen x) (record (seen x) { storage = d; log = handling size (log_seen x) x.log.epoch off gs }) (pages_seen x)
  append_handled x n off gs a d j o e g =
      let b : stage_of x.storage n ≡ Asked (AppendGroups off gs) = e.0 in
      let c : stage_of d n ≡ Handled (AppendGroups off gs) (Appended a) = e.1 in
      let i : n ≡ x.pages.rw = j.owner n (ap has_append b) in
      let b' : stage_of x.storage x.pages.rw ≡ Asked (AppendGroups off gs) = subst (λ z. stage_of x.storage z ≡ Asked (AppendGroups off gs)) i b in
      let c' : stage_of d x.pages.rw ≡ Handled (AppendGroups off gs) (Appended a) = subst (λ z. stage_of d z ≡ Handled (AppendGroups off gs) (Appended a)) i c in
      record {
        quiet = refl;
        events = [];
        run = refl;
        linked = no_page x d n j (λ p. ap (storage_part p) c ∙ sym (ap (storage_part p) b)) e.2;
        logs = Handle ∷ [];
        log = (handling size (log_seen x) x.log.epoch off gs, (x.log.epoch, off, gs, ap (append_seen x.log.epoch) b', refl), refl);
        append = ap (λ z. Answered gs z) (sym g) ∙ sym (ap (append_seen x.log.epoch) c');
        home = j.home;
        storage = o;
        owner = owner-on size n x.pages.rw (stage_of x.storage) (stage_of d) (λ h. i) e.2 j.owner;
        serves = j.serves;
        calm = j.calm;
      }

  append_accepted : (x : Pool G) (n off : ℕ) (gs : List G) (a : Answer) (d : Network (StorageCall G) StorageAnswer) → Joined size x → Delivered d
      → After (Accepts n (AppendGroups off gs) (Appended a)) (stage_of x.storage) (stage_of d) → x.log.phase ≡ Open
      → Goes size (seen x) (record (seen x) { storage = d; log = accepting (log_seen x) gs a }) (pages_seen x)
  append_accepted x n off gs a d j o e g =
      let b : stage_of x.storage n ≡ Handled (AppendGroups off gs) (Appended a) = e.0 in
      let c : stage_of d n ≡ NoCall = e.1 in
      let i : n ≡ x.pages.rw = j.owner n (ap has_append b) in
      let b' : stage_of x.storage x.pages.rw ≡ Handled (AppendGroups off gs) (Appended a) = subst (λ z. stage_of x.storage z ≡ Handled (AppendGroups off gs) (Appended a)) i b in
      let c' : stage_of d x.pages.rw ≡ NoCall = subst (λ z. stage_of d z ≡ NoCall) i c in
      record {
        quiet = refl;
        events = [];
        run = refl;
        linked = no_page x d n j (λ p. ap (storage_part p) c ∙ sym (ap (storage_part p) b)) e.2;
        logs = AcceptAnswer ∷ [];
        log = (accepting (log_seen x) gs a, (g, gs, a, ap (append_seen x.log.epoch) b', refl), refl);
        append = sym (ap (append_seen x.log.epoch) c');
        home = j.home;
        storage = o;
        owner = owner-on size n x.pages.rw (stage_of x.storage) (stage_of d) (λ h. i) e.2 j.owner;
        serves = j.serves;
        calm = j.calm;
      }

  storage_nothing : (x : Pool G) (d : Network (StorageCall G) StorageAnswer) → Joined size x → Delivered d → After Nothing (stage_of x.storage) (stage_of d)
      → Goes size (seen x) (record (seen x) { storage = d }) (pages_seen x)
  storage_nothing x d j o e = record {
    quiet = refl;
    events = [];
    run = refl;
    linked = linked-same (pages_seen x) (pages_seen x) (stage_of x.home) (stage_of x.home) (stage_of x.storage) (stage_of d) (linked-seen size x j) (λ p m. refl) (λ m. refl) e;
    logs = [];
    log = refl;
    append = ap (append_seen x.log.epoch) (sym (e x.pages.rw));
    home = j.home;
    storage = o;
    owner = λ n h. j.owner n (subst (λ z. has_append z ≡ true) (e n) h);
    serves = j.serves;
    calm = j.calm;
  }

  -- ---- every delivery
  -- z is the pool with these pages and this log
  abbrev pub Comes : (x : Pool G) (d : Network (StorageCall G) StorageAnswer) (s : Pages) (l : Log G) → Type 0
  Comes x d s l = (t : Pages) × Goes size (seen x) (record (seen x) { storage = d; pages = s; log = l }) t

  along : (x : Pool G) (d : Network (StorageCall G) StorageAnswer) (s s' : Pages) (l l' : Log G) → s ≡ s' → l ≡ l' → Comes x d s' l' → Comes x d s l
  along x d s s' l l' a b c = subst (λ z. Comes x d z l) (sym a) (subst (λ z. Comes x d s' z) (sym b) c)

  stores : (x : Pool G) (f : Effect (StorageCall G) StorageAnswer) (d : Network (StorageCall G) StorageAnswer) (s : Pages) (l : Log G) → Joined size x → Delivered d
      → After f (stage_of x.storage) (stage_of d) → Stores size f (pages_seen x) (log_seen x) s l → Comes x d s l
  stores x Nothing d s l j o e k = along x d s (pages_seen x) l (log_seen x) k.0 k.1 (pages_seen x, storage_nothing x d j o e)
  stores x (Handles n (GetPage p v) r) d s l j o e k = along x d s (pages_seen x) l (log_seen x) k.3 k.4 (get_handled x n p v k.0 r d j o e k.2)
  stores x (Handles n (AppendGroups off gs) (Appended a)) d s l j o e k =
      along x d s (pages_seen x) l (handling size (log_seen x) x.log.epoch off gs) k.1 k.2 (pages_seen x, append_handled x n off gs a d j o e k.0)
  stores x (Handles n (AppendGroups off gs) (GotImage v)) d s l j o e k = absurd k
  stores x (Handles n (AppendGroups off gs) NotYet) d s l j o e k = absurd k
  stores x (Accepts n (GetPage p v) r) d s l j o e k =
      along x d s (accepted n (only p) (pages_seen x)) l (log_seen x) k.1 k.2 (accepted n (only p) (pages_seen x), get_accepted x n p v r d j o e k.0)
  stores x (Accepts n (AppendGroups off gs) (Appended a)) d s l j o e k =
      along x d s (pages_seen x) l (accepting (log_seen x) gs a) k.2 k.3 (pages_seen x, append_accepted x n off gs a d j o e k.1)
  stores x (Accepts n (AppendGroups off gs) (GotImage v)) d s l j o e k = absurd k
  stores x (Accepts n (AppendGroups off gs) NotYet) d s l j o e k = absurd k
  stores x (Asks n q) d s l j o e k = absurd k
  stores x (Ends n) d s l j o e k = absurd k
  stores x EndsAll d s l j o e k = absurd k

  pub goes-storage : (x : Pool G) (m : Message (StorageCall G) StorageAnswer) (f : Effect (StorageCall G) StorageAnswer) (d : Network (StorageCall G) StorageAnswer) (s : Pages) (l : Log G)
      → Joined size x → CallsDo (Deliver m) x.storage f d → Stores size f (pages_seen x) (log_seen x) s l → Comes x d s l
  goes-storage x m f d s l j k c =
      let a = happens (Deliver m) x.storage d f j.storage k in
      stores x f d s l j a.0 a.1 c
