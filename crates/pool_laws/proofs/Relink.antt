-- For the proofs: pages whose calls are those of the messages, and a change of one node's calls.
use Rattle.std.proofs.Common.{◌≡◌, ◌≢◌, ℕ, Bool, true, false, if◌then◌else◌, nat_eq, ◌⊎◌, inl, refl, sym, subst, ◌∙◌, eqb-true, arith}
use Rattle.node_model.specs.Call.{Call, Call.Quiet}
use Rattle.node_model.specs.Node.{Node}
use Rattle.page_coherence.specs.Page.{Page, set_node}
use Rattle.page_coherence.specs.Mode.{Mode.Normal}
use Rattle.page_coherence.specs.Moves.{Move}
use Rattle.page_coherence.specs.Cluster.{State as Pages, Event.Act, Happens as PagesDo, Makes}
use Rattle.call_model.specs.Stages.{Stage, Stage.Quiet as NoCall}
use Rattle.pool_laws.specs.Calls.{HomeCall, HomeAnswer, StorageCall, StorageAnswer, home_part, storage_part, call_seen}
use Rattle.pool_laws.specs.Serving.{at_pages}

module _ {G : Type 0} where
  -- a node's two calls are not of one page
  abbrev pub ApartAt : ℕ → Stage HomeCall HomeAnswer → Stage (StorageCall G) StorageAnswer → Type 0
  ApartAt p c d = (home_part p c ≡ Quiet) ⊎ (storage_part p d ≡ Quiet)

  abbrev pub LinkedAt : ℕ → Call → Stage HomeCall HomeAnswer → Stage (StorageCall G) StorageAnswer → Type 0
  LinkedAt p k c d = (k ≡ call_seen p c d) × ApartAt p c d

  abbrev pub Linked : Pages → (ℕ → Stage HomeCall HomeAnswer) → (ℕ → Stage (StorageCall G) StorageAnswer) → Type 0
  Linked s c d = (p n : ℕ) → LinkedAt p ((s.page p).node n).call (c n) (d n)

  -- nothing of the calls is changed
  pub linked-same : (s t : Pages) (c c' : ℕ → Stage HomeCall HomeAnswer) (d d' : ℕ → Stage (StorageCall G) StorageAnswer) → Linked s c d
      → ((p m : ℕ) → ((t.page p).node m).call ≡ ((s.page p).node m).call) → ((m : ℕ) → c' m ≡ c m) → ((m : ℕ) → d' m ≡ d m) → Linked t c' d'
  linked-same s t c c' d d' l k a b p n = rw (a n, b n) (k p n ∙ (l p n).0, (l p n).1)

  -- no call is under way
  pub linked-none : (t : Pages) (c : ℕ → Stage HomeCall HomeAnswer) (d : ℕ → Stage (StorageCall G) StorageAnswer)
      → ((p m : ℕ) → ((t.page p).node m).call ≡ Quiet) → ((m : ℕ) → c m ≡ NoCall) → ((m : ℕ) → d m ≡ NoCall) → Linked t c d
  linked-none t c d k a b p n = rw (a n, b n) (k p n, inl refl)

  -- a change of node n's calls, at some pages
  pub relink : (s : Pages) (n : ℕ) (ps : ℕ → Bool) (f : Page → Page) (c c' : ℕ → Stage HomeCall HomeAnswer) (d d' : ℕ → Stage (StorageCall G) StorageAnswer)
      → Linked s c d
      → ((p m : ℕ) → m ≢ n → ((f (s.page p)).node m).call ≡ ((s.page p).node m).call)
      → ((p : ℕ) → ps p ≡ true → LinkedAt p ((f (s.page p)).node n).call (c' n) (d' n))
      → ((p : ℕ) → ps p ≡ false → (home_part p (c' n) ≡ home_part p (c n)) × (storage_part p (d' n) ≡ storage_part p (d n)))
      → ((m : ℕ) → m ≢ n → c' m ≡ c m) → ((m : ℕ) → m ≢ n → d' m ≡ d m)
      → Linked (at_pages ps f s) c' d'
  relink s n ps f c c' d d' l beside here there cs ds p m = by_page (ps p) refl (nat_eq m n) refl
    where
      by_page : (b : Bool) → ps p ≡ b → (t : Bool) → nat_eq m n ≡ t → LinkedAt p ((if b then f (s.page p) else s.page p).node m).call (c' m) (d' m)
      by_page true e true q = subst (λ z. LinkedAt p ((f (s.page p)).node z).call (c' z) (d' z)) (sym (eqb-true m n q)) (here p e)
      by_page true e false q = let ne : m ≢ n = grind arith in rw (cs m ne, ds m ne) (beside p m ne ∙ (l p m).0, (l p m).1)
      by_page false e true q = subst (λ z. LinkedAt p ((s.page p).node z).call (c' z) (d' z)) (sym (eqb-true m n q)) (let t = there p e in rw (t.0, t.1) (l p n))
      by_page false e false q = let ne : m ≢ n = grind arith in rw (cs m ne, ds m ne) (l p m)

-- a change of node n leaves the calls of the others
pub set_beside : (P : Page) (n : ℕ) (N : Node) (m : ℕ) → m ≢ n → ((set_node P n N).node m).call ≡ (P.node m).call
set_beside P n N m ne = grind arith

pub set_here : (P : Page) (n : ℕ) (N : Node) → ((set_node P n N).node n).call ≡ N.call
set_here P n N = grind arith

-- node n's move at some pages
pub act-at : (s : Pages) (n : ℕ) (ps : ℕ → Bool) (move : ℕ → Move) (f : Page → Page) → s.mode ≡ Normal
    → ((p : ℕ) → ps p ≡ true → Makes s n (move p) (s.page p) (f (s.page p))) → PagesDo (Act n ps move) s (at_pages ps f s)
act-at s n ps move f e h = (
  e,
  (
    (λ p. if ps p then f (s.page p) else s.page p),
    (λ p q. subst (λ Q. Makes s n (move p) (s.page p) Q) (sym (chosen p (ps p) q)) (h p q)),
    (λ p q. other p (ps p) q),
    refl,
  ),
)
  where
    chosen : (p : ℕ) (b : Bool) → b ≡ true → (if b then f (s.page p) else s.page p) ≡ f (s.page p)
    chosen p true q = refl
    chosen p false q = absurd Prim.cc

    other : (p : ℕ) (b : Bool) → b ≡ false → (if b then f (s.page p) else s.page p) ≡ s.page p
    other p true q = absurd Prim.cc
    other p false q = refl
