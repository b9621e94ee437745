-- For the proofs: the example, each step by computation.
use Rattle.std.proofs.Common.{◌≡◌, ◌≢◌, ℕ, Bool, true, false, Some, None, [], if◌then◌else◌, nat_eq, inl, inr, refl, sym, subst, arith}
use Rattle.home_model.specs.Entry.{Entry, no_entry, registered, kicked as kicked_entry}
use Rattle.node_model.specs.Learning.{begun}
use Rattle.page_coherence.specs.Page.{Page, set_node}
use Rattle.page_coherence.specs.Moves.{Move.Begin, handled_register}
use Rattle.page_coherence.specs.Cluster.{State as Pages, IsFree, IsUp, Makes, crashed, kicked_at}
use Rattle.call_model.specs.Stages.{Effect.Nothing, Effect.Handles, Effect.Ends}
use Rattle.call_model.specs.Network.{Network, with_ask, with_handling, with_up, kicked, rejoined}
use Rattle.pool_laws.specs.Calls.{HomeCall, HomeCall.RegisterPage, HomeAnswer, HomeAnswer.Registered, only}
use Rattle.pool_laws.specs.Pool.{Pool, pages_seen, log_seen, seen, bare}
use Rattle.pool_laws.specs.Serving.{at_pages}
use Rattle.pool_laws.specs.Events.{HasNothing, back, log_without, start}
use Rattle.pool_laws.specs.Examples.{itself, first, LateRegisterIsHandledOnce}
use Rattle.pool_laws.proofs.Relink.{act-at}
use Rattle.pool_laws.proofs.Joined.{at_one}

abbrev x0 : Pool ℕ
x0 = start itself 0 [] (λ p. [])

abbrev begins : Page → Page
begins P = set_node P 1 (begun 0 1 (P.node 1))

abbrev t1 : Pages
t1 = at_pages (only 7) begins (pages_seen x0)

abbrev z1 : Pool ℕ
z1 = record (seen x0) { pages = t1 }

abbrev x1 : Pool ℕ
x1 = bare z1

abbrev h2 : Network HomeCall HomeAnswer
h2 = with_ask x1.home 1 (RegisterPage 7)

abbrev z2 : Pool ℕ
z2 = record (seen x1) { home = h2 }

abbrev x2 : Pool ℕ
x2 = bare z2

abbrev t3 : Pages
t3 = record (pages_seen x2) { page = λ p. crashed ((pages_seen x2).page p) 1 }

abbrev z3 : Pool ℕ
z3 = record { pages = t3; home = with_up x2.home 1 false; storage = with_up x2.storage 1 false; log = log_without 1 0 (log_seen x2) }

abbrev x3 : Pool ℕ
x3 = bare z3

abbrev t4 : Pages
t4 = at_pages (only 7) (λ P. handled_register P 0 0 (x3.pages.slots.holds 0) 1) (pages_seen x3)

abbrev z4 : Pool ℕ
z4 = record (seen x3) { home = with_handling x3.home first (RegisterPage 7) (Registered 0); pages = t4 }

abbrev x4 : Pool ℕ
x4 = bare z4

abbrev t5 : Pages
t5 = record (pages_seen x4) { page = λ p. kicked_at ((pages_seen x4).page p) 1 }

abbrev z5 : Pool ℕ
z5 = record (seen x4) { pages = t5; home = kicked x4.home 1; storage = kicked x4.storage 1 }

abbrev x5 : Pool ℕ
x5 = bare z5

abbrev x6 : Pool ℕ
x6 = bare (seen x5)

abbrev z7 : Pool ℕ
z7 = record (seen x6) { pages = back 1 (pages_seen x6); home = rejoined x6.home 1 1; storage = rejoined x6.storage 1 1 }

-- what holds at page 7 and at each other page holds at all
at_all : (X : Page → Type 0) (P Q : ℕ → Page) → ((p : ℕ) → X (P p)) → ((p : ℕ) → X (Q p)) → (p : ℕ) → X (if nat_eq p 7 then P p else Q p)
at_all X P Q a b p = chosen (nat_eq p 7)
  where
    chosen : (c : Bool) → X (if c then P p else Q p)
    chosen true = a p
    chosen false = b p

up-1 : IsUp (pages_seen x2) 1 true
up-1 p = at_all (λ P. (P.node 1).up ≡ true) (λ q. begins ((pages_seen x0).page q)) (λ q. (pages_seen x0).page q) (λ q. refl) (λ q. refl) p

free-3 : IsFree (pages_seen x3) 0
free-3 p = at_all (λ P. P.entry.address ≢ Some 0) (λ q. begins ((pages_seen x0).page q)) (λ q. (pages_seen x0).page q) (λ q e. Prim.cc) (λ q e. Prim.cc) p

down-4 : IsUp (pages_seen x4) 1 false
down-4 p = at_all (λ P. (P.node 1).up ≡ false) (λ q. handled_register ((pages_seen x3).page q) 0 0 (x3.pages.slots.holds 0) 1) (λ q. (pages_seen x3).page q) (λ q. refl) (λ q. refl) p

-- no page has an entry before the call is handled
entry-3 : (q : ℕ) → ((pages_seen x3).page q).entry ≡ no_entry
entry-3 q = at_all (λ P. P.entry ≡ no_entry) (λ r. begins ((pages_seen x0).page r)) (λ r. (pages_seen x0).page r) (λ r. refl) (λ r. refl) q

none-some : (n : ℕ) → None ≡ Some n → ⊥
none-some n e = Prim.cc

nothing-6 : HasNothing (pages_seen x6) 1
nothing-6 p = at_all (λ P. ((kicked_at P 1).entry.refs 1 ≡ false) × (((kicked_at P 1).entry.latch.shared 1 ≡ false) × ((kicked_at P 1).entry.latch.exclusive ≢ Some 1)))
    (λ q. handled_register ((pages_seen x3).page q) 0 0 (x3.pages.slots.holds 0) 1) (λ q. (pages_seen x3).page q)
    (λ q. (refl, (refl, subst (λ (E : Entry). (kicked_entry (registered E 0 0 1) 1).latch.exclusive ≢ Some 1) (sym (entry-3 q)) (none-some 1))))
    (λ q. (refl, (refl, subst (λ (E : Entry). (kicked_entry E 1).latch.exclusive ≢ Some 1) (sym (entry-3 q)) (none-some 1)))) p

pub late_register_is_handled_once : LateRegisterIsHandledOnce
late_register_is_handled_once = (
  bare z7,
  (
    x1,
    (
      z1,
      (
        (λ p e. refl),
        (
          t1,
          act-at (pages_seen x0) 1 (only 7) (λ p. Begin) begins refl
              (at_one (λ r. Makes (pages_seen x0) 1 Begin ((pages_seen x0).page r) (begins ((pages_seen x0).page r))) 7
              (refl, (λ e. Prim.cc), (refl, refl, (λ e. inl refl), refl))),
          refl,
        ),
      ),
      refl,
    ),
    (
      x2,
      (z2, (refl, refl, refl, (h2, (refl, refl, inl (refl, refl), refl), refl)), refl),
      (
        x3,
        (z3, (z3.home, z3.storage, t3, (Nothing, (refl, refl, refl)), (Nothing, (refl, refl, refl)), inl (up-1, refl), refl), refl),
        (
          x4,
          (
            z4,
            (
              Handles 1 (RegisterPage 7) (Registered 0),
              z4.home,
              t4,
              ((0, omega arith, refl), inr (refl, (Registered 0, refl, refl))),
              (0, (λ e. (refl, free-3)), refl, refl),
              refl,
            ),
            refl,
          ),
          (
            x5,
            (
              z5,
              (
                z5.home,
                z5.storage,
                t5,
                (Ends 1, (refl, refl, omega arith, refl, refl)),
                (Ends 1, (refl, refl, omega arith, refl, refl)),
                (refl, (λ e. Prim.cc), down-4, refl),
                refl,
              ),
              refl,
            ),
            (
              x6,
              (seen x5, (Nothing, x5.home, pages_seen x5, ((1, omega arith, refl), inr (refl, (refl, refl))), refl, refl), refl),
              (
                bare z7,
                (
                  z7,
                  (
                    z7.home,
                    z7.storage,
                    (Nothing, (refl, inl (omega arith), (omega arith, omega arith), refl, refl)),
                    (Nothing, (refl, inl (omega arith), (omega arith, omega arith), refl, refl)),
                    (λ p. refl),
                    nothing-6,
                    refl,
                  ),
                  refl,
                ),
                refl,
              ),
            ),
          ),
        ),
      ),
    ),
  ),
  refl,
  refl,
  refl,
)
