-- For the proofs: the example of a renewal, each step by computation.
use Rattle.std.proofs.Common.{◌≡◌, ◌<◌, ℕ, true, false, Some, None, [], inl, inr, refl, arith}
use Rattle.page_coherence.specs.Cluster.{State as Pages, renewed, fenced as fenced_at, cut, swept_at}
use Rattle.node_model.specs.Slots.{died}
use Rattle.page_coherence.specs.Mode.{Mode.Normal, Mode.Tailed, Mode.Renewed}
use Rattle.call_model.specs.Servers.{new_server, fenced as fenced_server}
use Rattle.call_model.specs.Stages.{Effect.Nothing, Effect.Ends, Effect.EndsAll}
use Rattle.call_model.specs.Network.{Network, with_up, kicked, rejoined, with_server}
use Rattle.redo_durability.specs.Machine.{fenced as fenced_log, tailed, swept}
use Rattle.pool_laws.specs.Calls.{HomeCall, HomeAnswer, StorageCall, StorageAnswer}
use Rattle.pool_laws.specs.Pool.{Pool, pages_seen, log_seen, seen, bare}
use Rattle.pool_laws.specs.Events.{back, renewed_in, start}
use Rattle.pool_laws.specs.Examples.{itself, RenewedHomeHasARw}

abbrev w0 : Pool ℕ
w0 = start itself 0 [] (λ p. [])

abbrev z1 : Pool ℕ
z1 = record (seen w0) { pages = record (pages_seen w0) { home_up = false }; home = record w0.home { serves = false } }

abbrev w1 : Pool ℕ
w1 = bare z1

abbrev g1 : Network HomeCall HomeAnswer
g1 = with_up w1.home 0 false

abbrev g2 : Network HomeCall HomeAnswer
g2 = with_up g1 1 false

abbrev h2 : Network HomeCall HomeAnswer
h2 = with_server g2 (new_server 2)

abbrev d1 : Network (StorageCall ℕ) StorageAnswer
d1 = with_up w1.storage 0 false

abbrev d2 : Network (StorageCall ℕ) StorageAnswer
d2 = kicked d1 0

abbrev d3 : Network (StorageCall ℕ) StorageAnswer
d3 = with_up d2 1 false

abbrev d4 : Network (StorageCall ℕ) StorageAnswer
d4 = kicked d3 1

abbrev t2 : Pages
t2 = record (pages_seen w1) {
  mode = Renewed;
  home_up = true;
  slots = died (pages_seen w1).slots (λ a. false);
  page = λ p. renewed ((pages_seen w1).page p) (λ a. false);
}

abbrev z2 : Pool ℕ
z2 = record { pages = t2; home = h2; storage = d4; log = renewed_in w1.log.phase (log_seen w1) }

abbrev w2 : Pool ℕ
w2 = bare z2

abbrev z3 : Pool ℕ
z3 = record (seen w2) { pages = back 1 (pages_seen w2); home = rejoined w2.home 1 2; storage = rejoined w2.storage 1 2 }

abbrev w3 : Pool ℕ
w3 = bare z3

abbrev t4 : Pages
t4 = record (pages_seen w3) { mode = Renewed; page = λ p. fenced_at ((pages_seen w3).page p) }

abbrev z4 : Pool ℕ
z4 = record {
  pages = t4;
  home = with_server w3.home (fenced_server w3.home.server 3);
  storage = with_server w3.storage (fenced_server w3.storage.server 3);
  log = fenced_log (log_seen w3) 3;
}

abbrev w4 : Pool ℕ
w4 = bare z4

abbrev t5 : Pages
t5 = record (pages_seen w4) { mode = Tailed 0; page = λ p. cut ((pages_seen w4).page p) 0 }

abbrev z5 : Pool ℕ
z5 = record (seen w4) { pages = t5; log = tailed (log_seen w4) }

abbrev w5 : Pool ℕ
w5 = bare z5

abbrev t6 : Pages
t6 = record (pages_seen w5) { mode = Normal; rw = 1; watermark = 0; page = λ p. swept_at ((pages_seen w5).page p) 0 }

abbrev z6 : Pool ℕ
z6 = record (seen w5) { pages = t6; log = swept itself (log_seen w5) }

abbrev w6 : Pool ℕ
w6 = bare z6

abbrev z7 : Pool ℕ
z7 = record (seen w6) { pages = back 1 (pages_seen w6); home = rejoined w6.home 1 3; storage = rejoined w6.storage 1 3 }

old-home : (n : ℕ) → (w3.home.caller n).epoch < 3
old-home n = grind arith

old-storage : (n : ℕ) → (w3.storage.caller n).epoch < 3
old-storage n = grind arith

none-some : (n : ℕ) → None ≡ Some n → ⊥
none-some n e = Prim.cc

pub renewed_home_has_a_rw : RenewedHomeHasARw
renewed_home_has_a_rw = (
  bare z7,
  (
    w1,
    (z1, (z1.home, z1.pages, (Nothing, (refl, refl, refl)), (refl, refl), refl), refl),
    (
      w2,
      (
        z2,
        (
          g2,
          h2,
          d4,
          t2,
          tt,
          (g1, Nothing, (refl, refl, refl), (g2, Nothing, (refl, refl, refl), refl)),
          (EndsAll, (refl, (omega arith, (λ n. omega arith)), refl, refl)),
          tt,
          (
            d1,
            Nothing,
            (refl, refl, refl),
            (
              d2,
              Ends 0,
              (refl, refl, omega arith, refl, refl),
              (d3, Nothing, (refl, refl, refl), (d4, Ends 1, (refl, refl, omega arith, refl, refl), refl)),
            ),
          ),
          (λ n. refl),
          (refl, refl),
          refl,
        ),
        refl,
      ),
      (
        w3,
        (
          z3,
          (
            z3.home,
            z3.storage,
            (Nothing, (refl, inr (omega arith), (omega arith, omega arith), refl, refl)),
            (Nothing, (refl, inl (omega arith), (omega arith, omega arith), refl, refl)),
            (λ p. refl),
            (λ p. (refl, (refl, none-some 1))),
            refl,
          ),
          refl,
        ),
        (
          w4,
          (
            z4,
            (
              z4.home,
              z4.storage,
              t4,
              z4.log,
              (EndsAll, (refl, (omega arith, old-home), refl, refl)),
              (EndsAll, (refl, (omega arith, old-storage), refl, refl)),
              (refl, refl),
              (omega arith, refl),
              refl,
            ),
            refl,
          ),
          (
            w5,
            (z5, (t5, z5.log, (tt, refl), (inl refl, refl), refl), refl),
            (
              w6,
              (z6, (t6, z6.log, (refl, 0, refl, refl), (refl, refl), refl), refl),
              (
                bare z7,
                (
                  z7,
                  (
                    z7.home,
                    z7.storage,
                    (Nothing, (refl, omega arith, (omega arith, omega arith), refl, refl)),
                    (Nothing, (refl, omega arith, (omega arith, omega arith), refl, refl)),
                    refl,
                    (λ p. refl),
                    (λ p. (refl, (refl, none-some 1))),
                    refl,
                  ),
                  refl,
                ),
                refl,
              ),
            ),
          ),
        ),
      ),
    ),
  ),
  refl,
  refl,
  refl,
  refl,
)
