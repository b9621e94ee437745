-- A latch excludes whatever is called.
use Rattle.std.proofs.Common.{◌≡◌, ℕ, Bool, true, false, Option, Some, None, List, [], ◌∷◌, if◌then◌else◌, nat_eq, arith}
use Rattle.home_model.specs.Latch.{Latch, Excludes, free_latch, may_share, MayExclude, without, other_has}
use Rattle.home_model.specs.Uses.{LatchCall, LatchCall.share, LatchCall.exclude, LatchCall.release, Changes, ChangesAll}

-- whoever is left without n was there before
without_one : (holder : Option ℕ) (n k : ℕ) → without holder n ≡ Some k → holder ≡ Some k
without_one None n k e = e
without_one (Some m) n k e = by_test (nat_eq m n) e
  where
    by_test : (b : Bool) → (if b then None else Some m) ≡ Some k → Some m ≡ Some k
    by_test true q = absurd cc
    by_test false q = q

stays_in : (b s : Bool) → (if b then false else s) ≡ true → s ≡ true
stays_in true s e = absurd cc
stays_in false s e = e

call_excludes : (call : LatchCall) (before after : Latch) → Changes call before after → Excludes before → Excludes after
call_excludes (share n) before after h e = rw h.1 (grind arith)
call_excludes (exclude n) before after h e = rw h.1 (grind arith)
call_excludes (release n) before after h e =
    rw h (λ k m x s. e k m (without_one before.exclusive n k x) (stays_in (nat_eq m n) (before.shared m) s))

calls_exclude : (calls : List LatchCall) (before after : Latch) → ChangesAll calls before after → Excludes before → Excludes after
calls_exclude [] before after h e = rw h e
calls_exclude (call ∷ calls) before after h e = calls_exclude calls h.0 after h.2 (call_excludes call before h.0 h.1 e)

pub always_excludes : (calls : List LatchCall) (after : Latch) → ChangesAll calls free_latch after → Excludes after
always_excludes calls after h = calls_exclude calls free_latch after h (grind arith)

by_holder : (h : Option ℕ) (n m : ℕ) → other_has h n ≡ false → h ≡ Some m → m ≡ n
by_holder None n m s x = absurd cc
by_holder (Some k) n m s x = grind arith

pub waits : (L : Latch) (n m : ℕ) → may_share L n ≡ true → L.exclusive ≡ Some m → m ≡ n
waits L n m s x = by_holder L.exclusive n m (grind arith) x

pub alone : (L : Latch) (n m : ℕ) → MayExclude L n → L.exclusive ≡ Some m → m ≡ n
alone L n m s x = by_holder L.exclusive n m s.1 x
