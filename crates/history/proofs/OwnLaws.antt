-- What a transaction sees of its own, and what its commit makes of it.
use Rattle.std.proofs.Common.{◌≡◌, ℕ, suc, ◌≤◌, true, Option, Some, None, List, ◌∷◌, if◌then◌else◌, arith, ap, ◌∙◌}
use Rattle.history.specs.Places.{is_said, over}
use Rattle.history.specs.Sound.{at_least, Own}
use Rattle.version_store.proofs.Versions.{seen_commit, seen_none_of, seen_topped, stamp_none_of, stamp_topped}
use Rattle.version_store.specs.Held.{none_of}
use Rattle.version_store.specs.Stores.{put}
use Rattle.version_store.specs.Versions.{Row, seen, newest_stamp, Version}

-- what the transaction sees, and what its commit makes of it
pub read_own : (vs : List Version) (stamp : ℕ → ℕ) (n t : ℕ) (c : Option (Option Row)) (was : Option Row)
    → Own t c vs → seen vs stamp n None ≡ was → seen vs stamp n (Some t) ≡ over c was
unfolding Own
read_own vs stamp n t None was o e = seen_none_of vs stamp n t o ∙ e
read_own vs stamp n t (Some r) was o e = seen_topped vs stamp n t r o

pub read_commit : (vs : List Version) (stamp : ℕ → ℕ) (t l : ℕ) (c : Option (Option Row)) (was : Option Row)
    → Own t c vs → stamp t ≡ 0 → ((u : ℕ) → stamp u ≤ l) → seen vs stamp l None ≡ was
    → seen vs (put stamp t (suc l)) (suc l) None ≡ over c was
read_commit vs stamp t l c was o z b e = seen_commit vs stamp t l z b ∙ read_own vs stamp l t c was o e

pub stamp_commit : (vs : List Version) (stamp : ℕ → ℕ) (t l was first : ℕ) (c : Option (Option Row)) → first ≤ l
    → Own t c vs → at_least first (newest_stamp vs stamp) ≡ was
    → at_least first (newest_stamp vs (put stamp t (suc l))) ≡ (if is_said c then suc l else was)
unfolding Own
stamp_commit vs stamp t l was first None le o e = ap (at_least first) (stamp_none_of vs stamp t (suc l) o) ∙ e
stamp_commit vs stamp t l was first (Some r) le o e = ap (at_least first) (stamp_topped vs stamp t l r o)
    ∙ grind arith

pub own_none : (t : ℕ) (o : Option (Option Row)) (vs : List Version) → o ≡ None → none_of t vs ≡ true → Own t o vs
unfolding Own
own_none t None vs z a = a
own_none t (Some r) vs z a = absurd (grind arith)

pub own_top : (t : ℕ) (x : Version) (r : Option Row) (vs : List Version) → x.trx ≡ t → x.row ≡ r
    → Own t (Some r) (x ∷ vs)
unfolding Own
own_top t x r vs e f = (e, f)

pub own_under : (t : ℕ) (x : Version) (vs : List Version) → (x.trx ≡ t → ⊥) → Own t None vs → Own t None (x ∷ vs)
unfolding Own
own_under t x vs ne o = grind arith
