-- Lists of uses at rising times.
use Rattle.std.proofs.Common.{◌≤◌, ℕ, List, [], ◌∷◌, ◌++◌, arith, le_trans}
use Rattle.tree_timeline.specs.Types.{PagesAt}
use Rattle.tree_timeline.specs.Walks.{Visit}
use Rattle.snapshot_reads.specs.Times.{Rises, Latched}

pub rises_end : (end t : ℕ) (us : List Visit) → Rises end t us → t ≤ end
rises_end end t [] h = h
rises_end end t (u ∷ us) h = le_trans h.0 (rises_end end u.time us h.1)

pub rises_right : (end t : ℕ) (xs ys : List Visit) → Rises end t (xs ++ ys) → Rises end t ys
rises_right end t [] ys h = h
rises_right end t (x ∷ xs) ys h = weaker ys (rises_right end x.time xs ys h.1)
  where
    weaker : (zs : List Visit) → Rises end x.time zs → Rises end t zs
    weaker [] r = le_trans h.0 r
    weaker (z ∷ zs) r = (le_trans h.0 r.0, r.1)

pub rises_left : (end t : ℕ) (xs ys : List Visit) → Rises end t (xs ++ ys) → Rises end t xs
rises_left end t [] ys h = rises_end end t ys h
rises_left end t (x ∷ xs) ys h = (h.0, rises_left end x.time xs ys h.1)

pub latched_left : (at : PagesAt) (xs ys : List Visit) → Latched at (xs ++ ys) → Latched at xs
latched_left at [] ys h = tt
latched_left at (x ∷ []) ys h = tt
latched_left at (x ∷ (y ∷ xs)) ys h = (h.0, latched_left at (y ∷ xs) ys h.1)

pub latched_right : (at : PagesAt) (xs ys : List Visit) → Latched at (xs ++ ys) → Latched at ys
latched_right at [] ys h = h
latched_right at (x ∷ xs) ys h = latched_right at xs ys (less (xs ++ ys) h)
  where
    less : (zs : List Visit) → Latched at (x ∷ zs) → Latched at zs
    less [] l = tt
    less (z ∷ zs) l = l.1

-- uses in two parts meet at a time
pub record Meet (end t : ℕ) (xs ys : List Visit) : Type 0 where
  pub time : ℕ
  pub upto : t ≤ time
  pub below : time ≤ end
  pub first : Rises time t xs
  pub second : Rises end time ys

pub meet : (end t : ℕ) (xs ys : List Visit) → Rises end t (xs ++ ys) → Meet end t xs ys
meet end t [] ys h = record {
  time = t;
  upto = omega arith;
  below = rises_end end t ys h;
  first = (let e : t ≤ t = omega arith in e);
  second = h;
}
meet end t (x ∷ xs) ys h =
    let m = meet end x.time xs ys h.1 in
    record {
      time = m.time;
      upto = le_trans h.0 m.upto;
      below = m.below;
      first = (h.0, m.first);
      second = m.second;
    }
