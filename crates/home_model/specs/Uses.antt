-- Stated: any list of calls of one latch, and of one entry.
use Rattle.std.specs.Prelude.{◌≡◌, ℕ, true, List, [], ◌∷◌}
use Rattle.home_model.specs.Latch.{Latch, may_share, MayExclude, grant_s, grant_x, released}

-- a try that is granted, or a release
pub data LatchCall : Type 0 where
  share : ℕ → LatchCall
  exclude : ℕ → LatchCall
  release : ℕ → LatchCall

-- a call leads from one latch to another
abbrev pub Changes : LatchCall → Latch → Latch → Type 0
Changes (share n) before after = (may_share before n ≡ true) × (after ≡ grant_s before n)
Changes (exclude n) before after = MayExclude before n × (after ≡ grant_x before n)
Changes (release n) before after = after ≡ released before n

abbrev pub ChangesAll : List LatchCall → Latch → Latch → Type 0
ChangesAll [] before after = after ≡ before
ChangesAll (call ∷ calls) before after = (mid : Latch) × Changes call before mid × ChangesAll calls mid after
