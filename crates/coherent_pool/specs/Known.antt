-- Stated: what a node keeps of each page beside its copy.
use Rattle.std.specs.Prelude.{◌≡◌, ◌≢◌, ℕ, Bool, true, false, None, List, length, slice_index_or}
use Rattle.home_tables.specs.Numbers.{has}
use Rattle.coherent_pool.specs.declared.known.Known.{Known}

pub record Table : Type 0 where
  pub pages : List Known
  pub leaving : List Bool

-- each page has its place
pub record IsTable (T : Table) : Type 0 where
  pub pages : length T.pages ≡ 32768
  pub leaving : length T.leaving ≡ 32768

abbrev pub nothing_known : Known
nothing_known = record { kept = false; addr = None; bit = true }

-- what is kept of page p
abbrev pub known_at : Table → ℕ → Known
known_at T p = slice_index_or T.pages p nothing_known

-- page p is to be unregistered
abbrev pub is_leaving : Table → ℕ → Bool
is_leaving T p = has T.leaving p

-- k is kept of page p, and of each other page what was kept before
pub record SetsKnown (p : ℕ) (k : Known) (before now : Table) : Type 0 where
  pub here : known_at now p ≡ k
  pub beside : (q : ℕ) → q ≢ p → known_at now q ≡ known_at before q
  pub leaving : now.leaving ≡ before.leaving

-- page p is to be unregistered or not, and each other page is or is not as before
pub record SetsLeaving (p : ℕ) (leaves : Bool) (before now : Table) : Type 0 where
  pub here : is_leaving now p ≡ leaves
  pub beside : (q : ℕ) → q ≢ p → is_leaving now q ≡ is_leaving before q
  pub pages : now.pages ≡ before.pages

-- nothing is known at each place
pub record Clears (before now : List Known) : Type 0 where
  pub long : length now ≡ length before
  pub none : (p : ℕ) → slice_index_or now p nothing_known ≡ nothing_known
