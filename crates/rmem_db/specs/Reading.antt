-- Stated: what a reader of lines holds, and what one read adds.
use Rattle.std.specs.Prelude.{◌≡◌, ◌≢◌, ◌<◌, ◌≤◌, ◌+◌, ℕ, List, [], ◌∷◌, ◌++◌, length, slice_index, Option}
use Rattle.std.specs.Io.KnownBytes.{Consumes, IsAtEnd}

-- the bytes that were taken and not yet passed, and how many bytes were taken in all
pub record Held : Type 0 where
  pub bytes : List ℕ
  pub taken : ℕ

-- no byte is an LF
abbrev pub HasNoLf : List ℕ → Type 0
HasNoLf bytes = (k : ℕ) → k < length bytes → slice_index bytes k ≢ 10

-- the first LF stands behind n bytes
pub record IsLineEnd (bytes : List ℕ) (n : ℕ) : Type 0 where
  pub inside : n < length bytes
  pub lf : slice_index bytes n ≡ 10
  pub first : (k : ℕ) → k < n → slice_index bytes k ≢ 10

-- bytes were read, and are held behind the others
pub record ReadsMore (left left' : Option (List ℕ)) (old new : Held) : Type 0 where
  pub more : List ℕ
  pub some : 0 < length more
  pub read : Consumes left left' more
  pub held : new.bytes ≡ old.bytes ++ more
  pub taken : new.taken ≡ old.taken + length more

-- n bytes were read, and stand behind the others; none only at the end
pub record TakesMore (left left' : Option (List ℕ)) (old new : List ℕ) (n : ℕ) : Type 0 where
  pub more : List ℕ
  pub read : Consumes left left' more
  pub count : length more ≡ n
  pub held : new ≡ old ++ more
  pub at_end : n ≡ 0 → IsAtEnd left'

-- the source was at its end
pub record ReadsEnd (left left' : Option (List ℕ)) (old new : Held) : Type 0 where
  pub read : Consumes left left' []
  pub at_end : IsAtEnd left'
  pub held : new ≡ old

-- one byte was read, and is not held
pub record ReadsPast (left left' : Option (List ℕ)) (old new : Held) : Type 0 where
  pub byte : ℕ
  pub read : Consumes left left' (byte ∷ [])
  pub held : new ≡ old

-- some bytes were read, at most n, or none
pub record ReadsSome (left left' : Option (List ℕ)) (n : ℕ) : Type 0 where
  pub more : List ℕ
  pub read : Consumes left left' more
  pub few : length more ≤ n
