-- Stated: what a reader sees stays, whoever writes beside it and however late it looks stamps up.
use Rattle.std.specs.Prelude.{◌≡◌, ◌⊎◌, ℕ, suc, ◌<◌, ◌≤◌, Some, None, List, ◌∷◌}
use Rattle.version_store.specs.Stores.{put}
use Rattle.version_store.specs.Versions.{Version, seen}

-- what an open transaction puts in front, or takes away again, is seen by no other
abbrev pub OpenIsUnseen : Type 0
OpenIsUnseen =
    (vs : List Version) (v : Version) (stamp : ℕ → ℕ) (n : ℕ)
    → stamp v.trx ≡ 0 → seen (v ∷ vs) stamp n None ≡ seen vs stamp n None

-- a commit is seen at its own number exactly as its transaction saw it, and at lesser numbers not at all
abbrev pub CommitShowsOwn : Type 0
CommitShowsOwn =
    (vs : List Version) (stamp : ℕ → ℕ) (t last : ℕ) → stamp t ≡ 0 → ((u : ℕ) → stamp u ≤ last)
    → seen vs (put stamp t (suc last)) (suc last) None ≡ seen vs stamp last (Some t)

abbrev pub CommitHidesBefore : Type 0
CommitHidesBefore =
    (vs : List Version) (stamp : ℕ → ℕ) (n t number : ℕ) → stamp t ≡ 0 → n < number
    → seen vs (put stamp t number) n None ≡ seen vs stamp n None

-- A reader that looks each stamp up later sees the same: what had a stamp has it still, and what had none has
-- none or one past the last stamp of then.
abbrev pub LateLooksAgree : Type 0
LateLooksAgree =
    (vs : List Version) (stamp later : ℕ → ℕ) (n last : ℕ) → n ≤ last
    → ((t : ℕ) → (later t ≡ stamp t) ⊎ ((stamp t ≡ 0) × (last < later t)))
    → seen vs later n None ≡ seen vs stamp n None
