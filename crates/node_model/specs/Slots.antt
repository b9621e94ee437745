-- Stated: the slots of all slabs as one memory by address, and which of them are lost.
use Rattle.std.specs.Prelude.{ℕ, ◌+◌, ◌*◌, Bool, ◌||◌}
use Rattle.home_model.specs.Numbered.{put, nobody}
use Rattle.page_image.specs.Image.{Image, unmade}

-- what stands at each address, and the addresses whose slab went down. A slab that comes back has other addresses, as it
-- has another incarnation
pub record Slots : Type 0 where
  pub holds : ℕ → Image
  pub dead : ℕ → Bool

-- an address as one number, of a slab below 32 and a slot below 65,536
abbrev pub address_number : ℕ → ℕ → ℕ → ℕ
address_number slab incarnation slot = (incarnation * 32 + slab) * 65536 + slot

abbrev pub empty_slots : Slots
empty_slots = record { holds = λ a. unmade 0; dead = nobody }

abbrev pub written : Slots → ℕ → Image → Slots
written S a image = record S { holds = put S.holds a image }

-- these addresses are lost
abbrev pub lost : (ℕ → Bool) → (ℕ → Bool) → ℕ → Bool
lost dead ds a = dead a || ds a

abbrev pub died : Slots → (ℕ → Bool) → Slots
died S ds = record S { dead = lost S.dead ds }
