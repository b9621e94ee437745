-- Stated: a slab as its slots, which of them are taken, and its incarnation while it is up.
use Rattle.std.specs.Prelude.{◌≡◌, ◌<◌, ◌+◌, ◌-◌, ◌^◌, ℕ, Bool, true, false, not, if◌then◌else◌, List, length, Some, slice_get, slice_set, replicate, nat_le, nat_lt, ◌&&◌, ◌||◌}
use Rattle.rm_base.specs.declared.places.Addr.{Addr}
use Rattle.page_image.specs.Image.{Image, unmade}
use Rattle.node_model.specs.Slots.{Slots, address_number}

-- what each slot holds, and whether it is taken
pub record SlabState : Type 0 where
  pub id : ℕ
  pub incarnation : ℕ
  pub up : Bool
  pub pages : List Image
  pub taken : List Bool

-- each slot is taken or free
abbrev pub IsSlab : SlabState → Type 0
IsSlab S = length S.taken ≡ length S.pages

-- slot s holds the image
abbrev pub written : SlabState → ℕ → Image → SlabState
written S s image = record { id = S.id; incarnation = S.incarnation; up = S.up; pages = slice_set S.pages s image; taken = S.taken }

abbrev pub took : SlabState → ℕ → SlabState
took S s = record { id = S.id; incarnation = S.incarnation; up = S.up; pages = S.pages; taken = slice_set S.taken s true }

abbrev pub gave_back : SlabState → ℕ → SlabState
gave_back S s = record { id = S.id; incarnation = S.incarnation; up = S.up; pages = S.pages; taken = slice_set S.taken s false }

abbrev pub crashed : SlabState → SlabState
crashed S = record { id = S.id; incarnation = S.incarnation; up = false; pages = S.pages; taken = S.taken }

-- up again in its next incarnation, with every slot free and blank
abbrev pub restarted : SlabState → SlabState
restarted S = record {
  id = S.id;
  incarnation = S.incarnation + 1;
  up = true;
  pages = replicate (length S.pages) (unmade 0);
  taken = replicate (length S.taken) false;
}

-- a slab that is up takes its next incarnation, with every slot free and blank; one that is down stays down
abbrev pub renewed : SlabState → SlabState
renewed S = if S.up then restarted S else S

-- a slab that is up has a next incarnation
abbrev pub may_renew : SlabState → Bool
may_renew S = not S.up || nat_lt S.incarnation (2 ^ 64 - 1)

-- the slab is up, and the address names one of its slots in its incarnation
pub record HasSlot (S : SlabState) (a : Addr) : Type 0 where
  pub up : S.up ≡ true
  pub incarnation : a.incarnation ≡ S.incarnation
  pub within : a.slot < length S.pages

-- the slab is a part of one memory of slots by address. While it is up its slots hold what that memory has at their
-- addresses, which are not lost; the addresses of its earlier incarnations are lost, and while it is down its last ones too.
-- At the addresses of its later incarnations nothing was written yet, and none of them is lost
pub record IsPart (S : SlabState) (M : Slots) : Type 0 where
  pub holds : S.up ≡ true → (s : ℕ) (image : Image) → slice_get S.pages s ≡ Some image → M.holds (address_number S.id S.incarnation s) ≡ image
  pub live : S.up ≡ true → (s : ℕ) → s < length S.pages → M.dead (address_number S.id S.incarnation s) ≡ false
  pub past : (i s : ℕ) → 0 < i → i < S.incarnation → s < length S.pages → M.dead (address_number S.id i s) ≡ true
  pub down : S.up ≡ false → (s : ℕ) → s < length S.pages → M.dead (address_number S.id S.incarnation s) ≡ true
  pub unwritten : (i s : ℕ) → S.incarnation < i → s < length S.pages → M.holds (address_number S.id i s) ≡ unmade 0
  pub unlost : (i s : ℕ) → S.incarnation < i → s < length S.pages → M.dead (address_number S.id i s) ≡ false

-- the addresses that the slab gives out in its incarnation
abbrev pub spans : SlabState → ℕ → Bool
spans S a = nat_le (address_number S.id S.incarnation 0) a && nat_lt a (address_number S.id S.incarnation 65536)
