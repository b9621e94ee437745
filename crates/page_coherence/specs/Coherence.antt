-- Stated: what is promised of each page, and of the memory of slots, in every state that is reached.
use Rattle.std.specs.Prelude.{◌≡◌, ◌≢◌, ◌≤◌, ◌⊎◌, ℕ, true, false, Some}
use Rattle.page_image.specs.Image.{Image}
use Rattle.node_model.specs.Slots.{Slots}
use Rattle.node_model.specs.Step.{Step.Read, Step.Get, Step.Write, Step.Clean, Step.Held, Step.PlanInstall, is_past_latch, is_after_done}
use Rattle.node_model.specs.Call.{Call.ToldRegistered, Call.ToldImage, Call.ToldDone}
use Rattle.page_coherence.specs.Page.{Page, OthersStale, latest, HasX, HasS}
use Rattle.page_coherence.specs.Mode.{Mode, is_whole, Counts}

-- the RW holds X on the page under a plan that is past its Latch phase and did not clean it, or is down and holds X
abbrev pub IsExempt : ℕ → Page → Type 0
IsExempt r P = HasX P r × (((P.node r).up ≡ false) ⊎ (is_past_latch (P.node r).step ≡ true))

-- of a page, in a mode, under a RW and a watermark
pub record Coherent (mode : Mode) (r w : ℕ) (P : Page) : Type 0 where
  -- an entry with bit 0 has the LSN of the page's last change, and its slot, where it is there, the current image
  pub clean : P.entry.there ≡ true → P.entry.bit ≡ false → Counts mode P.entry.lsn → P.entry.lsn ≡ (latest P).lsn
  pub slot : P.entry.there ≡ true → P.entry.bit ≡ false → Counts mode P.entry.lsn
      → (a : ℕ) → P.entry.address ≡ Some a → P.dead a ≡ false → P.slot ≡ latest P
  -- a copy with local bit 0 that is not being read is current, and its node is among the references
  pub copies : (n : ℕ) (v : Image) → (P.node n).up ≡ true → (P.node n).copy ≡ Some v → (P.node n).stale ≡ false
      → (P.node n).step ≢ Read → (v ≡ latest P) × (P.entry.refs n ≡ true)
  -- an entry with bit 1 that is not exempt has a floor of at least the last change
  pub dirty : is_whole mode ≡ true → P.entry.there ≡ true → P.entry.bit ≡ true → (IsExempt r P → ⊥)
      → (latest P).lsn ≤ P.entry.floor
  -- a page without an entry changed last at the watermark or before
  pub absent : is_whole mode ≡ true → P.entry.there ≡ false → (latest P).lsn ≤ w
  -- each copy of the RW is current, whatever its local bit
  pub rw_copies : (v : Image) → (P.node r).up ≡ true → (P.node r).copy ≡ Some v → v ≡ latest P
  -- of an exempt page the RW, while it is up, has the current image as its copy
  pub exempt : IsExempt r P → (P.node r).up ≡ true → (P.node r).copy ≡ Some (latest P)
  -- from Done, as soon as it is answered, until the release is made, each other copy has local bit 1
  pub after_done : (P.node r).up ≡ true → is_after_done (P.node r).step ≡ true → HasX P r → OthersStale P r
  pub told_done : (P.node r).up ≡ true → (P.node r).call ≡ ToldDone → OthersStale P r
  -- an address that a node keeps, or that an answer to it carries, is the entry's, where its slot is there
  pub kept : (n a : ℕ) → (P.node n).up ≡ true → (P.node n).address ≡ Some a → P.dead a ≡ false
      → P.entry.address ≡ Some a
  pub told : (n a : ℕ) → (P.node n).up ≡ true → (P.node n).call ≡ ToldRegistered a → P.dead a ≡ false
      → P.entry.address ≡ Some a
  -- a loader holds X and asks storage for the last change or later; what it gets is current
  pub asked : (n f : ℕ) → (P.node n).up ≡ true → (P.node n).step ≡ Get f → HasX P n × ((latest P).lsn ≤ f)
  pub given : (n : ℕ) (v : Image) → (P.node n).up ≡ true → (P.node n).call ≡ ToldImage v → v ≡ latest P
  pub image : (n : ℕ) (v : Image) → (P.node n).up ≡ true
      → ((P.node n).step ≡ Write v) ⊎ ((P.node n).step ≡ Clean v) → v ≡ latest P
  -- a latch is free, held in S, or held in X by one node
  pub latch : (n m : ℕ) → HasX P n → HasS P m → ⊥
  -- a plan that may install is the RW's, and holds X
  pub install : (n : ℕ) → (P.node n).up ≡ true → (P.node n).step ≡ PlanInstall → (n ≡ r) × HasX P r
  -- a finished fetch holds S, and its copy is current
  pub held : (n : ℕ) → (P.node n).up ≡ true → (P.node n).step ≡ Held → HasS P n × ((P.node n).copy ≡ Some (latest P))

-- the slots of all pages are one memory
pub record OneMemory (slots : Slots) (page : ℕ → Page) : Type 0 where
  -- what a page's slot holds is what stands at its address
  pub slot : (p a : ℕ) → (page p).entry.address ≡ Some a → slots.dead a ≡ false → (page p).slot ≡ slots.holds a
  -- no two entries share an address that is there
  pub apart : (p q a : ℕ) → (page p).entry.address ≡ Some a → (page q).entry.address ≡ Some a
      → slots.dead a ≡ false → p ≡ q
  -- each page knows which addresses are lost, and its own number
  pub dead : (p : ℕ) → (page p).dead ≡ slots.dead
  pub number : (p : ℕ) → (page p).number ≡ p
