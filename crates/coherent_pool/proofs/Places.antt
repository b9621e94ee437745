-- A fetch's next act tells where it stands.
use Rattle.std.proofs.Common.{◌≡◌, ℕ, Bool, true, false, Option, Some, None, IsSome, is_some, not, ◌&&◌, refl, ◌∙◌, ap}
use Rattle.rm_base.specs.declared.places.Addr.{Addr}
use Rattle.page_image.specs.Image.{Image, unmade}
use Rattle.node_model.specs.Call.{Call}
use Rattle.fetch_steps.specs.Fetch.{Fetch, step_at, step_of, HasImageAt, HasImage, IsPlaced, needs_address, may_hold_at, may_hold}
use Rattle.fetch_steps.specs.Acts.{act_of}
use Rattle.fetch_steps.specs.declared.place.Place.{Place}
use Rattle.fetch_steps.specs.declared.place.Place.TheVariants.{Register, Read, Write, Clean, RwRead}
use Rattle.fetch_steps.specs.declared.acts.Action.{Action}
use Rattle.coherent_pool.specs.Standing.{is_register, is_read, is_done, asks_register, asks_read, asks_nothing}

-- an image with the LSN that the home is told
pub some_image : ℕ → Image
some_image lsn = record (unmade 0) { lsn = lsn }

pub has_image : (place : Place) (lsn : ℕ) → HasImageAt place lsn (some_image lsn)
unfolding some_image
has_image Write lsn = refl
has_image Clean lsn = refl
has_image _ lsn = tt

registers_at : (place : Place) (page lsn : ℕ) (address : Option Addr) (v : Image) → (needs_address place ≡ true → IsSome address) → asks_register (act_of page address (step_at place lsn v false)) ≡ is_register place
registers_at Read page lsn None v h = absurd (let e : is_some (let o : Option Addr = None in o) ≡ true = h refl in cc)
registers_at Write page lsn None v h = absurd (let e : is_some (let o : Option Addr = None in o) ≡ true = h refl in cc)
registers_at RwRead page lsn None v h = absurd (let e : is_some (let o : Option Addr = None in o) ≡ true = h refl in cc)
registers_at Read page lsn (Some a) v h = refl
registers_at Write page lsn (Some a) v h = refl
registers_at RwRead page lsn (Some a) v h = refl
registers_at Register page lsn a v h = refl
registers_at _ page lsn a v h = refl

reads_at : (place : Place) (page lsn : ℕ) (address : Option Addr) (v : Image) → (needs_address place ≡ true → IsSome address) → asks_read (act_of page address (step_at place lsn v false)) ≡ is_read place
reads_at Read page lsn None v h = absurd (let e : is_some (let o : Option Addr = None in o) ≡ true = h refl in cc)
reads_at Write page lsn None v h = absurd (let e : is_some (let o : Option Addr = None in o) ≡ true = h refl in cc)
reads_at RwRead page lsn None v h = absurd (let e : is_some (let o : Option Addr = None in o) ≡ true = h refl in cc)
reads_at Read page lsn (Some a) v h = refl
reads_at Write page lsn (Some a) v h = refl
reads_at RwRead page lsn (Some a) v h = refl
reads_at _ page lsn a v h = refl

done_at : (place : Place) (unheard : Bool) (page lsn : ℕ) (address : Option Addr) (v : Image) → (needs_address place ≡ true → IsSome address) → (asks_nothing (act_of page address (step_at place lsn v false)) && not (may_hold_at place unheard)) ≡ is_done place
done_at Read unheard page lsn None v h = absurd (let e : is_some (let o : Option Addr = None in o) ≡ true = h refl in cc)
done_at Write unheard page lsn None v h = absurd (let e : is_some (let o : Option Addr = None in o) ≡ true = h refl in cc)
done_at RwRead unheard page lsn None v h = absurd (let e : is_some (let o : Option Addr = None in o) ≡ true = h refl in cc)
done_at Read unheard page lsn (Some a) v h = refl
done_at Write unheard page lsn (Some a) v h = refl
done_at RwRead unheard page lsn (Some a) v h = refl
done_at _ unheard page lsn a v h = refl

pub registers_by : (f : Fetch) (act : Action) → ((v : Image) → HasImage f v → act ≡ act_of f.page f.address (step_of f v Call.Quiet)) → IsPlaced f.place f.address → asks_register act ≡ is_register f.place
registers_by f act h placed = ap asks_register (h (some_image f.lsn) (has_image f.place f.lsn)) ∙ registers_at f.place f.page f.lsn f.address (some_image f.lsn) placed

pub reads_by : (f : Fetch) (act : Action) → ((v : Image) → HasImage f v → act ≡ act_of f.page f.address (step_of f v Call.Quiet)) → IsPlaced f.place f.address → asks_read act ≡ is_read f.place
reads_by f act h placed = ap asks_read (h (some_image f.lsn) (has_image f.place f.lsn)) ∙ reads_at f.place f.page f.lsn f.address (some_image f.lsn) placed

pub done_by : (f : Fetch) (act : Action) → ((v : Image) → HasImage f v → act ≡ act_of f.page f.address (step_of f v Call.Quiet)) → IsPlaced f.place f.address → (asks_nothing act && not (may_hold f)) ≡ is_done f.place
done_by f act h placed = ap (λ (a : Action). asks_nothing a && not (may_hold f)) (h (some_image f.lsn) (has_image f.place f.lsn)) ∙ done_at f.place f.unheard f.page f.lsn f.address (some_image f.lsn) placed
