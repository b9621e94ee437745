-- The act of a page that is fetched is that of its fetch.
use Rattle.std.proofs.Common.{◌≡◌, ℕ, Bool, true, false, Option, Some, None, List, refl, sym, ◌∙◌}
use Rattle.rm_base.specs.declared.places.Addr.{Addr}
use Rattle.page_image.specs.Image.{Image, unmade}
use Rattle.node_model.specs.Call.{Call.Quiet}
use Rattle.fetch_steps.specs.declared.place.Place.{Place}
use Rattle.fetch_steps.specs.declared.place.Place.TheVariants.{Read, Write, Clean, ReleaseEnd, Done, RwRead}
use Rattle.fetch_steps.specs.declared.acts.Action.{Action}
use Rattle.fetch_steps.specs.declared.acts.Action.TheVariants.{Install}
use Rattle.fetch_steps.specs.Fetch.{Fetch, step_at, step_of, HasImage, HasImageAt}
use Rattle.fetch_steps.specs.Acts.{act_of}
use Rattle.mini_transactions.specs.Progress.{plan_act}

pub act_of_fetch : (pages : List ℕ) (lsn page : ℕ) (address : Option Addr) (place : Place) (l : ℕ) (v : Image) (waits : Bool) → plan_act pages lsn page address (step_at place l v waits) ≡ act_of page address (step_at place l v waits)
act_of_fetch pages lsn page address ReleaseEnd l v true = refl
act_of_fetch pages lsn page address ReleaseEnd l v false = refl
act_of_fetch pages lsn page address Done l v true = refl
act_of_fetch pages lsn page address Done l v false = refl
act_of_fetch pages lsn page address place l v waits = refl

-- an image with the LSN that the home will be told
abbrev pub image_for : Fetch → Image
image_for f = record (unmade 0) { lsn = f.lsn }

pub has_image : (f : Fetch) → HasImage f (image_for f)
has_image f = go f.place
  where
    go : (place : Place) → HasImageAt place f.lsn (image_for f)
    go Write = refl
    go Clean = refl
    go place = tt

-- no fetch asks for an install
by_place : (page : ℕ) (address : Option Addr) (place : Place) (l : ℕ) (v : Image) → act_of page address (step_at place l v false) ≡ Install → ⊥
by_place page None Read l v e = cc
by_place page (Some a) Read l v e = cc
by_place page None RwRead l v e = cc
by_place page (Some a) RwRead l v e = cc
by_place page None Write l v e = cc
by_place page (Some a) Write l v e = cc
by_place page address place l v e = cc

pub never_install : (f : Fetch) (act : Action) → ((v : Image) → HasImage f v → act ≡ act_of f.page f.address (step_of f v Quiet)) → act ≡ Install → ⊥
never_install f act is e = by_place f.page f.address f.place f.lsn (image_for f) (sym (is (image_for f) (has_image f)) ∙ e)
