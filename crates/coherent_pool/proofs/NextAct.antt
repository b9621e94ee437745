-- The act of a node's fetch is that of the step at which the node stands.
use Rattle.std.proofs.Common.{◌≡◌, ℕ, Bool, true, false, cond, Option, Some, List, [], ◌∷◌, nat_eq, eqb-true, unwrap_or, refl, sym, subst}
use Rattle.page_image.specs.Image.{Image, unmade}
use Rattle.fetch_steps.specs.Fetch.{HasImageAt}
use Rattle.fetch_steps.specs.declared.place.Place.{Place}
use Rattle.fetch_steps.specs.declared.place.Place.TheVariants.{Write, Clean}
use Rattle.coherent_pool.specs.declared.works.FetchWork.{FetchWork}
use Rattle.local_cache.specs.declared.cache.Cached.{Cached}
use Rattle.coherent_pool.specs.declared.works.Stage.{Stage}
use Rattle.coherent_pool.specs.declared.works.Stage.TheVariants.{Fetching, Held, Releasing, Over, Latching, Invalidating, Installing, Writing, Cleaning, Entering, Freeing}
use Rattle.coherent_pool.specs.Acting.{HasOwnImage}
use Rattle.coherent_pool.specs.Works.{work_at}
use Rattle.coherent_pool.specs.Keeping.{ImageAgrees, StageAgrees, WorkAgrees}

pub page_of_work : (ws : List FetchWork) (p : ℕ) (w : FetchWork) → work_at ws p ≡ Some w → w.step.page ≡ p
page_of_work [] p w h = absurd (cc)
page_of_work (v ∷ ws) p w h = by (nat_eq v.step.page p) refl h (page_of_work ws p w)
  where
    by : (b : Bool) → nat_eq v.step.page p ≡ b → cond b (Some v) (work_at ws p) ≡ Some w → (work_at ws p ≡ Some w → w.step.page ≡ p) → w.step.page ≡ p
    by true e k more = let same : v ≡ w = cc in subst (λ (x : FetchWork). x.step.page ≡ p) same (eqb-true _ _ e)
    by false e k more = more k

own_image : (place : Place) (lsn : ℕ) (image : Option Image) → ImageAgrees place lsn image → HasImageAt place lsn (unwrap_or image (unmade 0))
own_image Write lsn image h = subst (λ (o : Option Image). lsn ≡ (unwrap_or o (unmade 0)).lsn) (sym h.1) h.2
own_image Clean lsn image h = subst (λ (o : Option Image). lsn ≡ (unwrap_or o (unmade 0)).lsn) (sym h.1) h.2
own_image _ lsn image h = tt

pub has_own_image : (writer : Bool) (copy : Option Cached) (bit : Bool) (w : FetchWork) → WorkAgrees writer copy bit (Some w) → HasOwnImage w
has_own_image writer copy bit w h stage = by w.stage stage h.1
  where
    by : (s : Stage) → s ≡ Fetching → StageAgrees s copy bit w.step w.image → HasImageAt w.step.place w.step.lsn (unwrap_or w.image (unmade 0))
    by Fetching e g = own_image w.step.place w.step.lsn w.image g.0
    by Held e g = absurd (cc)
    by Releasing e g = absurd (cc)
    by Over e g = absurd (cc)
    by Latching e g = absurd (cc)
    by Invalidating e g = absurd (cc)
    by Installing e g = absurd (cc)
    by Writing e g = absurd (cc)
    by Cleaning e g = absurd (cc)
    by Entering e g = absurd (cc)
    by Freeing e g = absurd (cc)
