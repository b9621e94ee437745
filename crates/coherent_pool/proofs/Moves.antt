-- What a step makes of what is kept of a page is what the law's node learns.
use Rattle.std.proofs.Common.{◌≡◌, ◌-◌, ℕ, Bool, true, false, Option, Some, None, Ok, Err, nat_eq, refl, sym, ◌∙◌, ap, subst}
use Rattle.rm_base.specs.declared.places.Addr.{Addr}
use Rattle.page_image.specs.Image.{Image}
use Rattle.slab_node.specs.declared.slab.SlabNo.{SlabNo}
use Rattle.message_network.specs.declared.looks.Seen.{Seen}
use Rattle.page_latches.specs.declared.latch.Latch.TheVariants.{Granted}
use Rattle.local_cache.specs.declared.cache.Cached.{Cached}
use Rattle.node_model.specs.Step.{Step, Step.Look as LookStep, Step.Held as HeldStep, wants_s, wants_x, wants_release}
use Rattle.node_model.specs.Call.{Call, is_of_work}
use Rattle.fetch_steps.specs.Fetch.{Fetch}
use Rattle.fetch_steps.specs.declared.acts.Told.{Told}
use Rattle.fetch_steps.specs.declared.acts.Told.TheVariants.{Latch as Tried, Seen as Looked, Slab, Cleaned}
use Rattle.fetch_steps.specs.declared.place.Place.{Place}
use Rattle.fetch_steps.specs.declared.place.Place.TheVariants.{LatchS, Look, Read, ReleaseS, LatchX, LookAgain, BackToS, LookBack, Write, Clean, LastS, ReleaseDown, ReleaseEnd, RwLook, RwRead, RwBack, RwLookBack, RwEnd}
use Rattle.coherent_pool.specs.declared.known.Known.{Known}
use Rattle.coherent_pool.specs.declared.works.FetchWork.{FetchWork}
use Rattle.coherent_pool.specs.declared.works.Stage.{Stage}
use Rattle.coherent_pool.specs.declared.works.Stage.TheVariants.{Fetching, Releasing, Latching, Freeing}
use Rattle.coherent_pool.specs.Node.{PageState, node_of, step_in}
use Rattle.coherent_pool.specs.Keeping.{Agrees, PinsAgree, pins_of, WorkAgrees, StageAgrees}
use Rattle.coherent_pool.specs.Hearing.{heard, looks, reads_slot, writes_slot, cleans_slot, meets_slab}
use Rattle.coherent_pool.specs.Changing.{shared, excluded, told_at, seen_at, read_at, lost_at, released_at}

pub never : false ≡ true → ⊥
never h = cc

nothing_given : {X : Type 0} (v : X) → Some v ≡ None → ⊥
nothing_given v h = cc

used_not : HeldStep ≡ LookStep → ⊥
used_not h = cc

-- a fetch at a place, and what is kept of its page
abbrev pub fetch_at : Fetch → Bool → Place → Fetch
fetch_at f writer place = record f { writer = writer; place = place }

abbrev pub state_of : Known → Bool → Fetch → Bool → Stage → Place → Option Image → Option Cached → Bool → PageState
state_of k leaving f writer stage place image copy bit = record {
  known = record k { bit = bit };
  leaving = leaving;
  copy = copy;
  work = Some (record { step = fetch_at f writer place; stage = stage; image = image });
}

-- a step F is what the law's node learns of what is told, where the step of the page is of kind t
abbrev pub IsMove : (Bool → PageState → PageState) → Told → Image → (Step → Bool) → Type 0
IsMove F told v t =
    (r n : ℕ) (up : Bool) (k : Known) (leaving : Bool) (f : Fetch) (call : Call) (writer : Bool) (stage : Stage) (place : Place) (image : Option Image) (copy : Option Cached) (bit : Bool)
    → nat_eq n r ≡ writer → is_of_work call ≡ false
    → StageAgrees stage copy bit (fetch_at f writer place) image
    → t (step_in (state_of k leaving f writer stage place image copy bit).work Call.Quiet) ≡ true
    → node_of up (F writer (state_of k leaving f writer stage place image copy bit)) call ≡ heard r n told v (node_of up (state_of k leaving f writer stage place image copy bit) call)

abbrev pub IsKept : (Bool → PageState → PageState) → (Step → Bool) → Type 0
IsKept F t =
    (k : Known) (leaving : Bool) (f : Fetch) (writer : Bool) (stage : Stage) (place : Place) (image : Option Image) (copy : Option Cached) (bit : Bool)
    → PinsAgree copy 1
    → StageAgrees stage copy bit (fetch_at f writer place) image
    → t (step_in (state_of k leaving f writer stage place image copy bit).work Call.Quiet) ≡ true
    → Agrees writer (F writer (state_of k leaving f writer stage place image copy bit))

-- the same at any page
pub moves_by : (F : Bool → PageState → PageState) (told : Told) (v : Image) (t : Step → Bool) → IsMove F told v t → t Step.Idle ≡ false
    → (r n : ℕ) (up writer : Bool) (S : PageState) (call : Call) → nat_eq n r ≡ writer → is_of_work call ≡ false → Agrees writer S → t (step_in S.work Call.Quiet) ≡ true
    → node_of up (F writer S) call ≡ heard r n told v (node_of up S call)
moves_by F told v t move idle r n up writer S call e q h s = by S.work h.work s
  where
    by : (w : Option FetchWork) → WorkAgrees writer S.copy S.known.bit w → t (step_in w Call.Quiet) ≡ true
        → let T : PageState = record S { work = w } in node_of up (F writer T) call ≡ heard r n told v (node_of up T call)
    by None g z = absurd (never (sym idle ∙ z))
    by (Some w) g z =
        let T : PageState = record S { work = Some w } in
        subst (λ (b : Bool). node_of up (F b T) call ≡ heard r n told v (node_of up T call)) g.0
        (move r n up S.known S.leaving w.step call w.step.writer w.stage w.step.place w.image S.copy S.known.bit (e ∙ sym g.0) q g.1 z)

pub keeps_by : (F : Bool → PageState → PageState) (t : Step → Bool) → IsKept F t → t Step.Idle ≡ false
    → (writer : Bool) (S : PageState) → Agrees writer S → t (step_in S.work Call.Quiet) ≡ true → Agrees writer (F writer S)
keeps_by F t keep idle writer S h s = by S.work h.pins h.work s
  where
    by : (w : Option FetchWork) → PinsAgree S.copy (pins_of w) → WorkAgrees writer S.copy S.known.bit w → t (step_in w Call.Quiet) ≡ true
        → let T : PageState = record S { work = w } in Agrees writer (F writer T)
    by None p g z = absurd (never (sym idle ∙ z))
    by (Some w) p g z =
        let T : PageState = record S { work = Some w } in
        subst (λ (b : Bool). Agrees b (F b T)) g.0
        (keep S.known S.leaving w.step w.step.writer w.stage w.step.place w.image S.copy S.known.bit p g.1 z)

-- ---------------- S was granted

pub share_moves : (v : Image) → IsMove (λ b. shared) (Tried Granted) v wants_s
share_moves v r n up k leaving f call writer Fetching LatchS (Some w) copy bit e q h s = absurd (nothing_given w h.0)
share_moves v r n up k leaving f call writer Fetching LatchS None None bit e q h s = refl
share_moves v r n up k leaving f call writer Fetching LatchS None (Some c) true e q h s = refl
share_moves v r n up k leaving f call writer Fetching LatchS None (Some c) false e q h s = refl
share_moves v r n up k leaving f call writer Fetching BackToS (Some w) copy bit e q h s = absurd (nothing_given w h.0)
share_moves v r n up k leaving f call writer Fetching BackToS None None bit e q h s = refl
share_moves v r n up k leaving f call writer Fetching BackToS None (Some c) true e q h s = refl
share_moves v r n up k leaving f call writer Fetching BackToS None (Some c) false e q h s = absurd (used_not (h.1 refl))
share_moves v r n up k leaving f call writer Fetching LastS (Some w) copy bit e q h s = refl
share_moves v r n up k leaving f call writer Fetching LastS None copy bit e q h s = absurd (nothing_given h.0.0 (sym h.0.1))
share_moves v r n up k leaving f call writer Fetching _ image copy bit e q h s = absurd (never s)
share_moves v r n up k leaving f call writer _ place image copy bit e q h s = absurd (never s)

pub share_keeps : IsKept (λ b. shared) wants_s
share_keeps k leaving f writer Fetching LatchS (Some w) copy bit p h s = absurd (nothing_given w h.0)
share_keeps k leaving f writer Fetching LatchS None None bit p h s = record { pins = p; work = (refl, (refl, (λ x. refl), h.2)) }
share_keeps k leaving f writer Fetching LatchS None (Some c) true p h s = record { pins = p; work = (refl, (refl, (λ x. refl), h.2)) }
share_keeps k leaving f writer Fetching LatchS None (Some c) false p h s = record { pins = p; work = (refl, refl) }
share_keeps k leaving f writer Fetching BackToS (Some w) copy bit p h s = absurd (nothing_given w h.0)
share_keeps k leaving f writer Fetching BackToS None None bit p h s = record { pins = p; work = (refl, (refl, (λ x. refl), h.2)) }
share_keeps k leaving f writer Fetching BackToS None (Some c) true p h s = record { pins = p; work = (refl, (refl, (λ x. refl), h.2)) }
share_keeps k leaving f writer Fetching BackToS None (Some c) false p h s = absurd (used_not (h.1 refl))
share_keeps k leaving f writer Fetching LastS (Some w) copy bit p h s = record { pins = refl; work = (refl, refl) }
share_keeps k leaving f writer Fetching LastS None copy bit p h s = absurd (nothing_given h.0.0 (sym h.0.1))
share_keeps k leaving f writer Fetching _ image copy bit p h s = absurd (never s)
share_keeps k leaving f writer _ place image copy bit p h s = absurd (never s)

-- ---------------- X was granted

pub exclude_moves : (v : Image) → IsMove (λ b. excluded) (Tried Granted) v wants_x
exclude_moves v r n up k leaving f call writer Latching place image copy bit e q h s = refl
exclude_moves v r n up k leaving f call writer Fetching LatchX image copy bit e q h s = refl
exclude_moves v r n up k leaving f call writer Fetching _ image copy bit e q h s = absurd (never s)
exclude_moves v r n up k leaving f call writer _ place image copy bit e q h s = absurd (never s)

pub exclude_keeps : IsKept (λ b. excluded) wants_x
exclude_keeps k leaving f writer Latching place image copy bit p h s = record { pins = p; work = (refl, h) }
exclude_keeps k leaving f writer Fetching LatchX image copy bit p h s = record { pins = p; work = (refl, h) }
exclude_keeps k leaving f writer Fetching _ image copy bit p h s = absurd (never s)
exclude_keeps k leaving f writer _ place image copy bit p h s = absurd (never s)

-- ---------------- the slot was written

pub write_moves : (v : Image) → IsMove (λ b. told_at (Slab (Ok tt))) (Slab (Ok tt)) v writes_slot
write_moves v r n up k leaving f call writer Fetching Write image copy bit e q h s = refl
write_moves v r n up k leaving f call writer Fetching _ image copy bit e q h s = absurd (never s)
write_moves v r n up k leaving f call writer _ place image copy bit e q h s = absurd (never s)

pub write_keeps : IsKept (λ b. told_at (Slab (Ok tt))) writes_slot
write_keeps k leaving f writer Fetching Write image copy bit p h s = record { pins = p; work = (refl, h) }
write_keeps k leaving f writer Fetching _ image copy bit p h s = absurd (never s)
write_keeps k leaving f writer _ place image copy bit p h s = absurd (never s)

-- ---------------- the slot is clean

pub clean_moves : (v : Image) → IsMove (λ b. told_at (Cleaned true)) (Cleaned true) v cleans_slot
clean_moves v r n up k leaving f call true Fetching Clean image copy bit e q h s = rw e refl
clean_moves v r n up k leaving f call false Fetching Clean image copy bit e q h s = rw e refl
clean_moves v r n up k leaving f call writer Fetching _ image copy bit e q h s = absurd (never s)
clean_moves v r n up k leaving f call writer _ place image copy bit e q h s = absurd (never s)

pub clean_keeps : IsKept (λ b. told_at (Cleaned true)) cleans_slot
clean_keeps k leaving f true Fetching Clean image copy bit p h s = record { pins = p; work = (refl, ((h.0.0, h.0.1), (λ x. absurd (never x)), refl)) }
clean_keeps k leaving f false Fetching Clean image copy bit p h s = record { pins = p; work = (refl, ((h.0.0, h.0.1), (λ x. absurd (never x)), refl)) }
clean_keeps k leaving f writer Fetching _ image copy bit p h s = absurd (never s)
clean_keeps k leaving f writer _ place image copy bit p h s = absurd (never s)

-- ---------------- the slot is lost

pub lose_moves : (why : SlabNo) → (v : Image) → IsMove (λ b. lost_at (Slab (Err why))) (Slab (Err why)) v meets_slab
lose_moves why v r n up k leaving f call writer Fetching Read image copy bit e q h s = refl
lose_moves why v r n up k leaving f call writer Fetching RwRead image copy bit e q h s = refl
lose_moves why v r n up k leaving f call writer Fetching Write image copy bit e q h s = refl
lose_moves why v r n up k leaving f call writer Fetching Clean image copy bit e q h s = refl
lose_moves why v r n up k leaving f call writer Fetching _ image copy bit e q h s = absurd (never s)
lose_moves why v r n up k leaving f call writer _ place image copy bit e q h s = absurd (never s)

pub lose_keeps : (why : SlabNo) → IsKept (λ b. lost_at (Slab (Err why))) meets_slab
lose_keeps why k leaving f writer Fetching Read image copy bit p h s = record { pins = p; work = (refl, (refl, (λ x. absurd (never x)), refl)) }
lose_keeps why k leaving f writer Fetching RwRead image copy bit p h s = record { pins = p; work = (refl, (refl, (λ x. absurd (never x)), refl)) }
lose_keeps why k leaving f writer Fetching Write image copy bit p h s = record { pins = p; work = (refl, (refl, (λ x. absurd (never x)), refl)) }
lose_keeps why k leaving f writer Fetching Clean image copy bit p h s = record { pins = p; work = (refl, (refl, (λ x. absurd (never x)), refl)) }
lose_keeps why k leaving f writer Fetching _ image copy bit p h s = absurd (never s)
lose_keeps why k leaving f writer _ place image copy bit p h s = absurd (never s)

-- ---------------- the entry is gone

pub miss_moves : (v : Image) → IsMove (λ b. lost_at (Cleaned false)) (Cleaned false) v cleans_slot
miss_moves v r n up k leaving f call writer Fetching Clean image copy bit e q h s = refl
miss_moves v r n up k leaving f call writer Fetching _ image copy bit e q h s = absurd (never s)
miss_moves v r n up k leaving f call writer _ place image copy bit e q h s = absurd (never s)

pub miss_keeps : IsKept (λ b. lost_at (Cleaned false)) cleans_slot
miss_keeps k leaving f writer Fetching Clean image copy bit p h s = record { pins = p; work = (refl, (refl, (λ x. absurd (never x)), refl)) }
miss_keeps k leaving f writer Fetching _ image copy bit p h s = absurd (never s)
miss_keeps k leaving f writer _ place image copy bit p h s = absurd (never s)

-- ---------------- the slot was read

pub read_moves : (image_read : Image) → (v : Image) → IsMove (λ b. read_at b image_read) (Slab (Ok tt)) image_read reads_slot
read_moves image_read v r n up k leaving f call false Fetching Read image copy bit e q h s = refl
read_moves image_read v r n up k leaving f call true Fetching Read image copy bit e q h s = absurd (never h.2)
read_moves image_read v r n up k leaving f call true Fetching RwRead image copy bit e q h s = refl
read_moves image_read v r n up k leaving f call false Fetching RwRead image copy bit e q h s = absurd (never h.2)
read_moves image_read v r n up k leaving f call writer Fetching _ image copy bit e q h s = absurd (never s)
read_moves image_read v r n up k leaving f call writer _ place image copy bit e q h s = absurd (never s)

pub read_keeps : (image_read : Image) → IsKept (λ b. read_at b image_read) reads_slot
read_keeps image_read k leaving f false Fetching Read image copy bit p h s = record { pins = refl; work = (refl, (h.0, (λ x. absurd (never x)), refl)) }
read_keeps image_read k leaving f true Fetching Read image copy bit p h s = absurd (never h.2)
read_keeps image_read k leaving f true Fetching RwRead image copy bit p h s = record { pins = refl; work = tt }
read_keeps image_read k leaving f false Fetching RwRead image copy bit p h s = absurd (never h.2)
read_keeps image_read k leaving f writer Fetching _ image copy bit p h s = absurd (never s)
read_keeps image_read k leaving f writer _ place image copy bit p h s = absurd (never s)

-- ---------------- a latch was released

pub release_moves : (v : Image) → IsMove (λ b. released_at) (Tried Granted) v wants_release
release_moves v r n up k leaving f call writer Fetching ReleaseS (Some w) copy bit e q h s = absurd (nothing_given w h.0)
release_moves v r n up k leaving f call writer Fetching ReleaseS None copy bit e q h s = refl
release_moves v r n up k leaving f call writer Fetching ReleaseDown (Some w) copy bit e q h s = absurd (nothing_given w h.0)
release_moves v r n up k leaving f call writer Fetching ReleaseDown None copy bit e q h s = refl
release_moves v r n up k leaving f call writer Fetching RwBack (Some w) copy bit e q h s = absurd (nothing_given w h.0)
release_moves v r n up k leaving f call writer Fetching RwBack None copy bit e q h s = refl
release_moves v r n up k leaving f call writer Fetching RwEnd (Some w) copy bit e q h s = refl
release_moves v r n up k leaving f call writer Fetching RwEnd None copy bit e q h s = absurd (nothing_given h.0.0 (sym h.0.1))
release_moves v r n up k leaving f call writer Fetching ReleaseEnd image copy bit e q h s = absurd (never h.2)
release_moves v r n up k leaving f call writer Releasing place (Some w) copy bit e q h s = absurd (nothing_given w h)
release_moves v r n up k leaving f call writer Releasing place None None bit e q h s = rw q refl
release_moves v r n up k leaving f call writer Releasing place None (Some c) bit e q h s = rw q refl
release_moves v r n up k leaving f call writer Freeing place (Some w) copy bit e q h s = absurd (nothing_given w h.0)
release_moves v r n up k leaving f call writer Freeing place None None bit e q h s = refl
release_moves v r n up k leaving f call writer Freeing place None (Some c) bit e q h s = refl
release_moves v r n up k leaving f call writer Fetching _ image copy bit e q h s = absurd (never s)
release_moves v r n up k leaving f call writer _ place image copy bit e q h s = absurd (never s)

pub release_keeps : IsKept (λ b. released_at) wants_release
release_keeps k leaving f writer Fetching ReleaseS (Some w) copy bit p h s = absurd (nothing_given w h.0)
release_keeps k leaving f writer Fetching ReleaseS None copy bit p h s = record { pins = p; work = (refl, (refl, h.1, refl)) }
release_keeps k leaving f writer Fetching ReleaseDown (Some w) copy bit p h s = absurd (nothing_given w h.0)
release_keeps k leaving f writer Fetching ReleaseDown None copy bit p h s = record { pins = p; work = (refl, (refl, (λ x. absurd (never x)), refl)) }
release_keeps k leaving f writer Fetching RwBack (Some w) copy bit p h s = absurd (nothing_given w h.0)
release_keeps k leaving f writer Fetching RwBack None copy bit p h s = record { pins = p; work = (refl, (refl, h.1, h.2)) }
release_keeps k leaving f writer Fetching RwEnd (Some w) copy bit p h s = record { pins = refl; work = tt }
release_keeps k leaving f writer Fetching RwEnd None copy bit p h s = absurd (nothing_given h.0.0 (sym h.0.1))
release_keeps k leaving f writer Fetching ReleaseEnd image copy bit p h s = absurd (never h.2)
release_keeps k leaving f writer Releasing place (Some w) copy bit p h s = absurd (nothing_given w h)
release_keeps k leaving f writer Releasing place None None bit p h s = record { pins = tt; work = tt }
release_keeps k leaving f writer Releasing place None (Some c) bit p h s = record { pins = ap (λ (m : ℕ). m - 1) p; work = tt }
release_keeps k leaving f writer Freeing place (Some w) copy bit p h s = absurd (nothing_given w h.0)
release_keeps k leaving f writer Freeing place None None bit p h s = record { pins = tt; work = tt }
release_keeps k leaving f writer Freeing place None (Some c) bit p h s = record { pins = ap (λ (m : ℕ). m - 1) p; work = tt }
release_keeps k leaving f writer Fetching _ image copy bit p h s = absurd (never s)
release_keeps k leaving f writer _ place image copy bit p h s = absurd (never s)

-- ---------------- the entry was seen: look_none

pub look_none_moves : (v : Image) → IsMove (λ b. seen_at b None) (Looked None) v looks
look_none_moves v r n up k leaving f call true Fetching Look image copy bit e q h s = absurd (never h.2)
look_none_moves v r n up k leaving f call false Fetching Look image copy bit e q h s = refl
look_none_moves v r n up k leaving f call true Fetching LookBack image copy bit e q h s = absurd (never h.2)
look_none_moves v r n up k leaving f call false Fetching LookBack image copy bit e q h s = refl
look_none_moves v r n up k leaving f call false Fetching RwLook image copy bit e q h s = absurd (never h.2)
look_none_moves v r n up k leaving f call true Fetching RwLook image copy bit e q h s = refl
look_none_moves v r n up k leaving f call false Fetching RwLookBack image copy bit e q h s = absurd (never h.2)
look_none_moves v r n up k leaving f call true Fetching RwLookBack image copy bit e q h s = refl
look_none_moves v r n up k leaving f call true Fetching LookAgain image copy bit e q h s = refl
look_none_moves v r n up k leaving f call false Fetching LookAgain image copy bit e q h s = refl
look_none_moves v r n up k leaving f call writer Fetching _ image copy bit e q h s = absurd (never s)
look_none_moves v r n up k leaving f call writer _ place image copy bit e q h s = absurd (never s)

pub look_none_keeps : IsKept (λ b. seen_at b None) looks
look_none_keeps k leaving f true Fetching Look image copy bit p h s = absurd (never h.2)
look_none_keeps k leaving f false Fetching Look image copy bit p h s = record { pins = p; work = (refl, (h.0, h.1, refl)) }
look_none_keeps k leaving f true Fetching LookBack image copy bit p h s = absurd (never h.2)
look_none_keeps k leaving f false Fetching LookBack image copy bit p h s = record { pins = p; work = (refl, (h.0, h.1, refl)) }
look_none_keeps k leaving f false Fetching RwLook image copy bit p h s = absurd (never h.2)
look_none_keeps k leaving f true Fetching RwLook image copy bit p h s = record { pins = p; work = (refl, (h.0, h.1, refl)) }
look_none_keeps k leaving f false Fetching RwLookBack image copy bit p h s = absurd (never h.2)
look_none_keeps k leaving f true Fetching RwLookBack image copy bit p h s = record { pins = p; work = (refl, (h.0, h.1, refl)) }
look_none_keeps k leaving f true Fetching LookAgain image copy bit p h s = record { pins = p; work = (refl, (h.0, (λ x. absurd (never x)), refl)) }
look_none_keeps k leaving f false Fetching LookAgain image copy bit p h s = record { pins = p; work = (refl, (h.0, (λ x. absurd (never x)), refl)) }
look_none_keeps k leaving f writer Fetching _ image copy bit p h s = absurd (never s)
look_none_keeps k leaving f writer _ place image copy bit p h s = absurd (never s)

-- ---------------- the entry was seen: look_away

pub look_away_moves : (seen_lsn floor : ℕ) → (v : Image) → IsMove (λ b. seen_at b (Some (record { addr = None; bit = true; lsn = seen_lsn; floor = floor }))) (Looked (Some (record { addr = None; bit = true; lsn = seen_lsn; floor = floor }))) v looks
look_away_moves seen_lsn floor v r n up k leaving f call true Fetching Look image copy bit e q h s = absurd (never h.2)
look_away_moves seen_lsn floor v r n up k leaving f call false Fetching Look image copy bit e q h s = refl
look_away_moves seen_lsn floor v r n up k leaving f call true Fetching LookBack image copy bit e q h s = absurd (never h.2)
look_away_moves seen_lsn floor v r n up k leaving f call false Fetching LookBack image copy bit e q h s = refl
look_away_moves seen_lsn floor v r n up k leaving f call false Fetching RwLook image copy bit e q h s = absurd (never h.2)
look_away_moves seen_lsn floor v r n up k leaving f call true Fetching RwLook image copy bit e q h s = refl
look_away_moves seen_lsn floor v r n up k leaving f call false Fetching RwLookBack image copy bit e q h s = absurd (never h.2)
look_away_moves seen_lsn floor v r n up k leaving f call true Fetching RwLookBack image copy bit e q h s = refl
look_away_moves seen_lsn floor v r n up k leaving f call true Fetching LookAgain image copy bit e q h s = refl
look_away_moves seen_lsn floor v r n up k leaving f call false Fetching LookAgain image copy bit e q h s = refl
look_away_moves seen_lsn floor v r n up k leaving f call writer Fetching _ image copy bit e q h s = absurd (never s)
look_away_moves seen_lsn floor v r n up k leaving f call writer _ place image copy bit e q h s = absurd (never s)

pub look_away_keeps : (seen_lsn floor : ℕ) → IsKept (λ b. seen_at b (Some (record { addr = None; bit = true; lsn = seen_lsn; floor = floor }))) looks
look_away_keeps seen_lsn floor k leaving f true Fetching Look image copy bit p h s = absurd (never h.2)
look_away_keeps seen_lsn floor k leaving f false Fetching Look image copy bit p h s = record { pins = p; work = (refl, (h.0, h.1, refl)) }
look_away_keeps seen_lsn floor k leaving f true Fetching LookBack image copy bit p h s = absurd (never h.2)
look_away_keeps seen_lsn floor k leaving f false Fetching LookBack image copy bit p h s = record { pins = p; work = (refl, (h.0, h.1, refl)) }
look_away_keeps seen_lsn floor k leaving f false Fetching RwLook image copy bit p h s = absurd (never h.2)
look_away_keeps seen_lsn floor k leaving f true Fetching RwLook image copy bit p h s = record { pins = p; work = (refl, (h.0, h.1, refl)) }
look_away_keeps seen_lsn floor k leaving f false Fetching RwLookBack image copy bit p h s = absurd (never h.2)
look_away_keeps seen_lsn floor k leaving f true Fetching RwLookBack image copy bit p h s = record { pins = p; work = (refl, (h.0, h.1, refl)) }
look_away_keeps seen_lsn floor k leaving f true Fetching LookAgain image copy bit p h s = record { pins = p; work = (refl, (h.0, (λ x. absurd (never x)), refl)) }
look_away_keeps seen_lsn floor k leaving f false Fetching LookAgain image copy bit p h s = record { pins = p; work = (refl, (h.0, (λ x. absurd (never x)), refl)) }
look_away_keeps seen_lsn floor k leaving f writer Fetching _ image copy bit p h s = absurd (never s)
look_away_keeps seen_lsn floor k leaving f writer _ place image copy bit p h s = absurd (never s)

-- ---------------- the entry was seen: look_away_clean

pub look_away_clean_moves : (seen_lsn floor : ℕ) → (v : Image) → IsMove (λ b. seen_at b (Some (record { addr = None; bit = false; lsn = seen_lsn; floor = floor }))) (Looked (Some (record { addr = None; bit = false; lsn = seen_lsn; floor = floor }))) v looks
look_away_clean_moves seen_lsn floor v r n up k leaving f call true Fetching Look image copy bit e q h s = absurd (never h.2)
look_away_clean_moves seen_lsn floor v r n up k leaving f call false Fetching Look image copy bit e q h s = refl
look_away_clean_moves seen_lsn floor v r n up k leaving f call true Fetching LookBack image copy bit e q h s = absurd (never h.2)
look_away_clean_moves seen_lsn floor v r n up k leaving f call false Fetching LookBack image copy bit e q h s = refl
look_away_clean_moves seen_lsn floor v r n up k leaving f call false Fetching RwLook image copy bit e q h s = absurd (never h.2)
look_away_clean_moves seen_lsn floor v r n up k leaving f call true Fetching RwLook image copy bit e q h s = refl
look_away_clean_moves seen_lsn floor v r n up k leaving f call false Fetching RwLookBack image copy bit e q h s = absurd (never h.2)
look_away_clean_moves seen_lsn floor v r n up k leaving f call true Fetching RwLookBack image copy bit e q h s = refl
look_away_clean_moves seen_lsn floor v r n up k leaving f call true Fetching LookAgain image copy bit e q h s = refl
look_away_clean_moves seen_lsn floor v r n up k leaving f call false Fetching LookAgain image copy bit e q h s = refl
look_away_clean_moves seen_lsn floor v r n up k leaving f call writer Fetching _ image copy bit e q h s = absurd (never s)
look_away_clean_moves seen_lsn floor v r n up k leaving f call writer _ place image copy bit e q h s = absurd (never s)

pub look_away_clean_keeps : (seen_lsn floor : ℕ) → IsKept (λ b. seen_at b (Some (record { addr = None; bit = false; lsn = seen_lsn; floor = floor }))) looks
look_away_clean_keeps seen_lsn floor k leaving f true Fetching Look image copy bit p h s = absurd (never h.2)
look_away_clean_keeps seen_lsn floor k leaving f false Fetching Look image copy bit p h s = record { pins = p; work = (refl, (h.0, (λ x. absurd (never x)), refl)) }
look_away_clean_keeps seen_lsn floor k leaving f true Fetching LookBack image copy bit p h s = absurd (never h.2)
look_away_clean_keeps seen_lsn floor k leaving f false Fetching LookBack image copy bit p h s = record { pins = p; work = (refl, (h.0, (λ x. absurd (never x)), refl)) }
look_away_clean_keeps seen_lsn floor k leaving f false Fetching RwLook image copy bit p h s = absurd (never h.2)
look_away_clean_keeps seen_lsn floor k leaving f true Fetching RwLook image copy bit p h s = record { pins = p; work = (refl, (h.0, (λ x. absurd (never x)), refl)) }
look_away_clean_keeps seen_lsn floor k leaving f false Fetching RwLookBack image copy bit p h s = absurd (never h.2)
look_away_clean_keeps seen_lsn floor k leaving f true Fetching RwLookBack image copy bit p h s = record { pins = p; work = (refl, (h.0, (λ x. absurd (never x)), refl)) }
look_away_clean_keeps seen_lsn floor k leaving f true Fetching LookAgain image copy bit p h s = record { pins = p; work = (refl, (h.0, (λ x. absurd (never x)), refl)) }
look_away_clean_keeps seen_lsn floor k leaving f false Fetching LookAgain image copy bit p h s = record { pins = p; work = (refl, (h.0, (λ x. absurd (never x)), refl)) }
look_away_clean_keeps seen_lsn floor k leaving f writer Fetching _ image copy bit p h s = absurd (never s)
look_away_clean_keeps seen_lsn floor k leaving f writer _ place image copy bit p h s = absurd (never s)

-- ---------------- the entry was seen: look_dirty

pub look_dirty_moves : (a : Addr) (seen_lsn floor : ℕ) → (v : Image) → IsMove (λ b. seen_at b (Some (record { addr = (Some a); bit = true; lsn = seen_lsn; floor = floor }))) (Looked (Some (record { addr = (Some a); bit = true; lsn = seen_lsn; floor = floor }))) v looks
look_dirty_moves a seen_lsn floor v r n up k leaving f call true Fetching Look image copy bit e q h s = absurd (never h.2)
look_dirty_moves a seen_lsn floor v r n up k leaving f call false Fetching Look image copy bit e q h s = refl
look_dirty_moves a seen_lsn floor v r n up k leaving f call true Fetching LookBack image copy bit e q h s = absurd (never h.2)
look_dirty_moves a seen_lsn floor v r n up k leaving f call false Fetching LookBack image copy bit e q h s = refl
look_dirty_moves a seen_lsn floor v r n up k leaving f call false Fetching RwLook image copy bit e q h s = absurd (never h.2)
look_dirty_moves a seen_lsn floor v r n up k leaving f call true Fetching RwLook image copy bit e q h s = refl
look_dirty_moves a seen_lsn floor v r n up k leaving f call false Fetching RwLookBack image copy bit e q h s = absurd (never h.2)
look_dirty_moves a seen_lsn floor v r n up k leaving f call true Fetching RwLookBack image copy bit e q h s = refl
look_dirty_moves a seen_lsn floor v r n up k leaving f call true Fetching LookAgain image copy bit e q h s = refl
look_dirty_moves a seen_lsn floor v r n up k leaving f call false Fetching LookAgain image copy bit e q h s = refl
look_dirty_moves a seen_lsn floor v r n up k leaving f call writer Fetching _ image copy bit e q h s = absurd (never s)
look_dirty_moves a seen_lsn floor v r n up k leaving f call writer _ place image copy bit e q h s = absurd (never s)

pub look_dirty_keeps : (a : Addr) (seen_lsn floor : ℕ) → IsKept (λ b. seen_at b (Some (record { addr = (Some a); bit = true; lsn = seen_lsn; floor = floor }))) looks
look_dirty_keeps a seen_lsn floor k leaving f true Fetching Look image copy bit p h s = absurd (never h.2)
look_dirty_keeps a seen_lsn floor k leaving f false Fetching Look image copy bit p h s = record { pins = p; work = (refl, (h.0, h.1, refl)) }
look_dirty_keeps a seen_lsn floor k leaving f true Fetching LookBack image copy bit p h s = absurd (never h.2)
look_dirty_keeps a seen_lsn floor k leaving f false Fetching LookBack image copy bit p h s = record { pins = p; work = (refl, (h.0, h.1, refl)) }
look_dirty_keeps a seen_lsn floor k leaving f false Fetching RwLook image copy bit p h s = absurd (never h.2)
look_dirty_keeps a seen_lsn floor k leaving f true Fetching RwLook image copy bit p h s = record { pins = p; work = (refl, (h.0, h.1, refl)) }
look_dirty_keeps a seen_lsn floor k leaving f false Fetching RwLookBack image copy bit p h s = absurd (never h.2)
look_dirty_keeps a seen_lsn floor k leaving f true Fetching RwLookBack image copy bit p h s = record { pins = p; work = (refl, (h.0, h.1, refl)) }
look_dirty_keeps a seen_lsn floor k leaving f true Fetching LookAgain image copy bit p h s = record { pins = p; work = (refl, (h.0, (λ x. absurd (never x)), refl)) }
look_dirty_keeps a seen_lsn floor k leaving f false Fetching LookAgain image copy bit p h s = record { pins = p; work = (refl, (h.0, (λ x. absurd (never x)), refl)) }
look_dirty_keeps a seen_lsn floor k leaving f writer Fetching _ image copy bit p h s = absurd (never s)
look_dirty_keeps a seen_lsn floor k leaving f writer _ place image copy bit p h s = absurd (never s)

-- ---------------- the entry was seen: look_clean

pub look_clean_moves : (a : Addr) (seen_lsn floor : ℕ) → (v : Image) → IsMove (λ b. seen_at b (Some (record { addr = (Some a); bit = false; lsn = seen_lsn; floor = floor }))) (Looked (Some (record { addr = (Some a); bit = false; lsn = seen_lsn; floor = floor }))) v looks
look_clean_moves a seen_lsn floor v r n up k leaving f call true Fetching Look image copy bit e q h s = absurd (never h.2)
look_clean_moves a seen_lsn floor v r n up k leaving f call false Fetching Look image copy bit e q h s = refl
look_clean_moves a seen_lsn floor v r n up k leaving f call true Fetching LookBack image copy bit e q h s = absurd (never h.2)
look_clean_moves a seen_lsn floor v r n up k leaving f call false Fetching LookBack image copy bit e q h s = refl
look_clean_moves a seen_lsn floor v r n up k leaving f call false Fetching RwLook image copy bit e q h s = absurd (never h.2)
look_clean_moves a seen_lsn floor v r n up k leaving f call true Fetching RwLook image copy bit e q h s = refl
look_clean_moves a seen_lsn floor v r n up k leaving f call false Fetching RwLookBack image copy bit e q h s = absurd (never h.2)
look_clean_moves a seen_lsn floor v r n up k leaving f call true Fetching RwLookBack image copy bit e q h s = refl
look_clean_moves a seen_lsn floor v r n up k leaving f call true Fetching LookAgain image copy bit e q h s = rw e refl
look_clean_moves a seen_lsn floor v r n up k leaving f call false Fetching LookAgain image copy bit e q h s = rw e refl
look_clean_moves a seen_lsn floor v r n up k leaving f call writer Fetching _ image copy bit e q h s = absurd (never s)
look_clean_moves a seen_lsn floor v r n up k leaving f call writer _ place image copy bit e q h s = absurd (never s)

pub look_clean_keeps : (a : Addr) (seen_lsn floor : ℕ) → IsKept (λ b. seen_at b (Some (record { addr = (Some a); bit = false; lsn = seen_lsn; floor = floor }))) looks
look_clean_keeps a seen_lsn floor k leaving f true Fetching Look image copy bit p h s = absurd (never h.2)
look_clean_keeps a seen_lsn floor k leaving f false Fetching Look image copy bit p h s = record { pins = p; work = (refl, (h.0, (λ x. absurd (never x)), refl)) }
look_clean_keeps a seen_lsn floor k leaving f true Fetching LookBack image copy bit p h s = absurd (never h.2)
look_clean_keeps a seen_lsn floor k leaving f false Fetching LookBack image copy bit p h s = record { pins = p; work = (refl, (h.0, (λ x. absurd (never x)), refl)) }
look_clean_keeps a seen_lsn floor k leaving f false Fetching RwLook image copy bit p h s = absurd (never h.2)
look_clean_keeps a seen_lsn floor k leaving f true Fetching RwLook image copy bit p h s = record { pins = p; work = (refl, (h.0, (λ x. absurd (never x)), refl)) }
look_clean_keeps a seen_lsn floor k leaving f false Fetching RwLookBack image copy bit p h s = absurd (never h.2)
look_clean_keeps a seen_lsn floor k leaving f true Fetching RwLookBack image copy bit p h s = record { pins = p; work = (refl, (h.0, (λ x. absurd (never x)), refl)) }
look_clean_keeps a seen_lsn floor k leaving f true Fetching LookAgain image copy bit p h s = record { pins = p; work = (refl, (h.0, h.1, refl)) }
look_clean_keeps a seen_lsn floor k leaving f false Fetching LookAgain image copy bit p h s = record { pins = p; work = (refl, (h.0, h.1, refl)) }
look_clean_keeps a seen_lsn floor k leaving f writer Fetching _ image copy bit p h s = absurd (never s)
look_clean_keeps a seen_lsn floor k leaving f writer _ place image copy bit p h s = absurd (never s)

pub look_moves : (seen : Option Seen) (v : Image) → IsMove (λ b. seen_at b seen) (Looked seen) v looks
look_moves None v = look_none_moves v
look_moves (Some s) v = by s.addr s.bit
  where
    by : (o : Option Addr) (b : Bool) → IsMove (λ c. seen_at c (Some (record { addr = o; bit = b; lsn = s.lsn; floor = s.floor }))) (Looked (Some (record { addr = o; bit = b; lsn = s.lsn; floor = s.floor }))) v looks
    by None true = look_away_moves s.lsn s.floor v
    by None false = look_away_clean_moves s.lsn s.floor v
    by (Some a) true = look_dirty_moves a s.lsn s.floor v
    by (Some a) false = look_clean_moves a s.lsn s.floor v

pub look_keeps : (seen : Option Seen) → IsKept (λ b. seen_at b seen) looks
look_keeps None = look_none_keeps
look_keeps (Some s) = by s.addr s.bit
  where
    by : (o : Option Addr) (b : Bool) → IsKept (λ c. seen_at c (Some (record { addr = o; bit = b; lsn = s.lsn; floor = s.floor }))) looks
    by None true = look_away_keeps s.lsn s.floor
    by None false = look_away_clean_keeps s.lsn s.floor
    by (Some a) true = look_dirty_keeps a s.lsn s.floor
    by (Some a) false = look_clean_keeps a s.lsn s.floor
