-- The image that is written is the one that storage gave.
use Rattle.std.proofs.Common.{◌≡◌, ℕ, Bool, true, false, Option, Some, None, Ok, Err, refl, subst, sym, if◌then◌else◌}
use Rattle.rm_base.specs.declared.places.Addr.{Addr}
use Rattle.page_image.specs.Image.{Image}
use Rattle.page_latches.specs.declared.latch.Latch.TheVariants.{Granted, Busy}
use Rattle.message_model.specs.declared.Got.TheVariants.{Image as Given, NotYet}
use Rattle.message_network.specs.declared.calls.Reply.TheVariants.{Registered, PoolFull, Unregistered, Started, Done as DoneReply, Appended, Got as GotReply, Fenced}
use Rattle.fetch_steps.specs.declared.place.Place.{Place}
use Rattle.fetch_steps.specs.declared.place.Place.TheVariants.{Register, LatchS, Look, Read, ReleaseS, LatchX, LookAgain, BackToS, LookBack, Get, Write, Clean, LastS, ReleaseDown, RwLook, RwRead, RwBack, RwLookBack, RwEnd}
use Rattle.message_network.specs.declared.looks.Seen.{Seen}
use Rattle.fetch_steps.specs.declared.acts.Told.{Told}
use Rattle.fetch_steps.specs.declared.acts.Told.TheVariants.{Answer, Latch as Tried, Seen as Looked, Slab, Cleaned, Installed, NoAnswer}
use Rattle.fetch_steps.specs.Fetch.{Fetch, HasImageAt, HasImage}
use Rattle.fetch_steps.specs.Telling.{shown, image_in, image_at, image_after}
use Rattle.fetch_steps.specs.Places.{place_granted, place_under_x, place_seen, lsn_seen, place_moved, place_lost, place_cleaned, place_registered, place_loaded, lsn_loaded, after}

-- the image that is written is the one that storage gave
either : (b : Bool) (p q : Place) (l : ℕ) (v : Image) → HasImageAt p l v → HasImageAt q l v → HasImageAt (if b then p else q) l v
either true p q l v h k = h
either false p q l v h k = k

granted_image : (place : Place) (l : ℕ) (v : Image) → HasImageAt place l v → HasImageAt (place_granted place) l v
granted_image Write l v h = h
granted_image Clean l v h = h
granted_image _ l v h = tt

under_x_image : (writer bit : Bool) (b : Option Addr) (l : ℕ) (v : Image) → HasImageAt (place_under_x writer bit b) l v
under_x_image writer bit None l v = tt
under_x_image writer bit (Some b) l v = either bit Get (if writer then RwBack else BackToS) l v tt (either writer RwBack BackToS l v tt tt)

seen_image : (writer : Bool) (seen : Seen) (place : Place) (l : ℕ) (v : Image) → HasImageAt place l v → HasImageAt (place_seen writer seen place) (lsn_seen seen place l) v
seen_image writer seen Look l v h = either seen.bit ReleaseS Read l v tt tt
seen_image writer seen LookAgain l v h = under_x_image writer seen.bit seen.addr seen.floor v
seen_image writer seen LookBack l v h = either seen.bit ReleaseS Read l v tt tt
seen_image writer seen Write l v h = h
seen_image writer seen Clean l v h = h
seen_image writer seen RwLook l v h = either seen.bit LatchX RwRead l v tt tt
seen_image writer seen RwLookBack l v h = either seen.bit LatchX RwRead l v tt tt
seen_image writer seen _ l v h = tt

moved_image : (place : Place) (l : ℕ) (v : Image) → HasImageAt place l v → HasImageAt (place_moved place) l v
moved_image Write l v h = h
moved_image Clean l v h = h
moved_image _ l v h = tt

lost_image : (place : Place) (l : ℕ) (v : Image) → HasImageAt place l v → HasImageAt (place_lost place) l v
lost_image Register l v h = tt
lost_image _ l v h = tt

cleaned_image : (writer there : Bool) (place : Place) (l : ℕ) (v : Image) → HasImageAt place l v → HasImageAt (place_cleaned writer there place) l v
cleaned_image writer there Write l v h = h
cleaned_image writer there Clean l v h = either there (if writer then RwEnd else LastS) ReleaseDown l v (either writer RwEnd LastS l v tt tt) tt
cleaned_image writer there _ l v h = tt

registered_image : (writer : Bool) (place : Place) (l : ℕ) (v : Image) → HasImageAt place l v → HasImageAt (place_registered writer place) l v
registered_image writer Register l v h = either writer RwLook LatchS l v tt tt
registered_image writer Write l v h = h
registered_image writer Clean l v h = h
registered_image writer _ l v h = tt

loaded_image : (w : Image) (place : Place) (l : ℕ) (v : Image) → HasImageAt place l v → HasImageAt (place_loaded place) (lsn_loaded w.lsn place l) (image_at place (Answer (GotReply (Given w))) v)
loaded_image w Get l v h = refl
loaded_image w Write l v h = h
loaded_image w Clean l v h = h
loaded_image w _ l v h = tt

same_image : (place : Place) (told : Told) (v : Image) → image_in told v ≡ v → image_at place told v ≡ v
same_image Get told v e = e
same_image _ told v e = refl

keeps_image : (f : Fetch) (told : Told) (v : Image) → image_in told v ≡ v → HasImage (after f told) v → HasImage (after f told) (image_after f told v)
keeps_image f told v e h = let A : Image → Type 0 = λ w. HasImage (after f told) w in subst A (sym (same_image f.place told v e)) h

pub image_kept : (f : Fetch) (told : Told) (v : Image) → HasImage f v → HasImage (after f told) (image_after f told v)
image_kept f (Answer (Registered a bit floor)) v h = keeps_image f (Answer (Registered a bit floor)) v refl (registered_image f.writer f.place f.lsn v h)
image_kept f (Answer (PoolFull slots)) v h = keeps_image f (Answer (PoolFull slots)) v refl h
image_kept f (Answer Unregistered) v h = keeps_image f (Answer Unregistered) v refl h
image_kept f (Answer (Started due)) v h = keeps_image f (Answer (Started due)) v refl h
image_kept f (Answer DoneReply) v h = keeps_image f (Answer DoneReply) v refl h
image_kept f (Answer (Appended appended)) v h = keeps_image f (Answer (Appended appended)) v refl h
image_kept f (Answer (GotReply (Given w))) v h = loaded_image w f.place f.lsn v h
image_kept f (Answer (GotReply (NotYet applied))) v h = keeps_image f (Answer (GotReply (NotYet applied))) v refl h
image_kept f (Answer (Fenced epoch)) v h = keeps_image f (Answer (Fenced epoch)) v refl h
image_kept f (Tried Granted) v h = keeps_image f (Tried Granted) v refl (granted_image f.place f.lsn v h)
image_kept f (Tried (Busy holders)) v h = keeps_image f (Tried (Busy holders)) v refl h
image_kept f (Looked seen) v h = keeps_image f (Looked seen) v refl (seen_image f.writer (shown seen) f.place f.lsn v h)
image_kept f (Slab (Ok u)) v h = keeps_image f (Slab (Ok u)) v refl (moved_image f.place f.lsn v h)
image_kept f (Slab (Err why)) v h = keeps_image f (Slab (Err why)) v refl (lost_image f.place f.lsn v h)
image_kept f (Cleaned there) v h = keeps_image f (Cleaned there) v refl (cleaned_image f.writer there f.place f.lsn v h)
image_kept f Installed v h = keeps_image f Installed v refl h
image_kept f NoAnswer v h = keeps_image f NoAnswer v refl h
