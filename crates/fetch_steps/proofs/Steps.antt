-- What an answer makes of a fetch is a move of the law.
use Rattle.std.proofs.Common.{◌≡◌, ℕ, Bool, true, false, Option, Some, None, Ok, Err, sym, ◌∙◌, subst, refl, nat_eq, if◌then◌else◌, option_map}
use Rattle.rm_base.specs.declared.places.Addr.{Addr}
use Rattle.page_image.specs.Image.{Image}
use Rattle.page_latches.specs.declared.latch.Holders.{Holders}
use Rattle.page_latches.specs.declared.latch.Latch.TheVariants.{Granted, Busy}
use Rattle.message_model.specs.declared.Got.TheVariants.{Image as Given, NotYet}
use Rattle.message_network.specs.declared.calls.Reply.{Reply}
use Rattle.message_network.specs.declared.calls.Reply.TheVariants.{Registered, PoolFull, Unregistered, Started, Done as DoneReply, Appended, Got as GotReply, Fenced}
use Rattle.node_model.specs.Call.{Call, is_of_work}
use Rattle.node_model.specs.Step.{Step, Step.RwLook, Step.LatchS, Step.RwBack, Step.BackToS, Step.RwEnd, Step.LastS, first_step}
use Rattle.node_model.specs.Learning.{look_step, after_rw_look, after_look_again, answer_step, answer_address, release_address}
use Rattle.fetch_steps.specs.declared.place.Place.{Place}
use Rattle.fetch_steps.specs.declared.place.Place.TheVariants.{Register, LatchS, Look, Read, ReleaseS, LatchX, LookAgain, BackToS, LookBack, Get, Clean, LastS, RwLook, RwRead, RwBack, RwLookBack, RwEnd}
use Rattle.message_network.specs.declared.looks.Seen.{Seen}
use Rattle.fetch_steps.specs.declared.acts.Told.{Told}
use Rattle.fetch_steps.specs.declared.acts.Told.TheVariants.{Answer, Latch as Tried, Seen as Looked, Slab, Cleaned, Installed, NoAnswer}
use Rattle.fetch_steps.specs.Fetch.{Fetch, step_at, step_of, number_of, address_of, may_hold_at, may_hold, holds_at, tries}
use Rattle.fetch_steps.specs.Telling.{call_of, shown, after_latch, after_second_look, after_seen, after_slab, after_slab_down, after_cleaned, learned, learned_address, address_after_down, settled, image_in, image_at, image_after, is_answer}
use Rattle.fetch_steps.specs.Places.{first_place, place_granted, address_granted, place_under_x, place_seen, lsn_seen, place_moved, place_lost, address_lost, place_cleaned, place_registered, place_loaded, lsn_loaded, after, unheard_after}

never : false ≡ true → ⊥
never h = cc

-- a try was granted, or a release was made
granted_step : (place : Place) (l : ℕ) (v : Image) → step_at (place_granted place) l v false ≡ after_latch (step_at place l v false)
granted_step Register l v = refl
granted_step _ l v = refl

granted_address : (place : Place) (l : ℕ) (v : Image) (a : Option Addr) → option_map number_of (address_granted place a) ≡ release_address (step_at place l v false) (option_map number_of a)
granted_address Register l v a = refl
granted_address _ l v a = refl

-- the entry was seen
look_by : (bit : Bool) (l : ℕ) (v : Image) → step_at (if bit then ReleaseS else Read) l v false ≡ look_step bit
look_by true l v = refl
look_by false l v = refl

rw_look_by : (bit : Bool) (l : ℕ) (v : Image) → step_at (if bit then LatchX else RwRead) l v false ≡ after_rw_look bit
rw_look_by true l v = refl
rw_look_by false l v = refl

back_by : (writer : Bool) (l : ℕ) (v : Image) → step_at (if writer then RwBack else BackToS) l v false ≡ (if writer then Step.RwBack else Step.BackToS)
back_by true l v = refl
back_by false l v = refl

again_by : (r n : ℕ) (writer bit : Bool) (l : ℕ) (v : Image) → nat_eq n r ≡ writer → step_at (if bit then Get else (if writer then RwBack else BackToS)) l v false ≡ after_look_again r n bit l
again_by r n writer true l v e = refl
again_by r n writer false l v e = subst (λ w. step_at (if writer then RwBack else BackToS) l v false ≡ (if w then Step.RwBack else Step.BackToS)) (sym e) (back_by writer l v)

second_by : (r n : ℕ) (writer : Bool) (seen : Seen) (a : Option Addr) (v : Image) → nat_eq n r ≡ writer → step_at (place_under_x writer seen.bit a) seen.floor v false ≡ after_second_look r n a seen
second_by r n writer seen None v e = refl
second_by r n writer seen (Some a) v e = again_by r n writer seen.bit seen.floor v e

seen_step : (r n : ℕ) (writer : Bool) (seen : Seen) (place : Place) (l : ℕ) (v : Image) → nat_eq n r ≡ writer → step_at (place_seen writer seen place) (lsn_seen seen place l) v false ≡ after_seen r n seen (step_at place l v false)
seen_step r n writer seen Look l v e = look_by seen.bit l v
seen_step r n writer seen LookAgain l v e = second_by r n writer seen seen.addr v e
seen_step r n writer seen LookBack l v e = look_by seen.bit l v
seen_step r n writer seen RwLook l v e = rw_look_by seen.bit l v
seen_step r n writer seen RwLookBack l v e = rw_look_by seen.bit l v
seen_step r n writer seen _ l v e = refl

-- the slot was read or written, or could not be
moved_step : (place : Place) (l : ℕ) (v : Image) → step_at (place_moved place) l v false ≡ after_slab (step_at place l v false)
moved_step Register l v = refl
moved_step _ l v = refl

lost_step : (place : Place) (l : ℕ) (v : Image) → step_at (place_lost place) l v false ≡ after_slab_down (step_at place l v false)
lost_step Register l v = refl
lost_step _ l v = refl

lost_address : (place : Place) (l : ℕ) (v : Image) (a : Option Addr) → option_map number_of (address_lost place a) ≡ address_after_down (step_at place l v false) (option_map number_of a)
lost_address Register l v a = refl
lost_address _ l v a = refl

-- the home was told that the slot is clean
end_by : (writer : Bool) (l : ℕ) (v : Image) → step_at (if writer then RwEnd else LastS) l v false ≡ (if writer then Step.RwEnd v else Step.LastS v)
end_by true l v = refl
end_by false l v = refl

clean_by : (r n : ℕ) (writer there : Bool) (l : ℕ) (v : Image) → nat_eq n r ≡ writer → step_at (place_cleaned writer there Clean) l v false ≡ after_cleaned r n there (step_at Clean l v false)
clean_by r n writer true l v e = subst (λ w. step_at (if writer then RwEnd else LastS) l v false ≡ (if w then Step.RwEnd v else Step.LastS v)) (sym e) (end_by writer l v)
clean_by r n writer false l v e = refl

-- a step that is no clean stays
other_clean : (r n : ℕ) (writer there : Bool) (place : Place) (l : ℕ) (v : Image) → nat_eq n r ≡ writer → step_at (place_cleaned writer there place) l v false ≡ after_cleaned r n there (step_at place l v false)
other_clean r n writer there Clean l v e = clean_by r n writer there l v e
other_clean r n writer true _ l v e = refl
other_clean r n writer false _ l v e = refl

-- what is told of an access
by_quiet : (f : Fetch) (g : Fetch) (next : Step → Step) (v : Image) (waits : Bool) → waits ≡ false → step_at g.place g.lsn v false ≡ next (step_at f.place f.lsn v false) → step_at g.place g.lsn v waits ≡ next (step_at f.place f.lsn v waits)
by_quiet f g next v waits q e = subst (λ w. step_at g.place g.lsn v w ≡ next (step_at f.place f.lsn v w)) (sym q) e

pub learned_step : (r n : ℕ) (f : Fetch) (told : Told) (v : Image) (call : Call) → nat_eq n r ≡ f.writer → is_of_work call ≡ false → is_answer told ≡ false → step_of (after f told) v call ≡ learned r n told (step_of f v call)
learned_step r n f (Answer reply) v call e q a = absurd (cc)
learned_step r n f (Tried Granted) v call e q a = by_quiet f (after f (Tried Granted)) after_latch v (is_of_work call) q (granted_step f.place f.lsn v)
learned_step r n f (Tried (Busy holders)) v call e q a = refl
learned_step r n f (Looked seen) v call e q a = by_quiet f (after f (Looked seen)) (after_seen r n (shown seen)) v (is_of_work call) q (seen_step r n f.writer (shown seen) f.place f.lsn v e)
learned_step r n f (Slab (Ok u)) v call e q a = by_quiet f (after f (Slab (Ok u))) after_slab v (is_of_work call) q (moved_step f.place f.lsn v)
learned_step r n f (Slab (Err why)) v call e q a = by_quiet f (after f (Slab (Err why))) after_slab_down v (is_of_work call) q (lost_step f.place f.lsn v)
learned_step r n f (Cleaned there) v call e q a = by_quiet f (after f (Cleaned there)) (after_cleaned r n there) v (is_of_work call) q (other_clean r n f.writer there f.place f.lsn v e)
learned_step r n f Installed v call e q a = refl
learned_step r n f NoAnswer v call e q a = refl

-- which latch is held

pub holds_step : (place : Place) (l : ℕ) (v : Image) (unheard : Bool) → holds_at (step_at place l v false) unheard ≡ may_hold_at place unheard
holds_step Register l v unheard = refl
holds_step _ l v unheard = refl

unseen_at : (place : Place) (l : ℕ) (v : Image) (unheard : Bool) → tries (step_at place l v false) ≡ true → may_hold_at place (unheard_after place unheard) ≡ true
unseen_at LatchS l v unheard h = refl
unseen_at LatchX l v unheard h = refl
unseen_at _ l v unheard h = absurd (never h)

refused_at : (place : Place) (l : ℕ) (v : Image) → tries (step_at place l v false) ≡ true → may_hold_at place false ≡ false
refused_at LatchS l v h = refl
refused_at LatchX l v h = refl
refused_at _ l v h = absurd (never h)

pub unseen : (f : Fetch) (told : Told) (v : Image) → told ≡ NoAnswer → tries (step_of f v Call.Quiet) ≡ true → may_hold (after f told) ≡ true
unseen f told v e h = subst (λ t. may_hold (after f t) ≡ true) (sym e) (unseen_at f.place f.lsn v f.unheard h)

pub refused : (f : Fetch) (told : Told) (v : Image) (holders : Holders) → told ≡ Tried (Busy holders) → tries (step_of f v Call.Quiet) ≡ true → may_hold (after f told) ≡ false
refused f told v holders e h = subst (λ t. may_hold (after f t) ≡ false) (sym e) (refused_at f.place f.lsn v h)

-- an answer to a call
first_by : (writer : Bool) (l : ℕ) (v : Image) → step_at (first_place writer) l v false ≡ (if writer then Step.RwLook else Step.LatchS)
first_by true l v = refl
first_by false l v = refl

pub first_of_node : (r n : ℕ) (writer : Bool) (l : ℕ) (v : Image) → nat_eq n r ≡ writer → step_at (first_place writer) l v false ≡ first_step r n
first_of_node r n writer l v e = subst (λ w. step_at (first_place writer) l v false ≡ (if w then Step.RwLook else Step.LatchS)) (sym e) (first_by writer l v)

settled_first : (writer : Bool) → settled (if writer then Step.RwLook else Step.LatchS) false ≡ (if writer then Step.RwLook else Step.LatchS)
settled_first true = refl
settled_first false = refl

first_settled : (r n : ℕ) (writer : Bool) (l : ℕ) (v : Image) → nat_eq n r ≡ writer → step_at (first_place writer) l v false ≡ settled (first_step r n) false
first_settled r n writer l v e = first_of_node r n writer l v e ∙ sym (settled_first (nat_eq n r))

registered_step : (r n : ℕ) (writer unheard : Bool) (a : ℕ) (place : Place) (l : ℕ) (v : Image) → nat_eq n r ≡ writer → step_at (place_registered writer place) l v false ≡ settled (answer_step r n None (Call.ToldRegistered a) (step_at place l v true)) (may_hold_at place unheard)
registered_step r n writer unheard a Register l v e = first_settled r n writer l v e
registered_step r n writer unheard a _ l v e = refl

loaded_step : (r n : ℕ) (unheard : Bool) (w : Image) (place : Place) (l : ℕ) (v : Image) → step_at (place_loaded place) (lsn_loaded w.lsn place l) (image_at place (Answer (GotReply (Given w))) v) false ≡ settled (answer_step r n None (Call.ToldImage w) (step_at place l v true)) (may_hold_at place unheard)
loaded_step r n unheard w Register l v = refl
loaded_step r n unheard w _ l v = refl

full_step : (r n : ℕ) (unheard : Bool) (place : Place) (l : ℕ) (v : Image) → step_at place l v false ≡ settled (answer_step r n None Call.ToldFull (step_at place l v true)) (may_hold_at place unheard)
full_step r n unheard Register l v = refl
full_step r n unheard _ l v = refl

parted_step : (r n : ℕ) (unheard : Bool) (place : Place) (l : ℕ) (v : Image) → step_at place l v false ≡ settled (answer_step r n None Call.ToldUnregistered (step_at place l v false)) (may_hold_at place unheard)
parted_step r n unheard Register l v = refl
parted_step r n unheard _ l v = refl

started_step : (r n : ℕ) (unheard : Bool) (place : Place) (l : ℕ) (v : Image) → step_at place l v false ≡ settled (answer_step r n None Call.ToldStarted (step_at place l v true)) (may_hold_at place unheard)
started_step r n unheard Register l v = refl
started_step r n unheard _ l v = refl

done_step : (r n : ℕ) (unheard : Bool) (place : Place) (l : ℕ) (v : Image) → step_at place l v false ≡ settled (answer_step r n None Call.ToldDone (step_at place l v true)) (may_hold_at place unheard)
done_step r n unheard Register l v = refl
done_step r n unheard _ l v = refl

quiet_step : (r n : ℕ) (unheard : Bool) (place : Place) (l : ℕ) (v : Image) → step_at place l v false ≡ settled (answer_step r n None Call.Quiet (step_at place l v false)) (may_hold_at place unheard)
quiet_step r n unheard Register l v = refl
quiet_step r n unheard _ l v = refl

not_yet_step : (r n : ℕ) (unheard : Bool) (place : Place) (l : ℕ) (v : Image) → step_at place l v false ≡ settled (answer_step r n None Call.ToldNotYet (step_at place l v true)) (may_hold_at place unheard)
not_yet_step r n unheard Register l v = refl
not_yet_step r n unheard _ l v = refl

image_stays : (place : Place) (told : Told) (v : Image) → image_in told v ≡ v → image_at place told v ≡ v
image_stays Get told v e = e
image_stays _ told v e = refl

with_image : (f : Fetch) (g : Fetch) (told : Told) (v : Image) (to : Step) → image_in told v ≡ v → step_at g.place g.lsn v false ≡ to → step_at g.place g.lsn (image_at f.place told v) false ≡ to
with_image f g told v to i e = subst (λ w. step_at g.place g.lsn w false ≡ to) (sym (image_stays f.place told v i)) e

by_reply : (r n : ℕ) (f : Fetch) (reply : Reply) (v : Image) → nat_eq n r ≡ f.writer → step_of (after f (Answer reply)) (image_after f (Answer reply) v) Call.Quiet ≡ settled (answer_step r n None (call_of reply) (step_of f v (call_of reply))) (may_hold f)
by_reply r n f (Registered a bit floor) v e = let t : Told = Answer (Registered a bit floor) in with_image f (after f t) t v _ refl (registered_step r n f.writer f.unheard (number_of a) f.place f.lsn v e)
by_reply r n f (PoolFull slots) v e = with_image f f (Answer (PoolFull slots)) v _ refl (full_step r n f.unheard f.place f.lsn v)
by_reply r n f Unregistered v e = with_image f f (Answer Unregistered) v _ refl (parted_step r n f.unheard f.place f.lsn v)
by_reply r n f (Started due) v e = with_image f f (Answer (Started due)) v _ refl (started_step r n f.unheard f.place f.lsn v)
by_reply r n f DoneReply v e = with_image f f (Answer DoneReply) v _ refl (done_step r n f.unheard f.place f.lsn v)
by_reply r n f (Appended appended) v e = with_image f f (Answer (Appended appended)) v _ refl (quiet_step r n f.unheard f.place f.lsn v)
by_reply r n f (GotReply (Given w)) v e = loaded_step r n f.unheard w f.place f.lsn v
by_reply r n f (GotReply (NotYet applied)) v e = with_image f f (Answer (GotReply (NotYet applied))) v _ refl (not_yet_step r n f.unheard f.place f.lsn v)
by_reply r n f (Fenced epoch) v e = with_image f f (Answer (Fenced epoch)) v _ refl (quiet_step r n f.unheard f.place f.lsn v)

pub answered_step : (r n : ℕ) (f : Fetch) (told : Told) (reply : Reply) (v : Image) → nat_eq n r ≡ f.writer → told ≡ Answer reply → step_of (after f told) (image_after f told v) Call.Quiet ≡ settled (answer_step r n None (call_of reply) (step_of f v (call_of reply))) (may_hold f)
answered_step r n f told reply v e h = subst (λ t. step_of (after f t) (image_after f t v) Call.Quiet ≡ settled (answer_step r n None (call_of reply) (step_of f v (call_of reply))) (may_hold f)) (sym h) (by_reply r n f reply v e)

-- the address that the node knows
answer_number : (f : Fetch) (reply : Reply) → option_map number_of (after f (Answer reply)).address ≡ answer_address (call_of reply) (option_map number_of f.address)
answer_number f (Registered a bit floor) = refl
answer_number f (PoolFull slots) = refl
answer_number f Unregistered = refl
answer_number f (Started due) = refl
answer_number f DoneReply = refl
answer_number f (Appended appended) = refl
answer_number f (GotReply (Given w)) = refl
answer_number f (GotReply (NotYet applied)) = refl
answer_number f (Fenced epoch) = refl

by_calm : (f : Fetch) (to : Option ℕ) (next : Step → Option ℕ) (v : Image) (waits : Bool) → waits ≡ false → to ≡ next (step_at f.place f.lsn v false) → to ≡ next (step_at f.place f.lsn v waits)
by_calm f to next v waits q e = subst (λ w. to ≡ next (step_at f.place f.lsn v w)) (sym q) e

pub told_address : (f : Fetch) (told : Told) (v : Image) (call : Call) → is_of_work call ≡ false → address_of (after f told) ≡ learned_address told (step_of f v call) (address_of f)
told_address f (Answer reply) v call q = answer_number f reply
told_address f (Tried Granted) v call q = by_calm f _ (λ st. release_address st (address_of f)) v (is_of_work call) q (granted_address f.place f.lsn v f.address)
told_address f (Tried (Busy holders)) v call q = refl
told_address f (Looked seen) v call q = refl
told_address f (Slab (Ok u)) v call q = refl
told_address f (Slab (Err why)) v call q = by_calm f _ (λ st. address_after_down st (address_of f)) v (is_of_work call) q (lost_address f.place f.lsn v f.address)
told_address f (Cleaned there) v call q = refl
told_address f Installed v call q = refl
told_address f NoAnswer v call q = refl
