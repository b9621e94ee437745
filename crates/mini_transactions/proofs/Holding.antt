-- The latch is held in X wherever a plan is past its try.
use Rattle.std.proofs.Common.{◌≡◌, Bool, true, false, Option, Some, None, MatchBool, Ok, Err, refl, sym, ap, ◌∙◌, if◌then◌else◌, is_some, ◌&&◌}
use Rattle.std.proofs.lemmas.Bool.{false≢true}
use Rattle.rm_base.specs.declared.places.Addr.{Addr}
use Rattle.page_latches.specs.declared.latch.Latch.TheVariants.{Granted, Busy}
use Rattle.fetch_steps.specs.declared.acts.Told.{Told}
use Rattle.fetch_steps.specs.declared.acts.Told.TheVariants.{Answer, Latch as Tried, Seen as Looked, Slab, Cleaned, Installed, NoAnswer}
use Rattle.mini_transactions.specs.declared.stage.Stage.{Stage}
use Rattle.mini_transactions.specs.declared.stage.Stage.TheVariants.{Making, Registering, Fetching, Latching, Invalidating, Installing, Writing, Cleaning, Releasing, Quitting, Ended}
use Rattle.mini_transactions.specs.declared.page_work.PageWork.{PageWork}
use Rattle.mini_transactions.specs.Telling.{address_in, is_done}
use Rattle.mini_transactions.specs.Progress.{is_fetching, holds_x}
use Rattle.mini_transactions.specs.Hearing.{registered_in, done_in, claim_granted, claim_refused, claim_missed, after}
use Rattle.mini_transactions.specs.Fetching.{Hears, Fetches, is_over}
use Rattle.mini_transactions.proofs.Clauses.{a_fetch, not_fetching}
use Rattle.mini_transactions.proofs.Spans.{stage_answered, stage_after, after_stage}

never : false ≡ true → ⊥
never e = false≢true e

answered_holds : (st : Stage) (a : Option Addr) (b : Bool) → holds_x (stage_answered st a b) ≡ true → holds_x st ≡ true
answered_holds Making None true h = absurd (never h)
answered_holds Making None false h = absurd (never h)
answered_holds Making (Some a) true h = absurd (never h)
answered_holds Making (Some a) false h = absurd (never h)
answered_holds Registering None true h = absurd (never h)
answered_holds Registering None false h = absurd (never h)
answered_holds Registering (Some a) true h = absurd (never h)
answered_holds Registering (Some a) false h = absurd (never h)
answered_holds Fetching None true h = absurd (never h)
answered_holds Fetching None false h = absurd (never h)
answered_holds Fetching (Some a) true h = absurd (never h)
answered_holds Fetching (Some a) false h = absurd (never h)
answered_holds Latching None true h = absurd (never h)
answered_holds Latching None false h = absurd (never h)
answered_holds Latching (Some a) true h = absurd (never h)
answered_holds Latching (Some a) false h = absurd (never h)
answered_holds Invalidating a b h = refl
answered_holds Installing a b h = refl
answered_holds Writing a b h = refl
answered_holds Cleaning a b h = refl
answered_holds Releasing a b h = refl
answered_holds Quitting None true h = absurd (never h)
answered_holds Quitting None false h = absurd (never h)
answered_holds Quitting (Some a) true h = absurd (never h)
answered_holds Quitting (Some a) false h = absurd (never h)
answered_holds Ended None true h = absurd (never h)
answered_holds Ended None false h = absurd (never h)
answered_holds Ended (Some a) true h = absurd (never h)
answered_holds Ended (Some a) false h = absurd (never h)

answer_claim : (w : PageWork) (a : Option Addr) (b : Bool) → (done_in (registered_in w a) b).claimed ≡ w.claimed
answer_claim w None false = refl
answer_claim w None true = refl
answer_claim w (Some a) false = refl
answer_claim w (Some a) true = refl

abbrev claim_after : Stage → Bool → Told → Bool
claim_after st c (Tried Granted) = claim_granted st c
claim_after st c (Tried (Busy holders)) = claim_refused st c
claim_after st c NoAnswer = claim_missed st c
claim_after st c told = c

after_claim : (w : PageWork) (told : Told) → (after w told).claimed ≡ claim_after w.stage w.claimed told
after_claim w (Answer reply) = answer_claim w (address_in reply) (is_done reply)
after_claim w (Tried Granted) = refl
after_claim w (Tried (Busy holders)) = refl
after_claim w (Looked seen) = refl
after_claim w (Slab (Ok u)) = refl
after_claim w (Slab (Err why)) = refl
after_claim w (Cleaned there) = refl
after_claim w Installed = refl
after_claim w NoAnswer = refl

holds_after : (st : Stage) (a : Option Addr) (c : Bool) (told : Told) → (holds_x st ≡ true → c ≡ true) → holds_x (stage_after st a told) ≡ true → claim_after st c told ≡ true
holds_after st a c (Answer reply) k h = k (answered_holds st (address_in reply) (is_done reply) h)
holds_after Latching a c (Tried Granted) k h = refl
holds_after Releasing a c (Tried Granted) k h = absurd (never h)
holds_after Quitting a c (Tried Granted) k h = absurd (never h)
holds_after st a c (Tried Granted) k h = k h
holds_after Latching a c (Tried (Busy holders)) k h = absurd (never h)
holds_after st a c (Tried (Busy holders)) k h = k h
holds_after st a c (Looked seen) k h = k h
holds_after Writing a c (Slab (Ok u)) k h = k refl
holds_after st a c (Slab (Ok u)) k h = k h
holds_after Cleaning a c (Slab (Err why)) k h = k refl
holds_after st a c (Slab (Err why)) k h = k h
holds_after Cleaning a c (Cleaned there) k h = k refl
holds_after st a c (Cleaned there) k h = k h
holds_after Installing a c Installed k h = k refl
holds_after st a c Installed k h = k h
holds_after Latching a c NoAnswer k h = refl
holds_after st a c NoAnswer k h = k h

fetched_holds : (over : Bool) → holds_x (if over then Latching else Fetching) ≡ true → ⊥
fetched_holds true h = never h
fetched_holds false h = never h

holds_told : (x y : PageWork) (told : Told) → Hears x told y → (holds_x x.stage ≡ true → x.claimed ≡ true) → holds_x y.stage ≡ true → y.claimed ≡ true
holds_told x y told heard k h = go (is_fetching x.stage) refl
  where
    go : (b : Bool) → is_fetching x.stage ≡ b → y.claimed ≡ true
    go true e =
        let F : Fetches x told y = heard.fetched (a_fetch x.stage e) in
        absurd (fetched_holds (is_over F.next && is_some y.fetch.address) (sym (ap holds_x F.stage) ∙ h))
    go false e =
        let is : y ≡ after x told = heard.planned (not_fetching x.stage e) in
        let at : y.stage ≡ stage_after x.stage x.address told = ap (λ (w : PageWork). w.stage) is ∙ after_stage x told in
        ap (λ (w : PageWork). w.claimed) is ∙ after_claim x told ∙ holds_after x.stage x.address x.claimed told k (sym (ap holds_x at) ∙ h)

pub holds_takes : (told : Told) (b : Bool) (x y : PageWork) → MatchBool b (Hears x told y) (y ≡ x) → (holds_x x.stage ≡ true → x.claimed ≡ true) → holds_x y.stage ≡ true → y.claimed ≡ true
holds_takes told true x y h k e = holds_told x y told h k e
holds_takes told false x y h k e = ap (λ (w : PageWork). w.claimed) h ∙ k (sym (ap (λ (w : PageWork). holds_x w.stage) h) ∙ e)
