-- What becomes of one page of a plan that is told of its act.
use Rattle.std.proofs.Common.{◌≡◌, ℕ, Bool, true, false, nat_eq, Option, Some, None, MatchOption, refl, sym, ap, subst, ◌∙◌, is_some, ◌&&◌, if◌then◌else◌, arith}
use Rattle.std.specs.Option.{option_map_or}
use Rattle.std.proofs.lemmas.Bool.{false≢true}
use Rattle.std.proofs.lemmas.Bool.Decides.{nat_tests}
use Rattle.rm_base.specs.declared.places.Addr.{Addr}
use Rattle.page_image.specs.Image.{Image}
use Rattle.message_network.specs.declared.calls.Reply.{Reply}
use Rattle.node_model.specs.Call.{Call, Call.Quiet, is_of_work}
use Rattle.node_model.specs.Step.{Step}
use Rattle.node_model.specs.Learning.{answer_step}
use Rattle.fetch_steps.specs.declared.place.Place.{Place}
use Rattle.fetch_steps.specs.declared.place.Place.TheVariants.{Get as AtGet}
use Rattle.fetch_steps.specs.declared.acts.Action.{Action}
use Rattle.fetch_steps.specs.declared.acts.Action.TheVariants.{Finished}
use Rattle.fetch_steps.specs.declared.acts.Told.{Told}
use Rattle.fetch_steps.specs.declared.acts.Told.TheVariants.{Answer, Latch as Tried, Seen as Looked, Slab, Cleaned, Installed, NoAnswer}
use Rattle.fetch_steps.specs.Fetch.{step_at as place_step}
use Rattle.fetch_steps.specs.Acts.{act_of}
use Rattle.fetch_steps.specs.Telling.{call_of, learned as fetch_learned, settled, is_answer, image_after as fetch_image_after, image_at}
use Rattle.mini_transactions.specs.declared.stage.Stage.{Stage}
use Rattle.mini_transactions.specs.declared.stage.Stage.TheVariants.{Making, Registering, Fetching, Latching, Invalidating, Installing, Writing, Cleaning, Releasing, Quitting, Ended}
use Rattle.mini_transactions.specs.declared.page_work.PageWork.{PageWork}
use Rattle.mini_transactions.specs.Work.{step_at, page_step, address_at, page_address, claims_at, may_claim}
use Rattle.mini_transactions.specs.Progress.{is_fetching, HasImageAt, HasPageImage}
use Rattle.mini_transactions.specs.Moves.{learned, answered, goes_on, goes_on_to}
use Rattle.mini_transactions.specs.Hearing.{after}
use Rattle.mini_transactions.specs.Fetching.{Fetches, is_over}
use Rattle.mini_transactions.proofs.InTurn.{Heard}
use Rattle.mini_transactions.proofs.PageMoves.{planned_access, planned_answer}

pub not_fetching : (st : Stage) → is_fetching st ≡ false → st ≡ Fetching → ⊥
not_fetching st f e = false≢true (sym f ∙ ap is_fetching e)

pub a_fetch : (st : Stage) → is_fetching st ≡ true → st ≡ Fetching
a_fetch Fetching e = refl
a_fetch Making e = absurd (false≢true e)
a_fetch Registering e = absurd (false≢true e)
a_fetch Latching e = absurd (false≢true e)
a_fetch Invalidating e = absurd (false≢true e)
a_fetch Installing e = absurd (false≢true e)
a_fetch Writing e = absurd (false≢true e)
a_fetch Cleaning e = absurd (false≢true e)
a_fetch Releasing e = absurd (false≢true e)
a_fetch Quitting e = absurd (false≢true e)
a_fetch Ended e = absurd (false≢true e)

pub planned_address : (st : Stage) (x : PageWork) → is_fetching st ≡ false → address_at st x ≡ x.address
planned_address Fetching x e = absurd (false≢true (sym e))
planned_address st x e = refl

pub planned_claim : (st : Stage) (x : PageWork) → is_fetching st ≡ false → claims_at st x ≡ x.claimed
planned_claim Fetching x e = absurd (false≢true (sym e))
planned_claim st x e = refl

-- past its fetch
pub access : (told : Told) (r n p : ℕ) (v : Image) (call : Call) (o now : Option PageWork) → Heard told p o now → option_map_or (λ w. is_fetching w.stage) o false ≡ false → is_of_work call ≡ false → is_answer told ≡ false
    → option_map_or (λ w. page_step w v call) now Step.Idle ≡ learned r n told (option_map_or page_address o None) (option_map_or (λ w. page_step w v call) o Step.Idle)
access told r n p v call None None h f c a = absurd h
access told r n p v call None (Some y) h f c a = absurd h
access told r n p v call (Some x) None h f c a = absurd h
access told r n p v call (Some x) (Some y) h f c a =
    let is : y ≡ after x told = h.0.planned (not_fetching x.stage f) in
    let P : PageWork → Bool → Option Addr → Type 0 = λ w waits address. step_at w.stage w.address w.claimed w.fetch v waits ≡ learned r n told address (step_at x.stage x.address x.claimed x.fetch v waits) in
    let base : P (after x told) false x.address = planned_access x told r n v f a in
    let moved : P y false x.address = subst (λ w. P w false x.address) (sym is) base in
    let waits : P y (is_of_work call) x.address = subst (λ b. P y b x.address) (sym c) moved in
    subst (λ address. P y (is_of_work call) address) (sym (planned_address x.stage x f)) waits

pub answer : (reply : Reply) (r n p : ℕ) (v : Image) (o now : Option PageWork) → Heard (Answer reply) p o now → nat_eq n r ≡ true → option_map_or (λ w. is_fetching w.stage) o false ≡ false
    → option_map_or (λ w. page_step w v Quiet) now Step.Idle ≡ settled (answered r n v (call_of reply) (option_map_or (λ w. page_step w v (call_of reply)) o Step.Idle)) (option_map_or may_claim o false)
answer reply r n p v None None h i f = absurd h
answer reply r n p v None (Some y) h i f = absurd h
answer reply r n p v (Some x) None h i f = absurd h
answer reply r n p v (Some x) (Some y) h i f =
    let is : y ≡ after x (Answer reply) = h.0.planned (not_fetching x.stage f) in
    let P : PageWork → Bool → Type 0 = λ w claimed. step_at w.stage w.address w.claimed w.fetch v false ≡ settled (answered r n v (call_of reply) (step_at x.stage x.address x.claimed x.fetch v (is_of_work (call_of reply)))) claimed in
    let base : P (after x (Answer reply)) x.claimed = planned_answer x reply r n v i f in
    let moved : P y x.claimed = subst (λ w. P w x.claimed) (sym is) base in
    subst (λ claimed. P y claimed) (sym (planned_claim x.stage x f)) moved

-- while it is fetched
pub fetch_address : (over : Bool) (y : PageWork) (before : Option Addr) → y.stage ≡ (if over then Latching else Fetching) → y.address ≡ (if over then y.fetch.address else before) → page_address y ≡ y.fetch.address
fetch_address true y before e a = subst (λ st. address_at st y ≡ y.fetch.address) (sym e) a
fetch_address false y before e a = subst (λ st. address_at st y ≡ y.fetch.address) (sym e) refl

fetch_step : (fa : Option Addr) (act : Action) (y : PageWork) (v : Image) (s : Step) → y.stage ≡ (if is_over act && is_some fa then Latching else Fetching) → place_step y.fetch.place y.fetch.lsn v false ≡ s
    → step_at y.stage y.address y.claimed y.fetch v false ≡ goes_on_to fa s act
fetch_step (Some a) Finished y v s e p = ap (λ st. step_at st y.address y.claimed y.fetch v false) e
fetch_step None Finished y v s e p = ap (λ st. step_at st y.address y.claimed y.fetch v false) e ∙ p
fetch_step (Some a) act y v s e p = ap (λ st. step_at st y.address y.claimed y.fetch v false) e ∙ p
fetch_step None act y v s e p = ap (λ st. step_at st y.address y.claimed y.fetch v false) e ∙ p

number : (a p : ℕ) → nat_eq a p ≡ true → a ≡ p
number a p e = grind (arith, nat_tests)

pub fetched : (told : Told) (p : ℕ) (v : Image) (x y : PageWork) (f : Fetches x told y) (s : Step) → nat_eq x.fetch.page p ≡ true → HasImageAt Fetching y v → place_step y.fetch.place y.fetch.lsn v false ≡ s
    → page_step y v Quiet ≡ goes_on p (page_address y) s
fetched told p v x y f s same image is =
    let page : y.fetch.page ≡ p = f.fetch.page ∙ number x.fetch.page p same in
    let acts : f.next ≡ act_of y.fetch.page y.fetch.address (place_step y.fetch.place y.fetch.lsn v false) = f.acts v image in
    let act : f.next ≡ act_of p y.fetch.address s = subst (λ t. f.next ≡ act_of p y.fetch.address t) is (subst (λ q. f.next ≡ act_of q y.fetch.address (place_step y.fetch.place y.fetch.lsn v false)) page acts) in
    let step = fetch_step y.fetch.address f.next y v s f.stage is in
    let at : page_address y ≡ y.fetch.address = fetch_address (is_over f.next && is_some y.fetch.address) y x.address f.stage f.address in
    let Q : Option Addr → Action → Type 0 = λ a next. page_step y v Quiet ≡ goes_on_to a s next in
    let here : Q y.fetch.address (act_of p y.fetch.address s) = subst (λ next. Q y.fetch.address next) act step in
    subst (λ a. page_step y v Quiet ≡ goes_on p a s) (sym at) here

-- an access gives no image
image_stays : (place : Place) (told : Told) (v : Image) → is_answer told ≡ false → image_at place told v ≡ v
image_stays AtGet (Answer reply) v e = absurd (false≢true (sym e))
image_stays AtGet (Tried latch) v e = refl
image_stays AtGet (Looked seen) v e = refl
image_stays AtGet (Slab outcome) v e = refl
image_stays AtGet (Cleaned there) v e = refl
image_stays AtGet Installed v e = refl
image_stays AtGet NoAnswer v e = refl
image_stays place told v e = refl

pub fetches_now : (x : PageWork) (v : Image) (waits : Bool) → x.stage ≡ Fetching → step_at x.stage x.address x.claimed x.fetch v waits ≡ place_step x.fetch.place x.fetch.lsn v waits
fetches_now x v waits e = ap (λ st. step_at st x.address x.claimed x.fetch v waits) e

pub fetch_access : (told : Told) (r n p : ℕ) (v : Image) (call : Call) (o now : Option PageWork) → Heard told p o now → nat_eq n r ≡ true → option_map_or (λ w. w.fetch.writer) o true ≡ true → option_map_or (λ w. is_fetching w.stage) o false ≡ true → MatchOption o (Unit {0}) (λ w. HasPageImage w v) → is_of_work call ≡ false → is_answer told ≡ false
    → option_map_or (λ w. page_step w v call) now Step.Idle ≡ goes_on p (option_map_or page_address now None) (fetch_learned r n told (option_map_or (λ w. page_step w v call) o Step.Idle))
fetch_access told r n p v call None None h i w f image c a = absurd h
fetch_access told r n p v call None (Some y) h i w f image c a = absurd h
fetch_access told r n p v call (Some x) None h i w f image c a = absurd h
fetch_access told r n p v call (Some x) (Some y) h i w f image c a =
    let is : x.stage ≡ Fetching = a_fetch x.stage f in
    let F : Fetches x told y = h.0.fetched is in
    let of_fetch : HasImageAt Fetching x v = subst (λ st. HasImageAt st x v) is image in
    let later = F.fetch.image v of_fetch in
    let same : fetch_image_after x.fetch told v ≡ v = image_stays x.fetch.place told v a in
    let kept : HasImageAt Fetching y v = subst (λ image. HasImageAt Fetching y image) same later in
    let access = F.fetch.access r n v call (i ∙ sym w) c a in
    let P : Bool → Step → Type 0 = λ waits before. place_step y.fetch.place y.fetch.lsn v waits ≡ fetch_learned r n told before in
    let at_once : P false (place_step x.fetch.place x.fetch.lsn v false) = subst (λ b. P b (place_step x.fetch.place x.fetch.lsn v b)) c access in
    let s : Step = fetch_learned r n told (page_step x v Quiet) in
    let step : P false (page_step x v Quiet) = subst (λ before. P false before) (sym (fetches_now x v false is)) at_once in
    let all : page_step y v Quiet ≡ goes_on p (page_address y) s = fetched told p v x y F s h.1 kept step in
    subst (λ b. step_at y.stage y.address y.claimed y.fetch v b ≡ goes_on p (page_address y) (fetch_learned r n told (step_at x.stage x.address x.claimed x.fetch v b))) (sym c) all

pub fetch_answer : (reply : Reply) (r n p : ℕ) (v : Image) (o now : Option PageWork) → Heard (Answer reply) p o now → nat_eq n r ≡ true → option_map_or (λ w. w.fetch.writer) o true ≡ true → option_map_or (λ w. is_fetching w.stage) o false ≡ true → MatchOption o (Unit {0}) (λ w. HasPageImage w v)
    → option_map_or (λ w. page_step w (option_map_or (λ b. fetch_image_after b.fetch (Answer reply) v) o v) Quiet) now Step.Idle
    ≡ goes_on p (option_map_or page_address now None) (settled (answer_step r n None (call_of reply) (option_map_or (λ w. page_step w v (call_of reply)) o Step.Idle)) (option_map_or may_claim o false))
fetch_answer reply r n p v None None h i w f image = absurd h
fetch_answer reply r n p v None (Some y) h i w f image = absurd h
fetch_answer reply r n p v (Some x) None h i w f image = absurd h
fetch_answer reply r n p v (Some x) (Some y) h i w f image =
    let told : Told = Answer reply in
    let is : x.stage ≡ Fetching = a_fetch x.stage f in
    let F : Fetches x told y = h.0.fetched is in
    let of_fetch : HasImageAt Fetching x v = subst (λ st. HasImageAt st x v) is image in
    let now : Image = fetch_image_after x.fetch told v in
    let kept : HasImageAt Fetching y now = F.fetch.image v of_fetch in
    let answer = F.fetch.answer r n reply v (i ∙ sym w) refl in
    let waits : Bool = is_of_work (call_of reply) in
    let P : Step → Bool → Type 0 = λ before claimed. place_step y.fetch.place y.fetch.lsn now false ≡ settled (answer_step r n None (call_of reply) before) claimed in
    let claims : claims_at x.stage x ≡ claims_at Fetching x = ap (λ st. claims_at st x) is in
    let step : P (step_at x.stage x.address x.claimed x.fetch v waits) (may_claim x) =
    subst (λ before. P before (may_claim x)) (sym (fetches_now x v waits is)) (subst (λ claimed. P (place_step x.fetch.place x.fetch.lsn v waits) claimed) (sym claims) answer) in
    fetched told p now x y F (settled (answer_step r n None (call_of reply) (page_step x v (call_of reply))) (may_claim x)) h.1 kept step
