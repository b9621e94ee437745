-- What holds of a plan's pages in every state holds after they are told of an act.
use Rattle.std.proofs.Common.{◌≡◌, ◌<◌, ℕ, suc, Bool, true, false, nat_eq, nat_lt, Option, Some, None, List, [], ◌∷◌, length, get_or, MatchBool, refl, sym, ap, subst, ◌∙◌, if◌then◌else◌, is_some, not, ◌&&◌, arith}
use Rattle.std.specs.List.{best_of}
use Rattle.std.specs.Option.{option_map_or}
use Rattle.std.proofs.lemmas.Bool.{false≢true}
use Rattle.std.proofs.lemmas.List.{get_or_default}
use Rattle.std.proofs.lemmas.List.MinMax.{IsStrictWeakOrder-by_number, IsFirstBest-from_best_of}
use Rattle.rm_base.specs.declared.places.Addr.{Addr}
use Rattle.page_latches.specs.declared.latch.Latch.TheVariants.{Granted, Busy}
use Rattle.fetch_steps.specs.Fetch.{Fetch}
use Rattle.fetch_steps.specs.declared.acts.Told.{Told}
use Rattle.fetch_steps.specs.declared.acts.Told.TheVariants.{Answer, Latch as Tried, Seen as Looked, Slab, Cleaned, Installed, NoAnswer}
use Rattle.std.specs.Prelude.{Ok, Err}
use Rattle.mini_transactions.specs.declared.stage.Stage.{Stage}
use Rattle.mini_transactions.specs.declared.stage.Stage.TheVariants.{Making, Registering, Fetching, Latching, Invalidating, Installing, Writing, Cleaning, Releasing, Quitting, Ended}
use Rattle.mini_transactions.specs.declared.page_work.PageWork.{PageWork}
use Rattle.mini_transactions.specs.Work.{turn, turn_at, is_before, next_of}
use Rattle.mini_transactions.specs.Telling.{address_in, is_done}
use Rattle.mini_transactions.specs.Hearing.{stage_written, stage_cleaned, registered_in, done_in, after}
use Rattle.mini_transactions.specs.Fetching.{Hears, Fetches, is_over}
use Rattle.mini_transactions.specs.Progress.{Progress, is_in, is_joint, is_fetching, span, is_past_install, is_installed}
use Rattle.mini_transactions.proofs.Clauses.{a_fetch, not_fetching}
use Rattle.mini_transactions.specs.Together.{numbers, Together, IsProgress, Takes, AllTake, Turns}
use Rattle.mini_transactions.proofs.Spans.{stage_answered, stage_after, after_stage}
use Rattle.mini_transactions.proofs.Holding.{holds_takes}
use Rattle.mini_transactions.proofs.InTurn.{tells, stays, takes_page}

-- the page whose turn it is: no other's turn comes before
pub record IsNext (works : List PageWork) (t : PageWork) : Type 0 where
  pub place : ℕ
  pub within : place < length works
  pub at : (d : PageWork) → get_or works place d ≡ t
  pub least : (k : ℕ) → k < length works → (d : PageWork) → nat_lt (turn (get_or works k d)) (turn t) ≡ false

pub next_place : (works : List PageWork) (t : PageWork) → next_of works ≡ Some t → IsNext works t
next_place [] t e = cc
next_place (w ∷ ws) t e =
    let some : Some (best_of is_before w ws) ≡ Some t = e in
    let is : best_of is_before w ws ≡ t = cc in
    let best = IsFirstBest-from_best_of {beats = is_before} (IsStrictWeakOrder-by_number turn) w ws in
    let at : get_or (w ∷ ws) best.0 w ≡ t = best.2 ∙ is in
    let within : best.0 < length (w ∷ ws) = best.1.0 in
    let same : (d : PageWork) → get_or (w ∷ ws) best.0 d ≡ t = λ d. get_or_default (w ∷ ws) best.0 d w within ∙ at in
    record {
      place = best.0;
      within = within;
      at = same;
      least = λ k h d. subst (λ b. nat_lt (turn (get_or (w ∷ ws) k d)) (turn b) ≡ false) (same d) (best.1.1 k d h);
    }

-- where an act is one of all pages, they all stand where the page stands whose turn it is
pub as_far : (s t : Stage) (a b : PageWork) → is_joint t ≡ true → span s ≡ span t → nat_lt (turn_at s a) (turn_at t b) ≡ false → s ≡ t
as_far Making Invalidating a b j e h = absurd (false≢true (sym h))
as_far Registering Invalidating a b j e h = absurd (false≢true (sym h))
as_far Fetching Invalidating a b j e h = absurd (false≢true (sym h))
as_far Latching Invalidating a b j e h = absurd (false≢true (sym h))
as_far Invalidating Invalidating a b j e h = refl
as_far Installing Invalidating a b j e h = absurd (omega (arith, e))
as_far Writing Invalidating a b j e h = absurd (omega (arith, e))
as_far Cleaning Invalidating a b j e h = absurd (omega (arith, e))
as_far Releasing Invalidating a b j e h = absurd (omega (arith, e))
as_far Quitting Invalidating a b j e h = absurd (omega (arith, e))
as_far Ended Invalidating a b j e h = absurd (omega (arith, e))
as_far Making Installing a b j e h = absurd (omega (arith, e))
as_far Registering Installing a b j e h = absurd (omega (arith, e))
as_far Fetching Installing a b j e h = absurd (omega (arith, e))
as_far Latching Installing a b j e h = absurd (omega (arith, e))
as_far Invalidating Installing a b j e h = absurd (omega (arith, e))
as_far Installing Installing a b j e h = refl
as_far Writing Installing a b j e h = absurd (omega (arith, e))
as_far Cleaning Installing a b j e h = absurd (omega (arith, e))
as_far Releasing Installing a b j e h = absurd (omega (arith, e))
as_far Quitting Installing a b j e h = absurd (omega (arith, e))
as_far Ended Installing a b j e h = absurd (omega (arith, e))
as_far s Making a b j e h = absurd (false≢true j)
as_far s Registering a b j e h = absurd (false≢true j)
as_far s Fetching a b j e h = absurd (false≢true j)
as_far s Latching a b j e h = absurd (false≢true j)
as_far s Writing a b j e h = absurd (false≢true j)
as_far s Cleaning a b j e h = absurd (false≢true j)
as_far s Releasing a b j e h = absurd (false≢true j)
as_far s Quitting a b j e h = absurd (false≢true j)
as_far s Ended a b j e h = absurd (false≢true j)

-- an act of one page leaves it as far
answered_span : (st : Stage) (a : Option Addr) (b : Bool) → is_joint st ≡ false → span (stage_answered st a b) ≡ span st
answered_span Invalidating a b j = absurd (false≢true (sym j))
answered_span Installing a b j = absurd (false≢true (sym j))
answered_span Making None false j = refl
answered_span Making None true j = refl
answered_span Making (Some a) false j = refl
answered_span Making (Some a) true j = refl
answered_span Registering None false j = refl
answered_span Registering None true j = refl
answered_span Registering (Some a) false j = refl
answered_span Registering (Some a) true j = refl
answered_span st None false j = refl
answered_span st None true j = refl
answered_span st (Some a) false j = refl
answered_span st (Some a) true j = refl

written_span : (st : Stage) (a : Option Addr) → span (stage_written st a) ≡ span st
written_span Writing None = refl
written_span Writing (Some a) = refl
written_span st a = refl

cleaned_span : (st : Stage) (there : Bool) → span (stage_cleaned st there) ≡ span st
cleaned_span Cleaning true = refl
cleaned_span Cleaning false = refl
cleaned_span st there = refl

one_span : (st : Stage) (a : Option Addr) (told : Told) → is_joint st ≡ false → span (stage_after st a told) ≡ span st
one_span st a (Answer reply) j = answered_span st (address_in reply) (is_done reply) j
one_span Invalidating a (Tried Granted) j = refl
one_span st a (Tried Granted) j = refl
one_span st a (Tried (Busy holders)) j = refl
one_span st a (Looked seen) j = refl
one_span st a (Slab (Ok u)) j = written_span st a
one_span Cleaning a (Slab (Err why)) j = refl
one_span st a (Slab (Err why)) j = refl
one_span st a (Cleaned there) j = cleaned_span st there
one_span Installing a Installed j = absurd (false≢true (sym j))
one_span st a Installed j = refl
one_span st a NoAnswer j = refl

-- an act of all pages depends on nothing else
joint_stage : (st : Stage) (a b : Option Addr) (told : Told) → is_joint st ≡ true → stage_after st a told ≡ stage_after st b told
joint_stage Invalidating a b (Slab (Ok u)) j = refl
joint_stage Installing a b (Slab (Ok u)) j = refl
joint_stage Making a b told j = absurd (false≢true j)
joint_stage Registering a b told j = absurd (false≢true j)
joint_stage Fetching a b told j = absurd (false≢true j)
joint_stage Latching a b told j = absurd (false≢true j)
joint_stage Writing a b told j = absurd (false≢true j)
joint_stage Cleaning a b told j = absurd (false≢true j)
joint_stage Releasing a b told j = absurd (false≢true j)
joint_stage Quitting a b told j = absurd (false≢true j)
joint_stage Ended a b told j = absurd (false≢true j)
joint_stage st a b (Answer reply) j = refl
joint_stage st a b (Tried Granted) j = refl
joint_stage st a b (Tried (Busy holders)) j = refl
joint_stage st a b (Looked seen) j = refl
joint_stage st a b (Slab (Err why)) j = refl
joint_stage st a b (Cleaned there) j = refl
joint_stage st a b Installed j = refl
joint_stage st a b NoAnswer j = refl

-- a page that is fetched stays before the install
fetched_span : (over : Bool) → span (if over then Latching else Fetching) ≡ 0
fetched_span true = refl
fetched_span false = refl

span_told : (x y : PageWork) (told : Told) → Hears x told y → is_joint x.stage ≡ false → span y.stage ≡ span x.stage
span_told x y told h j = go (is_fetching x.stage) refl
  where
    go : (b : Bool) → is_fetching x.stage ≡ b → span y.stage ≡ span x.stage
    go true e =
        let is = a_fetch x.stage e in
        let F : Fetches x told y = h.fetched is in
        ap span F.stage ∙ fetched_span (is_over F.next && is_some y.fetch.address) ∙ sym (ap span is)
    go false e =
        let is : y ≡ after x told = h.planned (not_fetching x.stage e) in
        ap (λ (w : PageWork). span w.stage) is ∙ ap span (after_stage x told) ∙ one_span x.stage x.address told j

-- the pages and who fetches them stay
answer_fetch : (w : PageWork) (a : Option Addr) (b : Bool) → (done_in (registered_in w a) b).fetch ≡ w.fetch
answer_fetch w None false = refl
answer_fetch w None true = refl
answer_fetch w (Some a) false = refl
answer_fetch w (Some a) true = refl

after_fetch : (w : PageWork) (told : Told) → (after w told).fetch ≡ w.fetch
after_fetch w (Answer reply) = answer_fetch w (address_in reply) (is_done reply)
after_fetch w (Tried Granted) = refl
after_fetch w (Tried (Busy holders)) = refl
after_fetch w (Looked seen) = refl
after_fetch w (Slab (Ok u)) = refl
after_fetch w (Slab (Err why)) = refl
after_fetch w (Cleaned there) = refl
after_fetch w Installed = refl
after_fetch w NoAnswer = refl

writer_told : (x y : PageWork) (told : Told) → Hears x told y → y.fetch.writer ≡ x.fetch.writer
writer_told x y told h = go (is_fetching x.stage) refl
  where
    go : (b : Bool) → is_fetching x.stage ≡ b → y.fetch.writer ≡ x.fetch.writer
    go true e =
        let F : Fetches x told y = h.fetched (a_fetch x.stage e) in
        F.fetch.writer
    go false e =
        let is : y ≡ after x told = h.planned (not_fetching x.stage e) in
        ap (λ (w : PageWork). w.fetch.writer) is ∙ ap (λ (f : Fetch). f.writer) (after_fetch x told)

writer_takes : (told : Told) (b : Bool) (x y : PageWork) → MatchBool b (Hears x told y) (y ≡ x) → y.fetch.writer ≡ x.fetch.writer
writer_takes told true x y h = writer_told x y told h
writer_takes told false x y h = ap (λ (w : PageWork). w.fetch.writer) h

pub numbers_each : (before now : List PageWork) → length now ≡ length before → ((k : ℕ) → k < length before → (d : PageWork) → (get_or now k d).fetch.page ≡ (get_or before k d).fetch.page) → numbers now ≡ numbers before
numbers_each [] [] long each = refl
numbers_each [] (y ∷ ys) long each = absurd (omega arith)
numbers_each (x ∷ xs) [] long each = absurd (omega arith)
numbers_each (x ∷ xs) (y ∷ ys) long each =
    let first : y.fetch.page ≡ x.fetch.page = each 0 (omega arith) x in
    let rest : numbers ys ≡ numbers xs = numbers_each xs ys (omega arith) (λ k h d. each (suc k) (omega arith) d) in
    cc

-- an act of one page
pub alone : (page : ℕ) (told : Told) (x y : PageWork) → Takes page false told x y → span y.stage ≡ span x.stage
alone page told x y h = go (is_joint x.stage) refl (nat_eq x.fetch.page page) refl
  where
    go : (j : Bool) → is_joint x.stage ≡ j → (b : Bool) → nat_eq x.fetch.page page ≡ b → span y.stage ≡ span x.stage
    go true e b q = ap (λ (w : PageWork). span w.stage) (stays (Hears x told y) (y ≡ x) (is_in page false x) (ap (λ j. not j && nat_eq x.fetch.page page) e) h)
    go false e true q = span_told x y told (tells (Hears x told y) (y ≡ x) (is_in page false x) (ap (λ j. not j && nat_eq x.fetch.page page) e ∙ q) h) e
    go false e false q = ap (λ (w : PageWork). span w.stage) (stays (Hears x told y) (y ≡ x) (is_in page false x) (ap (λ j. not j && nat_eq x.fetch.page page) e ∙ q) h)

-- an act of all pages
pub not_joint_fetch : (st : Stage) → is_joint st ≡ true → st ≡ Fetching → ⊥
not_joint_fetch st j e = false≢true (sym (ap is_joint e) ∙ j)

pub joint : (page : ℕ) (told : Told) (t x y : PageWork) → is_joint t.stage ≡ true → x.stage ≡ t.stage → Takes page true told x y → y.stage ≡ stage_after t.stage None told
joint page told t x y j e h =
    let here : is_joint x.stage ≡ true = ap is_joint e ∙ j in
    let hears : Hears x told y = tells (Hears x told y) (y ≡ x) (is_in page true x) here h in
    let is : y ≡ after x told = hears.planned (not_joint_fetch x.stage here) in
    ap (λ (w : PageWork). w.stage) is ∙ after_stage x told ∙ ap (λ st. stage_after st x.address told) e ∙ joint_stage t.stage x.address None told j

together_told : (works now : List PageWork) (told : Told) (t : PageWork) → IsNext works t → Together works → length now ≡ length works → AllTake t.fetch.page (is_joint t.stage) told works now → Together now
together_told works now told t next same long each = go (is_joint t.stage) refl each
  where
    go : (b : Bool) → is_joint t.stage ≡ b → AllTake t.fetch.page b told works now → Together now
    go false e each = λ j hj k hk d.
        let hj : j < length works = omega arith in
        let hk : k < length works = omega arith in
        alone t.fetch.page told (get_or works j d) (get_or now j d) (each j hj d) ∙ same j hj k hk d ∙ sym (alone t.fetch.page told (get_or works k d) (get_or now k d) (each k hk d))
    go true e each =
        let at : (k : ℕ) → k < length works → (d : PageWork) → (get_or works k d).stage ≡ t.stage =
        λ k h d.
        let far : span (get_or works k d).stage ≡ span t.stage = same k h next.place next.within d ∙ ap (λ (w : PageWork). span w.stage) (next.at d) in
        as_far (get_or works k d).stage t.stage (get_or works k d) t e far (next.least k h d)
        in
        let now_at : (k : ℕ) → k < length works → (d : PageWork) → (get_or now k d).stage ≡ stage_after t.stage None told =
        λ k h d. joint t.fetch.page told t (get_or works k d) (get_or now k d) e (at k h d) (each k h d)
        in
        λ j hj k hk d.
        let hj : j < length works = omega arith in
        let hk : k < length works = omega arith in
        ap span (now_at j hj d) ∙ sym (ap span (now_at k hk d))

pub progress_told : (m : Progress) → IsProgress m → (told : Told) (now : List PageWork) → Turns told m.works now → IsProgress (record m { works = now })
progress_told m inv told now t = go (next_of m.works) refl
  where
    go : (o : Option PageWork) → next_of m.works ≡ o → IsProgress (record m { works = now })
    go None e = subst (λ ws. IsProgress (record m { works = ws })) (sym (t.none e)) inv
    go (Some turn) e =
        let each = t.each turn e in
        record {
          pages = numbers_each m.works now t.long (λ k h d. takes_page told (is_in turn.fetch.page (is_joint turn.stage) (get_or m.works k d)) (get_or m.works k d) (get_or now k d) (each k h d)) ∙ inv.pages;
          together = together_told m.works now told turn (next_place m.works turn e) inv.together t.long each;
          holds = λ k h d e.
              let h : k < length m.works = omega (arith, t.long) in
              holds_takes told (is_in turn.fetch.page (is_joint turn.stage) (get_or m.works k d)) (get_or m.works k d) (get_or now k d) (each k h d) (inv.holds k h d) e;
          writers = λ k h d.
              let h : k < length m.works = omega (arith, t.long) in
              writer_takes told (is_in turn.fetch.page (is_joint turn.stage) (get_or m.works k d)) (get_or m.works k d) (get_or now k d) (each k h d) ∙ inv.writers k h d;
        }

-- of a list with a page, some page's turn is next
pub some_next : (works : List PageWork) → 0 < length works → (t : PageWork) × (next_of works ≡ Some t)
some_next [] h = absurd (omega arith)
some_next (w ∷ ws) h = (best_of is_before w ws, refl)

past : (st : Stage) → is_past_install st ≡ true → is_joint st ≡ false
past Writing e = refl
past Cleaning e = refl
past Releasing e = refl
past Ended e = refl
past Making e = refl
past Registering e = refl
past Fetching e = refl
past Latching e = refl
past Quitting e = refl
past Invalidating e = absurd (false≢true e)
past Installing e = absurd (false≢true e)

-- an act of one page leaves the next one as far
pub next_span : (m : Progress) → IsProgress m → (told : Told) (now : List PageWork) → Turns told m.works now → (t u : PageWork) → next_of m.works ≡ Some t → is_joint t.stage ≡ false → next_of now ≡ Some u → span u.stage ≡ span t.stage
next_span m inv told now turns t u is single later =
    let next = next_place m.works t is in
    let now_next = next_place now u later in
    let place : now_next.place < length m.works = omega (arith, turns.long, now_next.within) in
    let x : PageWork = get_or m.works now_next.place t in
    let y : PageWork = get_or now now_next.place t in
    let takes : Takes t.fetch.page false told x y = subst (λ b. Takes t.fetch.page b told x y) single (turns.each t is now_next.place place t) in
    sym (ap (λ (w : PageWork). span w.stage) (now_next.at t)) ∙ alone t.fetch.page told x y takes ∙ inv.together now_next.place place next.place next.within t ∙ ap (λ (w : PageWork). span w.stage) (next.at t)

pub some_later : (m : Progress) (told : Told) (now : List PageWork) → Turns told m.works now → (t : PageWork) → next_of m.works ≡ Some t → (u : PageWork) × (next_of now ≡ Some u)
some_later m told now turns t is =
    let next = next_place m.works t is in
    some_next now (omega (arith, turns.long, next.within))

pub installed_told : (m : Progress) → IsProgress m → (told : Told) (now : List PageWork) → Turns told m.works now → is_installed m ≡ true → is_installed (record m { works = now }) ≡ true
installed_told m inv told now turns e = go (next_of m.works) refl e
  where
    go : (o : Option PageWork) → next_of m.works ≡ o → option_map_or (λ w. is_past_install w.stage) o false ≡ true → is_installed (record m { works = now }) ≡ true
    go None is e = absurd (false≢true e)
    go (Some t) is e =
        let later = some_later m told now turns t is in
        let at : span later.0.stage ≡ span t.stage = next_span m inv told now turns t later.0 is (past t.stage e) later.1 in
        let here : is_past_install later.0.stage ≡ true = ap (λ n. nat_eq n 2) at ∙ e in
        subst (λ o. option_map_or (λ (w : PageWork). is_past_install w.stage) o false ≡ true) (sym later.1) here
