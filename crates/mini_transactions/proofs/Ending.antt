-- Where a plan begins, is given up, installs and ends.
use Rattle.std.proofs.Common.{◌≡◌, ◌<◌, ◌+◌, ℕ, suc, Bool, true, false, cond, nat_eq, nat_lt, Option, Some, None, List, [], ◌∷◌, ◌++◌, length, get_or, MatchOption, refl, sym, ap, subst, ◌∙◌, if◌then◌else◌, is_some, length-append, arith}
use Rattle.std.specs.List.{find}
use Rattle.std.specs.Option.{option_map_or}
use Rattle.std.proofs.lemmas.Bool.{false≢true}
use Rattle.std.proofs.lemmas.Bool.Decides.{nat_tests}
use Rattle.std.proofs.lemmas.List.{get_or_append_left}
use Rattle.std.proofs.Math.Seq.{get_or-append_seam}
use Rattle.rm_base.specs.declared.places.Addr.{Addr}
use Rattle.page_image.specs.Image.{Image}
use Rattle.redo_record.specs.declared.plans.Plan.{Plan}
use Rattle.node_model.specs.Call.{Call, is_of_work}
use Rattle.node_model.specs.Step.{Step}
use Rattle.node_model.specs.Node.{Node}
use Rattle.node_model.specs.Learning.{gives_up}
use Rattle.fetch_steps.specs.Fetch.{may_hold as fetch_holds}
use Rattle.fetch_steps.specs.Telling.{settled}
use Rattle.mini_transactions.specs.declared.known.KnownPage.{KnownPage}
use Rattle.mini_transactions.specs.declared.stage.Stage.{Stage}
use Rattle.mini_transactions.specs.declared.stage.Stage.TheVariants.{Making, Registering, Fetching, Latching, Invalidating, Installing, Writing, Cleaning, Releasing, Quitting, Ended}
use Rattle.mini_transactions.specs.declared.page_work.PageWork.{PageWork}
use Rattle.mini_transactions.specs.Work.{step_at, page_step, claims_at, may_claim, given_up, turn_at, next_of}
use Rattle.mini_transactions.specs.Beginning.{first_stage, makes, Begins, AllBegin}
use Rattle.mini_transactions.specs.Hearing.{quit, claim_quit}
use Rattle.mini_transactions.specs.Progress.{Progress, span, is_joint, is_past_install, is_installed, holds_x, work_of}
use Rattle.mini_transactions.specs.Together.{numbers, Holding, IsProgress, AllQuit}
use Rattle.mini_transactions.specs.Told.{GivesUp, AllInstall, AllEnded}
use Rattle.mini_transactions.proofs.InTurn.{Found, find_each}
use Rattle.mini_transactions.proofs.Joint.{next_place, as_far, numbers_each}

-- ---------------- the begin

first_span : (made copy has_address : Bool) → span (first_stage made copy has_address) ≡ 0
first_span true copy true = refl
first_span true copy false = refl
first_span false true true = refl
first_span false true false = refl
first_span false false has_address = refl

begins_span : (p : ℕ) (made copy : Bool) (a : Option Addr) (w : PageWork) → Begins p made copy a w → span w.stage ≡ 0
begins_span p made copy a w b = ap span b.stage ∙ first_span made copy (is_some a)

first_free : (made copy has_address : Bool) → holds_x (first_stage made copy has_address) ≡ true → ⊥
first_free true copy true h = false≢true h
first_free true copy false h = false≢true h
first_free false true true h = false≢true h
first_free false true false h = false≢true h
first_free false false has_address h = false≢true h

begins_free : (p : ℕ) (made copy : Bool) (a : Option Addr) (w : PageWork) → Begins p made copy a w → holds_x w.stage ≡ true → ⊥
begins_free p made copy a w b h = first_free made copy (is_some a) (sym (ap holds_x b.stage) ∙ h)

less : (k n : ℕ) → nat_lt k n ≡ true → k < n
less k n e = grind (arith, nat_tests)

last : (k n m : ℕ) → m ≡ n + 1 → k < m → nat_lt k n ≡ false → k ≡ n
last k n m l h e = grind (arith, nat_tests)

-- one more page
pub more_begun : (plan : Plan) (known : List KnownPage) (works : List PageWork) (w : PageWork) → AllBegin plan known works
    → ((p : ℕ) (page : KnownPage) → Begins (get_or plan.pages (length works) p) (makes plan (get_or plan.pages (length works) p)) (get_or known (length works) page).copy (get_or known (length works) page).addr w)
    → AllBegin plan known (works ++ w ∷ [])
more_begun plan known works w all one k h p page d = go (nat_lt k (length works)) refl
  where
    go : (b : Bool) → nat_lt k (length works) ≡ b → Begins (get_or plan.pages k p) (makes plan (get_or plan.pages k p)) (get_or known k page).copy (get_or known k page).addr (get_or (works ++ w ∷ []) k d)
    go true e =
        let P : PageWork → Type 0 = λ v. Begins (get_or plan.pages k p) (makes plan (get_or plan.pages k p)) (get_or known k page).copy (get_or known k page).addr v in
        let h : k < length works = less k (length works) e in
        subst P (sym (get_or_append_left works (w ∷ []) d k h)) (all k h p page d)
    go false e =
        let at : k ≡ length works = last k (length works) (length (works ++ w ∷ [])) (length-append works (w ∷ [])) h e in
        let P : ℕ → PageWork → Type 0 = λ j v. Begins (get_or plan.pages j p) (makes plan (get_or plan.pages j p)) (get_or known j page).copy (get_or known j page).addr v in
        let here : P (length works) (get_or (works ++ w ∷ []) (length works) d) = subst (λ v. P (length works) v) (sym (get_or-append_seam works w [] d)) (one p page) in
        subst (λ j. P j (get_or (works ++ w ∷ []) j d)) (sym at) here

-- the page at place i, as it is read there
pub begun_here : (plan : Plan) (known : List KnownPage) (i x : ℕ) (page_known : KnownPage) (made : Bool) (w : PageWork) → Begins x made page_known.copy page_known.addr w → ((p : ℕ) → x ≡ get_or plan.pages i p) → ((page : KnownPage) → page_known ≡ get_or known i page) → made ≡ makes plan x
    → (n : ℕ) → n ≡ i → (p : ℕ) (page : KnownPage) → Begins (get_or plan.pages n p) (makes plan (get_or plan.pages n p)) (get_or known n page).copy (get_or known n page).addr w
begun_here plan known i x page_known made w b at known_at is n same p page =
    let P : ℕ → Bool → KnownPage → Type 0 = λ q m k. Begins q m k.copy k.addr w in
    let with_made : P x (makes plan x) page_known = subst (λ m. P x m page_known) is b in
    let with_known : P x (makes plan x) (get_or known i page) = subst (λ k. P x (makes plan x) k) (known_at page) with_made in
    let with_page : P (get_or plan.pages i p) (makes plan (get_or plan.pages i p)) (get_or known i page) = subst (λ q. P q (makes plan q) (get_or known i page)) (at p) with_known in
    subst (λ j. P (get_or plan.pages j p) (makes plan (get_or plan.pages j p)) (get_or known j page)) (sym same) with_page

numbers_begin : (pages : List ℕ) (works : List PageWork) → length works ≡ length pages → ((k : ℕ) → k < length works → (p : ℕ) (w : PageWork) → (get_or works k w).fetch.page ≡ get_or pages k p) → numbers works ≡ pages
numbers_begin [] [] long each = refl
numbers_begin [] (w ∷ ws) long each = absurd (omega arith)
numbers_begin (p ∷ ps) [] long each = absurd (omega arith)
numbers_begin (p ∷ ps) (w ∷ ws) long each =
    let first : w.fetch.page ≡ p = each 0 (omega arith) p w in
    let rest : numbers ws ≡ ps = numbers_begin ps ws (omega arith) (λ k h q d. each (suc k) (omega arith) q d) in
    cc

pub progress_begun : (plan : Plan) (lsn : ℕ) (known : List KnownPage) (works : List PageWork) → length works ≡ length plan.pages → AllBegin plan known works → IsProgress (record { plan = plan; lsn = lsn; works = works })
progress_begun plan lsn known works long each =
    let unknown : KnownPage = record { addr = None; copy = false } in
    record {
      pages = numbers_begin plan.pages works long (λ k h p w. (each k h p unknown w).number);
      together = λ j hj k hk d. begins_span _ _ _ _ _ (each j hj 0 unknown d) ∙ sym (begins_span _ _ _ _ _ (each k hk 0 unknown d));
      writers = λ k h d. (each k h 0 unknown d).writer;
      holds = λ k h d e. absurd (begins_free _ _ _ _ _ (each k h 0 unknown d) e);
    }

-- ---------------- giving up

abbrev Quit : PageWork → PageWork → Type 0
Quit x y = y ≡ quit x (fetch_holds x.fetch)

quits : (waits claimed : Bool) → given_up waits claimed ≡ settled (if waits then Step.GivenUp else Step.ReleaseEnd) claimed
quits true true = refl
quits true false = refl
quits false true = refl
quits false false = refl

quit_claim : (st : Stage) (x : PageWork) → claim_quit st (fetch_holds x.fetch) x.claimed ≡ claims_at st x
quit_claim Fetching x = refl
quit_claim st x = refl

quit_step : (p : ℕ) (v : Image) (N : Node) (o now : Option PageWork) → Found Quit p o now → is_some o ≡ true → option_map_or (λ w. page_step w v N.call) now Step.Idle ≡ settled (gives_up N).step (option_map_or may_claim o false)
quit_step p v N None None f e = absurd (false≢true e)
quit_step p v N None (Some y) f e = absurd f
quit_step p v N (Some x) None f e = absurd f
quit_step p v N (Some x) (Some y) f e =
    ap (λ w. page_step w v N.call) f.0 ∙ quits (is_of_work N.call) (claim_quit x.stage (fetch_holds x.fetch) x.claimed) ∙ ap (λ c. settled (if is_of_work N.call then Step.GivenUp else Step.ReleaseEnd) c) (quit_claim x.stage x)

quit_latch : (p : ℕ) (o now : Option PageWork) → Found Quit p o now → option_map_or may_claim now false ≡ option_map_or may_claim o false
quit_latch p None None f = refl
quit_latch p None (Some y) f = absurd f
quit_latch p (Some x) None f = absurd f
quit_latch p (Some x) (Some y) f = ap may_claim f.0 ∙ quit_claim x.stage x

pub progress_quit : (m : Progress) → IsProgress m → (now : List PageWork) → length now ≡ length m.works → AllQuit m.works now → IsProgress (record m { works = now })
progress_quit m inv now long each = record {
  pages = numbers_each m.works now long (λ k h d. ap (λ (w : PageWork). w.fetch.page) (each k h d)) ∙ inv.pages;
  together = λ j hj k hk d. ap (λ (w : PageWork). span w.stage) (each j (omega (arith, long)) d) ∙ sym (ap (λ (w : PageWork). span w.stage) (each k (omega (arith, long)) d));
  holds = λ k h d e. absurd (false≢true (sym (ap (λ (w : PageWork). holds_x w.stage) (each k (omega (arith, long)) d)) ∙ e));
  writers = λ k h d.
      let h : k < length m.works = omega (arith, long) in
      ap (λ (w : PageWork). w.fetch.writer) (each k h d) ∙ inv.writers k h d;
}

pub plan_quit : (m : Progress) (now : List PageWork) → length now ≡ length m.works → AllQuit m.works now → GivesUp m (record m { works = now })
plan_quit m now long each =
    let found : (p : ℕ) → Found Quit p (work_of m p) (find (λ w. nat_eq w.fetch.page p) now) = λ p. find_each Quit (λ x y h. ap (λ (w : PageWork). w.fetch.page) h) p m.works now long each in
    record {
      plan = refl;
      lsn = refl;
      step = λ p v N e. quit_step p v N (work_of m p) (find (λ w. nat_eq w.fetch.page p) now) (found p) e;
      latch = λ p. quit_latch p (work_of m p) (find (λ w. nat_eq w.fetch.page p) now) (found p);
    }

-- ---------------- the install and the end

all_found : (st : Stage) (p : ℕ) (works : List PageWork) → ((k : ℕ) → k < length works → (d : PageWork) → (get_or works k d).stage ≡ st) → MatchOption (find (λ w. nat_eq w.fetch.page p) works) (Unit {0}) (λ w. w.stage ≡ st)
all_found st p [] all = tt
all_found st p (w ∷ ws) all = picked w (nat_eq w.fetch.page p) (find (λ x. nat_eq x.fetch.page p) ws) (all 0 (omega arith) w) (all_found st p ws (λ k h d. all (suc k) (omega arith) d))
  where
    picked : (w : PageWork) (b : Bool) (o : Option PageWork) → w.stage ≡ st → MatchOption o (Unit {0}) (λ x. x.stage ≡ st) → MatchOption (cond b (Some w) o) (Unit {0}) (λ x. x.stage ≡ st)
    picked w true o e f = e
    picked w false o e f = f

found_holding : (p : ℕ) (works : List PageWork) → Holding works → MatchOption (find (λ w. nat_eq w.fetch.page p) works) (Unit {0}) (λ w. holds_x w.stage ≡ true → w.claimed ≡ true)
found_holding p [] all = tt
found_holding p (w ∷ ws) all = picked w (nat_eq w.fetch.page p) (find (λ x. nat_eq x.fetch.page p) ws) (all 0 (omega arith) w) (found_holding p ws (λ k h d. all (suc k) (omega arith) d))
  where
    picked : (w : PageWork) (b : Bool) (o : Option PageWork) → (holds_x w.stage ≡ true → w.claimed ≡ true) → MatchOption o (Unit {0}) (λ x. holds_x x.stage ≡ true → x.claimed ≡ true) → MatchOption (cond b (Some w) o) (Unit {0}) (λ x. holds_x x.stage ≡ true → x.claimed ≡ true)
    picked w true o e f = e
    picked w false o e f = f

install_step : (v : Image) (call : Call) (o : Option PageWork) → MatchOption o (Unit {0}) (λ w. w.stage ≡ Installing) → MatchOption o (Unit {0}) (λ w. holds_x w.stage ≡ true → w.claimed ≡ true) → is_some o ≡ true
    → (option_map_or (λ w. page_step w v call) o Step.Idle ≡ Step.PlanInstall) × (option_map_or may_claim o false ≡ true)
install_step v call None h k e = absurd (false≢true e)
install_step v call (Some w) h k e = (ap (λ st. step_at st w.address w.claimed w.fetch v (is_of_work call)) h, ap (λ st. claims_at st w) h ∙ k (ap holds_x h))

end_step : (v : Image) (call : Call) (o : Option PageWork) → MatchOption o (Unit {0}) (λ w. w.stage ≡ Ended) → option_map_or (λ w. page_step w v call) o Step.Idle ≡ Step.Idle
end_step v call None h = refl
end_step v call (Some w) h = ap (λ st. step_at st w.address w.claimed w.fetch v (is_of_work call)) h

joint_at : (st : Stage) → st ≡ Installing → is_joint st ≡ true
joint_at st e = ap is_joint e

pub all_install : (m : Progress) → IsProgress m → (t : PageWork) → next_of m.works ≡ Some t → t.stage ≡ Installing → AllInstall m
all_install m inv t is e = λ p v call s.
    let next = next_place m.works t is in
    let at : (k : ℕ) → k < length m.works → (d : PageWork) → (get_or m.works k d).stage ≡ Installing =
    λ k h d.
    let far : span (get_or m.works k d).stage ≡ span t.stage = inv.together k h next.place next.within d ∙ ap (λ (w : PageWork). span w.stage) (next.at d) in
    as_far (get_or m.works k d).stage t.stage (get_or m.works k d) t (joint_at t.stage e) far (next.least k h d) ∙ e
    in
    install_step v call (work_of m p) (all_found Installing p m.works at) (found_holding p m.works inv.holds) s

ended : (s t : Stage) (a b : PageWork) → t ≡ Ended → span s ≡ span t → nat_lt (turn_at s a) (turn_at t b) ≡ false → s ≡ Ended
ended s t a b e f h = go s (f ∙ ap span e) (subst (λ st. nat_lt (turn_at s a) (turn_at st b) ≡ false) e h)
  where
    go : (s : Stage) → span s ≡ 2 → nat_lt (turn_at s a) 32768 ≡ false → s ≡ Ended
    go Ended f h = refl
    go Writing f h = absurd (false≢true (sym h))
    go Cleaning f h = absurd (false≢true (sym h))
    go Releasing f h = absurd (false≢true (sym h))
    go Making f h = absurd (omega (arith, f))
    go Registering f h = absurd (omega (arith, f))
    go Fetching f h = absurd (omega (arith, f))
    go Latching f h = absurd (omega (arith, f))
    go Invalidating f h = absurd (omega (arith, f))
    go Installing f h = absurd (omega (arith, f))
    go Quitting f h = absurd (omega (arith, f))

pub all_ended : (m : Progress) → IsProgress m → (t : PageWork) → next_of m.works ≡ Some t → t.stage ≡ Ended → AllEnded m
all_ended m inv t is e = λ p v call.
    let next = next_place m.works t is in
    let at : (k : ℕ) → k < length m.works → (d : PageWork) → (get_or m.works k d).stage ≡ Ended =
    λ k h d.
    let far : span (get_or m.works k d).stage ≡ span t.stage = inv.together k h next.place next.within d ∙ ap (λ (w : PageWork). span w.stage) (next.at d) in
    ended (get_or m.works k d).stage t.stage (get_or m.works k d) t e far (next.least k h d)
    in
    end_step v call (work_of m p) (all_found Ended p m.works at)

pub installed_at : (m : Progress) (t : PageWork) → next_of m.works ≡ Some t → is_installed m ≡ true → is_past_install t.stage ≡ true
installed_at m t is e = subst (λ o. option_map_or (λ (w : PageWork). is_past_install w.stage) o false ≡ true) is e
