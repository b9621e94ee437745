-- What is told of the next act of a plan leaves fewer acts, where it is no obstacle.
use Rattle.std.proofs.Common.{◌≡◌, ◌<◌, ◌≤◌, ◌+◌, ℕ, zero, suc, Bool, true, false, nat_eq, Option, Some, None, List, [], ◌∷◌, length, get_or, Ok, Err, refl, sym, ap, subst, ◌∙◌, if◌then◌else◌, is_some, not, ◌&&◌, lit<, arith}
use Rattle.std.specs.Option.{option_map_or}
use Rattle.std.proofs.lemmas.Bool.{false≢true}
use Rattle.std.proofs.lemmas.Bool.Decides.{nat_tests}
use Rattle.rm_base.specs.declared.places.Addr.{Addr}
use Rattle.page_image.specs.Image.{Image}
use Rattle.page_latches.specs.declared.latch.Latch.TheVariants.{Granted, Busy}
use Rattle.message_network.specs.declared.calls.Reply.TheVariants.{Registered, PoolFull, Started, Done as DoneReply}
use Rattle.node_model.specs.Call.{Call.Quiet}
use Rattle.fetch_steps.specs.declared.acts.Action.TheVariants.{Finished}
use Rattle.fetch_steps.specs.declared.acts.Told.{Told}
use Rattle.fetch_steps.specs.declared.acts.Told.TheVariants.{Answer, Latch as Tried, Slab, Cleaned, Installed, NoAnswer}
use Rattle.fetch_steps.specs.Fetch.{Fetch, step_of}
use Rattle.fetch_steps.specs.Acts.{act_of, tells_of, tells_call, replies_invalidate, tells_install}
use Rattle.fetch_steps.specs.Work.{acts_left as fetch_acts, Obstacle, obstacle_of as fetch_obstacle}
use Rattle.mini_transactions.specs.declared.stage.Stage.{Stage}
use Rattle.mini_transactions.specs.declared.stage.Stage.TheVariants.{Making, Registering, Fetching, Latching, Invalidating, Installing, Writing, Cleaning, Releasing, Quitting, Ended}
use Rattle.mini_transactions.specs.declared.page_work.PageWork.{PageWork}
use Rattle.mini_transactions.specs.Work.{next_of}
use Rattle.mini_transactions.specs.Hearing.{after}
use Rattle.mini_transactions.specs.Fetching.{Hears, Fetches, is_over}
use Rattle.mini_transactions.specs.Progress.{Progress, is_in, is_joint, is_fetching, span, act_of_page, next_act}
use Rattle.mini_transactions.specs.Together.{numbers, IsProgress, Takes, Turns}
use Rattle.mini_transactions.specs.ActsLeft.{with_slot, acts_at, page_acts, acts_of_pages, joint_acts, acts_left, obstacle_of, Differ, Goes}
use Rattle.mini_transactions.proofs.Acts.{act_of_fetch}
use Rattle.mini_transactions.proofs.InTurn.{tells, stays}
use Rattle.mini_transactions.proofs.Clauses.{a_fetch, not_fetching}
use Rattle.mini_transactions.proofs.Spans.{stage_after}
use Rattle.mini_transactions.proofs.Joint.{IsNext, next_place, as_far, joint, next_span, some_later, not_joint_fetch}

never : false ≡ true → ⊥
never e = false≢true e

some_none : (x : Obstacle) → Some x ≡ None → ⊥
some_none x e = cc

-- ---------------- one page

-- a page past its fetch, in an act of its own
falls_at : (st : Stage) (a : Option Addr) (c : Bool) (f : Fetch) (told : Told) (pages : List ℕ) (lsn : ℕ) (v : Image) → is_fetching st ≡ false → is_joint st ≡ false
    → tells_of (act_of_page pages lsn v (record { stage = st; address = a; claimed = c; fetch = f })) told ≡ true → fetch_obstacle f told ≡ None
    → page_acts (after (record { stage = st; address = a; claimed = c; fetch = f }) told) < page_acts (record { stage = st; address = a; claimed = c; fetch = f })
falls_at Making a c f (Answer (Registered address bit floor)) pages lsn v e j h o = lit< tt
falls_at Making a c f (Answer (PoolFull slots)) pages lsn v e j h o = absurd (some_none _ o)
falls_at Making a c f _ pages lsn v e j h o = absurd (never h)
falls_at Registering a c f (Answer (Registered address bit floor)) pages lsn v e j h o = lit< tt
falls_at Registering a c f (Answer (PoolFull slots)) pages lsn v e j h o = absurd (some_none _ o)
falls_at Registering a c f _ pages lsn v e j h o = absurd (never h)
falls_at Fetching a c f told pages lsn v e j h o = absurd (false≢true (sym e))
falls_at Latching None c f (Tried Granted) pages lsn v e j h o = lit< tt
falls_at Latching (Some b) c f (Tried Granted) pages lsn v e j h o = lit< tt
falls_at Latching a c f (Tried (Busy holders)) pages lsn v e j h o = absurd (some_none _ o)
falls_at Latching a c f NoAnswer pages lsn v e j h o = absurd (some_none _ o)
falls_at Latching a c f _ pages lsn v e j h o = absurd (never h)
falls_at Invalidating a c f told pages lsn v e j h o = absurd (false≢true (sym j))
falls_at Installing a c f told pages lsn v e j h o = absurd (false≢true (sym j))
falls_at Writing None c f (Answer (Registered address bit floor)) pages lsn v e j h o = lit< tt
falls_at Writing None c f (Answer (PoolFull slots)) pages lsn v e j h o = absurd (some_none _ o)
falls_at Writing None c f _ pages lsn v e j h o = absurd (never h)
falls_at Writing (Some b) c f (Slab (Ok u)) pages lsn v e j h o = lit< tt
falls_at Writing (Some b) c f (Slab (Err why)) pages lsn v e j h o = absurd (some_none _ o)
falls_at Writing (Some b) c f NoAnswer pages lsn v e j h o = absurd (some_none _ o)
falls_at Writing (Some b) c f _ pages lsn v e j h o = absurd (never h)
falls_at Cleaning a c f (Cleaned true) pages lsn v e j h o = lit< tt
falls_at Cleaning a c f (Cleaned false) pages lsn v e j h o = absurd (some_none _ o)
falls_at Cleaning a c f (Slab (Err why)) pages lsn v e j h o = absurd (some_none _ o)
falls_at Cleaning a c f NoAnswer pages lsn v e j h o = absurd (some_none _ o)
falls_at Cleaning a c f _ pages lsn v e j h o = absurd (never h)
falls_at Releasing a c f (Tried Granted) pages lsn v e j h o = lit< tt
falls_at Releasing a c f (Tried (Busy holders)) pages lsn v e j h o = absurd (some_none _ o)
falls_at Releasing a c f NoAnswer pages lsn v e j h o = absurd (some_none _ o)
falls_at Releasing a c f _ pages lsn v e j h o = absurd (never h)
falls_at Quitting a true f (Tried Granted) pages lsn v e j h o = lit< tt
falls_at Quitting a true f (Tried (Busy holders)) pages lsn v e j h o = absurd (some_none _ o)
falls_at Quitting a true f NoAnswer pages lsn v e j h o = absurd (some_none _ o)
falls_at Quitting a true f _ pages lsn v e j h o = absurd (never h)
falls_at Quitting a false f _ pages lsn v e j h o = absurd (never h)
falls_at Ended a c f _ pages lsn v e j h o = absurd (never h)

-- a page that is fetched
slot_is : (fa : Option Addr) → is_some fa ≡ true → with_slot fa 4 ≡ 4
slot_is None e = absurd (false≢true e)
slot_is (Some a) e = refl

second : (p q : Bool) → p && q ≡ true → q ≡ true
second true q e = e
second false q e = absurd (false≢true e)

fetched_falls : (over : Bool) (x y : PageWork) → x.stage ≡ Fetching → y.stage ≡ (if over then Latching else Fetching) → y.address ≡ (if over then y.fetch.address else x.address) → (over ≡ true → is_some y.fetch.address ≡ true) → fetch_acts y.fetch < fetch_acts x.fetch → page_acts y < page_acts x
fetched_falls true x y is st a known less =
    let was : page_acts x ≡ fetch_acts x.fetch + 4 = ap (λ s. acts_at s x) is in
    let now : page_acts y ≡ 4 = ap (λ s. acts_at s y) st ∙ ap (λ b. with_slot b 4) a ∙ slot_is y.fetch.address (known refl) in
    omega (arith, was, now, less)
fetched_falls false x y is st a known less =
    let was : page_acts x ≡ fetch_acts x.fetch + 4 = ap (λ s. acts_at s x) is in
    let now : page_acts y ≡ fetch_acts y.fetch + 4 = ap (λ s. acts_at s y) st in
    omega (arith, was, now, less)

page_falls : (x y : PageWork) (told : Told) (pages : List ℕ) (lsn : ℕ) (v : Image) → Hears x told y → is_joint x.stage ≡ false → tells_of (act_of_page pages lsn v x) told ≡ true → fetch_obstacle x.fetch told ≡ None → page_acts y < page_acts x
page_falls x y told pages lsn v h j fits o = go (is_fetching x.stage) refl
  where
    go : (b : Bool) → is_fetching x.stage ≡ b → page_acts y < page_acts x
    go true e =
        let is : x.stage ≡ Fetching = a_fetch x.stage e in
        let F : Fetches x told y = h.fetched is in
        let act : act_of_page pages lsn v x ≡ act_of x.fetch.page x.fetch.address (step_of x.fetch v Quiet) =
        ap (λ st. act_of_page pages lsn v (record x { stage = st })) is ∙ act_of_fetch pages lsn x.fetch.page x.fetch.address x.fetch.place x.fetch.lsn v false in
        let asks : tells_of (act_of x.fetch.page x.fetch.address (step_of x.fetch v Quiet)) told ≡ true = sym (ap (λ act. tells_of act told) act) ∙ fits in
        fetched_falls (is_over F.next && is_some y.fetch.address) x y is F.stage F.address (second (is_over F.next) (is_some y.fetch.address)) (F.fetch.falls v (asks, o))
    go false e =
        let is : y ≡ after x told = h.planned (not_fetching x.stage e) in
        subst (λ w. page_acts w < page_acts x) (sym is) (falls_at x.stage x.address x.claimed x.fetch told pages lsn v e j fits o)

-- ---------------- the sum

sum_le : (before now : List PageWork) → length now ≡ length before → ((k : ℕ) → k < length before → (d : PageWork) → page_acts (get_or now k d) ≤ page_acts (get_or before k d)) → acts_of_pages now ≤ acts_of_pages before
sum_le [] [] long each = omega arith
sum_le [] (y ∷ ys) long each = absurd (omega arith)
sum_le (x ∷ xs) [] long each = absurd (omega arith)
sum_le (x ∷ xs) (y ∷ ys) long each =
    let first : page_acts y ≤ page_acts x = each 0 (omega arith) x in
    let rest : acts_of_pages ys ≤ acts_of_pages xs = sum_le xs ys (omega arith) (λ k h d. each (suc k) (omega arith) d) in
    omega (arith, first, rest)

sum_lt : (i : ℕ) (before now : List PageWork) → length now ≡ length before → i < length before → ((d : PageWork) → page_acts (get_or now i d) < page_acts (get_or before i d)) → ((k : ℕ) → k < length before → (d : PageWork) → page_acts (get_or now k d) ≤ page_acts (get_or before k d)) → acts_of_pages now < acts_of_pages before
sum_lt i [] now long h less each = absurd (omega arith)
sum_lt i (x ∷ xs) [] long h less each = absurd (omega arith)
sum_lt zero (x ∷ xs) (y ∷ ys) long h less each =
    let first : page_acts y < page_acts x = less x in
    let rest : acts_of_pages ys ≤ acts_of_pages xs = sum_le xs ys (omega arith) (λ k h d. each (suc k) (omega arith) d) in
    omega (arith, first, rest)
sum_lt (suc i) (x ∷ xs) (y ∷ ys) long h less each =
    let first : page_acts y ≤ page_acts x = each 0 (omega arith) x in
    let rest : acts_of_pages ys < acts_of_pages xs = sum_lt i xs ys (omega arith) (omega arith) (λ d. less d) (λ k h d. each (suc k) (omega arith) d) in
    omega (arith, first, rest)

-- ---------------- an act of one page

number_at : (works : List PageWork) (k : ℕ) → k < length works → (d : PageWork) → get_or (numbers works) k 0 ≡ (get_or works k d).fetch.page
number_at [] k h d = absurd (omega arith)
number_at (w ∷ ws) zero h d = refl
number_at (w ∷ ws) (suc k) h d = number_at ws k (omega arith) d

same_test : (a : ℕ) → nat_eq a a ≡ true
same_test a = grind (arith, nat_tests)

equal : (a b : ℕ) → nat_eq a b ≡ true → a ≡ b
equal a b e = grind (arith, nat_tests)

differ_at : (m : Progress) → IsProgress m → Differ m.plan.pages → (j k : ℕ) → j < length m.works → k < length m.works → (d : PageWork) → (get_or m.works j d).fetch.page ≡ (get_or m.works k d).fetch.page → j ≡ k
differ_at m inv differ j k hj hk d e =
    let all : Differ (numbers m.works) = subst (λ ps. Differ ps) (sym inv.pages) differ in
    all j (subst (λ n. j < n) (sym (length_numbers m.works)) hj) k (subst (λ n. k < n) (sym (length_numbers m.works)) hk) 0 (number_at m.works j hj d ∙ e ∙ sym (number_at m.works k hk d))
  where
    length_numbers : (works : List PageWork) → length (numbers works) ≡ length works
    length_numbers [] = refl
    length_numbers (w ∷ ws) = ap suc (length_numbers ws)

one_falls : (m : Progress) → IsProgress m → Differ m.plan.pages → (told : Told) (now : List PageWork) → Turns told m.works now → (t : PageWork) → next_of m.works ≡ Some t → is_joint t.stage ≡ false → (v : Image)
    → tells_of (act_of_page m.plan.pages m.lsn v t) told ≡ true → fetch_obstacle t.fetch told ≡ None → acts_of_pages now < acts_of_pages m.works
one_falls m inv differ told now turns t is single v fits o =
    let next : IsNext m.works t = next_place m.works t is in
    let takes : (k : ℕ) → k < length m.works → (d : PageWork) → Takes t.fetch.page false told (get_or m.works k d) (get_or now k d) = λ k h d. subst (λ b. Takes t.fetch.page b told (get_or m.works k d) (get_or now k d)) single (turns.each t is k h d) in
    let less : (d : PageWork) → page_acts (get_or now next.place d) < page_acts (get_or m.works next.place d) =
    λ d.
    let x : PageWork = get_or m.works next.place d in
    let y : PageWork = get_or now next.place d in
    let at : x ≡ t = next.at d in
    let in_it : is_in t.fetch.page false x ≡ true = ap (λ (w : PageWork). is_in t.fetch.page false w) at ∙ (ap (λ b. not b && nat_eq t.fetch.page t.fetch.page) single ∙ same_test t.fetch.page) in
    let hears : Hears x told y = tells (Hears x told y) (y ≡ x) (is_in t.fetch.page false x) in_it (takes next.place next.within d) in
    page_falls x y told m.plan.pages m.lsn v hears (ap (λ (w : PageWork). is_joint w.stage) at ∙ single) (ap (λ w. tells_of (act_of_page m.plan.pages m.lsn v w) told) at ∙ fits) (ap (λ (w : PageWork). fetch_obstacle w.fetch told) at ∙ o)
    in
    let each : (k : ℕ) → k < length m.works → (d : PageWork) → page_acts (get_or now k d) ≤ page_acts (get_or m.works k d) =
    λ k h d. some_page m inv differ told now t next takes less k h d (is_in t.fetch.page false (get_or m.works k d)) refl
    in
    sum_lt next.place m.works now turns.long next.within less each
  where
    some_page : (m : Progress) → IsProgress m → Differ m.plan.pages → (told : Told) (now : List PageWork) (t : PageWork) → (next : IsNext m.works t) → ((k : ℕ) → k < length m.works → (d : PageWork) → Takes t.fetch.page false told (get_or m.works k d) (get_or now k d)) → ((d : PageWork) → page_acts (get_or now next.place d) < page_acts (get_or m.works next.place d))
        → (k : ℕ) → k < length m.works → (d : PageWork) → (b : Bool) → is_in t.fetch.page false (get_or m.works k d) ≡ b → page_acts (get_or now k d) ≤ page_acts (get_or m.works k d)
    some_page m inv differ told now t next takes less k h d false e =
        let x : PageWork = get_or m.works k d in
        let y : PageWork = get_or now k d in
        let kept : y ≡ x = stays (Hears x told y) (y ≡ x) (is_in t.fetch.page false x) e (takes k h d) in
        let same : page_acts y ≡ page_acts x = ap page_acts kept in
        omega (arith, same)
    some_page m inv differ told now t next takes less k h d true e =
        let x : PageWork = get_or m.works k d in
        let number : x.fetch.page ≡ t.fetch.page = equal x.fetch.page t.fetch.page (second (not (is_joint x.stage)) (nat_eq x.fetch.page t.fetch.page) e) in
        let here : k ≡ next.place = differ_at m inv differ k next.place h next.within d (number ∙ sym (ap (λ (w : PageWork). w.fetch.page) (next.at d))) in
        let less_here : page_acts (get_or now k d) < page_acts x = subst (λ i. page_acts (get_or now i d) < page_acts (get_or m.works i d)) (sym here) (less d) in
        omega (arith, less_here)

-- ---------------- an act of all pages

abbrev Fits : Stage → Told → Type 0
Fits Invalidating told = tells_call replies_invalidate told ≡ true
Fits Installing told = tells_install told ≡ true
Fits st told = Unit {0}

fits_at : (st : Stage) (t : PageWork) (told : Told) (pages : List ℕ) (lsn : ℕ) (v : Image) → t.stage ≡ st → tells_of (act_of_page pages lsn v t) told ≡ true → Fits st told
fits_at Invalidating t told pages lsn v is h = sym (ap (λ st. tells_of (act_of_page pages lsn v (record t { stage = st })) told) is) ∙ h
fits_at Installing t told pages lsn v is h = sym (ap (λ st. tells_of (act_of_page pages lsn v (record t { stage = st })) told) is) ∙ h
fits_at st t told pages lsn v is h = tt

joint_page : (st : Stage) (a : Option Addr) (c : Bool) (f g : Fetch) (told : Told) → is_joint st ≡ true → Fits st told → fetch_obstacle g told ≡ None
    → page_acts (after (record { stage = st; address = a; claimed = c; fetch = f }) told) ≡ page_acts (record { stage = st; address = a; claimed = c; fetch = f })
joint_page Invalidating a c f g (Answer DoneReply) j h o = refl
joint_page Invalidating a c f g (Answer (Started due)) j h o = absurd (some_none _ o)
joint_page Invalidating a c f g _ j h o = absurd (never h)
joint_page Installing a c f g Installed j h o = refl
joint_page Installing a c f g _ j h o = absurd (never h)
joint_page Making a c f g told j h o = absurd (false≢true j)
joint_page Registering a c f g told j h o = absurd (false≢true j)
joint_page Fetching a c f g told j h o = absurd (false≢true j)
joint_page Latching a c f g told j h o = absurd (false≢true j)
joint_page Writing a c f g told j h o = absurd (false≢true j)
joint_page Cleaning a c f g told j h o = absurd (false≢true j)
joint_page Releasing a c f g told j h o = absurd (false≢true j)
joint_page Quitting a c f g told j h o = absurd (false≢true j)
joint_page Ended a c f g told j h o = absurd (false≢true j)

joint_falls : (st : Stage) (g : Fetch) (told : Told) → is_joint st ≡ true → Fits st told → fetch_obstacle g told ≡ None → joint_acts (span (stage_after st None told)) < joint_acts (span st)
joint_falls Invalidating g (Answer DoneReply) j h o = lit< tt
joint_falls Invalidating g (Answer (Started due)) j h o = absurd (some_none _ o)
joint_falls Invalidating g _ j h o = absurd (never h)
joint_falls Installing g Installed j h o = lit< tt
joint_falls Installing g _ j h o = absurd (never h)
joint_falls Making g told j h o = absurd (false≢true j)
joint_falls Registering g told j h o = absurd (false≢true j)
joint_falls Fetching g told j h o = absurd (false≢true j)
joint_falls Latching g told j h o = absurd (false≢true j)
joint_falls Writing g told j h o = absurd (false≢true j)
joint_falls Cleaning g told j h o = absurd (false≢true j)
joint_falls Releasing g told j h o = absurd (false≢true j)
joint_falls Quitting g told j h o = absurd (false≢true j)
joint_falls Ended g told j h o = absurd (false≢true j)

all_falls : (m : Progress) → IsProgress m → (told : Told) (now : List PageWork) → Turns told m.works now → (t u : PageWork) → next_of m.works ≡ Some t → next_of now ≡ Some u → is_joint t.stage ≡ true → (v : Image)
    → tells_of (act_of_page m.plan.pages m.lsn v t) told ≡ true → fetch_obstacle t.fetch told ≡ None
    → (acts_of_pages now ≤ acts_of_pages m.works) × (joint_acts (span u.stage) < joint_acts (span t.stage))
all_falls m inv told now turns t u is later both v asks free =
    let next : IsNext m.works t = next_place m.works t is in
    let now_next : IsNext now u = next_place now u later in
    let fits : Fits t.stage told = fits_at t.stage t told m.plan.pages m.lsn v refl asks in
    let at : (k : ℕ) → k < length m.works → (d : PageWork) → (get_or m.works k d).stage ≡ t.stage =
    λ k h d.
    let far : span (get_or m.works k d).stage ≡ span t.stage = inv.together k h next.place next.within d ∙ ap (λ (w : PageWork). span w.stage) (next.at d) in
    as_far (get_or m.works k d).stage t.stage (get_or m.works k d) t both far (next.least k h d)
    in
    let takes : (k : ℕ) → k < length m.works → (d : PageWork) → Takes t.fetch.page true told (get_or m.works k d) (get_or now k d) = λ k h d. subst (λ b. Takes t.fetch.page b told (get_or m.works k d) (get_or now k d)) both (turns.each t is k h d) in
    let each : (k : ℕ) → k < length m.works → (d : PageWork) → page_acts (get_or now k d) ≤ page_acts (get_or m.works k d) =
    λ k h d.
    let x : PageWork = get_or m.works k d in
    let y : PageWork = get_or now k d in
    let here : is_joint x.stage ≡ true = ap is_joint (at k h d) ∙ both in
    let hears : Hears x told y = tells (Hears x told y) (y ≡ x) (is_in t.fetch.page true x) here (takes k h d) in
    let after_it : y ≡ after x told = hears.planned (not_joint_fetch x.stage here) in
    let same : page_acts y ≡ page_acts x = ap page_acts after_it ∙ joint_page x.stage x.address x.claimed x.fetch t.fetch told here (subst (λ st. Fits st told) (sym (at k h d)) fits) free in
    omega (arith, same)
    in
    let place : now_next.place < length m.works = omega (arith, turns.long, now_next.within) in
    let last : u.stage ≡ stage_after t.stage None told = sym (ap (λ (w : PageWork). w.stage) (now_next.at t)) ∙ joint t.fetch.page told t (get_or m.works now_next.place t) (get_or now now_next.place t) both (at now_next.place place t) (takes now_next.place place t) in
    (sum_le m.works now turns.long each, subst (λ st. joint_acts (span st) < joint_acts (span t.stage)) (sym last) (joint_falls t.stage t.fetch told both fits free))

-- ---------------- the plan

by_act : (m : Progress) → IsProgress m → Differ m.plan.pages → (told : Told) (now : List PageWork) → Turns told m.works now → (t u : PageWork) → next_of m.works ≡ Some t → next_of now ≡ Some u → (v : Image)
    → tells_of (act_of_page m.plan.pages m.lsn v t) told ≡ true → fetch_obstacle t.fetch told ≡ None → (b : Bool) → is_joint t.stage ≡ b
    → acts_of_pages now + joint_acts (span u.stage) < acts_of_pages m.works + joint_acts (span t.stage)
by_act m inv differ told now turns t u is later v asks free false single =
    let same : joint_acts (span u.stage) ≡ joint_acts (span t.stage) = ap joint_acts (next_span m inv told now turns t u is single later) in
    let less : acts_of_pages now < acts_of_pages m.works = one_falls m inv differ told now turns t is single v asks free in
    sums (acts_of_pages now) (acts_of_pages m.works) (joint_acts (span u.stage)) (joint_acts (span t.stage)) same less
  where
    sums : (a b c d : ℕ) → c ≡ d → a < b → a + c < b + d
    sums a b c d e h = omega arith
by_act m inv differ told now turns t u is later v asks free true both =
    let all = all_falls m inv told now turns t u is later both v asks free in
    sums (acts_of_pages now) (acts_of_pages m.works) (joint_acts (span u.stage)) (joint_acts (span t.stage)) all.0 all.1
  where
    sums : (a b c d : ℕ) → a ≤ b → c < d → a + c < b + d
    sums a b c d e h = omega arith

pub falls : (m : Progress) → IsProgress m → (told : Told) (now : List PageWork) → Turns told m.works now → (v : Image) → Differ m.plan.pages → Goes m v told → acts_left (record m { works = now }) < acts_left m
falls m inv told now turns v differ goes = go (next_of m.works) refl goes.1 goes.2
  where
    go : (n : Option PageWork) → next_of m.works ≡ n → tells_of (next_act m v) told ≡ true → obstacle_of m told ≡ None → acts_left (record m { works = now }) < acts_left m
    go None is fits o = absurd (false≢true (ap (λ n. tells_of (option_map_or (act_of_page m.plan.pages m.lsn v) n Finished) told) (sym is) ∙ fits))
    go (Some t) is fits o =
        let later = some_later m told now turns t is in
        let u : PageWork = later.0 in
        let asks : tells_of (act_of_page m.plan.pages m.lsn v t) told ≡ true = ap (λ n. tells_of (option_map_or (act_of_page m.plan.pages m.lsn v) n Finished) told) (sym is) ∙ fits in
        let free : fetch_obstacle t.fetch told ≡ None = ap (λ n. option_map_or (λ (w : PageWork). fetch_obstacle w.fetch told) n None) (sym is) ∙ o in
        let less = by_act m inv differ told now turns t u is later.1 v asks free (is_joint t.stage) refl in
        let P : Option PageWork → Option PageWork → Type 0 = λ p q. acts_of_pages now + option_map_or (λ (w : PageWork). joint_acts (span w.stage)) p 0 < acts_of_pages m.works + option_map_or (λ (w : PageWork). joint_acts (span w.stage)) q 0 in
        subst (λ q. P (next_of now) q) (sym is) (subst (λ p. P p (Some t)) (sym later.1) less)
