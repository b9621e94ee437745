-- For the proofs: each act of a plain pool is a step of a pool.
use Rattle.std.proofs.Common.{◌≡◌, ◌≢◌, ℕ, ◌+◌, ◌<◌, Bool, true, false, ◌&&◌, Option, Some, None, List, [], ◌∷◌, ◌++◌, nat_eq, if◌then◌else◌, sum_by, ◌⊎◌, inl, inr, refl, sym, ◌∙◌, ap, subst, append_assoc, append-nil, arith, lit<}
use Rattle.std.proofs.lemmas.List.Sums.{sum_by-append}
use Rattle.redo_record.specs.declared.plans.Plan.{Plan}
use Rattle.redo_record.specs.declared.redo.Group.{Group}
use Rattle.redo_durability.specs.Store.{Store, Answer, answer_to, is_kept, received}
use Rattle.redo_durability.specs.Machine.{State, Append, Append.NoAppend, Append.Sent, Append.Answered, Phase.Open, Event, Event.Install, Event.Send, Event.Handle, Event.Accept, installed as log_installed, sending, handling, accepting}
use Rattle.redo_durability.proofs.Durable.{right-answer, right-received}
use Rattle.cluster_model.specs.declared.traces.Origin.TheVariants.{Local}
use Rattle.fetch_steps.specs.declared.acts.Action.{Action}
use Rattle.fetch_steps.specs.declared.acts.Action.TheVariants as action
use Rattle.page_store.specs.Stored.{Stored, groups_of, with_group, all_kept}
use Rattle.page_pool.specs.declared.events.How.{How}
use Rattle.page_pool.specs.declared.events.How.TheVariants as how
use Rattle.page_pool.specs.declared.events.PoolEvent.{PoolEvent}
use Rattle.page_pool.specs.declared.events.PoolEvent.TheVariants.{Act, Deliver, Home, Ship, Fold, Evict}
use Rattle.page_pool.specs.declared.answers.Obstacle.{Obstacle}
use Rattle.page_pool.specs.declared.answers.Outcome.{Outcome}
use Rattle.page_pool.specs.declared.answers.Outcome.TheVariants.{Went, Installed, Kept, Met}
use Rattle.page_pool.specs.declared.answers.PoolAnswer.{PoolAnswer}
use Rattle.page_pool.specs.declared.answers.PoolAnswer.TheVariants.{Did, Refused}
use Rattle.page_pool.specs.Nodes.{Job, Job.Rests, Job.Fetches, Job.Runs, Handed, NodeState, IsNode}
use Rattle.page_pool.specs.Events.{can_end}
use Rattle.page_pool.specs.State.{PoolState, bytes_of, next_lsn, group_of, current, admits, IsBeside, MayAct}
use Rattle.page_pool.specs.Calls.{MayGo, HandsOut}
use Rattle.page_pool.specs.Steps.{Steps, NodeSteps, LogSteps, Logs, JobGoes}
use Rattle.plain_pool.specs.declared.work.Work.{Work}
use Rattle.plain_pool.specs.declared.work.Work.TheVariants.{Rest, Fetch, Run}
use Rattle.plain_pool.specs.declared.work.PlainAct.{PlainAct}
use Rattle.plain_pool.specs.declared.work.PlainAct.TheVariants as act
use Rattle.plain_pool.specs.Acts.{plain_act}
use Rattle.plain_pool.specs.Plain.{Plain, records_of, looked, installed, kept, released}
use Rattle.plain_pool.specs.Seen.{job_of, next_of, acts_of, handed_at, node_of, log_of, state_of}
use Rattle.plain_pool.proofs.Showing.{handed_page, handed_not, works, is-node, others-same}

-- ---- a step of the one node, from what its log and the node do
acted : (a : Action) (h : How) (o : Outcome) (s t : Plain) → can_end a h ≡ true
    → LogSteps (Act 0 a h) (Some o) (state_of s) (log_of t.store)
    → NodeSteps (Act 0 a h) (Some o) 0 (groups_of s.store) (node_of s) (node_of t)
    → Steps (Act 0 a h) (Did o) (state_of s) (state_of t)
unfolding state_of
acted a h o s t can log node = record {
  refused = (λ e. absurd (did-not e), λ e. absurd (true-false (sym can ∙ e)));
  same = λ e. absurd (did-not e);
  nodes = refl;
  rw = refl;
  log = log;
  node = λ ne n e. subst (λ (k : ℕ). NodeSteps (Act 0 a h) (Some o) k (groups_of s.store) ((state_of s).node k) ((state_of t).node k)) (zero-is n e) node;
  others = λ m ne. others-same s t m (λ e. ne (ap (λ (k : ℕ). Some k) (sym e)));
}
  where
    did-not : Did o ≡ Refused → ⊥
    did-not e = cc

    true-false : true ≡ false → ⊥
    true-false e = cc

    zero-is : (n : ℕ) → Some 0 ≡ Some n → 0 ≡ n
    zero-is n e = cc

-- an event whose condition does not hold
pub refused : (event : PoolEvent) (s : Plain) → admits (state_of s) event ≡ false → Steps event Refused (state_of s) (state_of s)
refused event s no-go = record {
  refused = (λ e. no-go, λ e. refl);
  same = λ e. refl;
  nodes = refl;
  rw = refl;
  log = inl refl;
  node = λ ne. absurd (ne refl);
  others = λ m ne. refl;
}

pub cannot : (a : Action) (h : How) (s : Plain) → can_end a h ≡ false → Steps (Act 0 a h) Refused (state_of s) (state_of s)
unfolding state_of
cannot a h s e = refused (Act 0 a h) s e

-- ---- each act
made-of : (n : ℕ) (a b : Action) (h g : How) → Act n a h ≡ Act n b g → (a ≡ b) × (h ≡ g)
made-of n a b h g e = (cc, cc)

same-page : (p q : ℕ) → Fetches p ≡ Fetches q → p ≡ q
same-page p q e = cc

-- a look
is-fetch : (w : Work) (page : ℕ) → next_of w ≡ Some (action.Look page) → w ≡ Fetch page
is-fetch Rest page e = cc
is-fetch (Fetch q) page e = cc
is-fetch (Run plan) page e = cc

look-keeps : (made : List Group) (handed : Option ℕ) (page p : ℕ)
    → MayGo (handed_at made handed p) (handed_at made (Some page) p) ⊎ ((Fetches page ≡ Fetches p) × (Rests ≡ Rests))
look-keeps made handed page p = by-test (nat_eq p page) refl
  where
    same-number : (p q : ℕ) → nat_eq p q ≡ true → q ≡ p
    same-number p q e = grind arith

    apart : (p q : ℕ) → nat_eq p q ≡ false → Some q ≡ Some p → ⊥
    apart p q e k = grind arith

    by-test : (b : Bool) → nat_eq p page ≡ b → MayGo (handed_at made handed p) (handed_at made (Some page) p) ⊎ ((Fetches page ≡ Fetches p) × (Rests ≡ Rests))
    by-test true e = inr (ap (λ (k : ℕ). Fetches k) (same-number p page e), refl)
    by-test false e = inl (inr (handed_not made (Some page) p (apart p page e)))

look-node : (store : Stored) (page : ℕ) (handed : Option ℕ)
    → NodeSteps (Act 0 (action.Look page) how.Made) (Some Went) 0 (groups_of store) (node_of (record { store = store; work = Fetch page; handed = handed })) (node_of (record { store = store; work = Rest; handed = Some page }))
look-node store page handed = record {
  node = is-node (record { store = store; work = Rest; handed = Some page });
  up = refl;
  stopped = refl;
  job = inr refl;
  hands_out = λ p e r. (Local, subst (λ (k : ℕ). handed_at (groups_of store) (Some page) k ≡ Some (record { image = current (groups_of store) k; origin = Local })) (same-page page p e) (handed_page (groups_of store) page));
  keeps = λ p. look-keeps (groups_of store) handed page p;
  lets_go = λ p e. absurd (not-release p e);
  stays = λ a h e ne. absurd (ne (sym (made-of 0 (action.Look page) a how.Made h e).1));
  falls = λ a e next met. lit< tt;
}
  where
    not-release : (p : ℕ) → Act 0 (action.Look page) how.Made ≡ Act 0 (action.Release p) how.Made → ⊥
    not-release p e = cc

may-look : (s : Plain) (page : ℕ) → MayAct (state_of s) 0 (action.Look page) → s.work ≡ Fetch page
unfolding state_of
may-look s page may = elim may [ inl e ↦ is-fetch s.work page e | inr e ↦ absurd e ]

pub look_steps : (s : Plain) (page : ℕ) → MayAct (state_of s) 0 (action.Look page)
    → Steps (Act 0 (action.Look page) how.Made) (Did Went) (state_of s) (state_of (looked s page))
unfolding state_of
look_steps s page may =
    acted (action.Look page) how.Made Went s (looked s page) refl (inl refl)
    (subst (λ (w : Work). NodeSteps (Act 0 (action.Look page) how.Made) (Some Went) 0 (groups_of s.store) (node_of (record { store = s.store; work = w; handed = s.handed })) (node_of (looked s page)))
    (sym (may-look s page may)) (look-node s.store page s.handed))

-- an install
is-run : (w : Work) → next_of w ≡ Some action.Install → (plan : Plan) × (w ≡ Run plan)
is-run Rest e = absurd (no-act e)
  where
    no-act : None ≡ Some action.Install → ⊥
    no-act e = cc
is-run (Fetch page) e = absurd (other-act e)
  where
    other-act : Some (action.Look page) ≡ Some action.Install → ⊥
    other-act e = cc
is-run (Run plan) e = (plan, refl)

pub may_install : (s : Plain) → MayAct (state_of s) 0 action.Install → (plan : Plan) × (s.work ≡ Run plan)
unfolding state_of
may_install s may = elim may [ inl e ↦ is-run s.work e | inr e ↦ absurd e ]

install-node : (store : Stored) (plan : Plan) (handed : Option ℕ) (end : ℕ)
    → NodeSteps (Act 0 action.Install how.Made) (Some (Installed end)) 0 (groups_of store) (node_of (record { store = store; work = Run plan; handed = handed })) (node_of (record { store = with_group store plan.records; work = Rest; handed = None }))
install-node store plan handed end = record {
  node = is-node (record { store = with_group store plan.records; work = Rest; handed = None });
  up = refl;
  stopped = refl;
  job = inr refl;
  hands_out = λ p e r. absurd (not-fetch p e);
  keeps = λ p. inl (inr refl);
  lets_go = λ p e. refl;
  stays = λ a h e ne. absurd (ne (sym (made-of 0 action.Install a how.Made h e).1));
  falls = λ a e next met. lit< tt;
}
  where
    not-fetch : (p : ℕ) → Runs plan false ≡ Fetches p → ⊥
    not-fetch p e = cc

-- a log with these groups, all kept groups in storage
abbrev with-made : Stored → List Group → List Group → State Group
with-made st made buffer = record {
  store = record { epoch = 1; groups = st.kept };
  phase = Open;
  epoch = 1;
  made = made;
  buffer = buffer;
  next = sum_by bytes_of st.kept;
  append = NoAppend;
  acknowledged = st.kept;
}

install-log : (st : Stored) (plan : Plan) → Logs (Install (group_of (groups_of st) plan) ∷ []) (log_of st) (log_of (with_group st plan.records))
install-log st plan =
    let g : Group = group_of (groups_of st) plan in
    (log_installed (log_of st) g, (refl, refl), ap (λ (x : List Group). with-made st x (st.own ++ (g ∷ []))) (sym (append_assoc st.kept st.own (g ∷ []))))

install-run : (store : Stored) (plan : Plan) (handed : Option ℕ) (end : ℕ) → end ≡ sum_by bytes_of (groups_of (with_group store plan.records))
    → Steps (Act 0 action.Install how.Made) (Did (Installed end)) (state_of (record { store = store; work = Run plan; handed = handed })) (state_of (record { store = with_group store plan.records; work = Rest; handed = None }))
unfolding state_of
install-run store plan handed end e =
    acted action.Install how.Made (Installed end) (record { store = store; work = Run plan; handed = handed }) (record { store = with_group store plan.records; work = Rest; handed = None }) refl
    ((0, plan, refl, refl, install-log store plan), e) (install-node store plan handed end)

pub install_steps : (s : Plain) (end : ℕ) → MayAct (state_of s) 0 action.Install → end ≡ sum_by bytes_of (groups_of (installed s).store)
    → Steps (Act 0 action.Install how.Made) (Did (Installed end)) (state_of s) (state_of (installed s))
install_steps s end may e =
    let run = may_install s may in
    let P : Work → Type 0 = λ w. end ≡ sum_by bytes_of (groups_of (with_group s.store (records_of w)))
    → Steps (Act 0 action.Install how.Made) (Did (Installed end)) (state_of (record { store = s.store; work = w; handed = s.handed })) (state_of (record { store = with_group s.store (records_of w); work = Rest; handed = None })) in
    subst P (sym run.1) (install-run s.store run.0 s.handed end) e

-- an append
append-final : (st : Stored) → log_of (all_kept st) ≡ accepting (handling bytes_of (sending bytes_of (log_of st)) 1 (sum_by bytes_of st.kept) st.own) st.own (answer_to bytes_of (record { epoch = 1; groups = st.kept }) 1 (sum_by bytes_of st.kept) st.own)
append-final st =
    let first : Store Group = record { epoch = 1; groups = st.kept } in
    let all : List Group = st.kept ++ st.own in
    let F : Store Group → List Group → ℕ → List Group → State Group = λ store made next known. record { store = store; phase = Open; epoch = 1; made = made; buffer = []; next = next; append = NoAppend; acknowledged = known } in
    let stored : record { epoch = 1; groups = all } ≡ received bytes_of first 1 (sum_by bytes_of st.kept) st.own = sym (right-received bytes_of first 1 (sum_by bytes_of st.kept) st.own refl refl) in
    let answer = right-answer bytes_of first 1 (sum_by bytes_of st.kept) st.own refl refl in
    let known : all ≡ (if is_kept (answer_to bytes_of first 1 (sum_by bytes_of st.kept) st.own) then st.kept ++ st.own else st.kept) = ap (λ (x : Answer). if is_kept x then st.kept ++ st.own else st.kept) (sym answer) in
    ap (λ (x : Store Group). F x (all ++ []) (sum_by bytes_of all) all) stored
    ∙ ap (λ (x : List Group). F (received bytes_of first 1 (sum_by bytes_of st.kept) st.own) x (sum_by bytes_of all) all) (append-nil all)
    ∙ ap (λ (x : ℕ). F (received bytes_of first 1 (sum_by bytes_of st.kept) st.own) all x all) (sum_by-append bytes_of st.kept st.own)
    ∙ ap (λ (x : List Group). F (received bytes_of first 1 (sum_by bytes_of st.kept) st.own) all (sum_by bytes_of st.kept + sum_by bytes_of st.own) x) known

append-log : (st : Stored) → st.own ≢ [] → Logs (Send ∷ Handle ∷ Accept ∷ []) (log_of st) (log_of (all_kept st))
append-log st some =
    let first : Store Group = record { epoch = 1; groups = st.kept } in
    let next : ℕ = sum_by bytes_of st.kept in
    let sent : State Group = sending bytes_of (log_of st) in
    let handled : State Group = handling bytes_of sent 1 next st.own in
    let answer : Answer = answer_to bytes_of first 1 next st.own in
    (sent, (refl, refl, some, refl), (handled, (1, next, st.own, refl, refl), (accepting handled st.own answer, (refl, st.own, answer, refl, refl), append-final st)))

job-stays : (o : Option Outcome) (w : Work) → ((end : ℕ) → o ≡ Some (Installed end) → ⊥) → JobGoes o (job_of w) (job_of w)
job-stays None Rest ne = refl
job-stays None (Fetch page) ne = inl refl
job-stays None (Run plan) ne = refl
job-stays (Some Went) Rest ne = refl
job-stays (Some Went) (Fetch page) ne = inl refl
job-stays (Some Went) (Run plan) ne = refl
job-stays (Some (Installed end)) w ne = absurd (ne end refl)
job-stays (Some (Kept tail)) Rest ne = refl
job-stays (Some (Kept tail)) (Fetch page) ne = inl refl
job-stays (Some (Kept tail)) (Run plan) ne = refl
job-stays (Some (Met obstacle)) Rest ne = refl
job-stays (Some (Met obstacle)) (Fetch page) ne = inl refl
job-stays (Some (Met obstacle)) (Run plan) ne = refl

no-rest : (w : Work) (p : ℕ) → job_of w ≡ Fetches p → job_of w ≡ Rests → ⊥
no-rest w p e r = fetch-rest (sym e ∙ r)
  where
    fetch-rest : Fetches p ≡ Rests → ⊥
    fetch-rest e = cc

-- these acts are done beside, and never come next of themselves
abbrev Beside : Action → Type 0
Beside a = (w : Work) → next_of w ≡ Some a → ⊥

append-beside : Beside action.Append
append-beside Rest e = cc
append-beside (Fetch page) e = cc
append-beside (Run plan) e = cc

release-beside : (p : ℕ) → Beside (action.Release p)
release-beside p Rest e = cc
release-beside p (Fetch page) e = cc
release-beside p (Run plan) e = cc

append-node : (s : Plain) (tail : ℕ) → NodeSteps (Act 0 action.Append how.Made) (Some (Kept tail)) 0 (groups_of s.store) (node_of s) (node_of (kept s))
append-node s tail = record {
  node = is-node (kept s);
  up = refl;
  stopped = refl;
  job = job-stays (Some (Kept tail)) s.work (λ end e. other-outcome end e);
  hands_out = λ p e r. absurd (no-rest s.work p e r);
  keeps = λ p. inl (inl (ap (λ (x : List Group). handed_at x s.handed p) (append-nil (groups_of s.store))));
  lets_go = λ p e. absurd (not-release p e);
  stays = λ a h e ne. absurd (ne (sym (made-of 0 action.Append a how.Made h e).1));
  falls = λ a e next met. absurd (append-beside s.work (next ∙ ap (λ (x : Action). Some x) (sym (made-of 0 action.Append a how.Made how.Made e).0)));
}
  where
    other-outcome : (end : ℕ) → Some (Kept tail) ≡ Some (Installed end) → ⊥
    other-outcome end e = cc

    not-release : (p : ℕ) → Act 0 action.Append how.Made ≡ Act 0 (action.Release p) how.Made → ⊥
    not-release p e = cc

may-append : (s : Plain) → MayAct (state_of s) 0 action.Append → s.store.own ≢ []
unfolding state_of
may-append s may = elim may [ inl e ↦ absurd (append-beside s.work e) | inr e ↦ e.3 ]

pub append_steps : (s : Plain) (tail : ℕ) → MayAct (state_of s) 0 action.Append → tail ≡ sum_by bytes_of (groups_of s.store)
    → Steps (Act 0 action.Append how.Made) (Did (Kept tail)) (state_of s) (state_of (kept s))
unfolding state_of
append_steps s tail may e =
    acted action.Append how.Made (Kept tail) s (kept s) refl (inl ((0, refl), append-log s.store (may-append s may)), e) (append-node s tail)

-- a release
release-node : (s : Plain) (page : ℕ) → NodeSteps (Act 0 (action.Release page) how.Made) (Some Went) 0 (groups_of s.store) (node_of s) (node_of (released s))
release-node s page = record {
  node = is-node (released s);
  up = refl;
  stopped = refl;
  job = job-stays (Some Went) s.work (λ end e. other-outcome end e);
  hands_out = λ p e r. absurd (no-rest s.work p e r);
  keeps = λ p. inl (inr refl);
  lets_go = λ p e. refl;
  stays = λ a h e ne. absurd (ne (sym (made-of 0 (action.Release page) a how.Made h e).1));
  falls = λ a e next met. absurd (release-beside page s.work (next ∙ ap (λ (x : Action). Some x) (sym (made-of 0 (action.Release page) a how.Made how.Made e).0)));
}
  where
    other-outcome : (end : ℕ) → Some Went ≡ Some (Installed end) → ⊥
    other-outcome end e = cc

pub release_steps : (s : Plain) (page : ℕ) → Steps (Act 0 (action.Release page) how.Made) (Did Went) (state_of s) (state_of (released s))
unfolding state_of
release_steps s page = acted (action.Release page) how.Made Went s (released s) refl (inl refl) (release-node s page)

-- an act that is lost or unseen
lost-node : (s : Plain) (a : Action) (h : How) (why : Obstacle) → h ≢ how.Made → NodeSteps (Act 0 a h) (Some (Met why)) 0 (groups_of s.store) (node_of s) (node_of s)
lost-node s a h why ne = record {
  node = is-node s;
  up = refl;
  stopped = refl;
  job = job-stays (Some (Met why)) s.work (λ end e. other-outcome end e);
  hands_out = λ p e r. absurd (no-rest s.work p e r);
  keeps = λ p. inl (inl refl);
  lets_go = λ p e. absurd (ne (made-of 0 a (action.Release p) h how.Made e).1);
  stays = λ b g e other. (refl, refl);
  falls = λ b e next met. absurd (ne (made-of 0 a b h how.Made e).1);
}
  where
    other-outcome : (end : ℕ) → Some (Met why) ≡ Some (Installed end) → ⊥
    other-outcome end e = cc

pub lost_steps : (s : Plain) (a : Action) (h : How) (why : Obstacle) → h ≢ how.Made → can_end a h ≡ true
    → Steps (Act 0 a h) (Did (Met why)) (state_of s) (state_of s)
unfolding state_of
lost_steps s a h why ne can = acted a h (Met why) s s can refl (lost-node s a h why ne)

-- ---- which act it is
pub is_look : (a : Action) (page : ℕ) → plain_act a ≡ Some (act.Look page) → a ≡ action.Look page
is_look (action.Look p) page e = cc
is_look action.Install page e = cc
is_look action.Append page e = cc
is_look (action.Release p) page e = cc
is_look _ page e = cc

pub is_install : (a : Action) → plain_act a ≡ Some act.Install → a ≡ action.Install
is_install (action.Look p) e = cc
is_install action.Install e = refl
is_install action.Append e = cc
is_install (action.Release p) e = cc
is_install _ e = cc

pub is_append : (a : Action) → plain_act a ≡ Some act.Append → a ≡ action.Append
is_append (action.Look p) e = cc
is_append action.Install e = cc
is_append action.Append e = refl
is_append (action.Release p) e = cc
is_append _ e = cc

pub is_release : (a : Action) → plain_act a ≡ Some act.Release → (page : ℕ) × (a ≡ action.Release page)
is_release (action.Look p) e = cc
is_release action.Install e = cc
is_release action.Append e = cc
is_release (action.Release p) e = (p, refl)
is_release _ e = cc

next-plain : (w : Work) (a : Action) → next_of w ≡ Some a → plain_act a ≡ None → ⊥
next-plain Rest a e n = cc
next-plain (Fetch page) a e n = some-none (action.Look page) a (act.Look page) e n refl
  where
    some-none : (b a : Action) (x : PlainAct) → Some b ≡ Some a → plain_act a ≡ None → plain_act b ≡ Some x → ⊥
    some-none b a x e n k = absurd (none-some x (sym n ∙ ap plain_act (sym (inner b a e)) ∙ k))
      where
        inner : (b a : Action) → Some b ≡ Some a → b ≡ a
        inner b a e = cc

        none-some : (x : PlainAct) → None ≡ Some x → ⊥
        none-some x e = cc
next-plain (Run plan) a e n = cc

beside-plain : (s : Plain) (a : Action) → IsBeside (state_of s) 0 a → plain_act a ≡ None → ⊥
beside-plain s (action.Release page) b n = cc
beside-plain s action.Append b n = cc
beside-plain s _ b n = b

pub may_plain : (s : Plain) (a : Action) → MayAct (state_of s) 0 a → plain_act a ≡ None → ⊥
unfolding state_of
may_plain s a may n = elim may [ inl e ↦ next-plain s.work a e n | inr b ↦ beside-plain s a b n ]

-- ---- by the act's name
pub install_act : (s : Plain) (a : Action) → plain_act a ≡ Some act.Install → MayAct (state_of s) 0 a → (plan : Plan) × (s.work ≡ Run plan)
install_act s a e may = may_install s (subst (λ (x : Action). MayAct (state_of s) 0 x) (is_install a e) may)

pub install_made : (s t : Plain) (a : Action) (end : ℕ) → plain_act a ≡ Some act.Install → MayAct (state_of s) 0 a → t ≡ installed s
    → end ≡ sum_by bytes_of (groups_of t.store) → Steps (Act 0 a how.Made) (Did (Installed end)) (state_of s) (state_of t)
install_made s t a end e may is k =
    let same = is_install a e in
    subst (λ (x : Action). Steps (Act 0 x how.Made) (Did (Installed end)) (state_of s) (state_of t)) (sym same)
    (subst (λ (x : Plain). Steps (Act 0 action.Install how.Made) (Did (Installed end)) (state_of s) (state_of x)) (sym is)
    (install_steps s end (subst (λ (x : Action). MayAct (state_of s) 0 x) same may) (k ∙ ap (λ (x : Plain). sum_by bytes_of (groups_of x.store)) is)))

pub append_made : (s t : Plain) (a : Action) (tail : ℕ) → plain_act a ≡ Some act.Append → MayAct (state_of s) 0 a → t ≡ kept s
    → tail ≡ sum_by bytes_of (groups_of s.store) → Steps (Act 0 a how.Made) (Did (Kept tail)) (state_of s) (state_of t)
append_made s t a tail e may is k =
    let same = is_append a e in
    subst (λ (x : Action). Steps (Act 0 x how.Made) (Did (Kept tail)) (state_of s) (state_of t)) (sym same)
    (subst (λ (x : Plain). Steps (Act 0 action.Append how.Made) (Did (Kept tail)) (state_of s) (state_of x)) (sym is)
    (append_steps s tail (subst (λ (x : Action). MayAct (state_of s) 0 x) same may) k))

pub release_made : (s t : Plain) (a : Action) → plain_act a ≡ Some act.Release → t ≡ released s
    → Steps (Act 0 a how.Made) (Did Went) (state_of s) (state_of t)
release_made s t a e is =
    let same = is_release a e in
    subst (λ (x : Action). Steps (Act 0 x how.Made) (Did Went) (state_of s) (state_of t)) (sym same.1)
    (subst (λ (x : Plain). Steps (Act 0 (action.Release same.0) how.Made) (Did Went) (state_of s) (state_of x)) (sym is) (release_steps s same.0))
