-- For the proofs: the laws, by each call.
use Rattle.std.proofs.Common.{◌≡◌, ◌≢◌, ℕ, ◌+◌, ◌<◌, Bool, true, false, Option, Some, None, List, [], ◌∷◌, ◌++◌, length, nat_eq, ◌⊎◌, inl, inr, refl, sym, ◌∙◌, ap, subst, eqb-true, arith}
use Rattle.page_image.specs.Image.{Image}
use Rattle.redo_record.specs.declared.redo.Group.{Group}
use Rattle.redo_record.specs.Effect.{CountsFrom}
use Rattle.redo_record.specs.Opening.{opening}
use Rattle.redo_record.proofs.Fold.{CountsFrom-append}
use Rattle.redo_durability.specs.Machine.{State, start, Event}
use Rattle.redo_durability.specs.Laws.{IsFront}
use Rattle.redo_durability.proofs.Laws.{store_is_a_front, acknowledged_lasts}
use Rattle.cluster_model.specs.declared.shape.Shape.{Shape}
use Rattle.page_pool.specs.declared.events.PoolEvent.{PoolEvent}
use Rattle.page_pool.specs.declared.answers.PoolAnswer.{PoolAnswer}
use Rattle.page_pool.specs.declared.answers.PoolAnswer.TheVariants.{Did, Accepted, Done, Refused}
use Rattle.page_pool.specs.Nodes.{Job, Job.Rests, Job.Fetches, Handed, NodeState, resting}
use Rattle.page_pool.specs.Events.{outcome_of, actor}
use Rattle.page_pool.specs.State.{PoolState, Begins, bytes_of, next_lsn, group_of, current}
use Rattle.page_pool.specs.Calls.{IfFree, BeginsFetch, BeginsPlan, GivesUp, ChangesNode, HandsOut, MayGo}
use Rattle.page_pool.specs.Steps.{Steps, NodeSteps, Logs}
use Rattle.page_pool.specs.Laws.{Call, Call.Fetch, Call.RunPlan, Call.GiveUp, Call.Happen, Does, Calls, Reaches, StoreIsAFront, AcknowledgedIsAFront, LogIsCounted, LogGrows, AcknowledgedGrows, HandedWasCurrent, EndIsKnown, OffsetIsKnown, OthersSettleNone}
use Rattle.page_pool.proofs.Logs.{front-itself, front-same, front-on, Grows, made-install, log-grows, log-knows, none-settle, offset-known, IsLogged, log-events, log-on}

-- ---- the log over a call
by-begun : {P : Type 0} (job : Job) (b : Bool) (Begun Same : Type 0) → IfFree job b Begun Same → (Begun → P) → (Same → P) → P
by-begun job true Begun Same h yes-case no-case = yes-case (h.begins refl)
by-begun job false Begun Same h yes-case no-case = no-case (h.same refl)

log-same : (s t : PoolState) → t ≡ s → t.log ≡ s.log
log-same s t e = ap (λ (x : PoolState). x.log) e

-- a call that is no event leaves the log
log-of-call : (s t : PoolState) (c : Call) (P : State Group → State Group → Type 0) → ((x y : State Group) → y ≡ x → P x y)
    → ((event : PoolEvent) (answer : PoolAnswer) → Steps event answer s t → P s.log t.log) → Does c s t → P s.log t.log
log-of-call s t (Fetch n p b) P same step h =
    same s.log t.log (by-begun (s.node n).job b (BeginsFetch n p s t) (t ≡ s) h.1 (λ (k : BeginsFetch n p s t). k.changes.log) (λ (e : t ≡ s). log-same s t e))
log-of-call s t (RunPlan n plan b) P same step h =
    same s.log t.log (by-begun (s.node n).job b (BeginsPlan n plan s t) (t ≡ s) h.1 (λ (k : BeginsPlan n plan s t). k.changes.log) (λ (e : t ≡ s). log-same s t e))
log-of-call s t (GiveUp n) P same step h = same s.log t.log h.1.changes.log
log-of-call s t (Happen event answer) P same step h = step event answer h

grows-same : (x y : State Group) → y ≡ x → Grows x.made y.made
grows-same x y e = inl (ap (λ (z : State Group). z.made) e)

call-grows : (s t : PoolState) (c : Call) → Does c s t → Grows s.log.made t.log.made
call-grows s t c h =
    log-of-call s t c (λ x y. Grows x.made y.made) grows-same (λ event answer k. log-grows event (outcome_of answer) s t.log k.log) h

front-grown : (xs ys : List Group) → Grows xs ys → IsFront xs ys
front-grown xs ys h = elim h [ inl e ↦ front-same xs ys e | inr g ↦ (g.0 ∷ [], g.2) ]

call-knows : (s t : PoolState) (c : Call) → Does c s t → IsFront s.log.acknowledged t.log.acknowledged
call-knows s t c h =
    log-of-call s t c (λ x y. IsFront x.acknowledged y.acknowledged) (λ x y e. front-same x.acknowledged y.acknowledged (ap (λ (z : State Group). z.acknowledged) e))
    (λ event answer k. log-knows event (outcome_of answer) s t.log k.log) h

call-logged : (s t : PoolState) (c : Call) → Does c s t → IsLogged s.log t.log
call-logged s t c h =
    log-of-call s t c IsLogged (λ x y e. ([], e)) (λ event answer k. log-events event (outcome_of answer) s t.log k.log) h

-- ---- the log over a list of calls
pub log_grows : LogGrows
log_grows [] s t h = front-same s.log.made t.log.made (ap (λ (x : PoolState). x.log.made) h)
log_grows (c ∷ cs) s t h =
    front-on s.log.made h.0.log.made t.log.made (front-grown s.log.made h.0.log.made (call-grows s h.0 c h.1)) (log_grows cs h.0 t h.2)

pub acknowledged_grows : AcknowledgedGrows
acknowledged_grows [] s t h = front-same s.log.acknowledged t.log.acknowledged (ap (λ (x : PoolState). x.log.acknowledged) h)
acknowledged_grows (c ∷ cs) s t h =
    front-on s.log.acknowledged h.0.log.acknowledged t.log.acknowledged (call-knows s h.0 c h.1) (acknowledged_grows cs h.0 t h.2)

logged : (calls : List Call) (s t : PoolState) → Calls s calls t → IsLogged s.log t.log
logged [] s t h = ([], ap (λ (x : PoolState). x.log) h)
logged (c ∷ cs) s t h =
    let a = call-logged s h.0 c h.1 in
    let b = logged cs h.0 t h.2 in
    (a.0 ++ b.0, log-on s.log h.0.log t.log a.0 b.0 a.1 b.1)

first-log : List Group
first-log = opening ∷ []

reached : (calls : List Call) (t : PoolState) → Reaches calls t → (events : List (Event Group)) × Logs events (start bytes_of (opening ∷ [])) t.log
reached calls t h =
    let a = logged calls h.1 t h.3 in
    (a.0, subst (λ (x : State Group). Logs a.0 x t.log) h.2.log a.1)

pub is_a_front : StoreIsAFront
is_a_front calls t h = let r = reached calls t h in store_is_a_front bytes_of (opening ∷ []) r.0 t.log r.1

pub known_is_a_front : AcknowledgedIsAFront
known_is_a_front calls t h = let r = reached calls t h in (acknowledged_lasts bytes_of (opening ∷ []) r.0 [] t.log t.log r.1 refl).0

-- ---- the LSNs
counted-grown : (xs ys : List Group) → CountsFrom 0 xs → Grows xs ys → CountsFrom 0 ys
counted-grown xs ys c h = elim h [
  | inl e ↦ subst (λ (z : List Group). CountsFrom 0 z) (sym e) c
  | inr g ↦ subst (λ (z : List Group). CountsFrom 0 z) (sym g.2) (counts-one xs g.0 c g.1)
]
  where
    counts-one : (xs : List Group) (g : Group) → CountsFrom 0 xs → g.lsn ≡ next_lsn xs → CountsFrom 0 (xs ++ (g ∷ []))
    counts-one xs g c e = let next : g.lsn ≡ 0 + length xs + 1 = omega (arith, e) in CountsFrom-append 0 xs (g ∷ []) c (next, tt)

counts : (calls : List Call) (s t : PoolState) → CountsFrom 0 s.log.made → Calls s calls t → CountsFrom 0 t.log.made
counts [] s t c h = subst (λ (x : PoolState). CountsFrom 0 x.log.made) (sym h) c
counts (k ∷ ks) s t c h = counts ks h.0 t (counted-grown s.log.made h.0.log.made c (call-grows s h.0 k h.1)) h.2

pub log_is_counted : LogIsCounted
log_is_counted calls t h =
    counts calls h.1 t (subst (λ (x : State Group). CountsFrom 0 x.made) (sym h.2.log) (refl, tt)) h.3

-- ---- what was handed out
abbrev WasCurrent : List Group → ℕ → Image → Type 0
WasCurrent made p im = (first : List Group) × IsFront first made × (im ≡ current first p)

was-later : (xs ys : List Group) (p : ℕ) (im : Image) → IsFront xs ys → WasCurrent xs p im → WasCurrent ys p im
was-later xs ys p im f w = (w.0, front-on w.0 xs ys w.1 f, w.2)

abbrev HandedWas : List Group → ℕ → Option Handed → Type 0
HandedWas made p handed = (x : Handed) → handed ≡ Some x → WasCurrent made p x.image

abbrev Sound : PoolState → Type 0
Sound s = (n p : ℕ) → n < s.nodes → HandedWas s.log.made p ((s.node n).handed p)

handed-later : (xs ys : List Group) (p : ℕ) (a : Option Handed) → IsFront xs ys → HandedWas xs p a → HandedWas ys p a
handed-later xs ys p a f h x e = was-later xs ys p x.image f (h x e)

handed-goes : (made : List Group) (p : ℕ) (a b : Option Handed) → HandedWas made p a → MayGo a b → HandedWas made p b
handed-goes made p a b h go x e = elim go [ inl q ↦ h x (sym q ∙ e) | inr q ↦ none-some x (sym q ∙ e) ]
  where
    none-some : {P : Type 0} (x : Handed) → None ≡ Some x → P
    none-some x e = absurd cc

handed-out : (made : List Group) (p : ℕ) (a : Option Handed) → HandsOut made p a → HandedWas made p a
handed-out made p a h x e = (made, front-itself made, image-of x (sym h.1 ∙ e))
  where
    image-of : (x : Handed) → Some (record { image = current made p; origin = h.0 }) ≡ Some x → x.image ≡ current made p
    image-of x e = cc

apart : (m n : ℕ) → nat_eq m n ≡ false → m ≢ n
apart m n e q = grind arith

decide : (m n : ℕ) (b : Bool) → nat_eq m n ≡ b → (m ≡ n) ⊎ (m ≢ n)
decide m n true e = inl (eqb-true m n e)
decide m n false e = inr (apart m n e)

same_or_not : (m n : ℕ) → (m ≡ n) ⊎ (m ≢ n)
same_or_not m n = decide m n (nat_eq m n) refl

-- a node that is not the one that changes
changed-other : (n m p : ℕ) (s t : PoolState) → ChangesNode n s t → m ≢ n → HandedWas s.log.made p ((s.node m).handed p) → HandedWas t.log.made p ((t.node m).handed p)
changed-other n m p s t c ne h =
    subst (λ (x : State Group). HandedWas x.made p ((t.node m).handed p)) (sym c.log)
    (subst (λ (x : NodeState). HandedWas s.log.made p (x.handed p)) (sym (c.others m ne)) h)

changed-node : (n m p : ℕ) (s t : PoolState) → ChangesNode n s t → HandedWas s.log.made p ((t.node n).handed p) → HandedWas s.log.made p ((s.node m).handed p) → HandedWas t.log.made p ((t.node m).handed p)
changed-node n m p s t c here h = elim (same_or_not m n) [
  | inl e ↦ subst (λ (x : State Group). HandedWas x.made p ((t.node m).handed p)) (sym c.log)
      (subst (λ (k : ℕ). HandedWas s.log.made p ((t.node k).handed p)) (sym e) here)
  | inr ne ↦ changed-other n m p s t c ne h
]

fetched : (n p q : ℕ) (s t : PoolState) → BeginsFetch n p s t → HandedWas s.log.made q ((s.node n).handed q) → HandedWas s.log.made q ((t.node n).handed q)
fetched n p q s t b h = elim (same_or_not q p) [
  | inl e ↦ subst (λ (k : ℕ). HandedWas s.log.made k ((t.node n).handed k)) (sym e)
      (elim b.job [
        | inl j ↦ handed-goes s.log.made p ((s.node n).handed p) ((t.node n).handed p)
            (subst (λ (k : ℕ). HandedWas s.log.made k ((s.node n).handed k)) e h) (b.page j)
        | inr j ↦ handed-out s.log.made p ((t.node n).handed p) (b.over j)
      ])
  | inr ne ↦ handed-goes s.log.made q ((s.node n).handed q) ((t.node n).handed q) h (b.pages q ne)
]

none-handed : (made : List Group) (p : ℕ) (a : Option Handed) → a ≡ None → HandedWas made p a
none-handed made p a e x q = absurd (none-is-none x (sym e ∙ q))
  where
    none-is-none : (x : Handed) → None ≡ Some x → ⊥
    none-is-none x e = cc

same-sound : (s t : PoolState) → t ≡ s → Sound s → Sound t
same-sound s t e h = subst Sound (sym e) h

abbrev nodes-sound : PoolState → PoolState → Type 0
nodes-sound s t = (t.nodes ≡ s.nodes) × ((m p : ℕ) → m < s.nodes → HandedWas t.log.made p ((t.node m).handed p))

from-nodes : (s t : PoolState) → nodes-sound s t → Sound t
from-nodes s t h m p lt = h.1 m p (subst (λ (k : ℕ). m < k) h.0 lt)

fetch-sound : (n p : ℕ) (s t : PoolState) → n < s.nodes → BeginsFetch n p s t → Sound s → Sound t
fetch-sound n p s t lt b h =
    from-nodes s t (b.changes.nodes, λ m q less. changed-node n m q s t b.changes (fetched n p q s t b (h n q lt)) (h m q less))

plan-sound : (n : ℕ) (s t : PoolState) → n < s.nodes → ChangesNode n s t → ((q : ℕ) → MayGo ((s.node n).handed q) ((t.node n).handed q)) → Sound s → Sound t
plan-sound n s t lt c go h =
    from-nodes s t (c.nodes, λ m q less. changed-node n m q s t c (handed-goes s.log.made q ((s.node n).handed q) ((t.node n).handed q) (h n q lt) (go q)) (h m q less))

-- ---- an event
stepped : (event : PoolEvent) (answer : PoolAnswer) (s t : PoolState) (m p : ℕ) → Steps event answer s t → answer ≢ Refused
    → (a : Option ℕ) → actor event answer ≡ a → HandedWas s.log.made p ((s.node m).handed p) → HandedWas s.log.made p ((t.node m).handed p)
stepped event answer s t m p k ne None e h =
    subst (λ (x : NodeState). HandedWas s.log.made p (x.handed p)) (sym (k.others m (λ q. none-some m (sym e ∙ q)))) h
  where
    none-some : (m : ℕ) → None ≡ Some m → ⊥
    none-some m e = cc
stepped event answer s t m p k ne (Some n) e h = elim (same_or_not m n) [
  | inl q ↦ node-stepped (k.node ne m (e ∙ ap (λ (x : ℕ). Some x) (sym q)))
  | inr apart-from ↦ subst (λ (x : NodeState). HandedWas s.log.made p (x.handed p))
      (sym (k.others m (λ q. apart-from (some-same m n (sym e ∙ q))))) h
]
  where
    some-same : (m n : ℕ) → Some n ≡ Some m → m ≡ n
    some-same m n e = cc

    node-stepped : NodeSteps event (outcome_of answer) m s.log.made (s.node m) (t.node m) → HandedWas s.log.made p ((t.node m).handed p)
    node-stepped w = elim (w.keeps p) [
      | inl go ↦ handed-goes s.log.made p ((s.node m).handed p) ((t.node m).handed p) h go
      | inr over ↦ handed-out s.log.made p ((t.node m).handed p) (w.hands_out p over.0 over.1)
    ]

-- an answer that is no refusal
is-refused : (answer : PoolAnswer) → (answer ≡ Refused) ⊎ (answer ≢ Refused)
is-refused (Did o) = inr (λ e. cc)
is-refused (Accepted n o) = inr (λ e. cc)
is-refused Done = inr (λ e. cc)
is-refused Refused = inl refl

step-sound : (event : PoolEvent) (answer : PoolAnswer) (s t : PoolState) → Steps event answer s t → Sound s → Sound t
step-sound event answer s t k h = elim (is-refused answer) [
  | inl e ↦ same-sound s t (k.same e) h
  | inr ne ↦ from-nodes s t (
    k.nodes,
    λ m p less. handed-later s.log.made t.log.made p ((t.node m).handed p)
        (front-grown s.log.made t.log.made (log-grows event (outcome_of answer) s t.log k.log))
        (stepped event answer s t m p k ne (actor event answer) refl (h m p less)),
  )
]

call-sound : (c : Call) (s t : PoolState) → Does c s t → Sound s → Sound t
call-sound (Fetch n p b) s t k h =
    by-begun (s.node n).job b (BeginsFetch n p s t) (t ≡ s) k.1 (λ (w : BeginsFetch n p s t). fetch-sound n p s t k.0 w h) (λ (e : t ≡ s). same-sound s t e h)
call-sound (RunPlan n plan b) s t k h =
    by-begun (s.node n).job b (BeginsPlan n plan s t) (t ≡ s) k.1
    (λ (w : BeginsPlan n plan s t). plan-sound n s t k.0 w.changes w.pages h) (λ (e : t ≡ s). same-sound s t e h)
call-sound (GiveUp n) s t k h = plan-sound n s t k.0 k.1.changes (λ q. inr (k.1.pages q)) h
call-sound (Happen event answer) s t k h = step-sound event answer s t k h

sound : (calls : List Call) (s t : PoolState) → Calls s calls t → Sound s → Sound t
sound [] s t k h = same-sound s t k h
sound (c ∷ cs) s t k h = sound cs k.0 t k.2 (call-sound c s k.0 k.1 h)

begins-sound : (shape : Shape) (s : PoolState) → Begins shape s → Sound s
begins-sound shape s b n p lt =
    none-handed s.log.made p ((s.node n).handed p)
    (ap (λ (x : NodeState). x.handed p) (b.rests n (subst (λ (k : ℕ). n < k) b.nodes lt)))

pub handed_was_current : HandedWasCurrent
handed_was_current calls t h n p handed lt e = sound calls h.1 t h.3 (begins-sound h.0 h.1 h.2) n p lt handed e

-- ---- what is installed and what settles
pub end_is_known : EndIsKnown
end_is_known event end s t k =
    (k.log.0.1, made-install s.log t.log (group_of s.log.made k.log.0.1) k.log.0.4, k.log.1)

pub offset_is_known : OffsetIsKnown
offset_is_known event answer s t tail k e = offset-known event (outcome_of answer) s t.log tail k.log e

pub others_settle_none : OthersSettleNone
others_settle_none event answer s t k e = none-settle event (outcome_of answer) s t.log k.log e
