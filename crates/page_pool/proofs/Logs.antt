-- For the proofs: what each step of a pool does to its log.
use Rattle.std.proofs.Common.{◌≡◌, ◌≢◌, ℕ, ◌+◌, Bool, true, false, Option, Some, None, List, [], ◌∷◌, ◌++◌, length, if◌then◌else◌, sum_by, ◌⊎◌, inl, inr, refl, sym, ◌∙◌, ap, subst, append_assoc, append-nil, arith}
use Rattle.redo_record.specs.declared.redo.Group.{Group}
use Rattle.redo_record.specs.declared.plans.Plan.{Plan}
use Rattle.redo_durability.specs.Store.{is_kept}
use Rattle.redo_durability.specs.Machine.{State, Event, Event.Install, Event.Send, Event.Handle, Event.Late, Event.Accept, Run}
use Rattle.redo_durability.specs.Laws.{IsFront}
use Rattle.page_pool.specs.declared.events.PoolEvent.{PoolEvent}
use Rattle.page_pool.specs.declared.answers.Outcome.{Outcome}
use Rattle.page_pool.specs.declared.answers.Outcome.TheVariants.{Went, Installed, Kept, Met}
use Rattle.page_pool.specs.Events.{kept_in}
use Rattle.page_pool.specs.State.{PoolState, bytes_of, next_lsn, group_of}
use Rattle.page_pool.specs.Steps.{Logs, Installs, Settles, Carries, LogSteps}

-- ---- fronts
pub front-itself : (xs : List Group) → IsFront xs xs
front-itself xs = ([], sym (append-nil xs))

pub front-same : (xs ys : List Group) → ys ≡ xs → IsFront xs ys
front-same xs ys e = ([], e ∙ sym (append-nil xs))

pub front-on : (xs ys zs : List Group) → IsFront xs ys → IsFront ys zs → IsFront xs zs
front-on xs ys zs a b = (a.0 ++ b.0, b.1 ∙ ap (λ (x : List Group). x ++ b.0) a.1 ∙ append_assoc xs a.0 b.0)

-- ---- one event of the log
pub made-install : (s t : State Group) (g : Group) → Logs (Install g ∷ []) s t → t.made ≡ s.made ++ (g ∷ [])
made-install s t g h = ap (λ (x : State Group). x.made) h.2 ∙ ap (λ (x : State Group). x.made) h.1.1

made-send : (s t : State Group) → Logs (Send ∷ []) s t → t.made ≡ s.made
made-send s t h = ap (λ (x : State Group). x.made) h.2 ∙ ap (λ (x : State Group). x.made) h.1.3

made-handle : (s t : State Group) → Logs (Handle ∷ []) s t → t.made ≡ s.made
made-handle s t h = ap (λ (x : State Group). x.made) h.2 ∙ ap (λ (x : State Group). x.made) h.1.4

made-late : (s t : State Group) (e o : ℕ) (gs : List Group) → Logs (Late e o gs ∷ []) s t → t.made ≡ s.made
made-late s t e o gs h = ap (λ (x : State Group). x.made) h.2 ∙ ap (λ (x : State Group). x.made) h.1.1

made-accept : (s t : State Group) → Logs (Accept ∷ []) s t → t.made ≡ s.made
made-accept s t h = ap (λ (x : State Group). x.made) h.2 ∙ ap (λ (x : State Group). x.made) h.1.4

made-settled : (s t : State Group) → Logs (Send ∷ Handle ∷ Accept ∷ []) s t → t.made ≡ s.made
made-settled s t h =
    ap (λ (x : State Group). x.made) h.2.2.2 ∙ ap (λ (x : State Group). x.made) h.2.2.1.4
    ∙ ap (λ (x : State Group). x.made) h.2.1.4 ∙ ap (λ (x : State Group). x.made) h.1.3

known-install : (s t : State Group) (g : Group) → Logs (Install g ∷ []) s t → t.acknowledged ≡ s.acknowledged
known-install s t g h = ap (λ (x : State Group). x.acknowledged) h.2 ∙ ap (λ (x : State Group). x.acknowledged) h.1.1

known-send : (s t : State Group) → Logs (Send ∷ []) s t → t.acknowledged ≡ s.acknowledged
known-send s t h = ap (λ (x : State Group). x.acknowledged) h.2 ∙ ap (λ (x : State Group). x.acknowledged) h.1.3

known-handle : (s t : State Group) → Logs (Handle ∷ []) s t → t.acknowledged ≡ s.acknowledged
known-handle s t h = ap (λ (x : State Group). x.acknowledged) h.2 ∙ ap (λ (x : State Group). x.acknowledged) h.1.4

known-late : (s t : State Group) (e o : ℕ) (gs : List Group) → Logs (Late e o gs ∷ []) s t → t.acknowledged ≡ s.acknowledged
known-late s t e o gs h = ap (λ (x : State Group). x.acknowledged) h.2 ∙ ap (λ (x : State Group). x.acknowledged) h.1.1

grown : (xs gs : List Group) (b : Bool) → IsFront xs (if b then xs ++ gs else xs)
grown xs gs true = (gs, refl)
grown xs gs false = front-itself xs

known-accept : (s t : State Group) → Logs (Accept ∷ []) s t → IsFront s.acknowledged t.acknowledged
known-accept s t h =
    let e : t.acknowledged ≡ (if is_kept h.1.2 then s.acknowledged ++ h.1.1 else s.acknowledged) =
    ap (λ (x : State Group). x.acknowledged) h.2 ∙ ap (λ (x : State Group). x.acknowledged) h.1.4 in
    subst (λ (x : List Group). IsFront s.acknowledged x) (sym e) (grown s.acknowledged h.1.1 (is_kept h.1.2))

known-settled : (s t : State Group) → Logs (Send ∷ Handle ∷ Accept ∷ []) s t → IsFront s.acknowledged t.acknowledged
known-settled s t h =
    let accepts : Logs (Accept ∷ []) h.2.0 t = h.2.2 in
    let same : h.2.0.acknowledged ≡ s.acknowledged = ap (λ (x : State Group). x.acknowledged) h.2.1.4 ∙ ap (λ (x : State Group). x.acknowledged) h.1.3 in
    subst (λ (x : List Group). IsFront x t.acknowledged) same (known-accept h.2.0 t accepts)

-- ---- the log over a step of the pool
-- either it is as it was, or it has the next group
abbrev pub Grows : List Group → List Group → Type 0
Grows old new = (new ≡ old) ⊎ ((g : Group) × (g.lsn ≡ next_lsn old) × (new ≡ old ++ (g ∷ [])))

carried-made : (event : PoolEvent) (s t : State Group) → Carries event s t → t.made ≡ s.made
carried-made event s t h = elim h [
  | inl a ↦ made-send s t a.1
  | inr b ↦ elim b [ inl a ↦ made-handle s t a.1 | inr a ↦ made-late s t a.1.0 a.1.1 a.1.2 a.1.3 ]
]

carried-known : (event : PoolEvent) (s t : State Group) → Carries event s t → t.acknowledged ≡ s.acknowledged
carried-known event s t h = elim h [
  | inl a ↦ known-send s t a.1
  | inr b ↦ elim b [ inl a ↦ known-handle s t a.1 | inr a ↦ known-late s t a.1.0 a.1.1 a.1.2 a.1.3 ]
]

settled-made : (event : PoolEvent) (s t : State Group) → Settles event s t → t.made ≡ s.made
settled-made event s t h = elim h [ inl a ↦ made-settled s t a.1 | inr a ↦ made-accept s t a.1 ]

settled-known : (event : PoolEvent) (s t : State Group) → Settles event s t → IsFront s.acknowledged t.acknowledged
settled-known event s t h = elim h [ inl a ↦ known-settled s t a.1 | inr a ↦ known-accept s t a.1 ]

installed-made : (event : PoolEvent) (s : PoolState) (t : State Group) → Installs event s t → Grows s.log.made t.made
installed-made event s t h = inr (group_of s.log.made h.1, refl, made-install s.log t (group_of s.log.made h.1) h.4)

pub log-grows : (event : PoolEvent) (o : Option Outcome) (s : PoolState) (t : State Group) → LogSteps event o s t → Grows s.log.made t.made
log-grows event (Some (Installed end)) s t h = installed-made event s t h.0
log-grows event (Some (Kept tail)) s t h = inl (settled-made event s.log t h.0)
log-grows event (Some Went) s t h =
    elim h [ inl e ↦ inl (ap (λ (x : State Group). x.made) e) | inr c ↦ inl (carried-made event s.log t c) ]
log-grows event (Some (Met obstacle)) s t h = inl (ap (λ (x : State Group). x.made) h)
log-grows event None s t h =
    elim h [ inl e ↦ inl (ap (λ (x : State Group). x.made) e) | inr c ↦ inl (carried-made event s.log t c) ]

pub log-knows : (event : PoolEvent) (o : Option Outcome) (s : PoolState) (t : State Group) → LogSteps event o s t → IsFront s.log.acknowledged t.acknowledged
log-knows event (Some (Installed end)) s t h = front-same s.log.acknowledged t.acknowledged (known-install s.log t (group_of s.log.made h.0.1) h.0.4)
log-knows event (Some (Kept tail)) s t h = settled-known event s.log t h.0
log-knows event (Some Went) s t h =
    front-same s.log.acknowledged t.acknowledged
    (elim h [ inl e ↦ ap (λ (x : State Group). x.acknowledged) e | inr c ↦ carried-known event s.log t c ])
log-knows event (Some (Met obstacle)) s t h = front-same s.log.acknowledged t.acknowledged (ap (λ (x : State Group). x.acknowledged) h)
log-knows event None s t h =
    front-same s.log.acknowledged t.acknowledged
    (elim h [ inl e ↦ ap (λ (x : State Group). x.acknowledged) e | inr c ↦ carried-known event s.log t c ])

pub none-settle : (event : PoolEvent) (o : Option Outcome) (s : PoolState) (t : State Group) → LogSteps event o s t → kept_in o ≡ None → t.acknowledged ≡ s.log.acknowledged
none-settle event (Some (Installed end)) s t h k = known-install s.log t (group_of s.log.made h.0.1) h.0.4
none-settle event (Some (Kept tail)) s t h k = cc
none-settle event (Some Went) s t h k =
    elim h [ inl e ↦ ap (λ (x : State Group). x.acknowledged) e | inr c ↦ carried-known event s.log t c ]
none-settle event (Some (Met obstacle)) s t h k = ap (λ (x : State Group). x.acknowledged) h
none-settle event None s t h k =
    elim h [ inl e ↦ ap (λ (x : State Group). x.acknowledged) e | inr c ↦ carried-known event s.log t c ]

pub offset-known : (event : PoolEvent) (o : Option Outcome) (s : PoolState) (t : State Group) (tail : ℕ) → LogSteps event o s t → kept_in o ≡ Some tail → tail ≡ sum_by bytes_of t.acknowledged
offset-known event (Some (Installed end)) s t tail h k = cc
offset-known event (Some (Kept offset)) s t tail h k = some-same tail offset k ∙ h.1
  where
    some-same : (a b : ℕ) → Some b ≡ Some a → a ≡ b
    some-same a b e = cc
offset-known event (Some Went) s t tail h k = cc
offset-known event (Some (Met obstacle)) s t tail h k = cc
offset-known event None s t tail h k = cc

-- ---- as events of the log
abbrev pub IsLogged : State Group → State Group → Type 0
IsLogged s t = (events : List (Event Group)) × Logs events s t

carried : (event : PoolEvent) (s t : State Group) → Carries event s t → IsLogged s t
carried event s t h = elim h [
  | inl a ↦ (Send ∷ [], a.1)
  | inr b ↦ elim b [ inl a ↦ (Handle ∷ [], a.1) | inr a ↦ (Late a.1.0 a.1.1 a.1.2 ∷ [], a.1.3) ]
]

settled : (event : PoolEvent) (s t : State Group) → Settles event s t → IsLogged s t
settled event s t h = elim h [ inl a ↦ (Send ∷ Handle ∷ Accept ∷ [], a.1) | inr a ↦ (Accept ∷ [], a.1) ]

pub log-events : (event : PoolEvent) (o : Option Outcome) (s : PoolState) (t : State Group) → LogSteps event o s t → IsLogged s.log t
log-events event (Some (Installed end)) s t h = (Install (group_of s.log.made h.0.1) ∷ [], h.0.4)
log-events event (Some (Kept tail)) s t h = settled event s.log t h.0
log-events event (Some Went) s t h = elim h [ inl e ↦ ([], e) | inr c ↦ carried event s.log t c ]
log-events event (Some (Met obstacle)) s t h = ([], h)
log-events event None s t h = elim h [ inl e ↦ ([], e) | inr c ↦ carried event s.log t c ]

-- lists of events one behind the other
pub log-on : (s t u : State Group) (xs ys : List (Event Group)) → Logs xs s t → Logs ys t u → Logs (xs ++ ys) s u
log-on s t u [] ys a b = subst (λ (x : State Group). Logs ys x u) a b
log-on s t u (x ∷ xs) ys a b = (a.0, a.1, log-on a.0 t u xs ys a.2 b)
