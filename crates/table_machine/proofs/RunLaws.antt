-- Runs in parts, and lines one after the other.
use Rattle.std.proofs.Common.{◌≡◌, ℕ, List, [], ◌∷◌, ◌++◌, refl, sym, ap, subst, ◌∙◌, inl, inr}
use Rattle.table_machine.specs.declared.entries.Entry.{Entry}
use Rattle.table_machine.specs.declared.entries.Entry.TheVariants as entry
use Rattle.table_machine.specs.Language.{Language}
use Rattle.table_machine.specs.Machine.{Machine, start}
use Rattle.table_machine.specs.Runs.{AnswersLine, IfMay, Leads, Serves}
use Rattle.table_machine.specs.Steps.{Step}
use Rattle.table_machine.specs.Laws.{FrontsAreRuns, RunsGoOn, ServingGoesOn, ServingIsARun}

pub front : (language : Language) (es fs : List Entry) (old new : Machine) → Leads language old (es ++ fs) new → (between : Machine) × Leads language old es between
front language [] fs old new l = (old, refl)
front language (e ∷ es) fs old new l = let f = front language es fs l.0 new l.2 in (f.0, (l.0, l.1, f.1))

pub fronts : (language : Language) → FrontsAreRuns language
fronts language nodes base first es fs run = front language es fs (start nodes base first) run.0 run.1

pub on : (language : Language) → RunsGoOn language
on language [] fs old between new f g = subst (λ m. Leads language m fs new) f g
on language (e ∷ es) fs old between new f g = (f.0, f.1, on language es fs f.0 between new f.2 g)

pub one : (language : Language) (e : Entry) (old new : Machine) → Step language old e new → Leads language old (e ∷ []) new
one language e old new s = (new, s, refl)

pub may : (language : Language) (e : Entry) (es : List Entry) (old new : Machine) → IfMay language old e es new → Leads language old es new
may language e es old new (inl a) = subst (λ l. Leads language old l new) (sym a.1) (one language e old new a.0)
may language e es old new (inr b) = subst (λ l. Leads language old l new) (sym b.1) b.2

line : (language : Language) (s : ℕ) (text : List ℕ) (es : List Entry) (old new : Machine) → AnswersLine language s old text es new → Leads language old es new
line language s text es old new a =
    let e : Leads language a.made (entry.Reply s a.answer ∷ []) new = one language (entry.Reply s a.answer) a.made new a.replies in
    let d : Leads language a.waiting (a.settle ++ entry.Reply s a.answer ∷ []) new = on language a.settle (entry.Reply s a.answer ∷ []) a.waiting a.made new (may language entry.Settle a.settle a.waiting a.made a.settles) e in
    let c : Leads language a.evaluated (a.enqueue ++ (a.settle ++ entry.Reply s a.answer ∷ [])) new = on language a.enqueue (a.settle ++ entry.Reply s a.answer ∷ []) a.evaluated a.waiting new (may language (entry.Enqueue s) a.enqueue a.evaluated a.waiting a.enqueues) d in
    let b : Leads language a.seeing (a.exec ++ (a.enqueue ++ (a.settle ++ entry.Reply s a.answer ∷ []))) new = on language a.exec (a.enqueue ++ (a.settle ++ entry.Reply s a.answer ∷ [])) a.seeing a.evaluated new (may language (entry.Exec s) a.exec a.seeing a.evaluated a.execs) c in
    let z : Leads language a.asked (a.snap ++ (a.exec ++ (a.enqueue ++ (a.settle ++ entry.Reply s a.answer ∷ [])))) new = on language a.snap (a.exec ++ (a.enqueue ++ (a.settle ++ entry.Reply s a.answer ∷ []))) a.asked a.seeing new (may language (entry.Snap s) a.snap a.asked a.seeing a.snaps) b in
    subst (λ l. Leads language old l new) (sym a.all) (a.asked, a.submits, z)

pub serves : (language : Language) → ServingIsARun language
serves language s [] es old new v = subst (λ l. Leads language old l new) (sym v.0) v.1
serves language s (text ∷ lines) es old new v =
    subst (λ l. Leads language old l new) (sym v.5)
    (on language v.1 v.2 old v.0 new (line language s text v.1 old v.0 v.3) (serves language s lines v.2 v.0 new v.4))

pub regroup : (xs ys zs : List Entry) → (xs ++ ys) ++ zs ≡ xs ++ (ys ++ zs)
regroup [] ys zs = refl
regroup (x ∷ xs) ys zs = ap (λ l. x ∷ l) (regroup xs ys zs)

pub serves_on : (language : Language) → ServingGoesOn language
serves_on language s [] more es fs old between new v w =
    subst (λ l. Serves language s old more (l ++ fs) new) (sym v.0) (subst (λ m. Serves language s m more fs new) v.1 w)
serves_on language s (text ∷ lines) more es fs old between new v w =
    (v.0, v.1, v.2 ++ fs, v.3, serves_on language s lines more v.2 fs v.0 between new v.4 w, ap (λ l. l ++ fs) v.5 ∙ regroup v.1 v.2 fs)
