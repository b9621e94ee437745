-- What the groups of plans do to the trees of a store.
use Rattle.std.proofs.Common.{◌≡◌, ◌<◌, ℕ, List, [], ◌∷◌, ◌++◌, Option, Some, None, IsNone, Result, Ok, Err, true, false, refl, sym, ap, subst, ◌∙◌, arith}
use Rattle.std.specs.Prelude.{Contains, IfSome, IfOk, IsOk, OnOk, OnErr, ◌↔◌}
use Rattle.bplus_tree.specs.Forest.{Forest, with_tree}
use Rattle.page_image.specs.Image.{Image}
use Rattle.redo_record.specs.declared.redo.Record.{Record}
use Rattle.redo_record.specs.declared.plans.Plan.{Plan}
use Rattle.redo_record.specs.Effect.{RecordsApply}
use Rattle.page_store.specs.Stored.{Stored, pages_of, with_group, next_lsn}
use Rattle.page_store.proofs.StoredLaws.{after_group}
use Rattle.page_image.specs.Meta.{page_count}
use Rattle.tree_change.specs.Effects.{pages_after, Carries, Keeps, Begins}
use Rattle.tree_store.specs.Rooms.{IsWayIn}
use Rattle.tree_store.proofs.ForestLaws.{way_to, is_fresh, carried, kept, begun, count_after, with_itself}

-- the trees of a store stay, and what is kept
pub record Stays (old new : Stored) (root : ℕ) : Type 0 where
  pub forest : (roots : List ℕ) (items : ℕ → List (List ℕ)) → Forest (pages_of old) roots items → Contains roots root → Forest (pages_of new) roots items
  pub kept : new.kept ≡ old.kept

-- the pages after one group more
pub ran : (s : Stored) (records : List Record) → pages_of (with_group s records) ≡ pages_after (next_lsn s) records (pages_of s)
ran s records = λ i p. after_group s records p i

-- ---- the records apply

pub carried_applies : (s : Stored) (roots : List ℕ) (items : ℕ → List (List ℕ)) (f : Forest (pages_of s) roots items) (root : ℕ) (c : Contains roots root) (key : List ℕ) (path : List Image)
    → IsWayIn (pages_of s) root key path → (plan : Plan) (change : List (List ℕ) → List (List ℕ)) → Carries key path plan change
    → (lsn page : ℕ) → RecordsApply lsn plan.records (pages_of s page)
carried_applies s roots items f root c key path v plan change k lsn page =
    k.applies (way_to (pages_of s) roots items f root c key path v) lsn page (f.numbered page)

pub kept_applies : (s : Stored) (roots : List ℕ) (items : ℕ → List (List ℕ)) (f : Forest (pages_of s) roots items) (root : ℕ) (c : Contains roots root) (key : List ℕ) (path : List Image)
    → IsWayIn (pages_of s) root key path → (plan : Plan) → Keeps key path (pages_of s 0) plan → (lsn page : ℕ) → RecordsApply lsn plan.records (pages_of s page)
kept_applies s roots items f root c key path v plan k lsn page =
    k.applies (way_to (pages_of s) roots items f root c key path v) (is_fresh (pages_of s) roots items f plan k.made.next) lsn page (f.numbered page)

pub begun_applies : (s : Stored) (roots : List ℕ) (items : ℕ → List (List ℕ)) (f : Forest (pages_of s) roots items) (root : ℕ) (c : Contains roots root) (key : List ℕ) (path : List Image)
    → IsWayIn (pages_of s) root key path → (plan : Plan) (change : List (List ℕ) → List (List ℕ)) → Begins key path (pages_of s 0) plan change
    → (lsn page : ℕ) → RecordsApply lsn plan.records (pages_of s page)
begun_applies s roots items f root c key path v plan change k lsn page =
    k.applies (way_to (pages_of s) roots items f root c key path v) (is_fresh (pages_of s) roots items f plan k.made.next) lsn page (f.numbered page)

-- ---- the trees after the group

pub ran_carried : (s t : Stored) (roots : List ℕ) (items : ℕ → List (List ℕ)) (f : Forest (pages_of s) roots items) (root : ℕ) (c : Contains roots root) (key : List ℕ) (path : List Image)
    → IsWayIn (pages_of s) root key path → (plan : Plan) (change : List (List ℕ) → List (List ℕ)) → Carries key path plan change → t ≡ with_group s plan.records
    → Forest (pages_of t) roots (with_tree items root (change (items root)))
ran_carried s t roots items f root c key path v plan change k e =
    subst (λ (ps : ℕ → Image). Forest ps roots (with_tree items root (change (items root)))) (sym (ap pages_of e ∙ ran s plan.records))
    (carried (pages_of s) roots items f root c key path v plan change k (next_lsn s))

pub ran_kept : (s t : Stored) (roots : List ℕ) (items : ℕ → List (List ℕ)) (f : Forest (pages_of s) roots items) (root : ℕ) (c : Contains roots root) (key : List ℕ) (path : List Image)
    → IsWayIn (pages_of s) root key path → (plan : Plan) → Keeps key path (pages_of s 0) plan → t ≡ with_group s plan.records → Forest (pages_of t) roots items
ran_kept s t roots items f root c key path v plan k e =
    subst (λ (ps : ℕ → Image). Forest ps roots items) (sym (ap pages_of e ∙ ran s plan.records)) (kept (pages_of s) roots items f root c key path v plan k (next_lsn s))

pub ran_more : (s t : Stored) (roots : List ℕ) (items : ℕ → List (List ℕ)) (f : Forest (pages_of s) roots items) (root : ℕ) (c : Contains roots root) (key : List ℕ) (path : List Image)
    → IsWayIn (pages_of s) root key path → (plan : Plan) → Keeps key path (pages_of s 0) plan → t ≡ with_group s plan.records → page_count (pages_of s 0) < page_count (pages_of t 0)
ran_more s t roots items f root c key path v plan k e =
    let same = ap (λ (ps : ℕ → Image). page_count (ps 0)) (ap pages_of e ∙ ran s plan.records) in
    let after = count_after (pages_of s) roots items f root c key path v plan k (next_lsn s) in
    let some = k.made.some in
    omega (arith, same, after, some)

pub ran_begun : (s t : Stored) (roots : List ℕ) (items : ℕ → List (List ℕ)) (f : Forest (pages_of s) roots items) (root : ℕ) (c : Contains roots root) (key : List ℕ) (path : List Image)
    → IsWayIn (pages_of s) root key path → (plan : Plan) (change : List (List ℕ) → List (List ℕ)) → Begins key path (pages_of s 0) plan change → t ≡ with_group s plan.records
    → Forest (pages_of t) (roots ++ page_count (pages_of s 0) ∷ []) (with_tree (with_tree items root (change (items root))) (page_count (pages_of s 0)) [])
ran_begun s t roots items f root c key path v plan change k e =
    subst (λ (ps : ℕ → Image). Forest ps (roots ++ page_count (pages_of s 0) ∷ []) (with_tree (with_tree items root (change (items root))) (page_count (pages_of s 0)) []))
    (sym (ap pages_of e ∙ ran s plan.records)) (begun (pages_of s) roots items f root c key path v plan change k (next_lsn s))

-- where no item has the key, the tree without it is the tree
pub without_none : (s : Stored) (roots : List ℕ) (items : ℕ → List (List ℕ)) → Forest (pages_of s) roots items → (root : ℕ) (its : List (List ℕ)) → its ≡ items root
    → Forest (pages_of s) roots (with_tree items root its)
without_none s roots items f root its e =
    let same : with_tree items root (items root) ≡ items = λ i r. with_itself items root r i in
    subst (λ (l : List (List ℕ)). Forest (pages_of s) roots (with_tree items root l)) (sym e) (subst (Forest (pages_of s) roots) (sym same) f)

-- the plan of an answer
pub planned : {A B : Type 0} (o : Option (Result A B)) (r : Result A B) (plan : A) (P : A → Type 0) → IfSome o (λ a. IfOk a P) → o ≡ Some r → r ≡ Ok plan → P plan
planned {A = A} {B = B} o r plan P h e q =
    let one : IfOk r P = subst (λ (x : Option (Result A B)). IfSome x (λ a. IfOk a P)) e h in
    subst (λ (x : Result A B). IfOk x P) q one

-- what holds after a split
pub grew : {A B : Type 0} (o : Result (Option A) B) (found : Option A) (P : Type 0) → IfOk o (λ x. IsNone x → P) → o ≡ Ok found → found ≡ None → P
grew {A = A} {B = B} o found P h e q =
    let one : IsNone found → P = subst (λ (r : Result (Option A) B). IfOk r (λ x. IsNone x → P)) e h in
    subst (λ (x : Option A). IsNone x → P) q one refl

-- a refusal says that there is no space
pub refused : {A B : Type 0} (o : Option (Result A B)) (r : Result A B) (no_plan : B) (Space : Type 0) → IfSome o (λ a. IsOk a ↔ Space) → o ≡ Some r → r ≡ Err no_plan → Space → ⊥
refused {A = A} {B = B} o r no_plan Space h e q space =
    let one : IsOk r ↔ Space = subst (λ (x : Option (Result A B)). IfSome x (λ a. IsOk a ↔ Space)) e h in
    let two : IsOk {T = A} {E = B} (Err no_plan) ↔ Space = subst (λ (x : Result A B). IsOk x ↔ Space) q one in
    let f : false ≡ true = two.1 space in
    cc

-- what holds after an answer of either kind
pub either_way : {A E : Type 0} (r : Result A E) (P Q R : Type 0) → OnOk r P → OnErr r Q → (P → R) → (Q → R) → R
either_way (Ok x) P Q R h k f g = f h
either_way (Err e) P Q R h k f g = g k
