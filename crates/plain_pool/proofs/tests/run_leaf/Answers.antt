use Rattle.std.proofs.Common.{◌≡◌, ◌≢◌, ℕ, List, [], ◌∷◌, refl, sym, subst, ap, ◌∙◌, inl, arith, lit<}
use Rattle.std.specs.List.{AllByRecursion, Contains}
use Rattle.page_image.specs.declared.kind.Kind.TheVariants.{Unmade, Leaf}
use Rattle.page_image.specs.Image.{CanMake}
use Rattle.redo_record.specs.declared.plans.Plan.{Plan}
use Rattle.redo_record.specs.declared.plans.PlanKind.{PlanKind}
use Rattle.redo_record.specs.declared.redo.Group.{Group}
use Rattle.redo_record.specs.declared.redo.Record.{Record}
use Rattle.redo_record.specs.declared.redo.Record.TheVariants.{Make}
use Rattle.redo_record.specs.Opening.{opening}
use Rattle.redo_record.specs.Effect.{RecordsApply}
use Rattle.page_store.specs.Stored.{pages_of}
use Rattle.page_store.specs.Opening.{opened}
use Rattle.page_store.proofs.StoredLaws.{page_number}
use Rattle.page_pool.specs.State.{current}
use Rattle.page_pool.specs.Calls.{IsRunnable}
use Rattle.plain_pool.specs.Plain.{Plain, begun}
use Rattle.plain_pool.specs.Seen.{state_of}
use Rattle.plain_pool.proofs.Showing.{log_seen}
use Rattle.plain_pool.proofs.tests.run_leaf.Goals as goal

abbrev leaf_records : List Record
leaf_records = Make 1028 Leaf 0 ∷ []

no_leaf : Leaf ≢ Unmade
no_leaf e = cc

can_make : CanMake (pages_of opened 1028) Leaf 0
can_make = record { some = no_leaf; fits = refl; from = inl refl }

leaf_applies : (lsn p : ℕ) → RecordsApply lsn leaf_records (pages_of opened p)
leaf_applies lsn p =
    (λ e. subst (λ (q : ℕ). CanMake (pages_of opened q) Leaf 0) (e ∙ page_number opened p) can_make, tt)

leaf_runs : (kind : PlanKind) → IsRunnable (opening ∷ []) (record { kind = kind; pages = 1028 ∷ []; made = 1028 ∷ []; records = leaf_records })
leaf_runs kind = record {
  some = omega arith;
  most = omega arith;
  admitted = ((no_leaf, refl), tt);
  mine = ((0, lit< tt, refl), tt);
  apply = leaf_applies;
  unmade = (refl, tt);
}

leaf_plan : (kind : PlanKind) (pages made : List ℕ) (records : List Record) → pages ≡ 1028 ∷ [] → made ≡ 1028 ∷ [] → records ≡ leaf_records
    → IsRunnable (opening ∷ []) (record { kind = kind; pages = pages; made = made; records = records })
leaf_plan kind pages made records a b e =
    subst (λ (x : List ℕ). IsRunnable (opening ∷ []) (record { kind = kind; pages = x; made = made; records = records })) (sym a)
    (subst (λ (x : List ℕ). IsRunnable (opening ∷ []) (record { kind = kind; pages = 1028 ∷ []; made = x; records = records })) (sym b)
    (subst (λ (x : List Record). IsRunnable (opening ∷ []) (record { kind = kind; pages = 1028 ∷ []; made = 1028 ∷ []; records = x })) (sym e) (leaf_runs kind)))

pub run-requires-clause-runnable : goal.run-requires-clause-runnable
run-requires-clause-runnable c =
    let plan : Plan = record { kind = PlanKind.Change; pages = c.leaf_pages.result; made = c.leaf_pages-2.result; records = c.in_ok-records.records } in
    subst (λ (s : Plain). IsRunnable (state_of s).log.made plan) (sym c.requires)
    (subst (λ (x : List Group). IsRunnable x plan) (sym (log_seen begun))
    (leaf_plan PlanKind.Change c.leaf_pages.result c.leaf_pages-2.result c.in_ok-records.records c.leaf_pages.ensures c.leaf_pages-2.ensures c.in_ok-records.ensures))
