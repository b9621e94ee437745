use Rattle.std.proofs.Common.{◌≡◌, Option, IsNone, refl, subst}
use Rattle.std.specs.Prelude.{IfSome}
use Rattle.redo_record.specs.declared.plans.Plan.{Plan}
use Rattle.page_store.specs.Stored.{pages_of}
use Rattle.tree_change.specs.Way.{IsWayTo}
use Rattle.tree_change.specs.Effects.{without_item, Carries}
use Rattle.tree_change.proofs.AnswerLaws.{on_ok}
use Rattle.tree_store.proofs.ForestLaws.{way_to}
use Rattle.tree_store.proofs.ChangeLaws.{carried_applies, ran_carried, without_none}
use Rattle.tree_store.proofs.changing.take_from.Goals as goal

pub plan_take-requires : goal.plan_take-requires
plan_take-requires c =
    let f = c.requires.forest in
    way_to (pages_of c.args.store.now) f.0 f.1 f.2 c.args.root f.3 c.args.item.now.key c.args.path.now c.requires.room.way

pub run_plan-requires-clause-apply : goal.run_plan-requires-clause-apply
run_plan-requires-clause-apply c =
    let f = c.requires.forest in
    let key = c.args.item.now.key in
    let path = c.args.path.now in
    let carries : Carries key path c.in-Some.plan (without_item key) =
    subst (λ (o : Option Plan). IfSome o (λ plan. Carries key path plan (without_item key))) c.in-Some.is c.in_ok-plan.ensures.carries in
    carried_applies c.args.store.now f.0 f.1 f.2 c.args.root f.3 key path c.requires.room.way c.in-Some.plan (without_item key) carries

pub returns-in-Some-clause-ok : goal.returns-in-Some-clause-ok
returns-in-Some-clause-ok c roots items f k =
    let key = c.args.item.now.key in
    let path = c.args.path.now in
    let carries : Carries key path c.in-Some.plan (without_item key) =
    subst (λ (o : Option Plan). IfSome o (λ plan. Carries key path plan (without_item key))) c.in-Some.is c.in_ok-plan.ensures.carries in
    on_ok _ _ c.run_plan.result c.run_plan.ensures.ok
    (ran_carried c.args.store.now c.run_plan.new.store roots items f c.args.root k key path c.requires.room.way c.in-Some.plan (without_item key) carries)

pub returns-in-None-clause-ok : goal.returns-in-None-clause-ok
returns-in-None-clause-ok c roots items f k =
    let key = c.args.item.now.key in
    let path = c.args.path.now in
    let w = way_to (pages_of c.args.store.now) roots items f c.args.root k key path c.requires.room.way in
    let absent : (w : IsWayTo key path) → without_item key w.items ≡ w.items =
    subst (λ (o : Option Plan). IsNone o → (w : IsWayTo key path) → without_item key w.items ≡ w.items) c.in-None.is c.in_ok-plan.ensures.absent refl in
    without_none c.args.store.now roots items f c.args.root (without_item key (items c.args.root)) (absent w)
