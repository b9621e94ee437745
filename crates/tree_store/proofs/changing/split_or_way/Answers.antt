use Rattle.std.proofs.Common.{ℕ, List, Option, Result, IsNone, refl, subst}
use Rattle.page_image.specs.Meta.{page_count}
use Rattle.page_image.specs.Image.{Image}
use Rattle.redo_record.specs.declared.plans.Plan.{Plan}
use Rattle.redo_record.specs.declared.plans.TreeNo.{TreeNo}
use Rattle.page_store.specs.Stored.{pages_of}
use Rattle.tree_change.specs.Places.{page_on}
use Rattle.tree_change.specs.Room.{lacks_room}
use Rattle.tree_change.specs.Splits.{HaveRoom, SpaceFor}
use Rattle.tree_change.specs.Effects.{Keeps}
use Rattle.tree_store.specs.Rooms.{IsWayIn}
use Rattle.tree_store.proofs.ForestLaws.{way_to}
use Rattle.tree_store.proofs.WayLaws.{room_on, full_from}
use Rattle.tree_store.proofs.ChangeLaws.{kept_applies, ran_kept, ran_more, planned, refused}
use Rattle.tree_store.proofs.changing.split_or_way.Goals as goal

pub plan_room-requires-clause-way : goal.plan_room-requires-clause-way
plan_room-requires-clause-way c =
    let f = c.requires.forest in
    let ps = pages_of c.args.store.now in
    let v : IsWayIn ps c.args.root c.args.item.now.key c.in_ok-path.path = subst (λ (k : List ℕ). IsWayIn ps c.args.root k c.in_ok-path.path) c.as_slice.ensures c.in_ok-path.ensures in
    way_to ps f.0 f.1 f.2 c.args.root f.3 c.args.item.now.key c.in_ok-path.path v

pub returns-in-None-clause-way : goal.returns-in-None-clause-way
returns-in-None-clause-way c =
    let f = c.requires.forest in
    let ps = pages_of c.args.store.now in
    let path = c.in_ok-path.path in
    let v : IsWayIn ps c.args.root c.args.item.now.key path = subst (λ (k : List ℕ). IsWayIn ps c.args.root k path) c.as_slice.ensures c.in_ok-path.ensures in
    let have : HaveRoom c.args.item.now path =
    subst (λ (o : Option (Result Plan TreeNo)). IsNone o → HaveRoom c.args.item.now path) c.in-None.is c.in_ok-plan_room.ensures.room.0 refl in
    record { way = v; room = room_on c.args.item.now path (way_to ps f.0 f.1 f.2 c.args.root f.3 c.args.item.now.key path v) have }

pub run_plan-requires-clause-apply : goal.run_plan-requires-clause-apply
run_plan-requires-clause-apply c =
    let f = c.requires.forest in
    let ps = pages_of c.args.store.now in
    let key = c.args.item.now.key in
    let path = c.in_ok-path.path in
    let plan = c.in-Some-Ok.plan in
    let v : IsWayIn ps c.args.root key path = subst (λ (k : List ℕ). IsWayIn ps c.args.root k path) c.as_slice.ensures c.in_ok-path.ensures in
    let keeps : Keeps key path (ps 0) plan =
    subst (λ (m : Image). Keeps key path m plan) c.meta_page.ensures
    (planned c.in_ok-plan_room.field-0 c.in-Some-Ok.field-0 plan (λ p. Keeps key path c.meta_page.result.now p) c.in_ok-plan_room.ensures.keeps c.in-Some-Ok.is c.in-Some-Ok.field-0-is) in
    kept_applies c.args.store.now f.0 f.1 f.2 c.args.root f.3 key path v plan keeps

pub returns-in-Some-Ok-clause-forest : goal.returns-in-Some-Ok-clause-forest
returns-in-Some-Ok-clause-forest c roots items f k =
    let ps = pages_of c.args.store.now in
    let key = c.args.item.now.key in
    let path = c.in_ok-path.path in
    let plan = c.in-Some-Ok.plan in
    let v : IsWayIn ps c.args.root key path = subst (λ (k : List ℕ). IsWayIn ps c.args.root k path) c.as_slice.ensures c.in_ok-path.ensures in
    let keeps : Keeps key path (ps 0) plan =
    subst (λ (m : Image). Keeps key path m plan) c.meta_page.ensures
    (planned c.in_ok-plan_room.field-0 c.in-Some-Ok.field-0 plan (λ p. Keeps key path c.meta_page.result.now p) c.in_ok-plan_room.ensures.keeps c.in-Some-Ok.is c.in-Some-Ok.field-0-is) in
    ran_kept c.args.store.now c.run_plan.new.store roots items f c.args.root k key path v plan keeps c.in_ok-run_plan-in-Some-Ok.ensures.ok

pub returns-in-Some-Ok-clause-more : goal.returns-in-Some-Ok-clause-more
returns-in-Some-Ok-clause-more c =
    let f = c.requires.forest in
    let ps = pages_of c.args.store.now in
    let key = c.args.item.now.key in
    let path = c.in_ok-path.path in
    let plan = c.in-Some-Ok.plan in
    let v : IsWayIn ps c.args.root key path = subst (λ (k : List ℕ). IsWayIn ps c.args.root k path) c.as_slice.ensures c.in_ok-path.ensures in
    let keeps : Keeps key path (ps 0) plan =
    subst (λ (m : Image). Keeps key path m plan) c.meta_page.ensures
    (planned c.in_ok-plan_room.field-0 c.in-Some-Ok.field-0 plan (λ p. Keeps key path c.meta_page.result.now p) c.in_ok-plan_room.ensures.keeps c.in-Some-Ok.is c.in-Some-Ok.field-0-is) in
    λ _. ran_more c.args.store.now c.run_plan.new.store f.0 f.1 f.2 c.args.root f.3 key path v plan keeps c.in_ok-run_plan-in-Some-Ok.ensures.ok

pub returns-clause-full : goal.returns-clause-full
returns-clause-full c =
    let f = c.requires.forest in
    let ps = pages_of c.args.store.now in
    let item = c.args.item.now in
    let path = c.in_ok-path.path in
    let meta = c.meta_page.result.now in
    let v : IsWayIn ps c.args.root item.key path = subst (λ (k : List ℕ). IsWayIn ps c.args.root k path) c.as_slice.ensures c.in_ok-path.ensures in
    let none : ¬ SpaceFor (lacks_room item (page_on path 0)) (page_on path 0) (page_count meta) =
    refused c.in_ok-plan_room.field-0 c.in-Some-Err.field-0 c.in-Some-Err.no (SpaceFor (lacks_room item (page_on path 0)) (page_on path 0) (page_count meta))
    c.in_ok-plan_room.ensures.space c.in-Some-Err.is c.in-Some-Err.field-0-is in
    full_from ps item item.key path (way_to ps f.0 f.1 f.2 c.args.root f.3 item.key path v) meta refl c.meta_page.ensures none
