use Rattle.std.proofs.Common.{List, arith, fold, take, Result, IsOk, refl, sym, subst}
use Rattle.std.specs.List.{AllByRecursion}
use Rattle.sql_values.specs.declared.schemas.Schema.{Schema}
use Rattle.sql_database.specs.declared.changes.Change.{Change}
use Rattle.sql_database.specs.Database.{Database}
use Rattle.sql_database.specs.Applied.{with_row}
use Rattle.sql_engine.specs.declared.store.SpaceFull.{SpaceFull}
use Rattle.sql_engine.specs.Made.{Suits}
use Rattle.sql_engine.proofs.ListLemmas.{all_here, fold_front}
use Rattle.sql_engine.proofs.MadeLemmas.{schemas_stay}
use Rattle.sql_engine.proofs.making.make_changes.Goals as goal

pub make_change-requires : goal.make_change-requires
make_change-requires g c =
    let items = c.as_slice-change-items.result.now in
    let d = c.requires.0 in
    let all = subst (λ (cs : List Change). AllByRecursion (Suits d.schemas) cs) (sym c.as_slice-change-items.ensures) c.requires.2 in
    let here = all_here (Suits d.schemas) items c.loop-change.change-index c.change-item.result all (omega arith) c.change-item.is in (
      fold with_row d (take c.loop-change.change-index items),
      c.loop-change.invariant.made d c.requires.1 all,
      subst (λ (schemas : List Schema). Suits schemas c.change-item.result) (sym (schemas_stay d (take c.loop-change.change-index items))) here,
    )

pub loop-change-preserved : goal.loop-change-preserved
loop-change-preserved g c = record {
  made = λ d t all.
      let items = c.as_slice-change-items.result.now in
      let before = take c.loop-change.change-index items in
      let here = all_here (Suits d.schemas) items c.loop-change.change-index c.change-item.result all (omega arith) c.change-item.is in
      subst (λ (e : Database). g.T.TableStore.tables c.make_change.new.store e) (sym (fold_front with_row d items c.loop-change.change-index c.change-item.result (omega arith) c.change-item.is))
      (c.in_ok-full.ensures.made (fold with_row d before) (c.loop-change.invariant.made d t all)
      (subst (λ (schemas : List Schema). Suits schemas c.change-item.result) (sym (schemas_stay d before)) here)
      (subst (λ (r : Result (Unit {0}) SpaceFull). IsOk r) (sym c.in_default.is) refl));
  keeps = λ k h. c.in_ok-full.ensures.keeps k (c.loop-change.invariant.keeps k h);
}
