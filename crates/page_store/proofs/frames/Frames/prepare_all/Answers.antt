use Rattle.std.proofs.Common.{◌≡◌, ◌+◌, ◌∷◌, [], ◌++◌, ℕ, List, take, sym, ap, subst, ◌∙◌}
use Rattle.std.specs.List.{AllByRecursion}
use Rattle.std.proofs.lemmas.List.{take_more}
use Rattle.redo_record.specs.declared.redo.Record.{Record}
use Rattle.redo_record.specs.Effect.{page_of}
use Rattle.page_store.specs.Frames.{HasCopy}
use Rattle.page_store.proofs.ChangeLaws.{copies_more}
use Rattle.page_store.proofs.frames.Frames.prepare_all.Goals as goal

pub loop-r-preserved : goal.loop-r-preserved
loop-r-preserved c =
    let rs : List Record = c.args.records.now in
    let i : ℕ = c.loop-r.r-index in
    let r : Record = c.r-item.result in
    let all : take (i + 1) rs ≡ take i rs ++ r ∷ [] = take_more rs i r c.loop-r-test.true ∙ ap (λ (x : Record). take i rs ++ x ∷ []) (sym c.r-item.is) in
    let ok : HasCopy c.prepare.new.self (page_of r) = subst (HasCopy c.prepare.new.self) c.page.ensures c.in_ok-prepare.ensures.ok in
    record {
      kept = λ p. c.prepare.ensures.kept p ∙ c.loop-r.invariant.kept p;
      pages = λ p. c.prepare.ensures.pages p ∙ c.loop-r.invariant.pages p;
      copies = subst (λ (q : List Record). AllByRecursion (λ r. HasCopy c.prepare.new.self (page_of r)) q) (sym all)
          (copies_more c.loop-r.self c.prepare.new.self (take i rs) r c.prepare.ensures.copies c.loop-r.invariant.copies ok);
    }
