use Rattle.std.proofs.Common.{◌≡◌, ◌+◌, ◌∷◌, ℕ, List, drop, sym, ap, subst, ◌∙◌}
use Rattle.std.proofs.lemmas.List.{drop_more}
use Rattle.redo_record.specs.declared.redo.Record.{Record}
use Rattle.page_store.proofs.ChangeLaws.{Left, left_next}
use Rattle.page_store.proofs.frames.Frames.change_all.Goals as goal

pub loop-r-preserved : goal.loop-r-preserved
loop-r-preserved c =
    let rs : List Record = c.as_slice-r-items.result.now in
    let i : ℕ = c.loop-r.r-index in
    let r : Record = c.r-item.result in
    let here : drop i rs ≡ r ∷ drop (i + 1) rs = drop_more rs i r c.loop-r-test.true ∙ ap (λ (x : Record). x ∷ drop (i + 1) rs) (sym c.r-item.is) in
    left_next c.args.group.now.lsn rs c.args.self.now r (drop (i + 1) rs) c.loop-r.self c.change.new.self
    (subst (λ (q : List Record). Left c.args.group.now.lsn rs c.args.self.now q c.loop-r.self) here c.loop-r.invariant)
    c.change.ensures.kept c.change.ensures.copies c.change.ensures.pages
