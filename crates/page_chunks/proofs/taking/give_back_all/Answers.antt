use Rattle.std.proofs.Common.{◌≡◌, ◌<◌, ◌+◌, ◌-◌, ◌++◌, ◌∷◌, [], ℕ, List, length, take, get_or, sym, ap, ◌∙◌, arith}
use Rattle.std.proofs.lemmas.List.{take_all, take_more}
use Rattle.redo_record.specs.declared.redo.Record.{Record}
use Rattle.page_chunks.specs.Entries.{taken_all}
use Rattle.page_chunks.proofs.TakenLaws.{taken_all-push}
use Rattle.page_chunks.proofs.taking.give_back_all.Goals as goal

pub loop-i-init : goal.loop-i-init
loop-i-init c es lsn is =
    let rs : List Record = c.args.records.now in
    is ∙ ap (λ (q : List Record). taken_all c.args.first lsn q es) (sym (take_all (length rs) rs (omega arith)))

pub loop-i-preserved : goal.loop-i-preserved
loop-i-preserved c es lsn is =
    let rs : List Record = c.args.records.now in
    let r : Record = c.index-records-i.result in
    let before : ℕ = c.loop-i.i - 1 in
    let at : before < length rs = omega arith in
    let more : take (before + 1) rs ≡ take before rs ++ get_or rs before r ∷ [] = take_more rs before r at in
    let here : c.loop-i.i ≡ before + 1 = omega arith in
    let all : take c.loop-i.i rs ≡ take before rs ++ r ∷ [] =
    ap (λ (k : ℕ). take k rs) here ∙ more ∙ ap (λ (x : Record). take before rs ++ x ∷ []) (sym c.index-records-i.is) in
    c.give_back.ensures (taken_all c.args.first lsn (take before rs) es) lsn
    (c.loop-i.invariant es lsn is ∙ ap (λ (q : List Record). taken_all c.args.first lsn q es) all ∙ taken_all-push c.args.first lsn (take before rs) r es)

pub returns : goal.returns
returns c es lsn is =
    let none : c.loop-i.i ≡ 0 = omega arith in
    c.loop-i.invariant es lsn is ∙ ap (λ (k : ℕ). taken_all c.args.first lsn (take k c.args.records.now) es) none
