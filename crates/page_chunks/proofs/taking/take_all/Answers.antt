use Rattle.std.proofs.Common.{◌≡◌, ◌+◌, ◌++◌, ◌∷◌, [], ℕ, List, take, sym, ap, ◌∙◌, arith}
use Rattle.std.proofs.lemmas.List.{take_all, take_more}
use Rattle.redo_record.specs.declared.redo.Record.{Record}
use Rattle.page_chunks.specs.Entries.{taken, taken_all}
use Rattle.page_chunks.proofs.EntryLaws.{on_ok}
use Rattle.page_chunks.proofs.TakenLaws.{taken_all-push, on_err}
use Rattle.page_chunks.proofs.taking.take_all.Goals as goal

pub returns-clause-ok : goal.returns-clause-ok
returns-clause-ok c =
    let rs : List Record = c.as_slice-records.result.now in
    c.loop-i.invariant
    ∙ ap (λ (q : List Record). taken_all c.args.first c.args.g.now.lsn q c.args.entries.now) (take_all c.loop-i.i rs (omega arith) ∙ c.as_slice-records.ensures)

pub loop-i-preserved : goal.loop-i-preserved
loop-i-preserved c =
    let rs : List Record = c.as_slice-records.result.now in
    let r : Record = c.index-records-i.result in
    let first : ℕ = c.args.first in
    let lsn : ℕ = c.args.g.now.lsn in
    let i : ℕ = c.loop-i.i in
    let done : c.take.new.entries ≡ taken first lsn r c.loop-i.entries =
    on_ok c.take.result _ (sym c.is_err.ensures.value ∙ c.if-is_err.false) c.take.ensures.ok in
    let all : take (i + 1) rs ≡ take i rs ++ r ∷ [] = take_more rs i r (omega arith) ∙ ap (λ (x : Record). take i rs ++ x ∷ []) (sym c.index-records-i.is) in
    done ∙ ap (taken first lsn r) c.loop-i.invariant
    ∙ sym (ap (λ (q : List Record). taken_all first lsn q c.args.entries.now) all ∙ taken_all-push first lsn (take i rs) r c.args.entries.now)

pub returns-then-is_err-clause-err : goal.returns-then-is_err-clause-err
returns-then-is_err-clause-err c =
    let same : c.take.new.entries ≡ c.loop-i.entries = on_err c.take.result _ (sym c.is_err.ensures.value ∙ c.if-is_err.true) c.take.ensures.err in
    c.give_back_all.ensures c.args.entries.now c.args.g.now.lsn
    (same ∙ c.loop-i.invariant ∙ ap (λ (q : List Record). taken_all c.args.first c.args.g.now.lsn q c.args.entries.now) (sym c.split_at.ensures.front))
