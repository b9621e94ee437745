use Rattle.std.proofs.Common.{List, sym, subst}
use Rattle.std.specs.List.{AllByRecursion}
use Rattle.redo_record.specs.declared.redo.Record.{Record}
use Rattle.redo_record.specs.Spelling.{IsAdmitted}
use Rattle.redo_record.specs.Effect.{RecordsApply}
use Rattle.page_store.specs.Stored.{Stored, pages_of}
use Rattle.redo_record.specs.Opening.{opening_records}
use Rattle.redo_record.proofs.OpeningLaws.{opening_admitted, opening_applies}
use Rattle.page_store.proofs.store.PageStore.new.Goals as goal

pub run-requires-clause-admitted : goal.run-requires-clause-admitted
run-requires-clause-admitted c = subst (λ (rs : List Record). AllByRecursion IsAdmitted rs) (sym c.in_ok-opening_records.ensures) opening_admitted

pub run-requires-clause-apply : goal.run-requires-clause-apply
run-requires-clause-apply c lsn p =
    subst (λ (rs : List Record). RecordsApply lsn rs (pages_of c.new.result p)) (sym c.in_ok-opening_records.ensures)
    (subst (λ (s : Stored). RecordsApply lsn opening_records (pages_of s p)) (sym c.new.ensures) (opening_applies lsn p))
