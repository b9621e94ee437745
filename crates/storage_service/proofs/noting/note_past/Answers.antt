use Rattle.std.proofs.Common.{◌≡◌, ◌+◌, ℕ, cond, List, Some, None, sym, ap, ◌∙◌, arith}
use Rattle.std.specs.List.{slice_get}
use Rattle.std.specs.Option.{option_copied}
use Rattle.redo_record.specs.declared.redo.Group.{Group}
use Rattle.log_chunks.proofs.StoreLaws.{find-counted}
use Rattle.storage_service.specs.Noting.{some_for, noted_at}
use Rattle.storage_service.proofs.Bringing.{not_past}
use Rattle.storage_service.proofs.LastFor.{noted_more}
use Rattle.storage_service.proofs.noting.note_past.Goals as goal

pub unreachable-requires : goal.unreachable-requires
unreachable-requires c =
    let groups : List Group = c.args.store.now.groups in
    let place : ℕ = c.loop-place.place in
    let lsn : c.new.result ≡ 0 + place + 1 = omega (arith, c.new.ensures) in
    let none : slice_get groups place ≡ None =
    sym (find-counted 0 place c.new.result groups lsn c.requires.log) ∙ sym c.group.ensures ∙ ap option_copied c.in_default.is in
    not_past groups place none (omega (arith, c.loop-place-test.true, c.number-place-end.ensures.value, c.last.ensures))

pub loop-place-preserved : goal.loop-place-preserved
loop-place-preserved c =
    let groups : List Group = c.args.store.now.groups in
    let place : ℕ = c.loop-place.place in
    let g : Group = c.in-Some.group.now in
    let lsn : c.new.result ≡ 0 + place + 1 = omega (arith, c.new.ensures) in
    let there : slice_get groups place ≡ Some g =
    sym (find-counted 0 place c.new.result groups lsn c.requires.log) ∙ sym c.group.ensures ∙ ap option_copied c.in-Some.is in
    record {
      all = c.note_group.ensures.all;
      each = λ k low.
          c.note_group.ensures.each k low
          ∙ ap (λ (v : ℕ). cond (some_for k g.records) g.lsn v) (c.loop-place.invariant.each k low)
          ∙ sym (noted_more groups c.args.before place k (noted_at c.args.noted.now.items k) g c.loop-place.auto.place there);
    }
