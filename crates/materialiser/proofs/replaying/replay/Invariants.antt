use Rattle.std.proofs.Common.{◌≡◌, drop}
use Rattle.page_image.specs.Image.{Follows}
use Rattle.redo_record.specs.Effect.{after_records, RecordsApply}
use Rattle.materialiser.proofs.replaying.replay.Given as goal

-- the records that are left do to the page what all of them do to the first one, and apply where all of them do
abbrev pub invariant-loop-record : goal.invariant-loop-record
invariant-loop-record l = record {
  whole : after_records l.lsn (drop l.record-index l.record-items) l.page ≡ after_records l.lsn l.record-items l.initial.page;
  only : RecordsApply l.lsn l.record-items l.initial.page → RecordsApply l.lsn (drop l.record-index l.record-items) l.page;
  all : RecordsApply l.lsn (drop l.record-index l.record-items) l.page → RecordsApply l.lsn l.record-items l.initial.page;
  follows : Follows l.page l.lsn;
}
