use Rattle.snapshot_reads.proofs.laws.snapshot_laws.Goals as goal
use Rattle.snapshot_reads.proofs.ReadLaws.{found_rows, found_tables, images_suffice, missing_tables, stay_known}

pub returns : goal.returns
returns c = record {
  tables = found_tables;
  missing = missing_tables;
  known = stay_known;
  rows = found_rows;
  images = images_suffice;
}
