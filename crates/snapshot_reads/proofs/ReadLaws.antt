-- The laws of reads, from what is found of names and of rows.
use Rattle.snapshot_reads.specs.Laws.{FoundRowsAreThere, FoundTablesAreThere, ImagesSuffice, MissingTablesAreNot, TablesStayKnown}
use Rattle.snapshot_reads.specs.Times.{image_at}
use Rattle.snapshot_reads.proofs.Imaging.{found_over}
use Rattle.snapshot_reads.proofs.Naming.{no_table_there, table_there}
use Rattle.snapshot_reads.proofs.Rising.{rises_end}
use Rattle.snapshot_reads.proofs.Rows.{rows_there}
use Rattle.snapshot_reads.proofs.States.{stays_known}

pub found_tables : FoundTablesAreThere
found_tables at items S base end n own f r from upto us u l a s root t =
    table_there at items S base end n own f r.keeps r.past from upto u.since
    (rises_end upto from us u.rises) l u.stands a us s root t u.rises u.latched

pub missing_tables : MissingTablesAreNot
missing_tables at items S base end n own f r from upto us u l a t =
    no_table_there at items S base end n own f r.keeps r.past from upto u.since
    (rises_end upto from us u.rises) l u.stands a us t u.rises u.latched

pub stay_known : TablesStayKnown
stay_known at items S base end n own f r i j b le l a s root k =
    stays_known at items S base end n own f r.keeps r.past i j b le l a s root k

pub found_rows : FoundRowsAreThere
found_rows at items S base end n own f r from us u a free s root k range rows t =
    rows_there at items S base end n own f r.keeps r.past from u.since
    (rises_end end from us u.rises) u.stands a free s root k range us rows t u.rises u.latched

pub images_suffice : ImagesSuffice
images_suffice at n own root low high us found f =
    found_over (image_at at) n own root low high us found f
