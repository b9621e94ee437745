-- Stated: what a look at a page's entry gives.
use Rattle.home_tables.specs.declared.entry.Entry.{Entry}
use Rattle.message_network.specs.declared.looks.Seen.{Seen}

abbrev pub seen : Entry → Seen
seen e = record { addr = e.addr; bit = e.bit; lsn = e.lsn; floor = e.floor }
