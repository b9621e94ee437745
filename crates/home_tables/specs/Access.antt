-- Stated: the calls that change the entry of one page, and what each does to it.
use Rattle.std.specs.Prelude.{◌≡◌, ℕ, true}
use Rattle.home_model.specs.Latch.{Latch, may_share, MayExclude}
use Rattle.home_model.specs.Entry.{Entry as HomeEntry, unregistered, released_by, cleaned, shared_by, excluded_by}
use Rattle.page_latches.specs.declared.latch.Mode.{Mode}
use Rattle.page_latches.specs.declared.latch.Mode.TheVariants.{S, X}
use Rattle.home_tables.specs.Table.{referred}
use Rattle.home_tables.specs.declared.entry.Access.{Access}
use Rattle.home_tables.specs.declared.entry.Access.TheVariants.{Refer, Unregister, Release, Clean}

abbrev pub accessed : Access → HomeEntry → HomeEntry
accessed (Refer n) E = referred E n
accessed (Unregister n) E = unregistered E n
accessed (Release n) E = released_by E n
accessed (Clean lsn) E = cleaned E lsn

-- n may take the latch in that mode
abbrev pub MayTake : Mode → Latch → ℕ → Type 0
MayTake S L n = may_share L n ≡ true
MayTake X L n = MayExclude L n

-- n has taken the latch in that mode
abbrev pub taken_by : Mode → HomeEntry → ℕ → HomeEntry
taken_by S E n = shared_by E n
taken_by X E n = excluded_by E n
