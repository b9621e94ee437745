use Rattle.std.proofs.Common.{◌≡◌, ℕ, List, take}
use Rattle.page_chunks.specs.declared.entries.Entry.{Entry}
use Rattle.page_chunks.specs.Entries.{taken_all}
use Rattle.page_chunks.proofs.taking.give_back_all.Given as goal

-- the records before this place are taken still
abbrev pub invariant-loop-i : goal.invariant-loop-i
invariant-loop-i l =
    (es : List Entry) (lsn : ℕ) → l.initial.entries ≡ taken_all l.first lsn l.records es → l.entries ≡ taken_all l.first lsn (take l.i l.records) es
