-- Stated: the exit status of each way in which a run ends.
use Rattle.std.specs.Prelude.{ℕ}
use Rattle.rmem_db.specs.declared.status.Status.{Status}
use Rattle.rmem_db.specs.declared.status.Status.TheVariants.{Done, BadWords, BadScript, ReadFault, WriteFault, TooLong, BadLog, WantOfMemory}

abbrev pub code_of : Status → ℕ
code_of Done = 0
code_of BadWords = 2
code_of BadScript = 3
code_of ReadFault = 4
code_of WriteFault = 5
code_of TooLong = 6
code_of BadLog = 7
code_of WantOfMemory = 12
