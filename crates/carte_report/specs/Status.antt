-- The number of each status.
use Rattle.std.specs.Prelude.{ℕ}
use Rattle.carte_report.specs.declared.status.Status.{Status}
use Rattle.carte_report.specs.declared.status.Status.TheVariants.{Done, BookRefused, Usage, BuildRefused, ReadFault, WriteFault, DiskFault, BadState, StateFull, NoMemory, ScriptTooLong}

abbrev pub code_of : Status → ℕ
code_of Done = 0
code_of (BookRefused f) = 1
code_of (Usage f) = 2
code_of (BuildRefused r) = 3
code_of ReadFault = 4
code_of WriteFault = 5
code_of DiskFault = 6
code_of (BadState offset) = 7
code_of (StateFull needed limit) = 8
code_of NoMemory = 9
code_of ScriptTooLong = 10
