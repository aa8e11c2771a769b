-- The fault of a commit at which a line ends so.
use Rattle.carte_session.specs.declared.end.StepEnd.{StepEnd}
use Rattle.carte_session.specs.declared.end.StepEnd.TheVariants.{DiskFault, StateFull, NoMemory}
use Rattle.carte_state.specs.declared.fault.ApplyFault.{ApplyFault}
use Rattle.carte_state.specs.declared.fault.ApplyFault.TheVariants as applying

abbrev pub fault_of : StepEnd → ApplyFault
fault_of DiskFault = applying.DiskFault
fault_of (StateFull needed limit) = applying.Full needed limit
fault_of NoMemory = applying.NoMemory
