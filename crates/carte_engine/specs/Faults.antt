-- What a commit's fault is to a build.
use Rattle.carte_state.specs.declared.fault.ApplyFault.{ApplyFault}
use Rattle.carte_state.specs.declared.fault.ApplyFault.TheVariants as applying
use Rattle.carte_engine.specs.declared.fault.BuildFault.{BuildFault}
use Rattle.carte_engine.specs.declared.fault.BuildFault.TheVariants as building

abbrev pub fault_of : ApplyFault → BuildFault
fault_of applying.DiskFault = building.DiskFault
fault_of (applying.Full needed limit) = building.StateFull needed limit
fault_of applying.NoMemory = building.NoMemory
