-- What clauses see of a sink in memory.
use Rattle.carte_io.specs.Memory.{MemoryOfSink}
use Rattle.carte_io.specs.declared.mem_sink.MemSink.{MemSink}

abbrev pub memory_of : MemSink → MemoryOfSink
memory_of s = record {
  taken = s.taken.items;
  handed = s.handed;
  most = s.most;
  failing = s.failing.items;
  calls = s.calls;
  faults = s.faults;
}
