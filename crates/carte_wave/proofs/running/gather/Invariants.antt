use Rattle.std.proofs.Common.{◌≡◌}
use Rattle.carte_wave.specs.Parts.{AllPassed, driven_in, runs_in}
use Rattle.carte_wave.proofs.running.gather.Given as goal

abbrev pub invariant-loop-wave : goal.invariant-loop-wave
invariant-loop-wave g l = record { passed : AllPassed l.yielded; driven : l.whole.driven.items ≡ driven_in l.yielded; runs : l.whole.runs ≡ runs_in l.yielded }
