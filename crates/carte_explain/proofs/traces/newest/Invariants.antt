use Rattle.std.proofs.Common.{◌≡◌, take, option_copied}
use Rattle.carte_table.specs.Lookups.{find_last}
use Rattle.carte_explain.specs.Found.{is_trace_with}
use Rattle.carte_explain.proofs.traces.newest.Given as goal

abbrev pub invariant-loop-trace : goal.invariant-loop-trace
invariant-loop-trace l = option_copied l.newest ≡ find_last (is_trace_with l.key (option_copied l.wanted)) (take l.trace-index l.traces)
