use Rattle.carte_tree.proofs.StaticRuns.{static_run, static_quiet}
use Rattle.carte_tree.proofs.laws.static_runs.Goals as goal

pub returns : goal.returns
returns c = record { ends = static_run; quiet = static_quiet }
