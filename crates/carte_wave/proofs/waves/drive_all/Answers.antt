use denote.Param.Send.{sendable}
use Rattle.carte_wave.proofs.Crossing.{bench_sync}
use Rattle.carte_wave.proofs.waves.drive_all.Goals as goal

pub run_wave-requires-sync-L : goal.run_wave-requires-sync-L
run_wave-requires-sync-L g c κs within = search (sendable, bench_sync) depth 20
