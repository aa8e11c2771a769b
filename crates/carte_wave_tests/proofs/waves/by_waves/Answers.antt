-- The jobs of the rebuilder cross threads.
use denote.Param.Send.{sendable}
use Rattle.carte_rebuild.proofs.Crossing.{tries_send, tries_sync}
use Rattle.carte_wave_tests.proofs.waves.by_waves.Goals as goal

pub build-requires-send-R-Job : goal.build-requires-send-R-Job
build-requires-send-R-Job c κs = search (sendable, tries_send)

pub build-requires-sync-R-Job : goal.build-requires-sync-R-Job
build-requires-sync-R-Job c κs = search (sendable, tries_sync)
