-- The jobs of the rebuilders cross threads.
use denote.Param.Send.{sendable}
use Rattle.carte_deep.proofs.Crossing.{deep_send, deep_sync}
use Rattle.carte_rebuild.proofs.Crossing.{tries_send, tries_sync}
use Rattle.carte_build_tests.proofs.engine.by.Goals as goal

pub said_of-requires-send-R-Job : goal.said_of-requires-send-R-Job
said_of-requires-send-R-Job g c κs = search (sendable, tries_send, deep_send)

pub said_of-requires-sync-R-Job : goal.said_of-requires-sync-R-Job
said_of-requires-sync-R-Job g c κs = search (sendable, tries_sync, deep_sync)

pub said_of-requires-in-1-send-R-Job : goal.said_of-requires-in-1-send-R-Job
said_of-requires-in-1-send-R-Job g c κs = search (sendable, tries_send, deep_send)

pub said_of-requires-in-1-sync-R-Job : goal.said_of-requires-in-1-sync-R-Job
said_of-requires-in-1-sync-R-Job g c κs = search (sendable, tries_sync, deep_sync)

pub said_of-requires-in-2-send-R-Job : goal.said_of-requires-in-2-send-R-Job
said_of-requires-in-2-send-R-Job g c κs = search (sendable, tries_send, deep_send)

pub said_of-requires-in-2-sync-R-Job : goal.said_of-requires-in-2-sync-R-Job
said_of-requires-in-2-sync-R-Job g c κs = search (sendable, tries_sync, deep_sync)

pub said_of-requires-in_default-send-R-Job : goal.said_of-requires-in_default-send-R-Job
said_of-requires-in_default-send-R-Job g c κs = search (sendable, tries_send, deep_send)

pub said_of-requires-in_default-sync-R-Job : goal.said_of-requires-in_default-sync-R-Job
said_of-requires-in_default-sync-R-Job g c κs = search (sendable, tries_sync, deep_sync)
