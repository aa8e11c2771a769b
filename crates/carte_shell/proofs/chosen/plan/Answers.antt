-- The jobs of each rebuilder cross threads.
use denote.Param.Send.{sendable}
use Rattle.carte_rebuild.proofs.Crossing.{tries_send, tries_sync}
use Rattle.carte_deep.proofs.Crossing.{deep_send, deep_sync}
use Rattle.carte_shell.proofs.chosen.plan.Goals as goal

pub plan_from-requires-send-R-Job : goal.plan_from-requires-send-R-Job
plan_from-requires-send-R-Job g c κs = search (sendable, tries_send)

pub plan_from-requires-sync-R-Job : goal.plan_from-requires-sync-R-Job
plan_from-requires-sync-R-Job g c κs = search (sendable, tries_sync)

pub plan_from-requires-in-Verifying-send-R-Job : goal.plan_from-requires-in-Verifying-send-R-Job
plan_from-requires-in-Verifying-send-R-Job g c κs = search (sendable, tries_send)

pub plan_from-requires-in-Verifying-sync-R-Job : goal.plan_from-requires-in-Verifying-sync-R-Job
plan_from-requires-in-Verifying-sync-R-Job g c κs = search (sendable, tries_sync)

pub plan_from-requires-in-Constructive-send-R-Job : goal.plan_from-requires-in-Constructive-send-R-Job
plan_from-requires-in-Constructive-send-R-Job g c κs = search (sendable, tries_send)

pub plan_from-requires-in-Constructive-sync-R-Job : goal.plan_from-requires-in-Constructive-sync-R-Job
plan_from-requires-in-Constructive-sync-R-Job g c κs = search (sendable, tries_sync)

pub plan_from-requires-in-Deep-send-R-Job : goal.plan_from-requires-in-Deep-send-R-Job
plan_from-requires-in-Deep-send-R-Job g c κs = search (sendable, deep_send)

pub plan_from-requires-in-Deep-sync-R-Job : goal.plan_from-requires-in-Deep-sync-R-Job
plan_from-requires-in-Deep-sync-R-Job g c κs = search (sendable, deep_sync)
