-- The jobs of each rebuilder cross threads.
use denote.Param.Send.{sendable}
use Rattle.carte_rebuild.proofs.Crossing.{tries_send, tries_sync}
use Rattle.carte_deep.proofs.Crossing.{deep_send, deep_sync}
use Rattle.carte_shell.proofs.chosen.preview.Goals as goal

pub preview-requires-send-R-Job : goal.preview-requires-send-R-Job
preview-requires-send-R-Job c κs = search (sendable, tries_send)

pub preview-requires-sync-R-Job : goal.preview-requires-sync-R-Job
preview-requires-sync-R-Job c κs = search (sendable, tries_sync)

pub preview-requires-in-Verifying-send-R-Job : goal.preview-requires-in-Verifying-send-R-Job
preview-requires-in-Verifying-send-R-Job c κs = search (sendable, tries_send)

pub preview-requires-in-Verifying-sync-R-Job : goal.preview-requires-in-Verifying-sync-R-Job
preview-requires-in-Verifying-sync-R-Job c κs = search (sendable, tries_sync)

pub preview-requires-in-Constructive-send-R-Job : goal.preview-requires-in-Constructive-send-R-Job
preview-requires-in-Constructive-send-R-Job c κs = search (sendable, tries_send)

pub preview-requires-in-Constructive-sync-R-Job : goal.preview-requires-in-Constructive-sync-R-Job
preview-requires-in-Constructive-sync-R-Job c κs = search (sendable, tries_sync)

pub preview-requires-in-Deep-send-R-Job : goal.preview-requires-in-Deep-send-R-Job
preview-requires-in-Deep-send-R-Job c κs = search (sendable, deep_send)

pub preview-requires-in-Deep-sync-R-Job : goal.preview-requires-in-Deep-sync-R-Job
preview-requires-in-Deep-sync-R-Job c κs = search (sendable, deep_sync)
