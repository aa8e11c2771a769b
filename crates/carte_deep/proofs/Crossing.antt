-- The job of a key under deep traces may go to another thread, and be looked at from there.
use denote.Param.Send.{IsSend, IsSync, recorded_send, recorded_sync, struct_send, struct_sync, enum_send, enum_sync, sendable}
use denote.Enum.Declared as choice
use denote.Struct.Declared as fields
use Rattle.carte_rebuild.proofs.Crossing.{tries_field_send, tries_field_sync}
use Rattle.carte_deep.proofs.held.Earlier.TheSendSync as earlier
use Rattle.carte_deep.specs.contracts.job.DeepJob as DeepJob
use Rattle.carte_deep.specs.contracts.job.Work as Work

work_send : IsSend (Work.the_field).row
work_send = enum_send (choice.shape Work.the_type) ((search (sendable, earlier.the_send), tt), ((tries_field_send, tt), tt))

work_sync : IsSync (Work.the_field).row
work_sync = enum_sync (choice.shape Work.the_type) ((search (sendable, earlier.the_sync), tt), ((tries_field_sync, tt), tt))

pub deep_send : IsSend DeepJob.the_row
deep_send = recorded_send (DeepJob.the_field).row _ _ (DeepJob.the_type).to_one (struct_send (fields.shape DeepJob.the_type) (work_send, tt))

pub deep_sync : IsSync DeepJob.the_row
deep_sync = recorded_sync (DeepJob.the_field).row _ _ (DeepJob.the_type).to_one (struct_sync (fields.shape DeepJob.the_type) (work_sync, tt))
