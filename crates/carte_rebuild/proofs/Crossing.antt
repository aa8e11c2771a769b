-- The job of tries may go to another thread, and be looked at from there. A formula is a type that reaches itself, so its
-- laws are taken from those of its parts.
use denote.Param.Send.{IsSend, IsSync, recorded_send, recorded_sync, struct_send, struct_sync, enum_send, enum_sync, sendable}
use denote.Enum.Declared as choice
use denote.Struct.Declared as fields
use Rattle.std.proofs.Crossing.{crosses, Box-send, Box-sync, Arc-send, Arc-sync}
use Rattle.carte_value.proofs.area.Area.TheSendSync as area
use Rattle.carte_name.proofs.kind.Kind.TheSendSync as kind
use Rattle.carte_name.proofs.name.Name.TheSendSync as name
use Rattle.carte_name.proofs.seeded.Seeded.TheSendSync as seeded
use Rattle.carte_value.proofs.text.Text.TheSendSync as text
use Rattle.carte_tree.proofs.expr.Func.TheSendSync as func
use Rattle.carte_tree.proofs.expr.Level.TheSendSync as level
use Rattle.carte_tree.proofs.expr.Op.TheSendSync as op
use Rattle.carte_tree.proofs.expr.Arg.TheLaws.TheKnot as tree
use Rattle.carte_tree.specs.contracts.expr.Expr as Expr
use Rattle.carte_rebuild.proofs.checks.Checks.TheSendSync as checks
use Rattle.carte_task.proofs.machine.Machine.TheSendSync as machine
use Rattle.carte_rebuild.specs.contracts.recipe.Recipe as Recipe
use Rattle.carte_rebuild.specs.contracts.tries.Stage as Stage
use Rattle.carte_rebuild.specs.contracts.tries.Tries as Tries

ruleset sent_parts = (sendable, crosses, area.the_send, name.the_send, text.the_send, func.the_field_send, level.the_field_send, op.the_field_send)

ruleset shared_parts = (sendable, crosses, area.the_sync, name.the_sync, text.the_sync, func.the_field_sync, level.the_field_sync, op.the_field_sync)

expr_send : IsSend Expr.the_row
expr_send = search (sent_parts, tree.send-Expr) depth 20

expr_sync : IsSync Expr.the_row
expr_sync = search (shared_parts, tree.sync-Expr) depth 20

recipe_send : IsSend (Recipe.the_field).row
recipe_send = struct_send (fields.shape Recipe.the_type) (search (sendable, name.the_send), (search (sendable, kind.the_field_send), (search (sendable, Arc-send, expr_send, expr_sync), (search (sendable, seeded.the_field_send), tt))))

recipe_sync : IsSync (Recipe.the_field).row
recipe_sync = struct_sync (fields.shape Recipe.the_type) (search (sendable, name.the_sync), (search (sendable, kind.the_field_sync), (search (sendable, Arc-sync, expr_send, expr_sync), (search (sendable, seeded.the_field_sync), tt))))

stage_send : IsSend (Stage.the_field).row
stage_send = enum_send (choice.shape Stage.the_type) ((search (sendable, checks.the_send), (recipe_send, tt)), ((machine.the_field_send, tt), tt))

stage_sync : IsSync (Stage.the_field).row
stage_sync = enum_sync (choice.shape Stage.the_type) ((search (sendable, checks.the_sync), (recipe_sync, tt)), ((machine.the_field_sync, tt), tt))

pub tries_field_send : IsSend (Tries.the_field).row
tries_field_send = struct_send (fields.shape Tries.the_type) (search (sendable, Box-send, stage_send), tt)

pub tries_field_sync : IsSync (Tries.the_field).row
tries_field_sync = struct_sync (fields.shape Tries.the_type) (search (sendable, Box-sync, stage_sync), tt)

pub tries_send : IsSend Tries.the_row
tries_send = recorded_send (Tries.the_field).row _ _ (Tries.the_type).to_one tries_field_send

pub tries_sync : IsSync Tries.the_row
tries_sync = recorded_sync (Tries.the_field).row _ _ (Tries.the_type).to_one tries_field_sync
