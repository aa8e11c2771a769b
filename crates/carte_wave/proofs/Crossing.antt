-- A bench, and with it a book, may be looked at from other threads. A formula is a type that reaches itself, so its laws are
-- taken from those of its parts.
use denote.Param.Send.{IsSend, IsSync, recorded_sync, struct_sync, enum_sync, sendable}
use denote.RattleType.{RattleType}
use denote.Ref.{NamedLft}
use denote.Enum.Declared as choice
use denote.Struct.Declared as fields
use Rattle.std.proofs.Crossing.{crosses, Arc-sync}
use Rattle.indexmap.proofs.map.IndexMap.TheSendSync as map
use Rattle.carte_value.proofs.area.Area.TheSendSync as area
use Rattle.carte_value.proofs.digest.Digest.TheSendSync as digest
use Rattle.carte_name.proofs.kind.Kind.TheSendSync as kind
use Rattle.carte_name.proofs.name.Name.TheSendSync as name
use Rattle.carte_name.proofs.seeded.Seeded.TheSendSync as seeded
use Rattle.carte_value.proofs.numbering.Numbering.TheSendSync as numbering
use Rattle.carte_value.proofs.text.Text.TheSendSync as text
use Rattle.carte_value.proofs.value.Value.TheSendSync as value
use Rattle.carte_tree.proofs.expr.Func.TheSendSync as func
use Rattle.carte_tree.proofs.expr.Level.TheSendSync as level
use Rattle.carte_tree.proofs.expr.Op.TheSendSync as op
use Rattle.carte_tree.proofs.expr.Arg.TheLaws.TheKnot as tree
use Rattle.carte_tree.specs.contracts.expr.Expr as Expr
use Rattle.carte_book.specs.contracts.book.Rule as Rule
use Rattle.carte_book.specs.contracts.book.Item as Item
use Rattle.carte_book.specs.contracts.book.Book as Book
use Rattle.carte_effect.proofs.digests.Digests.TheSendSync as digests
use Rattle.carte_bench.proofs.slot.Slot.TheSendSync as slot
use Rattle.carte_bench.specs.contracts.slot.Slot as Slot
use Rattle.carte_bench.specs.contracts.bench.Bench as Bench

ruleset sent_parts = (sendable, crosses, area.the_send, name.the_send, text.the_send, func.the_field_send, level.the_field_send, op.the_field_send)

ruleset shared_parts = (sendable, crosses, area.the_sync, name.the_sync, text.the_sync, func.the_field_sync, level.the_field_sync, op.the_field_sync)

expr_send : IsSend Expr.the_row
expr_send = search (sent_parts, tree.send-Expr) depth 20

expr_sync : IsSync Expr.the_row
expr_sync = search (shared_parts, tree.sync-Expr) depth 20

rule_sync : IsSync (Rule.the_field).row
rule_sync = struct_sync (fields.shape Rule.the_type) (search (sendable, Arc-sync, expr_send, expr_sync), (search (sendable, digest.the_sync) depth 20, tt))

item_sync : IsSync (Item.the_field).row
item_sync = enum_sync (choice.shape Item.the_type) ((value.the_field_sync, tt), ((rule_sync, tt), tt))

book_field_sync : IsSync (Book.the_field).row
book_field_sync = struct_sync (fields.shape Book.the_type) (search (sendable, crosses), (search (sendable, kind.the_field_sync), (search (sendable, crosses, map.the_sync, name.the_sync, item_sync, seeded.the_field_sync) depth 20, (search (sendable, numbering.the_sync), (search (sendable, value.the_field_sync), (search (sendable, digest.the_sync) depth 20, (search (sendable, crosses), tt)))))))

pub book_sync : IsSync Book.the_row
book_sync = recorded_sync (Book.the_field).row _ _ (Book.the_type).to_one book_field_sync

module _ (κ : NamedLft) (J : RattleType) (js : IsSync J) where
  slots : IsSync (Slot.the_field J).row
  slots = slot.the_field_sync J js

  pub bench_sync : IsSync (Bench.the_field κ J).row
  bench_sync = struct_sync (fields.shape (Bench.the_type κ J)) (search (sendable, book_sync), (search (sendable, crosses), (search (sendable, crosses, map.the_sync, name.the_sync, slots, seeded.the_field_sync) depth 20, (search (sendable, digests.the_sync), tt))))
