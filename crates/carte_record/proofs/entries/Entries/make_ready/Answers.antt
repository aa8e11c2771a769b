use Rattle.std.proofs.Common.{subst, IfOk}
use Rattle.carte_record.specs.Lookups.{is_entry_of}
use Rattle.carte_table.specs.Steps.{IsReady}
use Rattle.carte_record.proofs.entries.Entries.make_ready.Goals as goal

pub returns-clause-ok : goal.returns-clause-ok
returns-clause-ok c =
    subst (λ es. IfOk c.make_ready_plain.result (λ left. IsReady is_entry_of c.args.later es left.items c.make_ready_plain.new.self)) c.self.view_is c.make_ready_plain.ensures.ok
