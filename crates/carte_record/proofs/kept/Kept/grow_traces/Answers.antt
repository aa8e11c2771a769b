use Rattle.std.proofs.Common.{refl}
use Rattle.carte_table.proofs.Steps.{begins_self}
use Rattle.carte_record.proofs.kept.Kept.grow_traces.Goals as goal

pub returns-in_err-append-clause-front : goal.returns-in_err-append-clause-front
returns-in_err-append-clause-front c =
    let K = c.args.self.now in
    record { seen = begins_self K.seen; entries = begins_self K.entries; verifying = c.append.ensures.front; constructive = begins_self K.constructive; deep = begins_self K.deep; chain = refl; values = begins_self K.values }

pub returns-in_err-append-2-clause-front : goal.returns-in_err-append-2-clause-front
returns-in_err-append-2-clause-front c =
    let K = c.args.self.now in
    record { seen = begins_self K.seen; entries = begins_self K.entries; verifying = c.append.ensures.front; constructive = c.append-2.ensures.front; deep = begins_self K.deep; chain = refl; values = begins_self K.values }
