use Rattle.carte_table.proofs.Steps.{begins_self}
use Rattle.carte_note.proofs.Growing.{begins_pushed, grown_self, grown_traces}
use Rattle.carte_note.proofs.note.note_trace.Goals as goal

pub returns-in_err-needs_trace-in-Verifying-clause-grown : goal.returns-in_err-needs_trace-in-Verifying-clause-grown
returns-in_err-needs_trace-in-Verifying-clause-grown c = grown_self c.args.batch.now

pub returns-in_err-needs_trace-in-Constructive-clause-grown : goal.returns-in_err-needs_trace-in-Constructive-clause-grown
returns-in_err-needs_trace-in-Constructive-clause-grown c = grown_self c.args.batch.now

pub returns-in_err-deep_trace-in-Deep-clause-grown : goal.returns-in_err-deep_trace-in-Deep-clause-grown
returns-in_err-deep_trace-in-Deep-clause-grown c = grown_self c.args.batch.now

pub returns-in_ok-needs_trace-in-Verifying-clause-grown : goal.returns-in_ok-needs_trace-in-Verifying-clause-grown
returns-in_ok-needs_trace-in-Verifying-clause-grown c =
    let B = c.args.batch.now in
    grown_traces B c.push.new.self B.constructive B.deep (begins_pushed B.verifying c.push.new.self _ _ c.push.ensures) (begins_self B.constructive) (begins_self B.deep)

pub returns-in_ok-needs_trace-in-Constructive-clause-grown : goal.returns-in_ok-needs_trace-in-Constructive-clause-grown
returns-in_ok-needs_trace-in-Constructive-clause-grown c =
    let B = c.args.batch.now in
    grown_traces B B.verifying c.push-in-Constructive.new.self B.deep (begins_self B.verifying) (begins_pushed B.constructive c.push-in-Constructive.new.self _ _ c.push-in-Constructive.ensures) (begins_self B.deep)

pub returns-in_ok-deep_trace-in-Deep-clause-grown : goal.returns-in_ok-deep_trace-in-Deep-clause-grown
returns-in_ok-deep_trace-in-Deep-clause-grown c =
    let B = c.args.batch.now in
    grown_traces B B.verifying B.constructive c.push-in-Deep.new.self (begins_self B.verifying) (begins_self B.constructive) (begins_pushed B.deep c.push-in-Deep.new.self _ _ c.push-in-Deep.ensures)
