use Rattle.carte_note.proofs.Growing.{grown_self, grown_on, grown_values, with_values}
use Rattle.carte_note.proofs.note.note_run.Goals as goal

pub returns-then-not-has_run-clause-grown : goal.returns-then-not-has_run-clause-grown
returns-then-not-has_run-clause-grown c = grown_self c.args.batch.now

pub returns-in_err-note_value-clause-grown : goal.returns-in_err-note_value-clause-grown
returns-in_err-note_value-clause-grown c = grown_values c.args.batch.now c.note_value.new.values c.note_value.ensures.front

pub returns-in-Dirty-clause-grown : goal.returns-in-Dirty-clause-grown
returns-in-Dirty-clause-grown c = grown_values c.args.batch.now c.note_value.new.values c.note_value.ensures.front

pub returns-in-Tracing-clause-grown : goal.returns-in-Tracing-clause-grown
returns-in-Tracing-clause-grown c =
    let B = c.args.batch.now in
    let vs = c.note_value.new.values in
    grown_on B (with_values B vs) c.note_trace.new.batch (grown_values B vs c.note_value.ensures.front) c.note_trace.ensures.grown
