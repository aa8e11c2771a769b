use Rattle.carte_table.proofs.Steps.{begins_self}
use Rattle.carte_note.proofs.Growing.{begins_pushed, grown_self, grown_entries}
use Rattle.carte_note.proofs.note.note_entry.Goals as goal

pub returns-then-stays_as-clause-grown : goal.returns-then-stays_as-clause-grown
returns-then-stays_as-clause-grown c = grown_self c.args.batch.now

pub returns-in_err-see_all-clause-grown : goal.returns-in_err-see_all-clause-grown
returns-in_err-see_all-clause-grown c =
    let B = c.args.batch.now in
    grown_entries B c.see_all.new.seen B.entries c.see_all.ensures.front (begins_self B.entries)

pub returns-in_err-entry-clause-grown : goal.returns-in_err-entry-clause-grown
returns-in_err-entry-clause-grown c =
    let B = c.args.batch.now in
    grown_entries B c.see_all.new.seen B.entries c.see_all.ensures.front (begins_self B.entries)

pub returns-clause-grown : goal.returns-clause-grown
returns-clause-grown c =
    let B = c.args.batch.now in
    grown_entries B c.see_all.new.seen c.push.new.self c.see_all.ensures.front (begins_pushed B.entries c.push.new.self _ _ c.push.ensures)
