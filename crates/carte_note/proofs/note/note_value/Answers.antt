use Rattle.carte_table.proofs.Steps.{begins_self}
use Rattle.carte_note.proofs.Growing.{begins_pushed}
use Rattle.carte_note.proofs.note.note_value.Goals as goal

pub returns-then-is_some-clause-front : goal.returns-then-is_some-clause-front
returns-then-is_some-clause-front c = begins_self c.args.values.now

pub returns-in_err-copy-clause-front : goal.returns-in_err-copy-clause-front
returns-in_err-copy-clause-front c = begins_self c.args.values.now

pub returns-clause-front : goal.returns-clause-front
returns-clause-front c = begins_pushed c.args.values.now c.push_with.new.self _ _ c.push_with.ensures
