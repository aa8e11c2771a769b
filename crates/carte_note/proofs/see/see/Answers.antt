use Rattle.carte_table.proofs.Steps.{begins_self}
use Rattle.carte_note.proofs.Growing.{begins_pushed}
use Rattle.carte_note.proofs.see.see.Goals as goal

pub returns-in_err-same-clause-front : goal.returns-in_err-same-clause-front
returns-in_err-same-clause-front c = begins_self c.args.seen.now

pub returns-then-not-is_kept-clause-front : goal.returns-then-not-is_kept-clause-front
returns-then-not-is_kept-clause-front c = begins_pushed c.args.seen.now c.push.new.self _ _ c.push.ensures

pub returns-clause-front : goal.returns-clause-front
returns-clause-front c = begins_self c.args.seen.now
