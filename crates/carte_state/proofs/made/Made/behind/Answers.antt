use Rattle.std.proofs.Common.{subst}
use Rattle.carte_state.specs.Parts.{made_view}
use Rattle.carte_state.specs.Versions.{IsBatchOf}
use Rattle.carte_state.proofs.Reading.{body_fails, body_reads}
use Rattle.carte_state.proofs.made.Made.behind.Goals as goal

pub returns-in-Some : goal.returns-in-Some
returns-in-Some c body is =
    rw c.made_at.ensures
    (body_reads (made_view c.args.self) body c.in-Some.batch c.args.found.offset is.0 (subst (IsBatchOf body.1) c.in-Some.is is.1) c.with_any.result c.with_any.ensures)

pub returns-in-None : goal.returns-in-None
returns-in-None c body is = body_fails (made_view c.args.self) body c.args.found.offset is.0 (subst (IsBatchOf body.1) c.in-None.is is.1)
