use Rattle.std.proofs.Common.{subst, sym}
use Rattle.carte_journal.specs.Journals.{IsRead}
use Rattle.carte_state.specs.Parts.{made_view}
use Rattle.carte_state.proofs.state.State.load_by.Goals as goal

pub returns-clause-read : goal.returns-clause-read
returns-clause-read g c told = record {
  bodies = c.in_ok-journal.bodies;
  read = subst (λ j. IsRead j c.in_ok-journal.bodies (g.D.Disk.story c.args.disk.now).now.reads) (sym c.of.ensures.journal) (c.in_ok-journal.ensures.read told);
  makes = record { phase = made_view c.in_ok-made.made; folded = c.in_ok-made.ensures.folded; kept = c.of.ensures.any };
  bare = c.of.ensures.bare;
}

pub returns-clause-cause : goal.returns-clause-cause
returns-clause-cause g c =
    let cause = c.in_ok-journal.ensures.cause in
    record { later = cause.later; failed = λ is. absurd (cc); passed = λ other. cause.passed (λ is. absurd (cc)) }
