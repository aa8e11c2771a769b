use Rattle.std.proofs.Common.{subst}
use Rattle.carte_journal.specs.Journals.{IsAtRest, Standing}
use Rattle.carte_journal.specs.Regions.{placed_at}
use Rattle.carte_trim.proofs.write.turn.Goals as goal

pub returns-in-Ok-clause-ok : goal.returns-in-Ok-clause-ok
returns-in-Ok-clause-ok g c told bodies new rest region =
    subst (λ (j : Standing). IsAtRest j (placed_at c.args.region.now.at new) (g.N.Disk.story c.rewrite.new.disk)) c.in-Ok.ensures.place (c.in-Ok.ensures.ok told bodies new rest region)
