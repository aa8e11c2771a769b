use Rattle.std.proofs.Common.{ap, subst, sym, ◌∙◌}
use Rattle.carte_journal.specs.Regions.{needs_with}
use Rattle.carte_record.specs.declared.kept.Kept.{Kept}
use Rattle.carte_compact.specs.Live.{IsLive}
use Rattle.carte_compact.proofs.rewriting.rewriting_needs.Goals as goal

pub returns-clause-region : goal.returns-clause-region
returns-clause-region c p live =
    let made = c.in_ok-length.ensures {u = tt} in
    let long = made.length live.batches (subst (λ (K : Kept). IsLive K live.batches) (sym c.kept.ensures) live.live) in
    c.needed_with.ensures ∙ ap (needs_with c.args.state.now.journal) long ∙ sym live.needs
