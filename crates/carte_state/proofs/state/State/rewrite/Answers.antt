use Rattle.std.proofs.Common.{◌∷◌, [], ap, subst, sym}
use Rattle.std.proofs.lemmas.Result.{on_ok_weaker}
use Rattle.carte_io.specs.Stations.{StepsThrough}
use Rattle.carte_journal.specs.Frames.{Ends}
use Rattle.carte_journal.specs.Journals.{IsAtRest, IsReadAs, Standing}
use Rattle.carte_journal.specs.Regions.{bytes_of, step_to}
use Rattle.carte_record.specs.declared.kept.Kept.{Kept}
use Rattle.carte_state.specs.States.{IsKeptOn, Stand}
use Rattle.carte_state.proofs.Rewritings.{rewritten_kept, rewritten_steps}
use Rattle.carte_state.proofs.state.State.rewrite.Goals as goal

pub returns-clause-rest : goal.returns-clause-rest
returns-clause-rest g c told on =
    let s = g.D.Disk.story c.args.disk.now in
    let u = g.D.Disk.story c.rewrite.new.disk in
    let is = c.requires.alike in
    let journal_is = ap (λ (t : Stand). t.journal) c.self.view_is in
    let kept_is = ap (λ (t : Stand). t.kept) c.self.view_is in
    let old_is = ap (λ (t : Stand). t.one) c.self.view_is in
    on_ok_weaker c.rewrite.result
    (λ rest. subst (λ (k : Kept). IsKeptOn (record { journal = c.rewrite.new.self; kept = k; one = c.self.inside.one }) u) (sym kept_is)
    (subst (λ o. IsKeptOn (record { journal = c.rewrite.new.self; kept = c.args.self.now.kept; one = o }) u) (sym old_is)
    (rewritten_kept c.args.self.now c.requires.new c.args.region.now s on is c.rewrite.new.self u rest)))
    (c.rewrite.ensures.ok told on.bodies (bytes_of is.bodies) (subst (λ (j : Standing). IsAtRest j on.bodies s) (sym journal_is) on.rest) is.region)

pub returns-clause-steps : goal.returns-clause-steps
returns-clause-steps g c told on =
    let s = g.D.Disk.story c.args.disk.now in
    let u = g.D.Disk.story c.rewrite.new.disk in
    let is = c.requires.alike in
    let journal_is = ap (λ (t : Stand). t.journal) c.self.view_is in
    rewritten_steps c.args.self.now c.requires.new c.args.region.now s on is u
    (subst (λ (j : Standing). StepsThrough (IsReadAs j.limit) (Ends j.gate on.bodies) (step_to c.args.region.now (bytes_of is.bodies) ∷ []) s u) journal_is
    (c.rewrite.ensures.any_moment told on.bodies (bytes_of is.bodies) (subst (λ (j : Standing). IsAtRest j on.bodies s) (sym journal_is) on.rest) is.region))
