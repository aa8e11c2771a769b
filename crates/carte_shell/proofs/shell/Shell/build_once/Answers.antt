use Rattle.std.proofs.Common.{◌≡◌, Ok, Err, refl, sym, ap, ◌∙◌, subst}
use Rattle.std.proofs.lemmas.Result.{err_from_is_err_and}
use Rattle.carte_engine.specs.Writing.{CommitsLast}
use Rattle.carte_state.specs.Around.{over_disk}
use Rattle.carte_state.specs.States.{Stand}
use Rattle.carte_words.specs.declared.line.Line.TheVariants as line
use Rattle.carte_shell.specs.Answers.{Breaks, Obeys}
use Rattle.carte_shell.specs.Last.{Leads}
use Rattle.carte_shell.specs.Replies.{said}
use Rattle.carte_shell.specs.Scenes.{scene}
use Rattle.carte_shell.proofs.Last.{built, lacks, stopped}
use Rattle.carte_shell.proofs.Obeying.{same_scene}
use Rattle.carte_shell.proofs.shell.Shell.build_once.Goals as goal

pub returns-in_err-know_digests : goal.returns-in_err-know_digests
returns-in_err-know_digests g c =
    let p = err_from_is_err_and c.from_residual.result c.from_residual.ensures.1 in
    lacks g.D.Disk.tells (scene g.D.Disk.story g.D.Disk.faults (c.args.self.now, c.args.disk.now)) (line.Build c.args.targets.now) c.from_residual.result _ (p.1 ∙ ap Err p.2)

pub returns-in_err-batches : goal.returns-in_err-batches
returns-in_err-batches g c =
    let p = err_from_is_err_and c.from_residual-in_err-batches.result c.from_residual-in_err-batches.ensures.1 in
    lacks g.D.Disk.tells (scene g.D.Disk.story g.D.Disk.faults (c.args.self.now, c.args.disk.now)) (line.Build c.args.targets.now) c.from_residual-in_err-batches.result _ (p.1 ∙ ap Err p.2)

pub returns-in-Ok : goal.returns-in-Ok
returns-in-Ok g c =
    let see = scene g.D.Disk.story g.D.Disk.faults in
    let before = see (c.args.self.now, c.args.disk.now) in
    let begun = see (c.know_digests.new.self, c.args.disk.now) in
    let d = over_disk g.D.Disk.tells g.D.Disk.story g.D.Disk.faults c.args.disk.now c.commit_last.new.disk in
    let Bs = c.in_ok-batches.batches.items in
    let reply = said c.in_ok-batches.reply in
    let same = same_scene before begun c.know_digests.ensures.choices c.know_digests.ensures.book c.know_digests.ensures.engine refl refl in
    let last = subst (λ (s : Stand). CommitsLast d s Bs (Ok tt)) c.worked_out.ensures.engine (subst (CommitsLast d c.worked_out.new.self.engine Bs) c.in-Ok.is c.commit_last.ensures) in
    subst (λ m. Leads d.new d.failed (Obeys d.tells m (line.Build c.args.targets.now) reply)) same
    (built begun d.tells d.same d.new d.failed Bs c.args.targets.now reply c.in_ok-batches.ensures.works last)

pub returns-in-Err : goal.returns-in-Err
returns-in-Err g c =
    let see = scene g.D.Disk.story g.D.Disk.faults in
    let before = see (c.args.self.now, c.args.disk.now) in
    let begun = see (c.know_digests.new.self, c.args.disk.now) in
    let d = over_disk g.D.Disk.tells g.D.Disk.story g.D.Disk.faults c.args.disk.now c.commit_last.new.disk in
    let Bs = c.in_ok-batches.batches.items in
    let end = c.stopped.result in
    let same = same_scene before begun c.know_digests.ensures.choices c.know_digests.ensures.book c.know_digests.ensures.engine refl refl in
    let last = subst (λ (s : Stand). CommitsLast d s Bs (Err c.in-Err.fault)) c.worked_out.ensures.engine (subst (CommitsLast d c.worked_out.new.self.engine Bs) c.in-Err.is c.commit_last.ensures) in
    subst (λ m. Leads d.new d.failed (Breaks d.tells m (line.Build c.args.targets.now) end)) same
    (stopped begun d.tells d.same d.new d.failed Bs c.args.targets.now (said c.in_ok-batches.reply) c.in_ok-batches.ensures.works end
    (subst (λ fault. CommitsLast d begun.stand Bs (Err fault)) (sym c.stopped.ensures) last))
