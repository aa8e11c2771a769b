use Rattle.std.proofs.Common.{[], ◌∷◌, Ok, Err, refl, sym, subst, ap, ◌∙◌}
use Rattle.carte_engine.specs.Clearing.{clearing}
use Rattle.carte_engine.specs.Committing.{CommitsAll, seen}
use Rattle.carte_engine.proofs.Several.{all_seen}
use Rattle.carte_state.specs.Around.{over_disk}
use Rattle.carte_words.specs.declared.line.Line.TheVariants as line
use Rattle.carte_shell.specs.Replies.{plain}
use Rattle.carte_shell.specs.Scenes.{scene}
use Rattle.carte_shell.proofs.Committing.{breaks}
use Rattle.carte_shell.proofs.Results.{on_ok}
use Rattle.carte_shell.proofs.shell.Shell.clean.Goals as goal

pub returns-in-Ok-clause-carried : goal.returns-in-Ok-clause-carried
returns-in-Ok-clause-carried g c =
    let d = over_disk g.D.Disk.tells g.D.Disk.story g.D.Disk.faults c.args.disk.now c.clean.new.disk in
    let engine = c.args.self.now.engine in
    let Bs = clearing engine ∷ [] in (
      c.plain-reply.ensures.reply ∙ ap plain c.in_ok-cleaned_line.ensures,
      record {
        choices = refl;
        book = refl;
        commits = all_seen d engine c.clean.new.self Bs (Ok tt) (subst (CommitsAll d engine c.clean.new.self Bs) c.in-Ok.is c.clean.ensures.commits);
      },
      on_ok c.clean.result _ _ c.in-Ok.is c.clean.ensures.cleaned,
    )

pub returns-in-Err-clause-carried : goal.returns-in-Err-clause-carried
returns-in-Err-clause-carried g c =
    let d = over_disk g.D.Disk.tells g.D.Disk.story g.D.Disk.faults c.args.disk.now c.clean.new.disk in
    let see = scene g.D.Disk.story g.D.Disk.faults in
    let engine = c.args.self.now.engine in
    let Bs = clearing engine ∷ [] in
    let before = see (c.args.self.now, c.args.disk.now) in
    let behind = record before { stand = c.clean.new.self; story = g.D.Disk.story c.clean.new.disk; faults = g.D.Disk.faults c.clean.new.disk } in
    breaks g.D.Disk.tells before behind line.Clean Bs c.stopped.result refl (record {
      choices = refl;
      book = refl;
      commits = subst (λ fault. CommitsAll (seen d) engine c.clean.new.self Bs (Err fault)) (sym c.stopped.ensures)
          (all_seen d engine c.clean.new.self Bs (Err c.in-Err.fault) (subst (CommitsAll d engine c.clean.new.self Bs) c.in-Err.is c.clean.ensures.commits));
    })
