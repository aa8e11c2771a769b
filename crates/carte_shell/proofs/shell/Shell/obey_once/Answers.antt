use Rattle.carte_shell.specs.Answers.{Breaks, Obeys}
use Rattle.carte_shell.specs.Replies.{said}
use Rattle.carte_shell.specs.Scenes.{scene}
use Rattle.carte_shell.proofs.Last.{led}
use Rattle.carte_shell.proofs.shell.Shell.obey_once.Goals as goal

pub returns-in-Build : goal.returns-in-Build
returns-in-Build g c = rw c.in-Build.is c.build_once.ensures

pub returns-in_default : goal.returns-in_default
returns-in_default g c =
    let see = scene g.D.Disk.story g.D.Disk.faults in
    let m = see (c.args.self.now, c.args.disk.now) in
    led c.obey.result (see (c.obey.new.self, c.obey.new.disk)) (λ reply m'. Obeys g.D.Disk.tells m c.args.line (said reply) m') (λ end m'. Breaks g.D.Disk.tells m c.args.line end m') c.obey.ensures.carried
