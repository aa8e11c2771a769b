use Rattle.std.proofs.Common.{Ok, subst}
use Rattle.std.specs.Prelude.{IfSome}
use Rattle.carte_words.specs.Lines.{IsMeant, Means}
use Rattle.carte_words.specs.Named.{LineNamed}
use Rattle.carte_shell.specs.Replies.{said}
use Rattle.carte_shell.specs.Scenes.{scene}
use Rattle.carte_shell.proofs.Obeying.{answers_with, ends_at, names_input, stays_with}
use Rattle.carte_shell.proofs.Results.{at_done, at_err, at_ok}
use Rattle.carte_shell.proofs.shell.ShellMachine.step.Goals as goal

pub returns-in-Ok-clause-carried : goal.returns-in-Ok-clause-carried
returns-in-Ok-clause-carried g c =
    let see = scene g.D.Disk.story g.D.Disk.faults in
    let before = see (c.args.self.now, c.args.disk.now) in
    let behind = see (c.obey.new.self, c.obey.new.disk) in
    let meant = subst (λ o. IsMeant (Means c.kind.result c.args.line.now) (Ok o)) c.in-Some.is (c.in_ok-line.ensures {u = tt}).line in
    answers_with g.D.Disk.tells before behind c.args.number c.args.line.now c.in-Some.line (said c.in-Ok.reply)
    (subst (λ kind. Means kind c.args.line.now c.in-Some.line) c.kind.ensures meant)
    (at_done c.obey.result c.in-Ok.reply _ _ c.in-Ok.is c.obey.ensures.carried)

pub returns-in-Ok-clause-stays : goal.returns-in-Ok-clause-stays
returns-in-Ok-clause-stays g c = λ stays.
    let see = scene g.D.Disk.story g.D.Disk.faults in
    let before = see (c.args.self.now, c.args.disk.now) in
    let behind = see (c.obey.new.self, c.obey.new.disk) in
    let meant = subst (λ o. IsMeant (Means c.kind.result c.args.line.now) (Ok o)) c.in-Some.is (c.in_ok-line.ensures {u = tt}).line in
    stays_with g.D.Disk.tells before behind (at_ok c.obey.result c.in-Ok.reply _ c.in-Ok.is c.obey.ensures.stays stays) c.args.line.now c.in-Some.line (said c.in-Ok.reply)
    (subst (λ kind. Means kind c.args.line.now c.in-Some.line) c.kind.ensures meant)
    (at_done c.obey.result c.in-Ok.reply _ _ c.in-Ok.is c.obey.ensures.carried)

pub returns-in-Err-clause-carried : goal.returns-in-Err-clause-carried
returns-in-Err-clause-carried g c =
    let see = scene g.D.Disk.story g.D.Disk.faults in
    let before = see (c.args.self.now, c.args.disk.now) in
    let behind = see (c.obey.new.self, c.obey.new.disk) in
    let meant = subst (λ o. IsMeant (Means c.kind.result c.args.line.now) (Ok o)) c.in-Some.is (c.in_ok-line.ensures {u = tt}).line in
    ends_at g.D.Disk.tells before behind c.args.number c.args.line.now c.in-Some.line c.in-Err.end
    (subst (λ kind. Means kind c.args.line.now c.in-Some.line) c.kind.ensures meant)
    (at_err c.obey.result c.in-Err.end _ _ c.in-Err.is c.obey.ensures.carried)

pub obey-requires-clause-named : goal.obey-requires-clause-named
obey-requires-clause-named g c κs within =
    names_input _ c.in-Some.line (subst (λ kind. LineNamed kind c.in-Some.line) c.kind.ensures
    (subst (λ o. IfSome o (λ l. LineNamed c.kind.result l)) c.in-Some.is (c.in_ok-line.ensures {u = tt}).names))
