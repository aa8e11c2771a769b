use Rattle.std.proofs.Common.{◌-◌, Some, ap, arith, refl}
use Rattle.carte_journal.specs.Journals.{Standing}
use Rattle.carte_journal.proofs.Rewritten.{ready_for, rewrite_steps, rewritten_rest, unwritten}
use Rattle.carte_journal.proofs.journal.Journal.rewrite.Goals as goal

pub returns-then-end-self-clause-any_moment : goal.returns-then-end-self-clause-any_moment
returns-then-end-self-clause-any_moment g c told bodies new rest is =
    unwritten c.args.self.now c.args.region.now bodies new (g.D.Disk.story c.args.disk.now) rest c.requires.planned

pub returns-clause-ok : goal.returns-clause-ok
returns-clause-ok g c told bodies new rest is =
    let s = g.D.Disk.story c.args.disk.now in
    let ready = ready_for c.args.self.now c.args.region.now bodies new s rest c.requires.planned c.requires.rewritable.some in
    rewritten_rest c.args.self.now c.args.region.now bodies new s rest c.requires.planned c.requires.rewritable.some _ _
    (ap (λ n. n - 1) c.needed-end.ensures.needed) (ap (λ (j : Standing). j.limit) c.self.view_is) (ap (λ (j : Standing). j.fresh) c.self.view_is)
    (ap Some c.in-Ok.ensures.roots) c.frames-self-inside.ensures is
    (c.in-Ok.ensures.ok told c.args.self.now.limit bodies new ready is
    (omega (arith, ap (λ (j : Standing). j.limit) c.self.view_is, c.needed-end.ensures.needed)))

pub returns-clause-any_moment : goal.returns-clause-any_moment
returns-clause-any_moment g c told bodies new rest is =
    let s = g.D.Disk.story c.args.disk.now in
    let ready = ready_for c.args.self.now c.args.region.now bodies new s rest c.requires.planned c.requires.rewritable.some in
    let limit_is = ap (λ (j : Standing). j.limit) c.self.view_is in
    rewrite_steps c.args.self.now c.args.region.now bodies new s rest c.requires.planned c.args.self.now.limit _ refl
    (c.turn.ensures.any_moment told c.args.self.now.limit bodies new ready is (omega (arith, limit_is, c.needed-end.ensures.needed)))

pub returns-in_default-clause-any_moment : goal.returns-in_default-clause-any_moment
returns-in_default-clause-any_moment g c told bodies new rest is =
    let s = g.D.Disk.story c.args.disk.now in
    let ready = ready_for c.args.self.now c.args.region.now bodies new s rest c.requires.planned c.requires.rewritable.some in
    let limit_is = ap (λ (j : Standing). j.limit) c.self.view_is in
    rewrite_steps c.args.self.now c.args.region.now bodies new s rest c.requires.planned c.args.self.now.limit _ refl
    (c.turn.ensures.any_moment told c.args.self.now.limit bodies new ready is (omega (arith, limit_is, c.needed-end.ensures.needed)))
