use Rattle.std.proofs.Common.{[]}
use Rattle.std.proofs.lemmas.Result.{on_ok_weaker}
use Rattle.carte_io.proofs.Images.{leaves_then}
use Rattle.carte_journal.specs.Regions.{bytes_of}
use Rattle.carte_trim.specs.New.{KeepsEither}
use Rattle.carte_trim.proofs.Files.{begun_leaves, behind_first, first_rest, start_rest, turned_keeps, turned_leaves}
use Rattle.carte_trim.proofs.write.write.Goals as goal

pub returns-in-Ok-clause-keeps : goal.returns-in-Ok-clause-keeps
returns-in-Ok-clause-keeps g c told new L is =
    let p = c.args.plan in
    let s = g.N.Disk.story c.args.disk.now in
    let mid = g.N.Disk.story c.commit.new.disk in
    let u = g.N.Disk.story c.turn.new.disk in
    let k = c.commit.new.self in
    let same = behind_first 536870912 L p is k c.in-Ok.ensures.place in
    let rest = first_rest 536870912 L p is k mid (c.in-Ok.ensures.ok told [] (start_rest 536870912 L p is s new)) in
    on_ok_weaker c.turn.result (λ after. turned_keeps 536870912 L p is k u same after) (c.turn.ensures.ok told _ (bytes_of is.region.bodies) rest is.region.region)

pub returns-in-Ok-clause-leaves : goal.returns-in-Ok-clause-leaves
returns-in-Ok-clause-leaves g c told new L is =
    let p = c.args.plan in
    let s = g.N.Disk.story c.args.disk.now in
    let mid = g.N.Disk.story c.commit.new.disk in
    let u = g.N.Disk.story c.turn.new.disk in
    let k = c.commit.new.self in
    let same = behind_first 536870912 L p is k c.in-Ok.ensures.place in
    let rest = first_rest 536870912 L p is k mid (c.in-Ok.ensures.ok told [] (start_rest 536870912 L p is s new)) in
    leaves_then s mid u (KeepsEither 536870912 L)
    (begun_leaves 536870912 L p is s mid (g.met.N.Disk.in_order c.commit.new.disk told) (c.commit.ensures.any_moment told [] (start_rest 536870912 L p is s new)))
    (turned_leaves 536870912 L p is k mid u same (g.met.N.Disk.in_order c.turn.new.disk told) (c.turn.ensures.any_moment told _ (bytes_of is.region.bodies) rest is.region.region))

pub returns-clause-leaves : goal.returns-clause-leaves
returns-clause-leaves g c told new L is =
    let p = c.args.plan in
    let s = g.N.Disk.story c.args.disk.now in
    let mid = g.N.Disk.story c.commit.new.disk in
    begun_leaves 536870912 L p is s mid (g.met.N.Disk.in_order c.commit.new.disk told) (c.commit.ensures.any_moment told [] (start_rest 536870912 L p is s new))
