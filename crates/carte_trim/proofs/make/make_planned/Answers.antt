use Rattle.std.proofs.Common.{refl, sym, subst, inr, arith}
use Rattle.carte_io.specs.Disk.{LeavesOnly}
use Rattle.carte_state.specs.Folding.{Keeps}
use Rattle.carte_state.specs.Versions.{InTwo}
use Rattle.carte_trim.specs.Around.{over_part}
use Rattle.carte_trim.specs.New.{KeepsEither}
use Rattle.carte_trim.proofs.Files.{new_leaves}
use Rattle.carte_trim.proofs.Running.{made_length}
use Rattle.carte_trim.proofs.make.make_planned.Goals as goal

pub returns-then-needed-gt-MOST_STATE : goal.returns-then-needed-gt-MOST_STATE
returns-then-needed-gt-MOST_STATE g c L is = record {
  made = (
    record {
      needed_is = record { plan = c.args.plan; is = is; needed_is = c.needed-needed.ensures };
      most_is = refl;
      over = omega (arith, c.if-needed-gt-MOST_STATE.true);
    },
    λ told. refl,
    refl,
  );
  leaves = λ told new. new_leaves 536870912 L (g.N.Disk.story c.args.new.now) (g.N.Disk.story c.args.new.now) new refl;
}

pub returns-in-Ok : goal.returns-in-Ok
returns-in-Ok g c L is =
    let s = g.N.Disk.story c.args.new.now in
    made_length 536870912 L (over_part g.N.Disk.tells g.N.Disk.story g.N.Disk.faults c.args.new.now c.length_of.new.new) (g.N.Disk.faults c.write.new.disk) c.length_of.result
    c.in-Ok.ensures.cause.passed
    (record {
      keeps = λ told new. subst (λ u. Keeps 536870912 (InTwo L) u.now.reads) (sym (c.length_of.ensures.same told)) (c.in-Ok.ensures.keeps told new L is);
      room =
          inr (
            c.needed-needed.result,
            record { plan = c.args.plan; is = is; needed_is = c.needed-needed.ensures },
            omega (arith, c.if-needed-gt-MOST_STATE.false),
          );
    })
    c.length_of.ensures.length (λ told new. subst (λ u. LeavesOnly s u (KeepsEither 536870912 L)) (sym (c.length_of.ensures.same told)) (c.in-Ok.ensures.leaves told new L is))
