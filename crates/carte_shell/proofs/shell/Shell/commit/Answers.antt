use Rattle.std.proofs.Common.{true, Ok, Err, refl, sym, subst}
use Rattle.carte_state.specs.Around.{over_disk}
use Rattle.carte_engine.specs.Committing.{CommitsAll, seen}
use Rattle.carte_engine.proofs.Several.{all_seen, puts_whole}
use Rattle.carte_book.specs.Book.{book_view}
use Rattle.carte_shell.proofs.Watched.{watched_behind}
use Rattle.carte_shell.proofs.shell.Shell.commit.Goals as goal

pub returns-in-Ok-clause-carried : goal.returns-in-Ok-clause-carried
returns-in-Ok-clause-carried g c =
    let d = over_disk g.D.Disk.tells g.D.Disk.story g.D.Disk.faults c.args.disk.now c.commit.new.disk in
    let Bs = c.args.batches.items in
    record {
      choices = refl;
      book = refl;
      commits = all_seen d c.args.self.now.engine c.commit.new.self Bs (Ok tt) (subst (CommitsAll d c.args.self.now.engine c.commit.new.self Bs) c.in-Ok.is c.commit.ensures);
    }

pub returns-in-Err-clause-carried : goal.returns-in-Err-clause-carried
returns-in-Err-clause-carried g c =
    let d = over_disk g.D.Disk.tells g.D.Disk.story g.D.Disk.faults c.args.disk.now c.commit.new.disk in
    let Bs = c.args.batches.items in
    record {
      choices = refl;
      book = refl;
      commits = subst (λ fault. CommitsAll (seen d) c.args.self.now.engine c.commit.new.self Bs (Err fault)) (sym c.stopped.ensures)
          (all_seen d c.args.self.now.engine c.commit.new.self Bs (Err c.in-Err.fault) (subst (CommitsAll d c.args.self.now.engine c.commit.new.self Bs) c.in-Err.is c.commit.ensures));
    }

pub returns-in-Ok-clause-on : goal.returns-in-Ok-clause-on
returns-in-Ok-clause-on g c =
    let d = over_disk g.D.Disk.tells g.D.Disk.story g.D.Disk.faults c.args.disk.now c.commit.new.disk in
    let Bs = c.args.batches.items in
    puts_whole true d c.args.self.now.engine Bs c.commit.new.self (subst (CommitsAll d c.args.self.now.engine c.commit.new.self Bs) c.in-Ok.is c.commit.ensures) c.requires.whole

pub invariant_of-self : goal.invariant_of-self
invariant_of-self g c =
    let d = over_disk g.D.Disk.tells g.D.Disk.story g.D.Disk.faults c.args.disk.now c.commit.new.disk in
    let engine = c.args.self.now.engine in
    let Bs = c.args.batches.items in
    let puts = subst (CommitsAll d engine c.commit.new.self Bs) c.in-Ok.is c.commit.ensures in
    record { watched = watched_behind d engine c.commit.new.self (book_view c.args.self.now.book) Bs c.args.watch puts c.requires.learned }
