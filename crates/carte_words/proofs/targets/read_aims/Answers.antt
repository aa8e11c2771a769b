use Rattle.std.proofs.Common.{◌≡◌, Some, None, codes}
use Rattle.clap.specs.Walk.{texts, all_of, rows_of}
use Rattle.clap.specs.Matches.{found_of}
use Rattle.carte_words.proofs.Rows.{values_at}
use Rattle.carte_words.proofs.targets.read_aims.Goals as goal

pub returns-in-Some : goal.returns-in-Some
returns-in-Some c =
    let given : all_of (codes "target") (rows_of (found_of c.args.matches.now)) ≡ Some (texts c.in-Some.words.now) =
    values_at (found_of c.args.matches.now) (codes "target") _ (rw c.in-Some.is at c.get_strs.ensures) in
    rw given c.aims_in.ensures

pub returns-in-None : goal.returns-in-None
returns-in-None c =
    let given : all_of (codes "target") (rows_of (found_of c.args.matches.now)) ≡ None =
    values_at (found_of c.args.matches.now) (codes "target") _ (rw c.in-None.is at c.get_strs.ensures) in
    rw given c.aims_in-in-None.ensures
