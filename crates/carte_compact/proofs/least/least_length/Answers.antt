use Rattle.std.proofs.Common.{◌≡◌, false, rules}
use Rattle.carte_record.specs.Empty.{is_bare}
use Rattle.carte_compact.proofs.Sizes.{at_least}
use Rattle.carte_compact.proofs.least.least_length.Goals as goal

pub returns-in-Some : goal.returns-in-Some
returns-in-Some c Bs live =
    let some : is_bare c.args.kept.now ≡ false = search rules in
    at_least c.args.kept.now Bs c.in-Some.least some (c.in-Some.ensures {u = tt}) live
