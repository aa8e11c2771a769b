use Rattle.std.proofs.Common.{◌≡◌, length, sym, rules}
use Rattle.carte_record.proofs.Links.{apart_by_length}
use Rattle.carte_record.proofs.trace.are_equal.Goals as goal

pub returns-then-links-others : goal.returns-then-links-others
returns-then-links-others c =
    let other : ¬ (length c.args.links.now ≡ length c.args.others.now) = search rules in
    sym (apart_by_length c.args.links.now c.args.others.now other)
