use Rattle.std.proofs.Common.{◌<◌, length, subst, sym}
use Rattle.carte_name.proofs.Fronts.{held_long}
use Rattle.carte_name.proofs.name.Name.held.Goals as goal

pub invariant_of-result : goal.invariant_of-result
invariant_of-result c =
    let whole = (c.in_ok-from_str.ensures {u = tt}).ok in
    held_long c.args.text.now _ c.requires whole (subst (λ k. 16 < length k) (sym whole) c.if-text-le16.false)
