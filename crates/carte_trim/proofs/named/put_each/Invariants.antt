use Rattle.std.proofs.Common.{Bool, take}
use Rattle.std.specs.Prelude.{◌||◌}
use Rattle.carte_value.specs.declared.digest.Digest.{Digest}
use Rattle.carte_trim.specs.Lists.{HasThose, in_those}
use Rattle.carte_trim.proofs.named.put_each.Given as goal

abbrev pub invariant-loop-item : goal.invariant-loop-item
invariant-loop-item g l =
    (before : Digest → Bool) → HasThose l.all before l.fn.list
    → HasThose l.all (λ d. before d || in_those g.T.Naming.digest_of (take l.item-index l.items) d) l.list
