use Rattle.std.proofs.Common.{false, length, replicate, ap, ◌∙◌}
use Rattle.carte_mark.proofs.Reaching.{none_twice}
use Rattle.carte_restart.proofs.Taking.{taken_none}
use Rattle.carte_restart.proofs.first.none_taken.Goals as goal

pub returns : goal.returns
returns c =
    taken_none c.args.led.now c.in_ok-vec.field-0.items (none_twice c.args.led.now c.as_slice-count.ensures.once)
    ((c.in_ok-vec.ensures {u = tt}).items_if_clones_equal (λ y is. is) ∙ ap (λ ks. replicate (length ks) false) c.as_slice-count.ensures.names)
