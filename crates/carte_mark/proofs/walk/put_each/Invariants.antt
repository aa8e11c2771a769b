use Rattle.std.proofs.Common.{◌≡◌, take}
use Rattle.carte_value.specs.Lists.{Begins}
use Rattle.carte_mark.specs.Puts.{put_all}
use Rattle.carte_mark.proofs.walk.put_each.Given as goal

abbrev pub invariant-loop-key : goal.invariant-loop-key
invariant-loop-key l = Begins l.initial.reached l.reached × (l.reached ≡ put_all l.initial.reached (take l.key-index l.key-items))
