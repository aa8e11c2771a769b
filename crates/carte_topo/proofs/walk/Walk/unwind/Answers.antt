use Rattle.std.proofs.Common.{◌∷◌, []}
use Rattle.carte_topo.proofs.Paths.{unwound_more}
use Rattle.carte_topo.proofs.walk.Walk.unwind.Goals as goal

pub loop-frame-preserved : goal.loop-frame-preserved
loop-frame-preserved c = (unwound_more c.loop-frame.path c.push.new.self c.loop-frame.self.path.items c.pop_back.new.self.items c.in-Some.frame (c.args.last ∷ []) _ (c.in_ok-push.ensures {u = tt}) c.in-Some.ensures.items c.loop-frame.invariant.0, c.loop-frame.invariant.1)
