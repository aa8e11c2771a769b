use Rattle.std.proofs.Common.{◌≡◌, take, map}
use Rattle.std.specs.Prelude.{fold}
use Rattle.carte_compact.proofs.content.feed.Given as goal

abbrev pub invariant-loop-link : goal.invariant-loop-link
invariant-loop-link g l = l.state ≡ fold g.H.Hasher.write l.initial.state (map (λ m. m.digest.0) (take l.link-index l.links))
