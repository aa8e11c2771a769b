use Rattle.std.proofs.Common.{◌≡◌, take}
use Rattle.carte_rebuild.specs.Gathering.{put_links}
use Rattle.carte_rebuild.proofs.gather.put_each.Given as goal

abbrev pub invariant-loop-link : goal.invariant-loop-link
invariant-loop-link l = l.gathered.entries ≡ put_links l.initial.gathered.entries (take l.link-index l.link-items)
