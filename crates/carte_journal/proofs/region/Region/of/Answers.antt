use Rattle.std.proofs.Common.{◌≡◌, ◌++◌, ◌∙◌, ap, arith, length}
use Rattle.carte_journal.specs.Regions.{bytes_of, front_of, region_at, region_of}
use Rattle.carte_journal.proofs.Regions.{is_placed, is_region}
use Rattle.carte_journal.proofs.region.Region.of.Goals as goal

piece_is : (c : goal.After-len-2) → c.push.new.self.items ≡ front_of c.args.bank c.args.gate ++ region_of (bytes_of c.args.bodies.now)
piece_is c = c.in_ok-push.ensures.items ∙ c.in_ok-add_frames.ensures ∙ ap (λ front. front ++ region_of (bytes_of c.args.bodies.now)) c.in_ok-piece.ensures

at_is : (c : goal.After-len-2) → c.place-at.result ≡ region_at c.args.bank c.args.gate (length c.push.new.self.items)
at_is c =
    let long : c.len.result ≡ length c.push.new.self.items = omega (arith, c.len.ensures, c.push.new.self.ok.0) in
    c.place-at.ensures ∙ ap (region_at c.args.bank c.args.gate) long

pub invariant_of-result : goal.invariant_of-result
invariant_of-result c =
    is_placed c.args.gate c.place-at.result c.len-2.result c.args.bank c.push.new.self.items c.args.bodies.now c.requires.gate c.requires.start c.requires.roots
    (piece_is c) (at_is c) c.len-2.ensures.len

pub returns-clause-region : goal.returns-clause-region
returns-clause-region c =
    is_region c.args.gate c.place-at.result c.len-2.result c.args.bank c.push.new.self.items c.args.bodies.now c.requires.gate c.requires.start c.requires.roots
    (piece_is c) (at_is c) c.len-2.ensures.len c.requires.short
