use Rattle.std.proofs.Common.{◌≡◌, ℕ, List, [], ◌∷◌, ◌++◌, refl, sym, ◌∙◌, subst, arith}
use Rattle.carte_bench.specs.Held.{spots_of, book_of}
use Rattle.carte_bench.specs.Waits.{onward, Starts, Round, Astray}
use Rattle.carte_bench.proofs.Ways.{IsOnWay, way_from, way_goes, way_ends, way_round, way_astray, way_short}
use Rattle.carte_bench.proofs.bench.Bench.reason.Goals as goal

pub names-init : goal.names-init
names-init g c = way_from (onward (book_of c.args.self.now) (spots_of c.args.self.now)) c.args.target.now c.in_ok-way.way.names.keys c.in_ok-way.way.at (c.in_ok-way.ensures {u = tt}).names (c.in_ok-way.ensures {u = tt}).at

pub names-preserved : goal.names-preserved
names-preserved g c =
    let on = rw c.in-On.is at c.in_ok-follow.ensures in
    subst (λ (l : List (List ℕ)). IsOnWay (onward (book_of c.args.self.now) (spots_of c.args.self.now)) c.args.target.now l c.follow.new.way.at) (sym on.2) (way_goes (onward (book_of c.args.self.now) (spots_of c.args.self.now)) c.args.target.now c.names.way.names.keys c.names.way.at c.follow.new.way.at c.names.invariant on.0 on.1)

pub returns-in-Ends : goal.returns-in-Ends
returns-in-Ends g c =
    let last = rw c.in-Ends.is at c.in_ok-follow.ensures in
    way_ends (onward (book_of c.args.self.now) (spots_of c.args.self.now)) c.args.target.now c.names.way.names.keys c.names.way.at c.names.invariant last.0 last.1

pub returns-in-Round : goal.returns-in-Round
returns-in-Round g c =
    let round = rw c.in-Round.is at c.in_ok-follow.ensures in
    let same : c.follow.new.way.names.keys ++ c.follow.new.way.at ∷ [] ≡ c.names.way.names.keys ++ c.names.way.at ∷ [] = cc (round.1, round.2) in
    subst (λ (p : List (List ℕ)). Starts c.args.target.now p × Round (onward (book_of c.args.self.now) (spots_of c.args.self.now)) [] p) (sym (c.in_ok-path-in-Round.ensures ∙ same)) (way_round (onward (book_of c.args.self.now) (spots_of c.args.self.now)) c.args.target.now c.names.way.names.keys c.names.way.at c.names.invariant round.0)

pub returns-in-Astray : goal.returns-in-Astray
returns-in-Astray g c =
    let astray = rw c.in-Astray.is at c.in_ok-follow.ensures in
    let same : c.follow.new.way.names.keys ++ c.follow.new.way.at ∷ [] ≡ c.names.way.names.keys ++ c.names.way.at ∷ [] = cc (astray.1, astray.2) in
    subst (λ (p : List (List ℕ)). Starts c.args.target.now p × Astray (onward (book_of c.args.self.now) (spots_of c.args.self.now)) [] p) (sym (c.in_ok-path-in-Astray.ensures ∙ same)) (way_astray (onward (book_of c.args.self.now) (spots_of c.args.self.now)) c.args.target.now c.names.way.names.keys c.names.way.at c.names.invariant astray.0)

pub unreachable-requires : goal.unreachable-requires
unreachable-requires g c = omega (arith, way_short (book_of c.args.self.now) (spots_of c.args.self.now) c.args.self.now.slots.entries c.args.target.now c.names.way.names.keys c.names.way.at (λ q. refl) c.names.invariant, c.len.ensures.len, c.len-in-names.ensures.len)
