use Rattle.std.proofs.Common.{◌≡◌, ◌≤◌, ◌<◌, ◌+◌, ◌++◌, ℕ, List, [], length, take, drop, arith, rules, refl, sym, ◌∙◌, ap, length-append, length-take}
use Rattle.std.proofs.lemmas.Grind.{common_steps}
use Rattle.std.proofs.lemmas.Result.{err_from_is_err_and}
use Rattle.carte_io.specs.Streams.{Moves}
use Rattle.carte_session.proofs.SessionLemmas.{over, read_on, session_finish, session_stop}
use Rattle.carte_session.proofs.run.run_session.Goals as goal

-- nothing was moved, and nothing was left
none_left : (n : ℕ) (left left' into into' : List ℕ) → n ≡ 0 → Moves n left left' into into' → left' ≡ left
none_left n left left' into into' none moves = moves.rest ∙ ap (λ (i : ℕ). drop i left) none

length-taken : (n : ℕ) (xs : List ℕ) → n ≤ length xs → length (take n xs) ≡ n
length-taken n xs fits = omega (arith, length-take n xs)

pub returns-then-count-eq0 : goal.returns-then-count-eq0
returns-then-count-eq0 g c =
    let so = c.loop-taken.invariant.so in
    let none : c.in_ok-count.count ≡ 0 = c.if-count-eq0.true in
    let long : 0 < length c.loop-taken.piece = omega (arith, c.loop-taken.invariant.long) in
    session_finish g.M.Machine.answers g.M.Machine.ends c.finish.result (c.args.machine.now, c.args.disk.now) _
    (record { tells = g.S.Source.tells; old = g.S.Source.state c.args.script.now; new = g.S.Source.state c.read.new.script })
    (over g.O.Sink.tells (g.O.Sink.state c.args.out.now) (g.O.Sink.state c.finish.new.out)) c.args.limit so.0
    (λ told. none_left _ _ _ _ _ none (c.in_ok-count.ensures.bytes told) ∙ (c.in_ok-count.ensures.end told (search rules)).0 none)
    (λ told. so.2 told ∙ ap (λ xs. so.0 ++ xs) (sym (none_left _ _ _ _ _ none (c.in_ok-count.ensures.bytes told))))
    (c.finish.ensures.finished (c.args.machine.now, c.args.disk.now) (g.O.Sink.state c.args.out.now) so.0 so.3)
    (omega (arith, so.1, c.loop-taken.invariant.within))
    (c.in_ok-count.ensures.cause.passed (λ e. absurd (cc)) ∙ c.loop-taken.invariant.read_same)
    (search rules)

read_length : (n taken limit : ℕ) (read piece : List ℕ) → length read ≡ taken → n + taken ≤ limit → length (read ++ take n piece) ≤ limit
read_length n taken limit read piece is fits = omega (arith, length-append read (take n piece), length-take n piece)

read_whole_length : (n taken : ℕ) (read piece : List ℕ) → length read ≡ taken → n ≤ length piece → length (read ++ take n piece) ≡ taken + n
read_whole_length n taken read piece is fits = omega (arith, length-append read (take n piece), length-take n piece)

front_length : (n last : ℕ) (piece : List ℕ) → last ≡ n → length (take n piece) ≤ last
front_length n last piece is = omega (arith, length-take n piece)

pub returns-in_err-feed : goal.returns-in_err-feed
returns-in_err-feed g c =
    let e = err_from_is_err_and c.from_residual-in_err-feed.result c.from_residual-in_err-feed.ensures.1 in
    let so = c.loop-taken.invariant.so in
    let piece = c.read.new.into ++ drop c.min-room.result c.loop-taken.piece in
    let count = c.in_ok-count.count in
    let fits : count + c.loop-taken.taken ≤ c.args.limit = first_of (search rules, grind (arith, common_steps)) in
    rw (e.1, e.2) (session_stop g.M.Machine.answers g.M.Machine.ends (c.args.machine.now, c.args.disk.now) _
    (record { tells = g.S.Source.tells; old = g.S.Source.state c.args.script.now; new = g.S.Source.state c.read.new.script })
    (over g.O.Sink.tells (g.O.Sink.state c.args.out.now) (g.O.Sink.state c.feed.new.out)) c.args.limit (length (take count piece)) (so.0 ++ take count piece) ⊥
    _ (front_length count _ piece c.in_ok-count.ensures.last) (λ no. absurd no)
    (λ told. read_on count _ _ _ so.0 _ c.read.new.into (drop c.min-room.result c.loop-taken.piece) piece (so.2 told) (c.in_ok-count.ensures.bytes told) refl)
    (c.in_err-feed.ensures.fed (c.args.machine.now, c.args.disk.now) (g.O.Sink.state c.args.out.now) so.0 so.3)
    (read_length count c.loop-taken.taken c.args.limit so.0 piece so.1 fits)
    (c.in_ok-count.ensures.cause.passed (λ e. absurd (cc)) ∙ c.loop-taken.invariant.read_same)
    (search rules))

pub loop-taken-preserved : goal.loop-taken-preserved
loop-taken-preserved g c =
    let so = c.loop-taken.invariant.so in
    let piece = c.read.new.into ++ drop c.min-room.result c.loop-taken.piece in
    let count = c.in_ok-count.count in
    let long : length piece ≡ 8192 = first_of (search rules, grind (arith, common_steps)) in
    let few : count ≤ 8192 = first_of (search rules, grind (arith, common_steps)) in
    let fits : count + c.loop-taken.taken ≤ c.args.limit = first_of (search rules, grind (arith, common_steps)) in
    let fit : count ≤ length piece = omega (arith, long, few) in
    record {
      so = (
        so.0 ++ take count piece,
        read_whole_length count c.loop-taken.taken so.0 piece so.1 fit,
        λ told. read_on count _ _ _ so.0 _ c.read.new.into (drop c.min-room.result c.loop-taken.piece) piece (so.2 told) (c.in_ok-count.ensures.bytes told) refl,
        c.in_ok-feed.ensures.fed (c.args.machine.now, c.args.disk.now) (g.O.Sink.state c.args.out.now) so.0 so.3,
      );
      on = c.in_ok-feed.ensures.on;
      known = c.in_ok-feed.ensures.known;
      long = long;
      within = omega (arith, fits);
      few = omega (arith, c.in_ok-feed.ensures.few, c.loop-taken.invariant.few, read_whole_length count 0 [] piece refl fit);
      read_same = c.in_ok-count.ensures.cause.passed (λ e. absurd (cc)) ∙ c.loop-taken.invariant.read_same;
      sink_same = c.in_ok-feed.ensures.cause.passed (λ e. absurd (cc)) ∙ c.loop-taken.invariant.sink_same;
    }

pub returns : goal.returns
returns g c =
    let so = c.loop-taken.invariant.so in
    let none : c.in_ok-read.field-0 ≡ 0 = omega (arith, c.if-branch-gt0.false) in
    let long : 0 < length c.loop-taken.piece = omega (arith, c.loop-taken.invariant.long) in
    session_finish g.M.Machine.answers g.M.Machine.ends c.finish-2.result (c.args.machine.now, c.args.disk.now) _
    (record { tells = g.S.Source.tells; old = g.S.Source.state c.args.script.now; new = g.S.Source.state c.read-2.new.script })
    (over g.O.Sink.tells (g.O.Sink.state c.args.out.now) (g.O.Sink.state c.finish-2.new.out)) c.args.limit so.0
    (λ told. none_left _ _ _ _ _ none (c.in_ok-read.ensures.bytes told) ∙ (c.in_ok-read.ensures.end told (search rules)).0 none)
    (λ told. so.2 told ∙ ap (λ xs. so.0 ++ xs) (sym (none_left _ _ _ _ _ none (c.in_ok-read.ensures.bytes told))))
    (c.finish-2.ensures.finished (c.args.machine.now, c.args.disk.now) (g.O.Sink.state c.args.out.now) so.0 so.3)
    (omega (arith, so.1, c.loop-taken.invariant.within))
    (c.in_ok-read.ensures.cause.passed (λ e. absurd (cc)) ∙ c.loop-taken.invariant.read_same)
    (search rules)
