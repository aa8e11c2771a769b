use Rattle.std.proofs.Common.{◌≡◌, ◌≤◌, ◌+◌, ◌∙◌, Some, ap, arith, length, sym}
use Rattle.std.specs.Prelude.{slice_index}
use Rattle.std.proofs.lemmas.Bool.Decides.{nat_tests}
use Rattle.carte_io.specs.Disk.{Story}
use Rattle.carte_bank.specs.Moves.{stated_at}
use Rattle.carte_bank.proofs.MoveLaws.{as_move, met_kind, past_kind, past_length}
use Rattle.carte_bank.proofs.moves.look_into.Goals.{then-size-ne9-via-then-size-ne9, then-size-ne9-via-else-size-ne9+in_ok-read_byte+then-branch-ne2}
use Rattle.carte_bank.proofs.moves.look_into.Goals as goal

pub returns-then-size-ne9-clause-seen : goal.returns-then-size-ne9-clause-seen
returns-then-size-ne9-clause-seen g c told =
    let file = (g.D.Disk.story c.args.disk.now).now.reads in
    let fits : c.args.gate + 6 + c.args.size ≤ length file = omega (arith, c.requires.within.0, c.requires.len told) in
    elim c.then-size-ne9.branch [
      | then-size-ne9-via-then-size-ne9 w ↦ past_length c.args.limit c.args.gate c.args.size file (c.requires.frame told) fits (λ is. grind (arith, nat_tests, w.if-size-ne9.true, is))
      | then-size-ne9-via-else-size-ne9+in_ok-read_byte+then-branch-ne2 w ↦
          past_kind c.args.limit c.args.gate c.args.size file (c.requires.frame told) fits
          (λ two. grind (arith, nat_tests, w.if-branch-ne2.true, w.in_ok-read_byte.ensures.byte told, two))
    ]

pub returns-clause-seen : goal.returns-clause-seen
returns-clause-seen g c told =
    let file = (g.D.Disk.story c.args.disk.now).now.reads in
    let fits : c.args.gate + 6 + c.args.size ≤ length file = omega (arith, c.requires.within.0, c.requires.len told) in
    let is : c.args.size ≡ 9 = grind (arith, nat_tests, c.if-size-ne9.false) in
    let two : slice_index file (c.args.gate + 5) ≡ 2 = grind (arith, nat_tests, c.if-branch-ne2.false, c.in_ok-read_byte.ensures.byte told) in
    met_kind c.args.limit c.args.gate c.args.size file (c.requires.frame told) fits is two
    ∙ ap (λ p. Some (as_move c.args.gate p)) (sym (c.in_ok-place.ensures.number told ∙ ap (λ (s : Story). stated_at (c.args.gate + 6) s.now.reads) (c.in_ok-read_byte.ensures.same told)))
